use Rattle.std.proofs.Common.{◌∙◌, ◌<◌, ◌∷◌, [], ap, arith, pos, replicate, length, w64, ℤ}
use Rattle.std.proofs.lemmas.Int.{to_z_pos}
use Rattle.local_arrays.proofs.RowLaws.{renewed_row}
use Rattle.local_arrays.proofs.row.Row.renew.Goals as goal

pub returns-clause-ok : goal.returns-clause-ok
returns-clause-ok c =
    let few = c.fits.ensures.few c.if-not-fits.false in
    let h : length c.args.values.now < 9223372036854775808 = omega arith in
    renewed_row c.args.self.now c.reset.new.self c.refill.new.self c.args.k c.bounds_of.result (replicate (length c.args.values.now) (pos 0)) c.args.values.now ((pos 1, pos (length c.args.values.now)) ∷ []) c.requires c.reset.ensures c.refill.ensures
    (c.bounds_of.ensures.pairs ∙ ap (λ (v : ℤ). (pos 1, v) ∷ []) (to_z_pos w64 (length c.args.values.now) h))
