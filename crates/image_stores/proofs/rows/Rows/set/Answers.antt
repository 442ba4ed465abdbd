use Rattle.image_stores.proofs.RowLaws.{set_held}
use Rattle.std.proofs.Common.{slice_set, ◌∙◌, ap, w64, arith, ◌+◌, ◌<◌, ◌-◌}
use Rattle.std.proofs.lemmas.Int.{to_z-of_z}
use Rattle.image_stores.proofs.rows.Rows.set.Goals as goal

pub returns : goal.returns
returns c =
    let h : c.args.x < c.self.inside.top - c.self.inside.base = omega arith in
    set_held c.self.inside.cells.items c.write.new.cells.items c.self.inside.bases.items c.self.inside.base c.self.inside.top c.self.inside.depth c.args.x c.args.v c.args.self.now (search (c.self.view_is)) c.self.invariant h
    (c.write.ensures ∙ ap (λ v. slice_set c.self.inside.cells.items (c.self.inside.base + c.args.x) v) (to_z-of_z w64 c.args.v c.ranges.v))
