use Rattle.std.proofs.Common.{length, ap, sym, ◌∙◌, subst, arith}
use Rattle.std.proofs.lemmas.Slice.{between_to_end}
use Rattle.std.proofs.lemmas.List.{length-drop}
use Rattle.fortran_tokens.specs.Cuts.{IsToken}
use Rattle.fortran_tokens.proofs.Cutting.{cut_blank, cut_token}
use Rattle.fortran_tokens.proofs.cut.pieces_of.Goals as goal

pub loop-at-preserved-then-is_blank : goal.loop-at-preserved-then-is_blank
loop-at-preserved-then-is_blank c = record {
  cut = cut_blank c.args.text.now 0 c.loop-at.pieces.items c.loop-at.at (sym c.is_blank.ensures ∙ c.if-is_blank.true) c.loop-at.invariant.cut;
  within = omega arith;
}

pub loop-at-preserved : goal.loop-at-preserved
loop-at-preserved c =
    let rest = between_to_end c.args.text.now c.loop-at.at (length c.args.text.now) (omega arith) in
    let size = ap length rest ∙ length-drop c.loop-at.at c.args.text.now in
    let fits = c.in-Ok.ensures.within in
    record {
      cut = rw c.in_ok-push-in-Ok.ensures.items (cut_token c.args.text.now 0 c.loop-at.pieces.items c.loop-at.at c.in-Ok.kind c.in-Ok.len (subst (λ t. IsToken t c.in-Ok.kind c.in-Ok.len) rest c.in-Ok.ensures.token) c.loop-at.invariant.cut);
      within = omega arith;
    }
