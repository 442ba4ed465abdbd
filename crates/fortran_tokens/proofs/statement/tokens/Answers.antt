use Rattle.std.proofs.Common.{◌≡◌, length, ap, sym, ◌∙◌, subst, arith}
use Rattle.std.specs.Prelude.{All}
use Rattle.std.proofs.lemmas.List.Elements.{All-from_recursion}
use Rattle.fortran_tokens.specs.Cuts.{LiesWithin}
use Rattle.fortran_tokens.specs.Tokens.{is_colons}
use Rattle.fortran_tokens.proofs.Cutting.{cut_few, cut_within}
use Rattle.fortran_tokens.proofs.statement.tokens.Goals as goal

pub placed-requires-clause-few : goal.placed-requires-clause-few
placed-requires-clause-few c =
    let few = cut_few c.as_slice.result.now 0 c.in-Ok.pieces.items (length c.as_slice.result.now) c.in-Ok.ensures.cut in
    let all = ap length c.as_slice-in-Ok.ensures.value in
    let text = ap length c.as_slice.ensures in
    omega arith

pub placed-requires-clause-within : goal.placed-requires-clause-within
placed-requires-clause-within c =
    let each = All-from_recursion (λ p. LiesWithin (length c.as_slice.result.now) p (is_colons p.kind)) c.in-Ok.pieces.items (cut_within c.as_slice.result.now 0 c.in-Ok.pieces.items (length c.as_slice.result.now) c.in-Ok.ensures.cut) in
    let size : length c.as_slice.result.now ≡ length c.as_slice-in-Ok-2.result.now = ap length c.as_slice.ensures ∙ (c.args.stmt.now.placed ∙ ap length (sym c.as_slice-in-Ok-2.ensures)) in
    rw c.as_slice-in-Ok.ensures.value (subst (λ n. All (λ p. LiesWithin n p (is_colons p.kind)) c.in-Ok.pieces.items) size each)
