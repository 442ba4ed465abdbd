use Rattle.std.proofs.Common.{rules, ◌≡◌, [], ◌∷◌, ◌++◌, Some, None, ap, sym, ◌∙◌, append-nil}
use Rattle.expr_reader.specs.PieceViews.{option_items}
use Rattle.declaration_reader.proofs.Explicit.{made_next}
use Rattle.declaration_reader.proofs.cobound.explicit.Goals as goal

pub loop-bound-preserved-in-Continue-1 : goal.loop-bound-preserved-in-Continue-1
loop-bound-preserved-in-Continue-1 c =
    let longer : c.push.new.self.items ≡ c.loop-bound.cobounds.items ++ c.in-Some-bounds.bounds ∷ [] = search rules in
    let some : c.paired-bounds.result.0 ≡ Some c.in-Some-bounds.bounds = search rules in
    made_next c.loop-bound.cobounds.items _ c.loop-bound.last_lower c.paired-bounds.result.1 c.loop-bound.yielded c.in-Some.bound c.paired-bounds.result.0 c.loop-bound.invariant c.paired-bounds.ensures (longer ∙ ap (λ o. c.loop-bound.cobounds.items ++ option_items o) (sym some))

pub loop-bound-preserved : goal.loop-bound-preserved
loop-bound-preserved c =
    let none : c.paired-bounds.result.0 ≡ None = search rules in
    made_next c.loop-bound.cobounds.items _ c.loop-bound.last_lower c.paired-bounds.result.1 c.loop-bound.yielded c.in-Some.bound c.paired-bounds.result.0 c.loop-bound.invariant c.paired-bounds.ensures (sym (append-nil c.loop-bound.cobounds.items) ∙ ap (λ o. c.loop-bound.cobounds.items ++ option_items o) (sym none))
