use Rattle.std.proofs.Common.{rules, ◌≡◌, [], ◌∷◌, ◌++◌, Some, None, ap, sym, ◌∙◌, append-nil, map}
use Rattle.fortran_tree.specs.DeclarationViews.{bounds}
use Rattle.expr_reader.specs.PieceViews.{option_items}
use Rattle.keyword_reader.proofs.Shaped.{bound_more}
use Rattle.keyword_reader.proofs.cobound.explicit.Goals as goal

pub loop-bound-preserved-in-Continue-1 : goal.loop-bound-preserved-in-Continue-1
loop-bound-preserved-in-Continue-1 c =
    let grown : c.push.new.self.items ≡ c.loop-bound.cobounds.items ++ c.in-Some-bounds.bounds ∷ [] = search rules in
    let some : c.paired-bounds.result.0 ≡ Some c.in-Some-bounds.bounds = search rules in
    let more = bound_more c.loop-bound.cobounds.items c.loop-bound.last_lower c.loop-bound.yielded c.in-Some.bound c.paired-bounds.result c.loop-bound.invariant.0 c.loop-bound.invariant.1 c.paired-bounds.ensures in
    (ap (map bounds) grown ∙ (ap (λ o. map bounds (c.loop-bound.cobounds.items ++ option_items o)) (sym some) ∙ more.0), more.1)

pub loop-bound-preserved : goal.loop-bound-preserved
loop-bound-preserved c =
    let none : c.paired-bounds.result.0 ≡ None = search rules in
    let more = bound_more c.loop-bound.cobounds.items c.loop-bound.last_lower c.loop-bound.yielded c.in-Some.bound c.paired-bounds.result c.loop-bound.invariant.0 c.loop-bound.invariant.1 c.paired-bounds.ensures in
    (ap (map bounds) (sym (append-nil c.loop-bound.cobounds.items)) ∙ (ap (λ o. map bounds (c.loop-bound.cobounds.items ++ option_items o)) (sym none) ∙ more.0), more.1)
