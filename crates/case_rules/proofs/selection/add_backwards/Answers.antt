use Rattle.std.proofs.Common.{◌∷◌, ◌++◌, [], ◌∙◌, ap, sym, append_assoc}
use Rattle.case_rules.specs.Blocks.{backwards}
use Rattle.case_rules.proofs.Blocks.{backwards_more}
use Rattle.case_rules.proofs.selection.add_backwards.Goals as goal

pub loop-last-preserved : goal.loop-last-preserved
loop-last-preserved c =
    let before = c.loop-last.breaks.items in
    let left = c.pop.new.self.items in
    let last = c.in-Some.last in
    ap (λ y. y ++ backwards left) c.in_ok-push.ensures.items
    ∙ append_assoc before (last ∷ []) (backwards left)
    ∙ ap (λ y. before ++ y) (sym (ap backwards c.in-Some.ensures.items ∙ backwards_more left last))
    ∙ c.loop-last.invariant
