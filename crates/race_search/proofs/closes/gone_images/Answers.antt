use Rattle.std.proofs.Common.{◌≡◌, ◌∙◌, ◌+◌, [], ◌∷◌, ◌++◌, take, ap, sym, subst, arith}
use Rattle.std.proofs.lemmas.List.{take_more}
use Rattle.object_rules.specs.ImagePairs.{names}
use Rattle.order_axioms.specs.Closes.{gone_by}
use Rattle.race_search.specs.Steps.{closed_by}
use Rattle.race_search.proofs.Missed.{missed_more}
use Rattle.race_search.proofs.closes.gone_images.Goals as goal
use Rattle.race_search.proofs.closes.gone_images.Goals.{then-branch+in_ok-push, else-branch}

pub loop-at-preserved : goal.loop-at-preserved
loop-at-preserved c j =
    let e = c.index-before-at.result in
    let front : take (c.loop-at.at + 1) c.args.before.now ≡ take c.loop-at.at c.args.before.now ++ e ∷ [] =
    take_more c.args.before.now c.loop-at.at e (omega arith) ∙ ap (λ z. take c.loop-at.at c.args.before.now ++ z ∷ []) (sym c.index-before-at.is) in
    let all = missed_more (closed_by c.args.n c.args.before.now c.args.close) c.loop-at.gone.items (take c.loop-at.at c.args.before.now) e c.in_ok-is_missed.field-0 c.in_ok-is_missed.ensures c.loop-at.invariant j in
    subst (λ z. names j c.if-branch.gone.items ≡ gone_by (closed_by c.args.n c.args.before.now c.args.close) z j) (sym front)
    (elim c.if-branch.branch [
      | then-branch+in_ok-push w ↦ (let all2 = (rw w.if-branch.true at all) in ap (λ z. names j z.items) w.gone-is ∙ ap (names j) w.in_ok-push.ensures.items ∙ all2)
      | else-branch w ↦ (let all2 = (rw w.if-branch.false at all) in ap (λ z. names j z.items) w.gone-is ∙ all2)
    ])
