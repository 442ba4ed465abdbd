use Rattle.std.proofs.Common.{ap, sym, ◌∙◌}
use Rattle.unit_names.specs.Levels.{reached, is_level}
use Rattle.unit_names.proofs.Reached.{absorbed, reached_more, within_more}
use Rattle.unit_names.proofs.levels.join_level.Goals as goal

pub returns-in_ok-push-clause-reached : goal.returns-in_ok-push-clause-reached
returns-in_ok-push-clause-reached c = λ bs n. ap (λ ls. reached bs ls n) c.in_ok-push.ensures.items ∙ reached_more bs c.args.all.now.items c.args.level n

pub returns-in_ok-push-clause-within : goal.returns-in_ok-push-clause-within
returns-in_ok-push-clause-within c = λ k w lt. rw c.in_ok-push.ensures.items (within_more k c.args.all.now.items c.args.level w lt)

pub returns-else-not-has_level-clause-reached : goal.returns-else-not-has_level-clause-reached
returns-else-not-has_level-clause-reached c = λ bs n.
    sym (absorbed bs c.args.all.now.items c.args.level n (sym (ap (λ ls. is_level ls c.args.level) c.as_slice.ensures.value) ∙ (sym c.has_level.ensures ∙ c.if-not-has_level.false)))
