use Rattle.std.proofs.Common.{below_more}
use Rattle.checked_run.proofs.Steps.{known_there, undone_there, all_known}
use Rattle.checked_run.proofs.runnable.first_undone.Goals as goal

pub returns-then-not-does-clause-undone : goal.returns-then-not-does-clause-undone
returns-then-not-does-clause-undone c = (
  c.loop-place.place,
  undone_there c.args.code.now.program c.steps-step-items.result.now c.loop-place.place _ c.line.result c.steps-step-items.ensures c.loop-place-test.true
      (λ texts d. (let t = (c.does.ensures.does texts).1 d in let f = c.if-not-does.true in absurd (cc))) c.line.ensures,
)

pub loop-place-preserved : goal.loop-place-preserved
loop-place-preserved c =
    below_more _ _ c.loop-place.invariant
    (known_there c.steps-step-items.result.now c.args.code.now.program.steps c.loop-place.place _ c.steps-step-items.ensures
    (record { plain = c.does.ensures.plain c.if-not-does.false; does = λ texts. (c.does.ensures.does texts).0 c.if-not-does.false }))

pub returns-clause-done : goal.returns-clause-done
returns-clause-done c = all_known c.args.code.now.program c.steps-step-items.result.now c.loop-place.place c.steps-step-items.ensures c.loop-place-test.false c.loop-place.invariant
