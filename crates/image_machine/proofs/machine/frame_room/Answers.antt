use Rattle.std.proofs.Common.{◌≡◌, ◌∙◌, Some, sym, subst, arith}
use Rattle.std.specs.Prelude.{slice_get}
use Rattle.std.proofs.lemmas.Option.{slice_get_within}
use Rattle.image_code.specs.declared.step.Step.{Step}
use Rattle.image_state.specs.Acting.{HasFrame}
use borrow.Author.Count.{below_more}
use Rattle.image_machine.proofs.machine.frame_room.Goals as goal

pub loop-p-preserved : goal.loop-p-preserved
loop-p-preserved c = below_more (λ k. (s : Step) → slice_get c.args.steps.now k ≡ Some s → HasFrame c.with_frame-most.result.scalars c.with_frame-most.result.locals s) c.loop-p.p
    (λ k l s e. (let a = c.loop-p.invariant k l s e in let b = c.with_frame-most.ensures.scalars in let d = c.with_frame-most.ensures.locals in let x = a.0 in let y = a.1 in (omega arith, omega arith)))
    (λ s e. (let u : c.step_at.result ≡ s = (let v = sym c.step_at.ensures ∙ e in cc) in subst (λ x. HasFrame c.with_frame-most.result.scalars c.with_frame-most.result.locals x) u c.with_frame-most.ensures.frame))

pub returns : goal.returns
returns c = λ p s e. c.loop-p.invariant p (let a = slice_get_within c.args.steps.now p s e in let b = c.loop-p-test.false in omega arith) s e
