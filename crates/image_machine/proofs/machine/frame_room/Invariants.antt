use Rattle.std.proofs.Common.{◌≡◌, ◌<◌, ℕ, Some}
use Rattle.std.specs.Prelude.{slice_get}
use Rattle.image_code.specs.declared.step.Step.{Step}
use Rattle.image_state.specs.Acting.{HasFrame}
use Rattle.image_machine.proofs.machine.frame_room.Given as goal

abbrev pub invariant-loop-p : goal.invariant-loop-p
invariant-loop-p l = (k : ℕ) → k < l.p → (s : Step) → slice_get l.steps k ≡ Some s → HasFrame l.most.scalars l.most.locals s
