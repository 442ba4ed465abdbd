use Rattle.std.proofs.Common.{◌≡◌, ℕ, ◌<◌}
use Rattle.std.specs.Prelude.{Some, slice_get}
use Rattle.image_code.specs.declared.step.Step.{Step}
use Rattle.checked_run.proofs.Steps.{IsKnown}
use Rattle.checked_run.proofs.runnable.first_undone.Given as goal

abbrev pub invariant-loop-place : goal.invariant-loop-place
invariant-loop-place l = (k : ℕ) → k < l.place → (s : Step) → slice_get l.fn.code.program.steps k ≡ Some s → IsKnown s
