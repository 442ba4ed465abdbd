use Rattle.std.proofs.Common.{◌≡◌, drop}
use Rattle.caf_run.specs.Failures.{earlier, first_failure}
use Rattle.caf_run.proofs.failures.first_failure.Given as goal

abbrev pub invariant-loop-fail : goal.invariant-loop-fail
invariant-loop-fail l = earlier l.first (first_failure (drop l.fail-index l.fails) l.image) ≡ first_failure l.fails l.image
