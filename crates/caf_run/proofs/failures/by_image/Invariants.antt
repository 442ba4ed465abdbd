use Rattle.std.proofs.Common.{◌≡◌, ◌+◌, ◌<◌, ℕ, length, get_or}
use Rattle.caf_run.specs.Failures.{first_failure}
use Rattle.caf_run.proofs.failures.by_image.Given as goal

abbrev pub invariant-loop-k : goal.invariant-loop-k
invariant-loop-k l = record {
  count : length l.events.items ≡ l.k;
  each : (j : ℕ) → j < l.k → get_or l.events.items j 0 ≡ first_failure l.fails (j + 1);
}
