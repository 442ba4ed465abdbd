use Rattle.std.proofs.Common.{◌≡◌, drop}
use Rattle.std.specs.List.{list_any}
use Rattle.race_search.specs.Failures.{is_missing}
use Rattle.race_search.proofs.failures.is_missed.Given as goal

abbrev pub invariant-loop-failure : goal.invariant-loop-failure
invariant-loop-failure l = list_any (is_missing l.round l.image) (drop l.failure-index l.failures) ≡ list_any (is_missing l.round l.image) l.failures
