use Rattle.std.proofs.Common.{◌≡◌, take, map}
use Rattle.checked_run.specs.Coarrays.{name_at}
use Rattle.checked_run.proofs.names.names_at.Given as goal

abbrev pub invariant-loop-number : goal.invariant-loop-number
invariant-loop-number l = l.names.items ≡ map (name_at l.variables) (take l.number-index l.numbers)
