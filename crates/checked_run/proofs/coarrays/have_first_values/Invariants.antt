use Rattle.std.proofs.Common.{◌≡◌, take, map, true}
use Rattle.std.specs.List.{list_all}
use Rattle.coarray_memory.specs.Memories.{declared_of}
use Rattle.object_rules.specs.MemoryRules.{has_first_values}
use Rattle.checked_run.proofs.coarrays.have_first_values.Given as goal

abbrev pub invariant-loop-coarray : goal.invariant-loop-coarray
invariant-loop-coarray l = list_all has_first_values (map declared_of (take l.coarray-index l.coarrays)) ≡ true
