-- What a run of a checked program begins with.
use Rattle.std.specs.Prelude.{◌≡◌, true, map}
use Rattle.std.specs.Arc.{arc_value}
use Rattle.std.specs.List.{list_all}
use Rattle.checked_tree.specs.Statements.{Program}
use Rattle.coarray_memory.specs.Memories.{declared_of}
use Rattle.object_rules.specs.MemoryRules.{has_first_values}
use Rattle.program_run.specs.Machines.{IsRunnable}
use Rattle.checked_run.specs.Coarrays.{coarrays_of}
use Rattle.checked_run.specs.Reports.{IsCodeOf}
use Rattle.checked_traces.specs.declared.beginning.Begun.{Begun}

-- the program's code, which the machine can run, and its coarrays with their first values
pub record BeginsAs (p : Program) (b : Begun) : Type 0 where
  pub code : IsCodeOf p (arc_value b.code)
  pub runnable : IsRunnable (arc_value b.code)
  pub coarrays : map declared_of b.coarrays.items ≡ coarrays_of p
  pub values : list_all has_first_values (map declared_of b.coarrays.items) ≡ true
