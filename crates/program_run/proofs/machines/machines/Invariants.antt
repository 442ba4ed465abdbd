use Rattle.std.proofs.Common.{◌≡◌, length}
use Rattle.std.specs.Arc.{arc_value}
use Rattle.image_core.specs.Parts.{EachAt}
use Rattle.program_run.specs.Machines.{HasBegun}
use Rattle.program_run.proofs.machines.machines.Given as goal

abbrev pub invariant-loop-k : goal.invariant-loop-k
invariant-loop-k l = record { count : length l.machines.items ≡ l.k; begun : EachAt (HasBegun (arc_value l.code) l.limit l.n) l.machines.items }
