use Rattle.std.proofs.Common.{◌≡◌, ◌+◌, length}
use Rattle.std.specs.Arc.{arc_value}
use Rattle.image_core.specs.Parts.{EachAt}
use Rattle.program_run.specs.Machines.{HasBegun}
use Rattle.program_run.proofs.Slots.{EachFrom}
use Rattle.program_run.proofs.machines.taken.Given as goal

abbrev pub invariant-loop-slot : goal.invariant-loop-slot
invariant-loop-slot l =
    record {
      count : length l.machines.items + length l.slot-iterator.rest.items ≡ length l.fn.slots.items;
      made : EachAt (HasBegun (arc_value l.fn.code) l.limit l.n) l.machines.items;
      left : EachFrom (HasBegun (arc_value l.fn.code) l.limit l.n) (length l.machines.items) l.slot-iterator.rest.items;
    }
