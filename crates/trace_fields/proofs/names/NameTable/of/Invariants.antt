use Rattle.std.proofs.Common.{◌≡◌, take}
use Rattle.trace_fields.proofs.Table.{items_of}
use Rattle.trace_fields.proofs.names.NameTable.of.Given as goal

-- the names so far
abbrev pub invariant-loop-name : goal.invariant-loop-name
invariant-loop-name l = items_of l.set.keys ≡ take l.name-index l.names
