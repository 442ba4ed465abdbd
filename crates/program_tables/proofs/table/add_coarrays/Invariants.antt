use Rattle.std.proofs.Common.{◌≡◌, ◌++◌, map, take}
use Rattle.program_tables.specs.Tables.{coarray_at}
use Rattle.program_tables.proofs.table.add_coarrays.Given as goal

abbrev pub invariant-loop-number : goal.invariant-loop-number
invariant-loop-number l =
    l.code ≡ record l.initial.code { tables = record l.initial.code.tables { coarrays = l.initial.code.tables.coarrays ++ map (coarray_at l.variables) (take l.number-index l.numbers) } }
