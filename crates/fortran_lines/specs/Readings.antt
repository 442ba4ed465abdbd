-- A file as far as it is read, and what the lines that are left will make of it.
use Rattle.std.specs.Prelude.{List, ◌++◌, Option, map}
use Rattle.std.specs.List.{flat_map}
use Rattle.fortran_lines.specs.declared.placed_byte.PlacedByte.{PlacedByte}
use Rattle.fortran_lines.specs.declared.fault.LineFault.{LineFault}
use Rattle.fortran_lines.specs.declared.reading.Reading.{Reading}
use Rattle.fortran_lines.specs.Lines.{joined, pieces}
use Rattle.fortran_lines.specs.Faults.{faults_from, first_of_all}
use Rattle.fortran_lines.specs.Statements.{placed_bytes}

-- its statements, and those of what is left
abbrev pub all_statements : Reading → List (List PlacedByte) → List (List PlacedByte)
all_statements r lines = map placed_bytes r.stmts.items ++ flat_map pieces (joined lines r.before r.text.items)

-- what is broken first in it and in what is left
abbrev pub first_fault : Reading → List (List PlacedByte) → Option LineFault
first_fault r lines = first_of_all r.first (faults_from lines r.before)
