-- The coarrays of a checked program, as each memory has them at its start, and their names (ISO/IEC 1539-1:2018,
-- 8.5.6).
use Rattle.std.specs.Prelude.{ℕ, ℤ, List, [], map, Option, Some, None, slice_get}
use Rattle.caf_base.specs.declared.value.Value.{Value}
use Rattle.caf_base.specs.Arithmetic.{value_of}
use Rattle.checked_tree.specs.declared.data.Variable.{Variable}
use Rattle.checked_tree.specs.Statements.{Program}
use Rattle.image_code.specs.declared.tables.CellType.{CellType}
use Rattle.image_code.specs.declared.tables.CellType.TheVariants as cells
use Rattle.image_code.specs.declared.tables.Coarray.{Coarray}
use Rattle.object_rules.specs.Cells.{Content, of_kind, locks, events, Declared}
use Rattle.program_tables.specs.Tables.{tables_of}

abbrev pub content_of : CellType → Content
content_of (cells.Value kind) = of_kind kind
content_of cells.Event = events
content_of cells.Lock = locks

-- the values with which the cells begin; events and locks have none
abbrev pub values_of : CellType → List ℤ → List Value
values_of (cells.Value kind) ns = map (value_of kind) ns
values_of type ns = []

-- a coarray of the tables as a memory has it
abbrev pub in_memory : Coarray → Declared
in_memory c = record { content = content_of c.of_type; allocatable = c.is_allocatable; cells = c.cells; first = values_of c.of_type c.first }

-- the coarrays of a program, in declared order
abbrev pub coarrays_of : Program → List Declared
coarrays_of p = map in_memory (tables_of p).coarrays

abbrev pub name_of : Option Variable → List ℕ
name_of None = []
name_of (Some v) = v.name

abbrev pub name_at : List Variable → ℕ → List ℕ
name_at vs n = name_of (slice_get vs n)

-- the names of the coarrays, in the same order
abbrev pub names_of : Program → List (List ℕ)
names_of p = map (name_at p.main.variables) p.coarrays
