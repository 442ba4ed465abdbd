-- What the coarrays of a checked program hold, and that a memory's coarrays hold this.
use Rattle.std.specs.Prelude.{◌≡◌, List, map}
use Rattle.checked_tree.specs.Statements.{Program}
use Rattle.image_code.specs.declared.tables.CellType.{CellType}
use Rattle.image_code.specs.declared.tables.CellType.TheVariants as cells
use Rattle.image_code.specs.declared.tables.Coarray.{Coarray}
use Rattle.object_rules.specs.Cells.{Content, of_kind, locks, events, Declared}
use Rattle.program_tables.specs.Tables.{tables_of}

abbrev pub content_of : CellType → Content
content_of (cells.Value kind) = of_kind kind
content_of cells.Event = events
content_of cells.Lock = locks

abbrev pub holding : Coarray → Content
holding c = content_of c.of_type

abbrev pub content : Declared → Content
content d = d.content

-- each coarray holds what the program declares
abbrev pub HoldWhatIsDeclared : Program → List Declared → Type 0
HoldWhatIsDeclared p coarrays = map content coarrays ≡ map holding (tables_of p).coarrays
