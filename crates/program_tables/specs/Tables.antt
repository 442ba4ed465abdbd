-- What stands beside the code of a program: its literals, its coarrays, and how the frame of its main program begins.
-- And what of it is there when an image starts.
use Rattle.std.specs.Prelude.{ℕ, true, false, cond, List, [], Option, Some, None, map, slice_get}
use Rattle.caf_base.specs.declared.value.Kind.TheVariants as kinds
use Rattle.coarray_types.specs.Places.{size_of}
use Rattle.checked_tree.specs.declared.data.DataType.{DataType}
use Rattle.checked_tree.specs.declared.data.DataType.TheVariants as types
use Rattle.checked_tree.specs.declared.data.Initial.{Initial}
use Rattle.checked_tree.specs.declared.data.Initial.TheVariants as initials
use Rattle.checked_tree.specs.declared.data.Variable.{Variable}
use Rattle.checked_tree.specs.Statements as s
use Rattle.image_acts.specs.Core.{Frame, Local, Own}
use Rattle.image_code.specs.declared.tables.CellType.{CellType}
use Rattle.image_code.specs.declared.tables.CellType.TheVariants as cells
use Rattle.image_code.specs.declared.tables.Coarray.{Coarray}
use Rattle.image_code.specs.declared.tables.FirstArray.{FirstArray}
use Rattle.image_code.specs.declared.tables.MainFrame.{MainFrame}
use Rattle.image_code.specs.declared.tables.Tables.{Tables}
use Rattle.tree_meaning.specs.Environment.{declared_bounds}
use Rattle.tree_meaning.specs.Start as start

-- what a cell of this type holds; no coarray is of TEAM_TYPE (ISO/IEC 1539-1:2018, C824)
abbrev pub cell_type : DataType → CellType
cell_type (types.Intrinsic k) = cells.Value k
cell_type types.Team = cells.Value kinds.I4
cell_type types.Event = cells.Event
cell_type types.Lock = cells.Lock

-- a coarray that is there from the start, with its first values; and one that is to be allocated
abbrev pub declared_coarray : CellType → Initial → Option Own → Coarray
declared_coarray t i None = record { of_type = t; is_allocatable = true; cells = 0; bounds = []; lower_cobounds = []; coextents = []; first = [] }
declared_coarray t i (Some o) = record { of_type = t; is_allocatable = false; cells = size_of o.bounds; bounds = o.bounds; lower_cobounds = o.lowers; coextents = o.extents; first = start.first_values i (size_of o.bounds) }

abbrev pub coarray_of : Variable → Coarray
coarray_of v = declared_coarray (cell_type v.of_type) v.initial (start.own_of (declared_bounds v.dimensions) v.codimensions)

-- the variable with this number; where there is none, a coarray that is never allocated
abbrev pub coarray_found : Option Variable → Coarray
coarray_found None = declared_coarray (cells.Value kinds.I4) initials.Unstated None
coarray_found (Some v) = coarray_of v

abbrev pub coarray_at : List Variable → ℕ → Coarray
coarray_at vs n = coarray_found (slice_get vs n)

-- an array that is there from the start
abbrev pub kept_array : Option Local → Option FirstArray
kept_array None = None
kept_array (Some x) = Some (record { bounds = x.bounds; elements = x.elements })

abbrev pub kept_frame : Frame → MainFrame
kept_frame f = record { cells = f.cells; arrays = map kept_array f.arrays; need = f.need }

abbrev pub tables_of : s.Program → Tables
tables_of p = record { coarrays = map (coarray_at p.main.variables) p.coarrays; texts = p.literals; main = kept_frame (start.first_frame p) }

-- the frame, and a coarray, that are there when an image starts
abbrev pub array_kept : Option FirstArray → Option Local
array_kept None = None
array_kept (Some x) = Some (record { bounds = x.bounds; elements = x.elements })

abbrev pub frame_kept : MainFrame → Frame
frame_kept m = record { cells = m.cells; arrays = map array_kept m.arrays; base = 0; need = m.need }

abbrev pub own_kept : Coarray → Option Own
own_kept c = cond c.is_allocatable None (Some (record { bounds = c.bounds; lowers = c.lower_cobounds; extents = c.coextents; team = 1 }))
