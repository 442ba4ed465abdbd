-- What a statement's meaning needs of the program around it.
use Rattle.std.specs.Prelude.{ℕ, zero, suc, ◌+◌, ◌*◌, ℤ, Bool, true, false, cond, List, [], ◌∷◌, length, Option, Some, None, slice_index_or, sum_by}
use Rattle.caf_base.specs.declared.value.Kind.{Kind}
use Rattle.caf_base.specs.declared.value.Kind.TheVariants as kinds
use Rattle.coarray_types.specs.Places.{size_of}
use Rattle.checked_tree.specs.declared.data.DataType.{DataType}
use Rattle.checked_tree.specs.declared.data.DataType.TheVariants as types
use Rattle.checked_tree.specs.declared.data.Home.{Home}
use Rattle.checked_tree.specs.declared.data.Home.TheVariants as homes
use Rattle.checked_tree.specs.declared.data.Dimensions.{Dimensions}
use Rattle.checked_tree.specs.declared.data.Dimensions.TheVariants as dimensions
use Rattle.checked_tree.specs.declared.data.Codimensions.{Codimensions}
use Rattle.checked_tree.specs.declared.data.Codimensions.TheVariants as codimensions
use Rattle.checked_tree.specs.declared.data.Variable.{Variable}
use Rattle.checked_tree.specs.Statements.{Program, Procedure, Unit', no_statements}
use Rattle.image_acts.specs.Acts.{Scope, here, host}

-- the program, from where the statement sees the main program's variables, and the first hidden cell of the frame
pub record Environment : Type 0 where
  pub program : Program
  pub main : Scope
  pub hidden : ℕ

-- whose variable
abbrev pub scope_of : Home → Scope
scope_of homes.Own = here
scope_of homes.Host = host

-- the kind of a type; teams, events and locks have none, and their values are numbers
abbrev pub kind_of : DataType → Kind
kind_of (types.Intrinsic k) = k
kind_of types.Team = kinds.I4
kind_of types.Event = kinds.I8
kind_of types.Lock = kinds.I4

-- bounds that are known before the run
abbrev pub declared_bounds : Dimensions → Option (List (ℤ × ℤ))
declared_bounds (dimensions.Explicit s) = Some s.dims
declared_bounds (dimensions.Deferred r) = None

abbrev pub rank_of : Dimensions → ℕ
rank_of (dimensions.Explicit s) = length s.dims
rank_of (dimensions.Deferred r) = r

abbrev pub corank_of : Codimensions → ℕ
corank_of codimensions.Absent = 0
corank_of (codimensions.Explicit s) = length s.lower
corank_of (codimensions.Deferred n) = n

abbrev pub is_coarray : Codimensions → Bool
is_coarray codimensions.Absent = false
is_coarray (codimensions.Explicit s) = true
is_coarray (codimensions.Deferred n) = true

-- the local cells of a variable: none of a coarray, and none of an array that is to be allocated
abbrev pub cells_of_bounds : Option (List (ℤ × ℤ)) → ℕ
cells_of_bounds None = 0
cells_of_bounds (Some bs) = size_of bs

abbrev pub local_cells_of : Variable → ℕ
local_cells_of v = cond (is_coarray v.codimensions) 0 (cells_of_bounds (declared_bounds v.dimensions))

abbrev pub total_cells : List Variable → ℕ
total_cells vs = sum_by local_cells_of vs

-- A frame has a cell and a place of an array for each variable of its unit, by its number, and behind these cells two
-- hidden ones for each of its constructs that are open at one time.
abbrev pub cells_in_frame : Unit' → ℕ
cells_in_frame u = length u.variables + (2 * u.hidden)

abbrev pub hidden_cell : Environment → ℕ → ℕ
hidden_cell e n = e.hidden + (2 * n)

-- the arrays of constants stand behind the main program's variables
abbrev pub constant_place : Environment → ℕ → ℕ
constant_place e n = length e.program.main.variables + n

-- the text of a literal
abbrev pub literal_text : Environment → ℕ → List ℕ
literal_text e n = slice_index_or e.program.literals n []

-- a procedure by its number
abbrev pub empty_unit : Unit'
empty_unit = record { variables = []; hidden = 0; statements = no_statements }

abbrev pub empty_procedure : Procedure
empty_procedure = record { name = []; dummies = []; answer = None; unit = empty_unit }

abbrev pub procedure_in : Environment → ℕ → Procedure
procedure_in e n = slice_index_or e.program.procedures n empty_procedure

-- what is declared of the variable with this number
abbrev pub corank_in : List Variable → ℕ → ℕ
corank_in [] n = 0
corank_in (v ∷ vs) zero = corank_of v.codimensions
corank_in (v ∷ vs) (suc n) = corank_in vs n

abbrev pub rank_in : List Variable → ℕ → ℕ
rank_in [] n = 0
rank_in (v ∷ vs) zero = rank_of v.dimensions
rank_in (v ∷ vs) (suc n) = rank_in vs n

-- the corank of a coarray by its number
abbrev pub corank : Environment → ℕ → ℕ
corank e c = corank_in e.program.main.variables (slice_index_or e.program.coarrays c 0)
