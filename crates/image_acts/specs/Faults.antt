-- The numbers of run faults, and the fault that each is.
use Rattle.std.specs.Prelude.{ℕ, ◌-◌, List, [], ◌∷◌, slice_index_or}
use Rattle.caf_events.specs.declared.fault.FaultKind.{FaultKind}
use Rattle.caf_events.specs.declared.fault.FaultKind.TheVariants as faults

abbrev pub overflow : ℕ
overflow = 1

abbrev pub divide_by_zero : ℕ
divide_by_zero = 2

abbrev pub bounds_fault : ℕ
bounds_fault = 3

abbrev pub zero_step : ℕ
zero_step = 4

abbrev pub cobounds_fault : ℕ
cobounds_fault = 5

abbrev pub not_allocated : ℕ
not_allocated = 6

abbrev pub not_established : ℕ
not_established = 7

abbrev pub no_team : ℕ
no_team = 8

abbrev pub cells_fault : ℕ
cells_fault = 9

abbrev pub depth_fault : ℕ
depth_fault = 10

abbrev pub room : ℕ
room = 11

abbrev pub shape_fault : ℕ
shape_fault = 12

abbrev pub format_fault : ℕ
format_fault = 13

-- all of them, in the order of their numbers from 1
abbrev pub all_faults : List FaultKind
all_faults =
    faults.Overflow ∷ faults.DivideByZero ∷ faults.Bounds ∷ faults.ZeroStep ∷ faults.CoBounds ∷ faults.NotAllocated ∷ faults.NotEstablished
    ∷ faults.NoTeam ∷ faults.Cells ∷ faults.Depth ∷ faults.Room ∷ faults.Shape ∷ faults.Format ∷ []

-- the fault with this number
abbrev pub fault_of : ℕ → FaultKind
fault_of n = slice_index_or all_faults (n - 1) faults.Overflow
