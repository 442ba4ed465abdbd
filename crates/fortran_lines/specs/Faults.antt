-- What is broken in the lines of a file, and what is broken first.
use Rattle.std.specs.Prelude.{ℕ, ◌≡◌, Bool, false, cond, nat_eq, nat_lt, List, [], ◌∷◌, ◌++◌, Option, Some, None, map, filter, fold, All, Contains, slice_get}
use Rattle.caf_base.specs.declared.place.Pos.{Pos}
use Rattle.fortran_lines.specs.declared.placed_byte.PlacedByte.{PlacedByte}
use Rattle.fortran_lines.specs.declared.context.Before.{Before}
use Rattle.fortran_lines.specs.declared.context.Before.TheVariants.{Start, Continued}
use Rattle.fortran_lines.specs.declared.fault.LineFault.{LineFault}
use Rattle.fortran_lines.specs.declared.fault.LineFault.TheVariants.{NotAscii, LineTooLong, DanglingContinuation, OpenLiteral}
use Rattle.fortran_lines.specs.PlacedBytes.{physical_lines}
use Rattle.fortran_lines.specs.Lines.{Part, is_nothing, part_of}

-- a line has a byte beyond column 1,000
abbrev pub too_long : Option PlacedByte → List LineFault
too_long None = []
too_long (Some m) = LineTooLong m.at ∷ []

-- bytes above 127
abbrev pub not_ascii : List PlacedByte → List LineFault
not_ascii code = map (λ m. NotAscii m.at) (filter (λ m. nat_lt 127 m.code) code)

-- a literal left open, at its opening quote
abbrev pub open_literal : Option PlacedByte → List LineFault
open_literal None = []
open_literal (Some q) = OpenLiteral q.at ∷ []

-- a continuation with no line left
abbrev pub dangling : Before → List LineFault
dangling Start = []
dangling (Continued amp k) = DanglingContinuation amp.at ∷ []

-- what a line breaks but its length
abbrev pub faults_of_part : Part → List LineFault
faults_of_part part = not_ascii part.code ++ open_literal part.left_open

-- all that lines break, behind what stands before them
abbrev pub faults_from : List (List PlacedByte) → Before → List LineFault
faults_from [] before = dangling before
faults_from (line ∷ lines) before =
    too_long (slice_get line 1000)
    ++ cond (is_nothing line) (faults_from lines before) (faults_of_part (part_of before line) ++ faults_from lines (part_of before line).next)

-- all that a file breaks
abbrev pub faults_of : List ℕ → List LineFault
faults_of bytes = faults_from (physical_lines bytes) Start

-- where a fault is
abbrev pub fault_place : LineFault → Pos
fault_place (NotAscii at) = at
fault_place (LineTooLong at) = at
fault_place (DanglingContinuation at) = at
fault_place (OpenLiteral at) = at

-- which of the faults at one place comes first
abbrev pub rank_of : LineFault → ℕ
rank_of (NotAscii at) = 1
rank_of (LineTooLong at) = 2
rank_of (DanglingContinuation at) = 3
rank_of (OpenLiteral at) = 4

-- by line, then by column, then by rank
abbrev pub is_before : LineFault → LineFault → Bool
is_before f g =
    cond (nat_eq (fault_place f).line (fault_place g).line)
    (cond (nat_eq (fault_place f).col (fault_place g).col) (nat_lt (rank_of f) (rank_of g)) (nat_lt (fault_place f).col (fault_place g).col))
    (nat_lt (fault_place f).line (fault_place g).line)

-- it is one of these faults, and none of them is before it
pub record IsFirst (faults : List LineFault) (f : LineFault) : Type 0 where
  pub one : Contains faults f
  pub first : All (λ g. is_before g f ≡ false) faults

-- the first of the faults so far, and one more
abbrev pub first_with : Option LineFault → LineFault → Option LineFault
first_with None f = Some f
first_with (Some g) f = cond (is_before f g) (Some f) (Some g)

-- the first of the faults so far, and those of a list
abbrev pub first_of_all : Option LineFault → List LineFault → Option LineFault
first_of_all so_far faults = fold first_with so_far faults
