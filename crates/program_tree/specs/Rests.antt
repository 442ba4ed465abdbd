-- The parts that are left of a file.
use Rattle.std.specs.Prelude.{◌≡◌, false, List, [], ◌∷◌, Option, Some, None, map}
use Rattle.fortran_tree.specs.declared.statement.End.{End}
use Rattle.part_reader.specs.declared.part.Part.{Part}
use Rattle.part_reader.specs.Views.{part}
use Rattle.statement_reader.specs.Parts as f
use Rattle.statement_reader.specs.Parts.{Part as Seen, Form}
use Rattle.program_reader.specs.Sequence.{Stage, Scope, staged}
use Rattle.program_tree.specs.declared.next.Rest.{Rest}
use Rattle.program_tree.specs.Following.{MayFollow, starts_with}

abbrev pub before : Option Part → List Part → List Part
before None xs = []
before (Some x) xs = x ∷ xs

-- the parts that are left
abbrev pub left : Rest → List Part
left r = before r.next r.behind.items

-- what they stand for
abbrev pub parts : Rest → List Seen
parts r = map part (left r)

-- they may follow in this unit, where it has come as far
abbrev pub Stands : Stage → Scope → Rest → Type 0
Stands t k r = MayFollow (record { scope = staged t k; blocks = []; conditions = 0 }) (parts r)

-- nothing has been taken, and no part of this form comes next
abbrev pub IsKept : Form → Rest → Rest → Type 0
IsKept i old new = (left new ≡ left old) × (starts_with i (parts old) ≡ false)

-- nothing has been taken, and no SUBROUTINE or FUNCTION statement comes next
abbrev pub NoHeading : Rest → Rest → Type 0
NoHeading old new = (left new ≡ left old) × (starts_with f.subroutine_form (parts old) ≡ false) × (starts_with f.function_form (parts old) ≡ false)

-- the main program's END is left, and nothing else
abbrev pub EndsProgram : Rest → Type 0
EndsProgram r = (end : End) × (parts r ≡ f.end_program_part end.name end.at ∷ [])
