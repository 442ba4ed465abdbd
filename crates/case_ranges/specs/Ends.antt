-- The ends of a range of case values among the numbers of 64 bits, and which ranges have a number between two.
use Rattle.std.specs.Prelude.{ℤ, pos, negsuc, int_le, Bool, false, ◌&&◌, ◌||◌, List, [], ◌∷◌}
use Rattle.std.specs.Int.RustNames.{FitsSigned}
use Rattle.std.specs.Option.{unwrap_or}
use Rattle.checked_tree.specs.declared.statement.CaseRange.{CaseRange}
use Rattle.rule_definitions.specs.Statements.{low, high}
use mir.Syntax.{w64}

abbrev pub low_end : CaseRange → ℤ
low_end r = unwrap_or (low r) (negsuc 9223372036854775807)

abbrev pub high_end : CaseRange → ℤ
high_end r = unwrap_or (high r) (pos 9223372036854775807)

-- both ends are numbers of 64 bits
abbrev pub IsHeld : CaseRange → Type 0
IsHeld r = FitsSigned w64 (low_end r) × FitsSigned w64 (high_end r)

abbrev pub AllHeld : List CaseRange → Type 0
AllHeld [] = Unit {0}
AllHeld (x ∷ xs) = IsHeld x × AllHeld xs

-- a range that has a number from m to n
abbrev pub meets : ℤ → ℤ → CaseRange → Bool
meets m n r = int_le (low_end r) (high_end r) && (int_le (low_end r) n && int_le m (high_end r))

abbrev pub meets_one : ℤ → ℤ → List CaseRange → Bool
meets_one m n [] = false
meets_one m n (x ∷ xs) = meets m n x || meets_one m n xs
