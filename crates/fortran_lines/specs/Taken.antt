-- What becomes of a file's bytes.
use Rattle.std.specs.Prelude.{ℕ, ◌≡◌, true, List, [], ◌∷◌, ◌++◌, ◌⊎◌}
use Rattle.fortran_lines.specs.declared.placed_byte.PlacedByte.{PlacedByte}
use Rattle.fortran_lines.specs.PlacedBytes.{is_blank, blank_at, physical_lines}
use Rattle.fortran_lines.specs.Lines.{statements_of}

-- a byte is this byte of the file, place and all, or the blank in the place of this `&`
abbrev pub IsTaken : PlacedByte → PlacedByte → Type 0
IsTaken m b = (b ≡ m) ⊎ ((m.code ≡ 38) × (b ≡ blank_at m))

-- a byte that may be left out: a blank, an `&` or a `;`
abbrev pub MayGo : PlacedByte → Type 0
MayGo m = (is_blank m ≡ true) ⊎ ((m.code ≡ 38) ⊎ (m.code ≡ 59))

-- some bytes are taken from these, in their order and none of them twice; those that are left out may be
abbrev pub AreTaken : List PlacedByte → List PlacedByte → Type 0
AreTaken [] [] = Unit {0}
AreTaken [] (m ∷ ms) = MayGo m × AreTaken [] ms
AreTaken (b ∷ bs) [] = ⊥
AreTaken (b ∷ bs) (m ∷ ms) = (IsTaken m b × AreTaken bs ms) ⊎ (MayGo m × AreTaken (b ∷ bs) ms)

-- a line, or what stands in it before a `!`
abbrev pub IsFront : List PlacedByte → List PlacedByte → Type 0
IsFront line front = (front ≡ line) ⊎ ((m : PlacedByte) × (rest : List PlacedByte) × (line ≡ front ++ m ∷ rest) × (m.code ≡ 33))

-- lines, each whole or up to a `!`
abbrev pub AreFronts : List (List PlacedByte) → List (List PlacedByte) → Type 0
AreFronts [] [] = Unit {0}
AreFronts [] (f ∷ fs) = ⊥
AreFronts (l ∷ ls) [] = ⊥
AreFronts (l ∷ ls) (f ∷ fs) = IsFront l f × AreFronts ls fs

-- lines or texts, one behind the other
abbrev pub in_a_row : List (List PlacedByte) → List PlacedByte
in_a_row [] = []
in_a_row (l ∷ ls) = l ++ in_a_row ls

-- the bytes of the statements are those of the file, less comments, and blanks, `&` and `;` that are left out
pub record AreKept (bytes : List ℕ) : Type 0 where
  pub fronts : List (List PlacedByte)
  pub are : AreFronts (physical_lines bytes) fronts
  pub taken : AreTaken (in_a_row (statements_of bytes)) (in_a_row fronts)
