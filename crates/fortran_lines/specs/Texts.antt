-- The texts of statements without their places.
use Rattle.std.specs.Prelude.{ℕ, ◌≡◌, false, cond, List, [], ◌∷◌, map}
use Rattle.fortran_lines.specs.declared.placed_byte.PlacedByte.{PlacedByte}
use Rattle.fortran_lines.specs.declared.context.Context.TheVariants.{Outside}
use Rattle.fortran_lines.specs.declared.context.Before.{Before}
use Rattle.fortran_lines.specs.declared.context.Before.TheVariants.{Start}
use Rattle.fortran_lines.specs.PlacedBytes.{all_blank}
use Rattle.fortran_lines.specs.Contexts.{context_behind}
use Rattle.fortran_lines.specs.Lines.{is_nothing, code_part, part_of, statements_of}

-- the bytes without their places
abbrev pub codes_of : List (List PlacedByte) → List (List ℕ)
codes_of texts = map (λ text. map (λ m. m.code) text) texts

-- the texts of a file's statements
abbrev pub texts_of : List ℕ → List (List ℕ)
texts_of bytes = codes_of (statements_of bytes)

-- bytes at no place
abbrev pub plain : List ℕ → List PlacedByte
plain [] = []
plain (b ∷ bs) = record { code = b; at = record { line = 0; col = 0 } } ∷ plain bs

-- what stands before the line behind some lines
abbrev pub before_next : List (List PlacedByte) → Before → Before
before_next [] b = b
before_next (l ∷ ls) b = cond (is_nothing l) (before_next ls b) (before_next ls (part_of b l).next)

-- a line that a continuation may part in two: no continuation stands before it, no comment begins in its first part,
-- and the second has something else than blanks and a comment
pub record CanBeParted (front : List (List ℕ)) (one two : List ℕ) : Type 0 where
  pub begins : before_next (map plain front) Start ≡ Start
  pub clear : code_part Outside (plain one) ≡ plain one
  pub inked : all_blank (code_part (context_behind Outside (plain one)) (plain two)) ≡ false
