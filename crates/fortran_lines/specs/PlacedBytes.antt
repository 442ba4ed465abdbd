-- The bytes of a file with their places, line by line.
use Rattle.std.specs.Prelude.{ℕ, ◌+◌, Bool, List, [], ◌∷◌}
use Rattle.std.specs.List.{list_all}
use Rattle.std.specs.Str.Lines.{lines}
use Rattle.fortran_lines.specs.declared.placed_byte.PlacedByte.{PlacedByte}
use Rattle.fortran_lines.specs.Characters as characters

-- the bytes of a piece of a line, from a column on
abbrev pub placed_from : ℕ → ℕ → List ℕ → List PlacedByte
placed_from line col [] = []
placed_from line col (b ∷ bs) = record { code = b; at = record { line = line; col = col } } ∷ placed_from line (col + 1) bs

-- lines that are numbered from this number on
abbrev pub numbered : ℕ → List (List ℕ) → List (List PlacedByte)
numbered n [] = []
numbered n (l ∷ ls) = placed_from n 1 l ∷ numbered (n + 1) ls

-- the physical lines of a file: each ends at a line feed or where the file ends, and has neither the line feed nor a
-- carriage return before it
abbrev pub physical_lines : List ℕ → List (List PlacedByte)
physical_lines bytes = numbered 1 (lines bytes)

-- a blank or a tab
abbrev pub is_blank : PlacedByte → Bool
is_blank m = characters.is_blank m.code

-- a delimiter of a character literal (7.4.4)
abbrev pub is_quote : PlacedByte → Bool
is_quote m = characters.is_quote m.code

-- blanks alone
abbrev pub all_blank : List PlacedByte → Bool
all_blank l = list_all is_blank l

-- a blank in the place of another byte
abbrev pub blank_at : PlacedByte → PlacedByte
blank_at m = record { code = 32; at = m.at }
