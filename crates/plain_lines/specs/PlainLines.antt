-- Lines that are statements as they stand (ISO/IEC 1539-1:2018, 6.3.2): no literal, no comment, no continuation, no
-- `;`.
use Rattle.std.specs.Prelude.{ℕ, ◌≡◌, ◌≤◌, Bool, true, false, not, ◌&&◌, ◌||◌, nat_eq, nat_le, nat_lt, List, [], ◌∷◌, ◌++◌, length}
use Rattle.std.specs.List.{list_all, flat_map}
use Rattle.fortran_lines.specs.Characters.{is_blank, is_quote}

-- a byte that ends nothing and opens nothing: `!`, `&` or `;`
abbrev pub is_mark : ℕ → Bool
is_mark b = nat_eq b 33 || (nat_eq b 38 || nat_eq b 59)

-- a printing character of ASCII or a blank, but no quote and none of these marks
abbrev pub is_plain : ℕ → Bool
is_plain b = (nat_le 32 b && nat_lt b 127) && (not (is_quote b) && not (is_mark b))

-- its first byte is no blank
abbrev pub begins_inked : List ℕ → Bool
begins_inked [] = false
begins_inked (b ∷ l) = not (is_blank b)

-- a line of such bytes that begins with another byte than a blank and has at most 1,000 bytes
pub record IsPlainLine (l : List ℕ) : Type 0 where
  pub inked : begins_inked l ≡ true
  pub plain : list_all is_plain l ≡ true
  pub short : length l ≤ 1000

-- lines as the text of a file: a line feed behind each
abbrev pub ended : List (List ℕ) → List ℕ
ended ls = flat_map (λ l. l ++ 10 ∷ []) ls
