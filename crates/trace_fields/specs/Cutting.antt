-- Texts cut where a byte stands, and what stands between.
use Rattle.std.specs.Prelude.{ℕ, ℤ, ◌≡◌, ◌==◌, ◌||◌, Bool, true, false, not, nat_eq, List, [], ◌∷◌, ◌++◌, ◌⊎◌, codes}
use Rattle.std.specs.List.{list_all}
use Rattle.caf_text.specs.Numbers.{decimal_text}
use Rattle.trace_text.specs.TraceText.{number_text}
use Rattle.trace_forms.specs.Names.{is_digit_byte}

-- any byte but this one
abbrev pub other : ℕ → ℕ → Bool
other byte b = not (nat_eq b byte)

-- the front of a text up to the first of a byte, and what is behind that byte; all of the text and nothing where it
-- hasn't that byte
pub record IsCutAt (byte : ℕ) (text front behind : List ℕ) : Type 0 where
  pub clean : list_all (other byte) front ≡ true
  pub place : (text ≡ front ++ (byte ∷ behind)) ⊎ ((text ≡ front) × (behind ≡ []))

-- a byte that may stand between image numbers
abbrev pub IsBetweenImages : ℕ → Type 0
IsBetweenImages byte = is_digit_byte byte ≡ false

-- a dimension of a section without its colon
abbrev pub size_text : ℕ × ℤ → List ℕ
size_text d = number_text d.0 ++ codes "*" ++ decimal_text d.1

-- what is left begins with the sign before a reply, or with a blank, or is empty
abbrev pub begins_no_name : List ℕ → Bool
begins_no_name [] = true
begins_no_name (b ∷ bs) = b == 62 || b == 32
