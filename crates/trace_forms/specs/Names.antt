-- The names that coarrays may have in the text of a trace.
use Rattle.std.specs.Prelude.{ℕ, ◌≡◌, ◌<◌, Bool, true, ◌&&◌, ◌||◌, nat_eq, nat_le, List, Some, length, slice_get}
use Rattle.std.specs.List.{list_all}
use Rattle.trace_theory.specs.Entries.{Each}

-- a decimal digit
abbrev pub is_digit_byte : ℕ → Bool
is_digit_byte b = nat_le 48 b && nat_le b 57

-- a letter
abbrev pub is_letter_byte : ℕ → Bool
is_letter_byte b = (nat_le 65 b && nat_le b 90) || (nat_le 97 b && nat_le b 122)

-- a letter, a digit, an underscore or a dot
abbrev pub is_name_byte : ℕ → Bool
is_name_byte b = is_digit_byte b || (is_letter_byte b || (nat_eq b 95 || nat_eq b 46))

-- a name has one byte or more, each of them one of these
pub record IsName (name : List ℕ) : Type 0 where
  pub some : 0 < length name
  pub bytes : list_all is_name_byte name ≡ true

-- each is a name, and no two of them are alike
pub record AreNames (names : List (List ℕ)) : Type 0 where
  pub differ : (j k : ℕ) (name : List ℕ) → slice_get names j ≡ Some name → slice_get names k ≡ Some name → j ≡ k
  pub each : Each IsName names
