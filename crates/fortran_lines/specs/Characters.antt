-- The characters of lines and tokens, as bytes (ISO/IEC 1539-1:2018, 6.1).
use Rattle.std.specs.Prelude.{ℕ, Bool, ◌&&◌, ◌||◌, nat_eq, nat_le}

-- a blank, or a tab, which counts as one
abbrev pub is_blank : ℕ → Bool
is_blank b = nat_eq b 32 || nat_eq b 9

-- a letter of either case (6.1.2)
abbrev pub is_letter : ℕ → Bool
is_letter b = (nat_le 65 b && nat_le b 90) || (nat_le 97 b && nat_le b 122)

-- a digit (6.1.3)
abbrev pub is_digit : ℕ → Bool
is_digit b = nat_le 48 b && nat_le b 57

-- a delimiter of a character literal (7.4.4)
abbrev pub is_quote : ℕ → Bool
is_quote b = nat_eq b 39 || nat_eq b 34
