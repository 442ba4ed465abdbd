-- The sorts of bytes that tokens are made of (ISO/IEC 1539-1:2018, 6.1).
use Rattle.std.specs.Prelude.{ℕ, Bool, cond, ◌&&◌, ◌||◌, nat_eq, nat_lt, nat_le}
pub use Rattle.fortran_lines.specs.Characters.{is_blank, is_letter, is_digit, is_quote}
use Rattle.fortran_tokens.specs.declared.byte.Sort.{Sort}
use Rattle.fortran_tokens.specs.declared.byte.Sort.TheVariants.{Letter, Digit, Quote, Other}

-- what may follow in a name: letters, digits and underscores
abbrev pub is_name_byte : ℕ → Bool
is_name_byte b = (is_letter b || is_digit b) || nat_eq b 95

-- what may stand in a character literal: a tab, or a printing character of ASCII
abbrev pub is_printing : ℕ → Bool
is_printing b = nat_eq b 9 || (nat_le 32 b && nat_lt b 127)

-- what a byte may begin
abbrev pub sort_of : ℕ → Sort
sort_of b = cond (is_letter b) Letter (cond (is_digit b) Digit (cond (is_quote b) Quote Other))
