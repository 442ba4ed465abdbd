-- What a plain byte isn't.
use Rattle.std.proofs.Common.{◌≡◌, ℕ, Bool, true, false, not, nat_eq, nat_lt, List, ◌∷◌, refl, arith}
use Rattle.std.specs.List.{list_all}
use Rattle.std.proofs.lemmas.Bool.{and_parts}
use Rattle.std.proofs.lemmas.Bool.Decides.{nat_tests}
use Rattle.fortran_lines.specs.Characters.{is_quote}
use Rattle.plain_lines.specs.PlainLines.{is_plain}

pub no_mark : (b : ℕ) → is_plain b ≡ true → nat_eq b 33 ≡ false
no_mark b h = grind (arith, nat_tests)

pub no_amp : (b : ℕ) → is_plain b ≡ true → nat_eq b 38 ≡ false
no_amp b h = grind (arith, nat_tests)

pub no_semicolon : (b : ℕ) → is_plain b ≡ true → nat_eq b 59 ≡ false
no_semicolon b h = grind (arith, nat_tests)

pub no_quote : (b : ℕ) → is_plain b ≡ true → is_quote b ≡ false
no_quote b h = grind (arith, nat_tests)

pub no_feed : (b : ℕ) → is_plain b ≡ true → nat_eq b 10 ≡ false
no_feed b h = grind (arith, nat_tests)

pub no_return : (b : ℕ) → is_plain b ≡ true → nat_eq b 13 ≡ false
no_return b h = grind (arith, nat_tests)

pub ascii : (b : ℕ) → is_plain b ≡ true → nat_lt 127 b ≡ false
ascii b h = grind (arith, nat_tests)

-- what is not true
pub from_not : (b : Bool) → not b ≡ true → b ≡ false
from_not true e = absurd (cc)
from_not false e = refl

-- the first byte and the others
pub first_plain : (b : ℕ) (l : List ℕ) → list_all is_plain (b ∷ l) ≡ true → is_plain b ≡ true
first_plain b l e = (and_parts (is_plain b) (list_all is_plain l) e).0

pub rest_plain : (b : ℕ) (l : List ℕ) → list_all is_plain (b ∷ l) ≡ true → list_all is_plain l ≡ true
rest_plain b l e = (and_parts (is_plain b) (list_all is_plain l) e).1
