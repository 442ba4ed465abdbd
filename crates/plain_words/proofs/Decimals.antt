-- Numbers as they are written in decimal.
use Rattle.std.proofs.Common.{◌≡◌, ℕ, ◌<◌, ◌≤◌, true, List, [], ◌∷◌, ◌++◌, length, decimal, Some, None, refl, ap, ◌∙◌, arith}
use Rattle.std.specs.Str.Parse.{AllDigits}
use Rattle.std.specs.List.{list_all}
use Rattle.std.proofs.lemmas.Bool.{and_from, and_parts}
use Rattle.std.proofs.lemmas.Bool.Decides.{nat_tests}
use Rattle.std.proofs.lemmas.Fmt.{decimal_is_IsNumeral, length-decimal-le}
use Rattle.std.proofs.lemmas.Str.Parse.{digit_from_value}
use Rattle.fortran_tokens.specs.declared.token.Sign.TheVariants as sign
use Rattle.fortran_tokens.specs.declared.token.TokenKind.TheVariants.{Number, Fixed}
use Rattle.fortran_tokens.specs.Bytes.{is_digit}
use Rattle.fortran_tokens.specs.Cuts.{excess_of, value_of}
use Rattle.fortran_tokens.specs.Scans.{number_rest_len, form_found}
use Rattle.fortran_tree.specs.declared.expr.NumberKind.TheVariants as kinds
use Rattle.fortran_grammar.specs.Tokens as t
use Rattle.expr_reader.specs.Plain.{tok_of}
use Rattle.plain_lines.specs.PlainLines.{is_plain}
use Rattle.plain_words.proofs.Found.{digits_plain, bracket_found, number_found, number_allowed, number_tok}

from_value : (ds : List ℕ) → AllDigits 10 ds → list_all is_digit ds ≡ true
from_value [] h = refl
from_value (d ∷ ds) h = and_from (is_digit d) (list_all is_digit ds) (is_one d (digit_from_value d h.0)) (from_value ds h.1)
  where
    is_one : (c : ℕ) → (48 ≤ c) × (c ≤ 57) → is_digit c ≡ true
    is_one c (low, high) = grind (arith, nat_tests)

pub all_digits : (n : ℕ) → n ≤ 2147483647 → list_all is_digit (decimal n) ≡ true
all_digits n h = from_value (decimal n) (decimal_is_IsNumeral n (omega arith)).0.1

pub some_digit : (n : ℕ) → n ≤ 2147483647 → 0 < length (decimal n)
some_digit n h = (decimal_is_IsNumeral n (omega arith)).0.0

is_value : (n : ℕ) → n ≤ 2147483647 → value_of (decimal n) ≡ n
is_value n h = (decimal_is_IsNumeral n (omega arith)).1

pub few_digits : (n : ℕ) → n ≤ 2147483647 → length (decimal n) ≤ 10
few_digits n h = length-decimal-le 10 n (omega arith) (omega arith) (omega arith)

pub decimal_plain : (n : ℕ) → n ≤ 2147483647 → list_all is_plain (decimal n) ≡ true
decimal_plain n h = digits_plain (decimal n) (all_digits n h)

pub decimal_found : (n : ℕ) (rest : List ℕ) → n ≤ 2147483647 → number_rest_len rest ≡ 0 → form_found (decimal n ++ rest) ≡ Some (Number, length (decimal n))
decimal_found n rest h e = number_found (decimal n) rest (some_digit n h) (all_digits n h) e

pub decimal_allowed : (n : ℕ) → n ≤ 2147483647 → excess_of Number (decimal n) ≡ None
decimal_allowed n h = number_allowed (decimal n) (all_digits n h) (omega (arith, is_value n h))

pub decimal_tok : (n : ℕ) → n ≤ 2147483647 → tok_of Number (decimal n) ≡ t.integer n kinds.Unstated
decimal_tok n h = number_tok (decimal n) (all_digits n h) ∙ ap (λ v. t.integer v kinds.Unstated) (is_value n h)

bracket_by : (ds rest : List ℕ) → 0 < length ds → list_all is_digit ds ≡ true → form_found (40 ∷ (ds ++ rest)) ≡ Some (Fixed sign.OpenRound, 1)
bracket_by [] rest l h = absurd (omega arith)
bracket_by (d ∷ ds) rest l h = bracket_found d (ds ++ rest) (and_parts (is_digit d) (list_all is_digit ds) h).0

pub bracket_decimal : (n : ℕ) (rest : List ℕ) → n ≤ 2147483647 → form_found (40 ∷ (decimal n ++ rest)) ≡ Some (Fixed sign.OpenRound, 1)
bracket_decimal n rest h = bracket_by (decimal n) rest (some_digit n h) (all_digits n h)
