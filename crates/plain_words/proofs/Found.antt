-- What is found at the front of a line's rest: tokens by computation, and numbers.
use Rattle.std.proofs.Common.{◌≡◌, ℕ, zero, suc, ◌+◌, ◌-◌, ◌<◌, ◌≤◌, true, false, cond, ◌&&◌, nat_lt, List, [], ◌∷◌, ◌++◌, length, take, drop, take_while, Some, None, refl, ap, ◌∙◌, subst, arith}
use Rattle.std.specs.List.{list_all, prefix_len}
use Rattle.std.proofs.Math.Seq.{take-append_seam, take-length, drop-length}
use Rattle.std.proofs.lemmas.Bool.{and_parts}
use Rattle.std.proofs.lemmas.Bool.Decides.{nat_tests}
use Rattle.fortran_tokens.specs.declared.byte.Sort.TheVariants.{Digit}
use Rattle.fortran_tokens.specs.declared.fault.Excess.TheVariants as excess
use Rattle.fortran_tokens.specs.declared.token.Sign.TheVariants as sign
use Rattle.fortran_tokens.specs.declared.token.TokenKind.TheVariants.{Number, Fixed}
use Rattle.fortran_tokens.specs.Bytes.{is_digit, sort_of}
use Rattle.fortran_tokens.specs.Cuts.{excess_of, value_of}
use Rattle.fortran_tokens.specs.Scans.{number_rest_len, kind_len, sign_found, found_by, form_found}
use Rattle.fortran_tokens.specs.Tokens.{depth_behind, is_colons}
use Rattle.fortran_tokens.proofs.Longest.{some_found}
use Rattle.fortran_tree.specs.declared.expr.NumberKind.TheVariants as kinds
use Rattle.fortran_grammar.specs.Tokens as t
use Rattle.expr_reader.specs.Plain.{kind_behind, tok_of}
use Rattle.plain_lines.specs.PlainLines.{is_plain}
use Rattle.plain_words.specs.Written.{Written, line_of, AreFound}

-- what is found, computed: the token, within the limits, and no `::` within brackets
abbrev pub FoundBy : ℕ → List Written → Type 0
FoundBy d [] = Unit {0}
FoundBy d (w ∷ ws) =
    (form_found (w.bytes ++ line_of ws) ≡ Some (w.kind, length w.bytes)) × (excess_of w.kind w.bytes ≡ None) × ((is_colons w.kind && nat_lt 0 d) ≡ false)
    × FoundBy (depth_behind d w.kind) ws

pub found_from : (d : ℕ) (ws : List Written) → FoundBy d ws → AreFound d ws
found_from d [] h = tt
found_from d (w ∷ ws) h = (
  record { longest = some_found (w.bytes ++ line_of ws) (w.kind, length w.bytes) h.0; allowed = ap (excess_of w.kind) (take-append_seam w.bytes (line_of ws)) ∙ h.1 },
  h.2,
  found_from (depth_behind d w.kind) ws h.3,
)

-- what holds of each digit holds of a byte that is one
from_ten : (P : ℕ → Type 0) → P 48 → P 49 → P 50 → P 51 → P 52 → P 53 → P 54 → P 55 → P 56 → P 57 → (n : ℕ) → n < 10 → P (48 + n)
from_ten P a b c d e f g h i j zero l = a
from_ten P a b c d e f g h i j (suc zero) l = b
from_ten P a b c d e f g h i j (suc (suc zero)) l = c
from_ten P a b c d e f g h i j (suc (suc (suc zero))) l = d
from_ten P a b c d e f g h i j (suc (suc (suc (suc zero)))) l = e
from_ten P a b c d e f g h i j (suc (suc (suc (suc (suc zero))))) l = f
from_ten P a b c d e f g h i j (suc (suc (suc (suc (suc (suc zero)))))) l = g
from_ten P a b c d e f g h i j (suc (suc (suc (suc (suc (suc (suc zero))))))) l = h
from_ten P a b c d e f g h i j (suc (suc (suc (suc (suc (suc (suc (suc zero)))))))) l = i
from_ten P a b c d e f g h i j (suc (suc (suc (suc (suc (suc (suc (suc (suc zero))))))))) l = j
from_ten P a b c d e f g h i j (suc (suc (suc (suc (suc (suc (suc (suc (suc (suc n)))))))))) l = absurd (omega arith)

of_digit : (P : ℕ → Type 0) → P 48 → P 49 → P 50 → P 51 → P 52 → P 53 → P 54 → P 55 → P 56 → P 57 → (c : ℕ) → is_digit c ≡ true → P c
of_digit P a b c d e f g h i j x l =
    let low : 48 ≤ x = grind (arith, nat_tests) in
    let high : x ≤ 57 = grind (arith, nat_tests) in
    let same : 48 + (x - 48) ≡ x = omega arith in
    subst P same (from_ten P a b c d e f g h i j (x - 48) (omega arith))

digit_sort : (c : ℕ) → is_digit c ≡ true → sort_of c ≡ Digit
digit_sort = of_digit (λ c. sort_of c ≡ Digit) refl refl refl refl refl refl refl refl refl refl

digit_plain : (c : ℕ) → is_digit c ≡ true → is_plain c ≡ true
digit_plain = of_digit (λ c. is_plain c ≡ true) refl refl refl refl refl refl refl refl refl refl

-- digits are plain
pub digits_plain : (ds : List ℕ) → list_all is_digit ds ≡ true → list_all is_plain ds ≡ true
digits_plain [] h = refl
digits_plain (d ∷ ds) h =
    let k = and_parts (is_digit d) (list_all is_digit ds) h in
    ap (λ b. b && list_all is_plain ds) (digit_plain d k.0) ∙ digits_plain ds k.1

-- a bracket before a digit is a bracket
pub bracket_found : (d : ℕ) (text : List ℕ) → is_digit d ≡ true → form_found (40 ∷ d ∷ text) ≡ Some (Fixed sign.OpenRound, 1)
unfolding sign_found
bracket_found d text = of_digit (λ c. form_found (40 ∷ c ∷ text) ≡ Some (Fixed sign.OpenRound, 1)) refl refl refl refl refl refl refl refl refl refl d

-- digits, and behind them what goes on with no number, are one number
prefix_all : (ds : List ℕ) → list_all is_digit ds ≡ true → prefix_len is_digit ds ≡ length ds
prefix_all [] h = refl
prefix_all (d ∷ ds) h =
    let k = and_parts (is_digit d) (list_all is_digit ds) h in
    ap (λ b. cond b (1 + prefix_len is_digit ds) 0) k.0 ∙ omega (arith, prefix_all ds k.1)

all_taken : (ds : List ℕ) → list_all is_digit ds ≡ true → take_while is_digit ds ≡ ds
all_taken ds h = ap (λ n. take n ds) (prefix_all ds h) ∙ take-length ds

rest_found : (ds rest : List ℕ) → list_all is_digit ds ≡ true → number_rest_len rest ≡ 0 → number_rest_len (ds ++ rest) ≡ length ds
rest_found [] rest h e = e
rest_found (d ∷ ds) rest h e =
    let k = and_parts (is_digit d) (list_all is_digit ds) h in
    ap (λ b. cond b (1 + number_rest_len (ds ++ rest)) (kind_len (d ∷ (ds ++ rest)))) k.0 ∙ omega (arith, rest_found ds rest k.1 e)

pub number_found : (ds rest : List ℕ) → 0 < length ds → list_all is_digit ds ≡ true → number_rest_len rest ≡ 0 → form_found (ds ++ rest) ≡ Some (Number, length ds)
number_found [] rest l h e = absurd (omega arith)
number_found (d ∷ ds) rest l h e =
    let k = and_parts (is_digit d) (list_all is_digit ds) h in
    let size : 1 + number_rest_len (ds ++ rest) ≡ length (d ∷ ds) = omega (arith, rest_found ds rest k.1 e) in
    ap (λ s. found_by s d (ds ++ rest)) (digit_sort d k.0) ∙ ap (λ n. Some (Number, n)) size

not_wide : (n : ℕ) → n ≤ 9223372036854775807 → nat_lt 9223372036854775807 n ≡ false
not_wide n h = grind (arith, nat_tests)

not_long : (n : ℕ) → nat_lt (n + 64) n ≡ false
not_long n = grind (arith, nat_tests)

pub number_allowed : (ds : List ℕ) → list_all is_digit ds ≡ true → value_of ds ≤ 9223372036854775807 → excess_of Number ds ≡ None
number_allowed ds h v =
    ap (λ z. cond (nat_lt 9223372036854775807 (value_of z)) (Some excess.Number) (cond (nat_lt (length z + 64) (length ds)) (Some (excess.Character (length z + 64))) None)) (all_taken ds h)
    ∙ ap (λ b. cond b (Some excess.Number) (cond (nat_lt (length ds + 64) (length ds)) (Some (excess.Character (length ds + 64))) None)) (not_wide (value_of ds) v)
    ∙ ap (λ b. cond b (Some (excess.Character (length ds + 64))) None) (not_long (length ds))

-- and stand for their value
pub number_tok : (ds : List ℕ) → list_all is_digit ds ≡ true → tok_of Number ds ≡ t.integer (value_of ds) kinds.Unstated
number_tok ds h =
    ap (λ z. t.integer (value_of z) (kind_behind (drop (length z) ds))) (all_taken ds h) ∙ ap (λ w. t.integer (value_of ds) (kind_behind w)) (drop-length ds)
