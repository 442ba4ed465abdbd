-- The form of a designator's subscripts: how many numbers they are, and how many of them are triplets.
use Rattle.std.proofs.Common.{◌≡◌, ℕ, zero, suc, ◌+◌, ◌*◌, ◌≤◌, ◌<◌, cond, List, [], ◌∷◌, refl, ap, ap₂, ◌∙◌, arith}
use Rattle.std.specs.Prelude.{◌/◌, ◌%◌, ◌==◌}
use Rattle.checked_tree.specs.Expressions as t
use Rattle.image_acts.specs.Places.{digits, with_digit, numbers_in, numbers_of_form, triplets}
use Rattle.tree_meaning.specs.Expressions.{one_if, digit_of, whole_form, digits_of, form_of, count_of, element_form}
use Rattle.made_code.specs.Ranks.{subscripts_in, is_triplet, triplets_in, IsSection}

-- how many numbers subscripts are
abbrev pub one_given : t.OptionalExpression → ℕ
one_given t.missing = 0
one_given (t.given x) = 1

abbrev pub subscript_size : t.Subscript → ℕ
subscript_size (t.element x) = 1
subscript_size (t.triplet l u x) = one_given l + (one_given u + one_given x)

abbrev pub subscripts_size : t.Subscripts → ℕ
subscripts_size t.no_subscripts = 0
subscripts_size (t.more_subscripts s ss) = subscript_size s + subscripts_size ss

-- a form's digits
three_digits : (x y z : ℕ) → x < 10 → y < 10 → z < 10 → digits (x + 10 * (y + 10 * (z + 0))) ≡ with_digit x (with_digit y (with_digit z []))
three_digits x y z h k l =
    let n : ℕ = x + 10 * (y + 10 * (z + 0)) in
    let a : n % 10 ≡ x = omega arith in
    let b : (n / 10) % 10 ≡ y = omega arith in
    let c : (n / 100) % 10 ≡ z = omega arith in
    ap₂ with_digit a (ap₂ with_digit b (ap (λ w. with_digit w []) c))

one_if_small : (n : ℕ) (x : t.OptionalExpression) → one_if n x ≤ n
one_if_small n t.missing = omega arith
one_if_small n (t.given x) = omega arith

digit_there : (s : t.Subscript) → (1 ≤ digit_of s) × (digit_of s < 10)
digit_there (t.element x) = (omega arith, omega arith)
digit_there (t.triplet l u x) = (let a = one_if_small 1 l in let b = one_if_small 2 u in let c = one_if_small 4 x in (omega arith, omega arith))

digit_kept : (d : ℕ) (ds : List ℕ) → 1 ≤ d → with_digit d ds ≡ d ∷ ds
digit_kept zero ds h = absurd (omega arith)
digit_kept (suc d) ds h = refl

abbrev digit_list : t.Subscripts → List ℕ
digit_list t.no_subscripts = []
digit_list (t.more_subscripts s ss) = digit_of s ∷ digit_list ss

digits_are : (ss : t.Subscripts) → subscripts_in ss ≤ 3 → digits (digits_of ss) ≡ digit_list ss
digits_are t.no_subscripts h = refl
digits_are (t.more_subscripts x t.no_subscripts) h =
    three_digits (digit_of x) 0 0 (digit_there x).1 (omega arith) (omega arith) ∙ digit_kept (digit_of x) [] (digit_there x).0
digits_are (t.more_subscripts x (t.more_subscripts y t.no_subscripts)) h =
    three_digits (digit_of x) (digit_of y) 0 (digit_there x).1 (digit_there y).1 (omega arith)
    ∙ (digit_kept (digit_of x) (with_digit (digit_of y) []) (digit_there x).0 ∙ ap (λ ds. digit_of x ∷ ds) (digit_kept (digit_of y) [] (digit_there y).0))
digits_are (t.more_subscripts x (t.more_subscripts y (t.more_subscripts z t.no_subscripts))) h =
    three_digits (digit_of x) (digit_of y) (digit_of z) (digit_there x).1 (digit_there y).1 (digit_there z).1
    ∙ (digit_kept (digit_of x) (with_digit (digit_of y) (with_digit (digit_of z) [])) (digit_there x).0
    ∙ ap (λ ds. digit_of x ∷ ds) (digit_kept (digit_of y) (with_digit (digit_of z) []) (digit_there y).0 ∙ ap (λ ds. digit_of y ∷ ds) (digit_kept (digit_of z) [] (digit_there z).0)))
digits_are (t.more_subscripts x (t.more_subscripts y (t.more_subscripts z (t.more_subscripts w ss)))) h = absurd (omega arith)

numbers_there : (s : t.Subscript) → numbers_in (digit_of s) ≡ subscript_size s
numbers_there (t.element x) = refl
numbers_there (t.triplet t.missing t.missing t.missing) = refl
numbers_there (t.triplet t.missing t.missing (t.given x)) = refl
numbers_there (t.triplet t.missing (t.given u) t.missing) = refl
numbers_there (t.triplet t.missing (t.given u) (t.given x)) = refl
numbers_there (t.triplet (t.given l) t.missing t.missing) = refl
numbers_there (t.triplet (t.given l) t.missing (t.given x)) = refl
numbers_there (t.triplet (t.given l) (t.given u) t.missing) = refl
numbers_there (t.triplet (t.given l) (t.given u) (t.given x)) = refl

triplet_there : (s : t.Subscript) → cond (digit_of s == 1) 0 1 ≡ is_triplet s
triplet_there (t.element x) = refl
triplet_there (t.triplet t.missing t.missing t.missing) = refl
triplet_there (t.triplet t.missing t.missing (t.given x)) = refl
triplet_there (t.triplet t.missing (t.given u) t.missing) = refl
triplet_there (t.triplet t.missing (t.given u) (t.given x)) = refl
triplet_there (t.triplet (t.given l) t.missing t.missing) = refl
triplet_there (t.triplet (t.given l) t.missing (t.given x)) = refl
triplet_there (t.triplet (t.given l) (t.given u) t.missing) = refl
triplet_there (t.triplet (t.given l) (t.given u) (t.given x)) = refl

list_numbers : (ss : t.Subscripts) → numbers_of_form (digit_list ss) ≡ subscripts_size ss
list_numbers t.no_subscripts = refl
list_numbers (t.more_subscripts s ss) = ap₂ (λ m n. m + n) (numbers_there s) (list_numbers ss)

list_triplets : (ss : t.Subscripts) → triplets (digit_list ss) ≡ triplets_in ss
list_triplets t.no_subscripts = refl
list_triplets (t.more_subscripts s ss) = ap₂ (λ m n. m + n) (triplet_there s) (list_triplets ss)

whole_numbers : (r : ℕ) → r ≤ 3 → (numbers_of_form (digits (whole_form r)) ≡ 0) × (triplets (digits (whole_form r)) ≡ r)
whole_numbers zero h = (refl, refl)
whole_numbers (suc zero) h = (refl, refl)
whole_numbers (suc (suc zero)) h = (refl, refl)
whole_numbers (suc (suc (suc zero))) h = (refl, refl)
whole_numbers (suc (suc (suc (suc n)))) h = absurd (omega arith)

-- the numbers and the rank of a section
pub section_numbers : (ss : t.Subscripts) (r : ℕ) → IsSection ss r → numbers_of_form (digits (form_of ss r)) ≡ subscripts_size ss
section_numbers t.no_subscripts r h = (whole_numbers r h).0
section_numbers (t.more_subscripts s ss) r h = ap numbers_of_form (digits_are (t.more_subscripts s ss) h.0) ∙ list_numbers (t.more_subscripts s ss)

pub section_rank : (ss : t.Subscripts) (r : ℕ) → IsSection ss r → triplets (digits (form_of ss r)) ≡ r
section_rank t.no_subscripts r h = (whole_numbers r h).1
section_rank (t.more_subscripts s ss) r h = ap triplets (digits_are (t.more_subscripts s ss) h.0) ∙ (list_triplets (t.more_subscripts s ss) ∙ h.1)

-- and of an element by single subscripts
pub element_digits : (es : t.Expressions) → count_of es ≤ 3 → (numbers_of_form (digits (element_form es)) ≡ count_of es) × (triplets (digits (element_form es)) ≡ 0)
element_digits t.no_expressions h = (refl, refl)
element_digits (t.more_expressions x t.no_expressions) h = (refl, refl)
element_digits (t.more_expressions x (t.more_expressions y t.no_expressions)) h = (refl, refl)
element_digits (t.more_expressions x (t.more_expressions y (t.more_expressions z t.no_expressions))) h = (refl, refl)
element_digits (t.more_expressions x (t.more_expressions y (t.more_expressions z (t.more_expressions w es)))) h = absurd (omega arith)
