-- How many numbers the subscripts of a form are.
use Rattle.std.proofs.Common.{◌≡◌, ℕ, zero, suc, ◌+◌, ◌/◌, ◌%◌, List, [], refl, ap, ◌∙◌, arith}
use Rattle.image_acts.specs.Places.{numbers_in, numbers_of_form, digits, with_digit}

-- a digit of 0 is no subscript
with_one : (d : ℕ) (ds : List ℕ) → numbers_of_form (with_digit d ds) ≡ numbers_in d + numbers_of_form ds
with_one zero ds = omega arith
with_one (suc d) ds = refl

pub in_form : (form : ℕ) → numbers_of_form (digits form) ≡ numbers_in (form % 10) + (numbers_in ((form / 10) % 10) + numbers_in ((form / 100) % 10))
in_form form =
    let a = form % 10 in
    let b = (form / 10) % 10 in
    let c = (form / 100) % 10 in
    let last : numbers_of_form (with_digit c []) ≡ numbers_in c = with_one c [] ∙ omega arith in
    with_one a (with_digit b (with_digit c [])) ∙ ap (λ k. numbers_in a + k) (with_one b (with_digit c []) ∙ ap (λ k. numbers_in b + k) last)
