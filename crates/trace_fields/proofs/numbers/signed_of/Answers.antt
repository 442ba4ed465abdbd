use Rattle.std.proofs.Common.{◌≡◌, ℕ, suc, ◌-◌, ◌<◌, pos, negsuc, true, List, [], ◌∷◌, length, take}
use Rattle.std.proofs.Common.{drop, get_or, ap, sym, ◌∙◌, arith, take_all, decimal, true≢false}
use Rattle.std.specs.List.{list_all}
use Rattle.trace_forms.specs.Names.{is_digit_byte}
use Rattle.trace_forms.proofs.Cuts.{and_first}
use Rattle.trace_forms.proofs.Decimals.{digits_of_number, some_of_number}
use Rattle.trace_fields.proofs.Parts.{passed}
use Rattle.trace_fields.proofs.numbers.signed_of.Goals as goal

no_minus : (xs : List ℕ) → list_all is_digit_byte xs ≡ true → 0 < length xs → get_or xs 0 0 ≡ 45 → ⊥
no_minus [] h some e = omega arith
no_minus (x ∷ xs) h some e = true≢false (sym (and_first (is_digit_byte x) _ h) ∙ ap is_digit_byte e)

behind_minus : (f ds : List ℕ) → f ≡ 45 ∷ ds → take (length f - 1) (drop 1 f) ≡ ds
behind_minus f ds e =
    let n : suc (length ds) - 1 ≡ length ds = omega arith in
    ap (λ z. take (length z - 1) (drop 1 z)) e ∙ take_all (suc (length ds) - 1) ds (omega arith)

pub returns-then-field-eq45 : goal.returns-then-field-eq45
returns-then-field-eq45 c (pos n) h is =
    let digits = digits_of_number n (omega arith) in
    let some = some_of_number n (omega arith) in
    absurd (no_minus (decimal n) digits some (ap (λ z. get_or z 0 0) (sym is) ∙ c.if-field-eq45.true))
returns-then-field-eq45 c (negsuc n) h is = passed (negsuc n) _ h (c.negative_of.ensures n h
    (behind_minus c.args.field.now (decimal (suc n)) is))
