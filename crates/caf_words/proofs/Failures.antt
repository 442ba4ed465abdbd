-- A failure's word is cut at its `@`.
use Rattle.std.proofs.Common.{◌≡◌, ◌≢◌, ℕ, suc, ◌<◌, ◌^◌, List, [], ◌∷◌, ◌++◌, length, get_or, Option, Bor, MatchOption, refl, sym, ap, ◌∙◌, arith}
use Rattle.std.specs.Fmt.{decimal}
use Rattle.std.proofs.lemmas.Fmt.{digits_decimal, decimal_injective}
use Rattle.std.proofs.lemmas.Str.Parse.{not_in_digits}
use Rattle.std.proofs.lemmas.Str.Pattern.{IsSplitOnceResult, split_after}
use Rattle.caf_words.specs.declared.command.FailAt.{FailAt}
use Rattle.caf_words.specs.Words.{IsFailure}
use Rattle.caf_words.proofs.Numbers.{digits}

-- no `@` stands in a number
no_at : (n : ℕ) → n < 2 ^ 64 → (i : ℕ) → i < length (decimal n) → get_or (decimal n) i 0 ≢ 64
no_at n small = not_in_digits digits (decimal n) 64 (digits_decimal digits n small) (λ within. omega (arith, within))

pub split_failure : (word : List ℕ) (r : Option (Bor (List ℕ) × Bor (List ℕ))) → IsSplitOnceResult 64 word r → (f : FailAt) → IsFailure word f → MatchOption r ⊥ (λ x. (x.0.now ≡ decimal f.image) × (x.1.now ≡ decimal f.step))
split_failure word r is f failure = split_after 64 word (decimal f.image) (decimal f.step) r is (omega arith) failure.form (no_at f.image (omega (arith, failure.most_image)))

-- a text is cut at its first such byte in one way
record SameCut (xs ys xs' ys' : List ℕ) : Type 0 where
  pub front : xs ≡ xs'
  pub back : ys ≡ ys'

abbrev HasNo : ℕ → List ℕ → Type 0
HasNo c xs = (i : ℕ) → i < length xs → get_or xs i 0 ≢ c

cut_once : (c : ℕ) (xs ys xs' ys' : List ℕ) → HasNo c xs → HasNo c xs' → xs ++ c ∷ ys ≡ xs' ++ c ∷ ys' → SameCut xs ys xs' ys'
cut_once c [] ys [] ys' none none' e = record { front = refl; back = cc e }
cut_once c [] ys (x ∷ xs') ys' none none' e = let same : c ≡ x = cc e in absurd (none' 0 (omega arith) (sym same))
cut_once c (x ∷ xs) ys [] ys' none none' e = let same : x ≡ c = cc e in absurd (none 0 (omega arith) same)
cut_once c (x ∷ xs) ys (x' ∷ xs') ys' none none' e =
    let first : x ≡ x' = cc e in
    let rest : xs ++ c ∷ ys ≡ xs' ++ c ∷ ys' = cc e in
    let cut = cut_once c xs ys xs' ys' (λ i low. none (suc i) (omega arith)) (λ i low. none' (suc i) (omega arith)) rest in
    record { front = cc (first, cut.front); back = cut.back }

abbrev failure : ℕ → ℕ → FailAt
failure i s = record { image = i; step = s }

-- a word tells one failure
pub one_failure : (word : List ℕ) (f f' : FailAt) → IsFailure word f → IsFailure word f' → f ≡ f'
one_failure word f f' first second =
    let cut = cut_once 64 (decimal f.image) (decimal f.step) (decimal f'.image) (decimal f'.step) (no_at f.image (omega (arith, first.most_image))) (no_at f'.image (omega (arith, second.most_image)))
    (sym first.form ∙ second.form) in
    let image : f.image ≡ f'.image = decimal_injective f.image f'.image (omega (arith, first.most_image)) (omega (arith, second.most_image)) cut.front in
    let step : f.step ≡ f'.step = decimal_injective f.step f'.step (omega (arith, first.most_step)) (omega (arith, second.most_step)) cut.back in
    ap (λ i. failure i f.step) image ∙ ap (λ s. failure f'.image s) step
