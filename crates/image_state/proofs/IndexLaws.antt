-- Array values of image indices.
use Rattle.std.proofs.Common.{◌≡◌, ℕ, zero, suc, ◌<◌, ◌≤◌, pos, List, [], ◌∷◌, length, take, ◌⊎◌, inl, inr, refl, ap, sym, ◌∙◌, arith}
use Rattle.std.specs.Prelude.{map, min}
use Rattle.std.proofs.lemmas.List.{length-take}
use Rattle.caf_base.specs.declared.value.Value.{Value}
use Rattle.caf_base.specs.Arithmetic.{number_of}

take_map : (n : ℕ) (ns : List ℕ) → map (λ n. pos n) (take n ns) ≡ take n (map (λ n. pos n) ns)
take_map zero ns = refl
take_map (suc n) [] = refl
take_map (suc n) (x ∷ ns) = ap (λ xs. pos x ∷ xs) (take_map n ns)

take_over : {X : Type 0} (n : ℕ) (xs : List X) → length xs ≤ n → take n xs ≡ take (length xs) xs
take_over zero [] h = refl
take_over zero (x ∷ xs) h = absurd (omega arith)
take_over (suc n) [] h = refl
take_over (suc n) (x ∷ xs) h = ap (λ ys. x ∷ ys) (take_over n xs (omega arith))

order : (a b : ℕ) → (a ≤ b) ⊎ (b < a)
order zero b = inl (omega arith)
order (suc a) zero = inr (omega arith)
order (suc a) (suc b) = elim (order a b) [ inl l ↦ inl (omega arith) | inr l ↦ inr (omega arith) ]

pub take_kept : (n : ℕ) (ns : List ℕ) → map (λ n. pos n) (take (min (length ns) n) ns) ≡ take n (map (λ n. pos n) ns)
take_kept n ns = elim (order (length ns) n) [
  | inl l ↦ (let e : min (length ns) n ≡ length ns = omega arith in ap (λ j. map (λ n. pos n) (take j ns)) e ∙ ap (map (λ n. pos n)) (sym (take_over n ns l)) ∙ take_map n ns)
  | inr l ↦ (let e : min (length ns) n ≡ n = omega arith in ap (λ j. map (λ n. pos n) (take j ns)) e ∙ take_map n ns)
]

pub take_within : (n m : ℕ) (ns : List ℕ) → length (take (min m n) ns) ≤ n
take_within n m ns = (let l = length-take (min m n) ns in omega arith)

-- the same of values
values_map : (n : ℕ) (vs : List Value) → map number_of (take n vs) ≡ take n (map number_of vs)
values_map zero vs = refl
values_map (suc n) [] = refl
values_map (suc n) (x ∷ vs) = ap (λ xs. number_of x ∷ xs) (values_map n vs)

pub values_kept : (n : ℕ) (vs : List Value) → map number_of (take (min (length vs) n) vs) ≡ take n (map number_of vs)
values_kept n vs = elim (order (length vs) n) [
  | inl l ↦ (let e : min (length vs) n ≡ length vs = omega arith in ap (λ j. map number_of (take j vs)) e ∙ ap (map number_of) (sym (take_over n vs l)) ∙ values_map n vs)
  | inr l ↦ (let e : min (length vs) n ≡ n = omega arith in ap (λ j. map number_of (take j vs)) e ∙ values_map n vs)
]

pub values_within : (n m : ℕ) (vs : List Value) → length (take (min m n) vs) ≤ n
values_within n m vs = (let l = length-take (min m n) vs in omega arith)
