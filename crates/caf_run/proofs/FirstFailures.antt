-- Failures by image.
use Rattle.std.proofs.Common.{◌≡◌, ℕ, zero, suc, ◌+◌, ◌<◌, ◌≤◌, ◌⊎◌, List, [], ◌∷◌, length, get_or, drop, Bool, true, false, cond, eqb, refl, sym, ap, ◌∙◌, inl, inr, arith}
use Rattle.std.specs.List.{AllByRecursion}
use Rattle.std.proofs.lemmas.Bool.{cases_lt}
use Rattle.std.proofs.lemmas.Bool.Decides.{nat_tests}
use Rattle.std.proofs.lemmas.List.{at_drop_more, at_drop_all, get_or_past}
use Rattle.std.proofs.lemmas.Option.{unwrap_or-slice_get}
use Rattle.lane_parts.specs.FirstLanes.{fails_at}
use Rattle.caf_words.specs.declared.command.FailAt.{FailAt}
use Rattle.caf_run.specs.Failures.{IsOfImage, earlier, first_failure}

-- events are joined in any order
pub earlier_none : (a : ℕ) → earlier a 0 ≡ a
earlier_none a = grind (arith, nat_tests)

pub earlier_joined : (a b c : ℕ) → earlier (earlier a b) c ≡ earlier a (earlier b c)
earlier_joined a b c = grind (arith, nat_tests)

-- an image that no failure is of doesn't fail
pub none_of : (fails : List FailAt) (i : ℕ) → AllByRecursion IsOfImage fails → (i ≡ 0) ⊎ (256 < i) → first_failure fails i ≡ 0
none_of [] i all odd = refl
none_of (f ∷ fails) i ((low, high), all) odd =
    let rest = none_of fails i all odd in
    elim odd [ inl none ↦ grind (arith, nat_tests) | inr above ↦ grind (arith, nat_tests) ]

-- with one failure more
pub first_more : (fails : List FailAt) (k i first : ℕ) (d : FailAt) → k < length fails
    → earlier first (first_failure (drop k fails) i) ≡ cond (eqb (get_or fails k d).image i) (earlier (earlier first (get_or fails k d).step) (first_failure (drop (k + 1) fails) i)) (earlier first (first_failure (drop (k + 1) fails) i))
first_more fails k i first d low =
    let f = get_or fails k d in
    let rest = first_failure (drop (k + 1) fails) i in
    ap (earlier first) (at_drop_more (λ l. first_failure l i) fails k d low) ∙ by_image (eqb f.image i) f.step rest
  where
    by_image : (b : Bool) (step rest : ℕ) → earlier first (cond b (earlier step rest) rest) ≡ cond b (earlier (earlier first step) rest) (earlier first rest)
    by_image true step rest = sym (earlier_joined first step rest)
    by_image false step rest = refl

pub first_all : (fails : List FailAt) (k i first : ℕ) → length fails ≤ k → earlier first (first_failure (drop k fails) i) ≡ first
first_all fails k i first all = ap (earlier first) (at_drop_all (λ l. first_failure l i) fails k all) ∙ earlier_none first

-- events by image, from image 1 on, are those of the images
pub by_images : (fails : List FailAt) (events : List ℕ) → AllByRecursion IsOfImage fails → length events ≡ 256 → ((j : ℕ) → j < 256 → get_or events j 0 ≡ first_failure fails (j + 1))
    → (i : ℕ) → fails_at events i ≡ first_failure fails i
by_images fails events all count each zero = sym (none_of fails 0 all (inl refl))
by_images fails events all count each (suc j) = elim (cases_lt j 256) [
  | inl low ↦ let next : j + 1 ≡ suc j = omega arith in unwrap_or-slice_get events j 0 ∙ (rw next at (each j low))
  | inr above ↦ unwrap_or-slice_get events j 0 ∙ get_or_past events j 0 (omega arith) ∙ sym (none_of fails (suc j) all (inr (omega arith)))
]
