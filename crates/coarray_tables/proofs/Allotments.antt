-- Coarrays of an ALLOCATE statement.
use Rattle.std.proofs.Common.{◌≡◌, ◌∙◌, ℕ, ℤ, pos, ◌+ℤ◌, ◌-ℤ◌, List, [], ◌∷◌, ◌++◌, refl, sym, ap, arith}
use Rattle.std.specs.Prelude.{Option, Some, None}
use Rattle.std.proofs.lemmas.Int.{ints}
use Rattle.caf_events.specs.declared.round.Allotted.{Allotted}
use Rattle.image_acts.specs.Core.{Own}
use Rattle.image_acts.specs.Frames.{pairs_in}
use Rattle.image_acts.specs.Owning.{lowers_in, extents_in}
use Rattle.image_acts.specs.Words.{word}
use Rattle.coarray_tables.specs.Owns.{own_at, own_of, last_from}
use Rattle.coarray_tables.specs.Asks.{allotment, allotted, allotted_as, codims_of, last_of}
use Rattle.coarray_tables.specs.declared.shape.Shape.{Shape}

upper_again : (l u : ℤ) → (l +ℤ ((u -ℤ l) +ℤ pos 1)) -ℤ pos 1 ≡ u
upper_again l u = omega (arith, ints)

pub codims_are : (vs : List ℤ) → codims_of (lowers_in vs) (extents_in vs) ≡ pairs_in vs
codims_are [] = refl
codims_are (l ∷ []) = refl
codims_are (l ∷ u ∷ vs) = ap (λ (v : ℤ). (l, v) ∷ codims_of (lowers_in vs) (extents_in vs)) (upper_again l u) ∙ ap (λ (ps : List (ℤ × ℤ)). (l, u) ∷ ps) (codims_are vs)

pub last_is : (ls : List ℤ) → last_from (pos 1) ls ≡ last_of ls
last_is [] = refl
last_is (l ∷ []) = refl
last_is (l ∷ m ∷ ms) = last_is (m ∷ ms)

by_own : (k : ℕ) (o : Option Own) (xs : List Allotted) → elim (allotted k o) [ [] ↦ xs | y ∷ ys ↦ y ∷ xs ] ≡ allotted k o ++ xs
by_own k None xs = refl
by_own k (Some o) xs = refl

pub allotment_more : (os : List (Option Own)) (k : ℤ) (ks : List ℤ) → allotment os (k ∷ ks) ≡ allotted (word k) (own_at os (word k)) ++ allotment os ks
allotment_more os k ks = by_own (word k) (own_at os (word k)) (allotment os ks)

pub allotted_is : (k : ℕ) (ds es : List (ℤ × ℤ)) (l : ℤ) (s : Shape) → ds ≡ pairs_in s.bounds → es ≡ pairs_in s.cobounds → l ≡ last_from (pos 1) (lowers_in s.cobounds)
    → record { coarray = k; dims = ds; codims = es; last = l } ≡ allotted_as k (own_of s)
allotted_is k ds es l s p q r =
    let m : Allotted = record { coarray = k; dims = ds; codims = es; last = l } in
    ap (λ (v : List (ℤ × ℤ)). record m { dims = v }) p
    ∙ ap (λ (v : List (ℤ × ℤ)). record m { dims = pairs_in s.bounds; codims = v }) (q ∙ sym (codims_are s.cobounds))
    ∙ ap (λ (v : ℤ). record m { dims = pairs_in s.bounds; codims = codims_of (lowers_in s.cobounds) (extents_in s.cobounds); last = v }) (r ∙ last_is (lowers_in s.cobounds))
