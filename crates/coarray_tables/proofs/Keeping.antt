-- Bounds as numbers, and coarrays as they are kept.
use Rattle.std.proofs.Common.{◌≡◌, ◌∙◌, ℕ, zero, suc, ◌+◌, ◌-◌, ◌*◌, ◌/◌, ℤ, Bool, true, false, cond, List, [], ◌∷◌, take, length, refl, sym, ap, arith}
use Rattle.std.specs.Prelude.{Option, Some, None, nat_le, slice_get, slice_set}
use Rattle.std.specs.Option.{option_map}
use Rattle.std.proofs.lemmas.List.{map-set}
use Rattle.coarray_types.specs.Places.{size_of}
use Rattle.image_acts.specs.Frames.{joined, pairs_in, pairs_numbers}
use Rattle.image_acts.specs.Owning.{lowers_in, extents_in}
use Rattle.image_acts.specs.Statuses.{most_cells}
use Rattle.image_acts.specs.Core.{Own}
use Rattle.array_places.specs.Images.{numbered_in}
use Rattle.coarray_tables.specs.Owns.{Owned, own_at, own_of, owns_of, noted_in, freed, freed_own, with_own}
use Rattle.coarray_tables.specs.declared.shape.Shape.{Shape}

two_more : (n : ℕ) → (suc (suc n) / 2) * 2 ≡ suc (suc ((n / 2) * 2))
two_more n = omega arith

-- the numbers of whole pairs
pub whole : (vs : List ℤ) → take ((length vs / 2) * 2) vs ≡ pairs_numbers (pairs_in vs)
whole [] = refl
whole (l ∷ []) = refl
whole (l ∷ u ∷ vs) = ap (λ (n : ℕ). take n (l ∷ u ∷ vs)) (two_more (length vs)) ∙ ap (λ (ws : List ℤ). l ∷ u ∷ ws) (whole vs)

pub pairs_again : (bs : List (ℤ × ℤ)) → pairs_in (pairs_numbers bs) ≡ bs
pairs_again [] = refl
pairs_again (b ∷ bs) = ap (λ (cs : List (ℤ × ℤ)). b ∷ cs) (pairs_again bs)

pub number_behind : (ss : List ℤ) (n : ℕ) → (n ≡ 0 → ⊥) → slice_get ss (n - 1) ≡ numbered_in ss n
number_behind ss zero h = absurd (h refl)
number_behind ss (suc n) h = let e : suc n - 1 ≡ n = omega arith in ap (slice_get ss) e

-- a coarray more, or less
pub owns_set : (ss : List (Option Shape)) (k : ℕ) (s : Option Shape) → owns_of (slice_set ss k s) ≡ slice_set (owns_of ss) k (option_map own_of s)
owns_set ss k s = map-set (option_map own_of) ss k s

fitting : (b : Bool) (m n : ℕ) (x : ℕ → Owned) → Some n ≡ cond b (Some m) None → cond b (Some (x m)) None ≡ Some (x n)
fitting true m n x e = let f : m ≡ n = cc in ap (λ (k : ℕ). Some (x k)) f
fitting false m n x e = absurd (cc)

pub noted_is : (ss new : List (Option Shape)) (cells n k t : ℕ) (bs cs bv cv : List ℤ) → bv ≡ bs → cv ≡ cs
    → Some n ≡ cond (nat_le (cells + size_of (pairs_in bs)) most_cells) (Some (cells + size_of (pairs_in bs))) None → new ≡ slice_set ss k (Some (record { bounds = bv; cobounds = cv; team = t }))
    → noted_in (record { coarrays = owns_of ss; cells = cells }) k (pairs_in bs) cs t ≡ Some (record { coarrays = owns_of new; cells = n })
noted_is ss new cells n k t bs cs bv cv p q e f =
    let o : Own = record { bounds = pairs_in bs; lowers = lowers_in cs; extents = extents_in cs; team = t } in
    let a : Owned = record { coarrays = owns_of ss; cells = cells } in
    let s : Shape = record { bounds = bs; cobounds = cs; team = t } in
    let g : new ≡ slice_set ss k (Some s) =
    f ∙ ap (λ (vs : List ℤ). slice_set ss k (Some (record { bounds = vs; cobounds = cv; team = t }))) p ∙ ap (λ (vs : List ℤ). slice_set ss k (Some (record { bounds = bs; cobounds = vs; team = t }))) q in
    fitting (nat_le (cells + size_of (pairs_in bs)) most_cells) (cells + size_of (pairs_in bs)) n (λ m. with_own a k (Some o) m) e
    ∙ ap (λ (os : List (Option Own)). Some (record { coarrays = os; cells = n })) (sym (owns_set ss k (Some s)) ∙ ap owns_of (sym g))

pub own_get : (ss : List (Option Shape)) (k : ℕ) → own_at (owns_of ss) k ≡ option_map own_of (joined (slice_get ss k))
own_get [] k = refl
own_get (None ∷ ss) zero = refl
own_get (Some s ∷ ss) zero = refl
own_get (s ∷ ss) (suc k) = own_get ss k

pub freed_is : (ss new : List (Option Shape)) (cells n k : ℕ) (s : Shape) → joined (slice_get ss k) ≡ Some s → n ≡ cells - size_of (pairs_in s.bounds) → new ≡ slice_set ss k None
    → freed (record { coarrays = owns_of ss; cells = cells }) k ≡ Some (record { coarrays = owns_of new; cells = n })
freed_is ss new cells n k s h e f =
    let a : Owned = record { coarrays = owns_of ss; cells = cells } in
    ap (freed_own a k) (own_get ss k ∙ ap (option_map own_of) h)
    ∙ ap (λ (os : List (Option Own)). Some (record { coarrays = os; cells = cells - size_of (pairs_in s.bounds) })) (sym (owns_set ss k None) ∙ ap owns_of (sym f))
    ∙ ap (λ (m : ℕ). Some (record { coarrays = owns_of new; cells = m })) (sym e)
