-- A place has as many numbers as the subscripts of its dimensions say.
use Rattle.std.proofs.Common.{◌≡◌, ◌∙◌, ℕ, suc, ◌*◌, ℤ, pos, ◌*ℤ◌, Bool, true, false, cond, List, [], ◌∷◌, length, refl, sym, ap, ◌⊎◌, inl, inr}
use Rattle.std.specs.Prelude.{nat_lt}
use Rattle.coarray_types.specs.Places.{extent_of}
use Rattle.walk_theory.specs.Terms.{Found, found, at_fault, with_found}
use Rattle.image_acts.specs.Faults.{room}
use Rattle.image_acts.specs.Places.{Place, Subscript, Dimension, dimension, dimensions, start_of, steps_of, resting, dims_numbers, place_of, place_within, spread_of, is_empty, empty_place}

split : (x : Found Dimension) (y : Found (List Dimension)) (ds : List Dimension) → with_found x (λ d. with_found y (λ es. found (d ∷ es))) ≡ found ds
    → (d : Dimension) × (es : List Dimension) × (x ≡ found d) × (y ≡ found es) × (ds ≡ d ∷ es)
split (found d) (found es) ds e = (d, es, refl, refl, cc)
split (found d) (at_fault k) ds e = cc
split (at_fault k) y ds e = cc

both_many : (k : Bool) (x y : ℕ × ℤ) (xs ys : List (ℕ × ℤ)) → length (dims_numbers xs) ≡ length (dims_numbers ys) → length (dims_numbers (cond k (x ∷ xs) xs)) ≡ length (dims_numbers (cond k (y ∷ ys) ys))
both_many true x y xs ys h = ap (λ n. suc (suc n)) h
both_many false x y xs ys h = h

-- a place without cells has a count and a step for each dimension too
resting_many : (w : ℕ) (bs : List (ℤ × ℤ)) (ss : List Subscript) (ds : List Dimension) → dimensions bs ss ≡ found ds → length (dims_numbers (resting ds)) ≡ length (dims_numbers (steps_of w bs ds))
resting_many w [] [] ds e = (let k : ds ≡ [] = cc in ap (λ es. length (dims_numbers (resting es))) k)
resting_many w [] (s ∷ ss) ds e = cc
resting_many w (b ∷ bs) [] ds e = cc
resting_many w (b ∷ bs) (s ∷ ss) ds e =
    let p = split (dimension b s) (dimensions bs ss) ds e in
    ap (λ es. length (dims_numbers (resting es))) p.4
    ∙ (both_many p.0.is_kept (p.0.count, pos 0) (p.0.count, pos w *ℤ p.0.stride) (resting p.1) (steps_of (w * extent_of b) bs p.1) (resting_many (w * extent_of b) bs ss p.1 p.3)
    ∙ sym (ap (λ es. length (dims_numbers (steps_of w (b ∷ bs) es))) p.4))

either : (t u : Bool) (x y : Found Place) (p : Place) (k : ℕ) → cond t x (cond u y (at_fault k)) ≡ found p → (x ≡ found p) ⊎ (y ≡ found p)
either true u x y p k e = inl e
either false true x y p k e = inr e
either false false x y p k e = cc

abbrev HasSteps : List (ℤ × ℤ) → List Subscript → Place → Type 0
HasSteps bs ss p = (ds : List Dimension) × (dimensions bs ss ≡ found ds) × (length (dims_numbers p.dims) ≡ length (dims_numbers (steps_of 1 bs ds)))

pub found_steps : (bs : List (ℤ × ℤ)) (ss : List Subscript) (p : Place) → place_within bs ss ≡ found p
    → (ds : List Dimension) × (dimensions bs ss ≡ found ds) × (length (dims_numbers p.dims) ≡ length (dims_numbers (steps_of 1 bs ds)))
found_steps bs ss p e = go (dimensions bs ss) refl (either (nat_lt (spread_of bs) 9223372036854775808) (is_empty bs) (place_of bs ss) (empty_place bs ss) p room e) where
  go : (x : Found (List Dimension)) → dimensions bs ss ≡ x
      → (with_found x (λ ds. found (record { start = start_of 1 bs ds; dims = steps_of 1 bs ds })) ≡ found p) ⊎ (with_found x (λ ds. found (record { start = pos 0; dims = resting ds })) ≡ found p) → HasSteps bs ss p
  go (found ds) a (inl h) = (let q : p ≡ record { start = start_of 1 bs ds; dims = steps_of 1 bs ds } = cc in (ds, a, ap (λ (r : Place). length (dims_numbers r.dims)) q))
  go (found ds) a (inr h) = (let q : p ≡ record { start = pos 0; dims = resting ds } = cc in (ds, a, ap (λ (r : Place). length (dims_numbers r.dims)) q ∙ resting_many 1 bs ss ds a))
  go (at_fault k) a (inl h) = cc
  go (at_fault k) a (inr h) = cc
