-- Each element of a shape has a place of its own below the size, and each place below the size has an element.
use Rattle.std.proofs.Common.{◌≡◌, ℕ, zero, suc, ◌+◌, ◌*◌, ◌/◌, ◌%◌, ◌<◌, ◌≤◌, ℤ, pos, ◌+ℤ◌, ◌≤ℤ◌, Bool, true, false, cond, List, [], ◌∷◌, length, get_or, refl, sym, ap, ap₂, ◌∙◌, arith, subst}
use Rattle.std.specs.Int.RustNames.{int_lt}
use Rattle.std.proofs.lemmas.Int.{ints}
use Rattle.coarray_types.specs.Distances.{distance}
use Rattle.coarray_types.specs.Places.{extent_of, size_of, AllWithin, subscript_order}
use Rattle.coarray_types.proofs.Parts.{tail_of, tail_of-cons}
use Rattle.coarray_types.proofs.DigitLemmas.{digit-below, digit_same, rest_same, digit_split, rest-below}
use Rattle.coarray_types.proofs.DistanceLemmas.{distance_order, distance-add, add-up, add-within, distance_same}

-- the extent, where the upper bound isn't below the lower one
pub extent_is : (l u : ℤ) → l ≤ℤ u → extent_of (l, u) ≡ distance l u + 1
extent_is l u h = let e : int_lt u l ≡ false = grind (arith, ints) in ap (λ b. cond b 0 (distance l u + 1)) e

-- a subscript within its bounds is less than the extent away from the lower one
pub within-below : (l u s : ℤ) → l ≤ℤ s → s ≤ℤ u → distance l s < extent_of (l, u)
within-below l u s a b =
    let o : l ≤ℤ u = omega (arith, ints) in
    let d : distance l s ≤ distance l u = distance_order l s u a b in
    let e : extent_of (l, u) ≡ distance l u + 1 = extent_is l u o in
    subst (λ n. distance l s < n) (sym e) (omega (arith, d))

-- a dimension with a place has its upper bound not below its lower one
pub bounds_of-place : (l u : ℤ) (n : ℕ) → n < extent_of (l, u) → (l ≤ℤ u) × (n ≤ distance l u)
bounds_of-place l u n = go (int_lt u l) refl where
  go : (b : Bool) → int_lt u l ≡ b → n < cond b 0 (distance l u + 1) → (l ≤ℤ u) × (n ≤ distance l u)
  go true e h = absurd (omega arith)
  go false e h = (grind (arith, ints), omega arith)

-- each element's place is below the size
pub subscript_order-below : (ds : List (ℤ × ℤ)) (ss : List ℤ) → AllWithin ds ss → subscript_order ds ss < size_of ds
subscript_order-below [] [] w = omega arith
subscript_order-below [] (s ∷ ss) w = absurd w
subscript_order-below (d ∷ ds) [] w = absurd w
subscript_order-below (d ∷ ds) (s ∷ ss) w =
    digit-below (distance d.0 s) (extent_of d) (subscript_order ds ss) (size_of ds) (within-below d.0 d.1 s w.0 w.1) (subscript_order-below ds ss w.2)

-- elements with the same place are the same
pub subscript_order-once : (ds : List (ℤ × ℤ)) (ss ts : List ℤ) → AllWithin ds ss → AllWithin ds ts → subscript_order ds ss ≡ subscript_order ds ts → ss ≡ ts
subscript_order-once [] [] [] v w e = refl
subscript_order-once [] [] (t ∷ ts) v w e = absurd w
subscript_order-once [] (s ∷ ss) ts v w e = absurd v
subscript_order-once (d ∷ ds) [] ts v w e = absurd v
subscript_order-once (d ∷ ds) (s ∷ ss) [] v w e = absurd w
subscript_order-once (d ∷ ds) (s ∷ ss) (t ∷ ts) v w e =
    let a : distance d.0 s < extent_of d = within-below d.0 d.1 s v.0 v.1 in
    let b : distance d.0 t < extent_of d = within-below d.0 d.1 t w.0 w.1 in
    let same : distance d.0 s ≡ distance d.0 t = digit_same (distance d.0 s) (distance d.0 t) (extent_of d) (subscript_order ds ss) (subscript_order ds ts) a b e in
    let rest : subscript_order ds ss ≡ subscript_order ds ts = rest_same (distance d.0 s) (distance d.0 t) (extent_of d) (subscript_order ds ss) (subscript_order ds ts) a b e in
    ap₂ (λ x xs. x ∷ xs) (distance_same d.0 s t v.0 w.0 same) (subscript_order-once ds ss ts v.2 w.2 rest)

-- a product above a number has two factors above 0
first-pos : (e c n : ℕ) → n < e * c → 0 < e
first-pos zero c n h = absurd (omega arith)
first-pos (suc e) c n h = omega arith

-- each place below the size is an element's
pub subscript_order-each : (ds : List (ℤ × ℤ)) (n : ℕ) → n < size_of ds → (ss : List ℤ) × AllWithin ds ss × (subscript_order ds ss ≡ n)
subscript_order-each [] n h = ([], tt, omega arith)
subscript_order-each (d ∷ ds) n h =
    let e : 0 < extent_of d = first-pos (extent_of d) (size_of ds) n h in
    let r : n % extent_of d < extent_of d = omega arith in
    let b = bounds_of-place d.0 d.1 (n % extent_of d) r in
    let rest = subscript_order-each ds (n / extent_of d) (rest-below n (extent_of d) (size_of ds) e h) in
    let s : ℤ = d.0 +ℤ pos (n % extent_of d) in (
      s ∷ rest.0,
      (add-up d.0 (n % extent_of d), add-within d.0 d.1 (n % extent_of d) b.0 b.1, rest.1),
      ap₂ (λ x y. x + extent_of d * y) (distance-add d.0 (n % extent_of d)) rest.2 ∙ digit_split n (extent_of d) e,
    )

-- one dimension more: what `offset_of` needs of it
pub record OffsetStep (dims : List (ℤ × ℤ)) (subs : List ℤ) (l u s : ℤ) (rest : ℕ) : Type 0 where
  pub digit : distance l s < distance l u + 1
  pub small : distance l u + 1 ≤ 65536
  pub within : AllWithin dims subs
  pub place : distance l s + (distance l u + 1) * rest ≡ subscript_order dims subs
  pub below : distance l s + (distance l u + 1) * rest < size_of dims

-- an extent is at most its product with a number above another
extent-le : (e c r : ℕ) → r < c → e * c ≤ 65536 → e ≤ 65536
extent-le e zero r h b = absurd (omega arith)
extent-le e (suc c) r h b = omega arith

pub offset_step : (dims : List (ℤ × ℤ)) (subs : List ℤ) (rest : ℕ) → 1 ≤ length dims → 1 ≤ length subs → (get_or dims 0 (pos 0, pos 0)).0 ≤ℤ get_or subs 0 (pos 0) → get_or subs 0 (pos 0) ≤ℤ (get_or dims 0 (pos 0, pos 0)).1 → AllWithin (tail_of dims) (tail_of subs) → rest ≡ subscript_order (tail_of dims) (tail_of subs) → size_of dims ≤ 65536 → OffsetStep dims subs (get_or dims 0 (pos 0, pos 0)).0 (get_or dims 0 (pos 0, pos 0)).1 (get_or subs 0 (pos 0)) rest
offset_step [] subs rest hd hs lo hi w e cells = absurd (omega arith)
offset_step (d ∷ ds) [] rest hd hs lo hi w e cells = absurd (omega arith)
offset_step (d ∷ ds) (s ∷ ss) rest hd hs lo hi w e cells =
    let o : d.0 ≤ℤ d.1 = omega (arith, ints) in
    let x : extent_of d ≡ distance d.0 d.1 + 1 = extent_is d.0 d.1 o in
    let v = subst (λ es. AllWithin es ss) (tail_of-cons d ds) (subst (λ ts. AllWithin (tail_of (d ∷ ds)) ts) (tail_of-cons s ss) w) in
    let p : rest ≡ subscript_order ds ss = e ∙ ap₂ subscript_order (tail_of-cons d ds) (tail_of-cons s ss) in
    let b : subscript_order ds ss < size_of ds = subscript_order-below ds ss v in
    let all : AllWithin (d ∷ ds) (s ∷ ss) = (lo, hi, v) in
    let m : distance d.0 s + (distance d.0 d.1 + 1) * rest ≡ subscript_order (d ∷ ds) (s ∷ ss) = ap₂ (λ k r. distance d.0 s + k * r) (sym x) p in
    record {
      digit = subst (λ n. distance d.0 s < n) x (within-below d.0 d.1 s lo hi);
      small = subst (λ n. n ≤ 65536) x (extent-le (extent_of d) (size_of ds) (subscript_order ds ss) b cells);
      within = all;
      place = m;
      below = subst (λ n. n < size_of (d ∷ ds)) (sym m) (subscript_order-below (d ∷ ds) (s ∷ ss) all);
    }
