-- The way to a place, dimension by dimension.
use Rattle.std.proofs.Common.{◌≡◌, ◌∙◌, ℕ, zero, suc, ◌+◌, ◌*◌, ◌^◌, ◌<◌, ◌≤◌, ◌==◌, max, min, ℤ, pos, ◌+ℤ◌, ◌-ℤ◌, ◌*ℤ◌, ◌≤ℤ◌, Bool, true, false, cond, List, [], ◌∷◌, ◌++◌, drop, length, refl, sym, ap, subst, arith, append_assoc}
use Rattle.std.specs.Prelude.{unsigned_abs}
use Rattle.std.proofs.lemmas.Int.{ints}
use Rattle.std.proofs.Math.Nat.{mul-le-mul_left, mul-le-mul_right, mul_assoc}
use Rattle.coarray_types.specs.Distances.{distance}
use Rattle.coarray_types.specs.Places.{extent_of, size_of}
use Rattle.walk_theory.specs.Terms.{Found, found, at_fault, with_found}
use Rattle.image_acts.specs.Frames.{pairs_in}
use Rattle.image_acts.specs.Places.{Subscript, Dimension, dimension, dimensions, start_of, steps_of, dims_numbers, subscripts_in, with_digit, numbers_in, spread_of}
use Rattle.array_places.specs.declared.triplet.Subscripts.{Subscripts}
use Rattle.array_places.specs.Sections.{Lies, Fine, numbers_from, seen, subscript_in}
use Rattle.array_places.proofs.Counting.{capped_times}
use Rattle.array_places.proofs.Subscripts.{extent_is, grows, grows_right}

-- the first subscript is below the extent
pub dist_below : (l u f : ℤ) → l ≤ℤ f → f ≤ℤ u → distance l f + 1 ≤ extent_of (l, u)
dist_below l u f a b =
    let o : l ≤ℤ u = omega (arith, ints) in
    let e = extent_is l u o in
    let d : unsigned_abs (f -ℤ l) ≤ unsigned_abs (u -ℤ l) = omega (arith, ints) in
    omega arith

at_most : (a s e D : ℕ) → s < a → D + 1 ≤ e → s + a * D < a * e
at_most a s e D h g =
    let m : a * (D + 1) ≤ a * e = mul-le-mul_left a g in
    let n : a * (D + 1) ≡ a * D + a = grind arith in
    omega arith

pub start_small : (a s e D : ℕ) → (0 < a → s < a) → s < 2 ^ 63 → a * max 1 e < 2 ^ 63 → D + 1 ≤ e → s + a * D < 2 ^ 63
start_small zero s e D h g w d = let z : 0 * D ≡ 0 = grind arith in omega arith
start_small (suc a) s e D h g w d =
    let m : max 1 e ≡ e = omega arith in
    let v : suc a * e < 2 ^ 63 = subst (λ (k : ℕ). suc a * k < 2 ^ 63) m w in
    let b = at_most (suc a) s e D (h (omega arith)) d in
    omega arith

some_factor : (a e : ℕ) → 0 < a * e → 0 < a
some_factor zero e h = absurd (grind arith)
some_factor (suc a) e h = omega arith

some_right : (a e : ℕ) → 0 < a * e → 0 < e
some_right a zero h = absurd (grind arith)
some_right a (suc e) h = omega arith

pub start_less : (a s e D : ℕ) → (0 < a → s < a) → D + 1 ≤ e → 0 < a * e → s + a * D < a * e
start_less a s e D h d p = at_most a s e D (h (some_factor a e p)) d

pub start_stays : (a s e : ℕ) → (0 < a → s < a) → 0 < a * e → s < a * e
start_stays a s e h p =
    let b = h (some_factor a e p) in
    let g = grows a e (some_right a e p) in
    omega arith

-- the start of a dimension's subscripts
module _ (l u : ℤ) (d : Subscripts) (a s t : ℕ) (i : Lies l u d) (less : 0 < a → s < a) (near : t ≡ cond (d.count == 0) s (s + a * distance l d.first)) where
  pub first_fits : s < 2 ^ 63 → a * max 1 (extent_of (l, u)) < 2 ^ 63 → 0 < d.count → s + a * distance l d.first < 2 ^ 63
  first_fits g w h = let b = i.inside h in start_small a s (extent_of (l, u)) (distance l d.first) less g w (dist_below l u d.first b.0 b.1)

  to_less : (c : Bool) → (d.count == 0) ≡ c → 0 < a * extent_of (l, u) → cond c s (s + a * distance l d.first) < a * extent_of (l, u)
  to_less true e p = start_stays a s (extent_of (l, u)) less p
  to_less false e p =
      let some : 0 < d.count = grind arith in
      let b = i.inside some in
      start_less a s (extent_of (l, u)) (distance l d.first) less (dist_below l u d.first b.0 b.1) p

  pub new_less : 0 < a * extent_of (l, u) → t < a * extent_of (l, u)
  new_less p = subst (λ (k : ℕ). k < a * extent_of (l, u)) (sym near) (to_less (d.count == 0) refl p)

  to_small : (c : Bool) → (d.count == 0) ≡ c → s < 2 ^ 63 → a * max 1 (extent_of (l, u)) < 2 ^ 63 → cond c s (s + a * distance l d.first) < 2 ^ 63
  to_small true e g w = g
  to_small false e g w = let some : 0 < d.count = grind arith in first_fits g w some

  pub new_small : s < 2 ^ 63 → a * max 1 (extent_of (l, u)) < 2 ^ 63 → t < 2 ^ 63
  new_small g w = subst (λ (k : ℕ). k < 2 ^ 63) (sym near) (to_small (d.count == 0) refl g w)

-- what is spread over the dimensions that are left
pub spread_some : (bs : List (ℤ × ℤ)) → 0 < spread_of bs
spread_some [] = omega arith
spread_some (b ∷ bs) =
    let h = spread_some bs in
    let g = grows_right (max 1 (extent_of b)) (spread_of bs) (omega arith) in
    omega arith

module _ (l u : ℤ) (a s : ℕ) (ns bounds rest : List ℤ) (split : bounds ≡ l ∷ u ∷ rest) (f : Fine a s ns (pairs_in bounds)) where
  all_spread : max 1 (extent_of (l, u)) * spread_of (pairs_in rest) < 2 ^ 63
  all_spread = subst (λ (v : List ℤ). spread_of (pairs_in v) < 2 ^ 63) split f.spread

  all_wide : a * (max 1 (extent_of (l, u)) * spread_of (pairs_in rest)) < 2 ^ 63
  all_wide = subst (λ (v : List ℤ). a * spread_of (pairs_in v) < 2 ^ 63) split f.wide

  pub extent_small : extent_of (l, u) < 2 ^ 63
  extent_small =
      let h = all_spread in
      let g = grows (max 1 (extent_of (l, u))) (spread_of (pairs_in rest)) (spread_some (pairs_in rest)) in
      omega arith

  pub wide_here : a * max 1 (extent_of (l, u)) < 2 ^ 63
  wide_here =
      let h = all_wide in
      let g = grows (a * max 1 (extent_of (l, u))) (spread_of (pairs_in rest)) (spread_some (pairs_in rest)) in
      let e = mul_assoc a (max 1 (extent_of (l, u))) (spread_of (pairs_in rest)) in
      omega arith

  wide_behind : (b : ℕ) → b ≡ a * extent_of (l, u) → b * spread_of (pairs_in rest) < 2 ^ 63
  wide_behind b e =
      let h = all_wide in
      let m : extent_of (l, u) * spread_of (pairs_in rest) ≤ max 1 (extent_of (l, u)) * spread_of (pairs_in rest) = mul-le-mul_right (spread_of (pairs_in rest)) (omega arith) in
      let g : a * (extent_of (l, u) * spread_of (pairs_in rest)) ≤ a * (max 1 (extent_of (l, u)) * spread_of (pairs_in rest)) = mul-le-mul_left a m in
      let f = ap (λ (k : ℕ). k * spread_of (pairs_in rest)) e ∙ mul_assoc a (extent_of (l, u)) (spread_of (pairs_in rest)) in
      omega arith

  pub fine_behind : (b t : ℕ) (ms : List ℤ) → b ≡ a * extent_of (l, u) → (0 < b → t < b) → t < 2 ^ 63 → 0 < length ms → Fine b t ms (pairs_in rest)
  fine_behind b t ms e less small some = record {
    less = less;
    small = small;
    wide = wide_behind b e;
    spread =
        let h = all_spread in
        let g = grows_right (max 1 (extent_of (l, u))) (spread_of (pairs_in rest)) (omega arith) in
        omega arith;
    some = some;
  }

-- the numbers of a place with a dimension more
summed : (a b c : ℤ) → a +ℤ (b +ℤ c) ≡ (a +ℤ b) +ℤ c
summed a b c = omega (arith, ints)

kept_behind : (k : Bool) (x y : ℤ) (ns rs : List ℤ) → 0 < length ns → drop 1 ns ++ cond k (x ∷ y ∷ rs) rs ≡ drop 1 (cond k (ns ++ x ∷ y ∷ []) ns) ++ rs
kept_behind k x y [] rs h = absurd (omega arith)
kept_behind true x y (n ∷ ns) rs h = sym (append_assoc ns (x ∷ y ∷ []) rs)
kept_behind false x y (n ∷ ns) rs h = refl

numbers_kept : (k : Bool) (n : ℕ) (st : ℤ) (es : List (ℕ × ℤ)) → dims_numbers (cond k ((n, st) ∷ es) es) ≡ cond k (pos n ∷ st ∷ dims_numbers es) (dims_numbers es)
numbers_kept true n st es = refl
numbers_kept false n st es = refl

module _ (a b s t : ℕ) (ns ms : List ℤ) (l u : ℤ) (d : Subscripts)
    (far : b ≡ a * extent_of (l, u)) (start : pos t ≡ pos s +ℤ cond (d.count == 0) (pos 0) (pos a *ℤ (d.first -ℤ l)))
    (place : ms ≡ cond d.is_kept (ns ++ pos d.count ∷ (pos a *ℤ d.stride) ∷ []) ns) (some : 0 < length ns) where
  one_behind : (bs : List (ℤ × ℤ)) (x : Found (List Dimension))
      → with_found (with_found x (λ ds. found (seen d ∷ ds))) (λ ds. found ((pos s +ℤ start_of a ((l, u) ∷ bs) ds) ∷ (drop 1 ns ++ dims_numbers (steps_of a ((l, u) ∷ bs) ds))))
      ≡ with_found x (λ ds. found ((pos t +ℤ start_of b bs ds) ∷ (drop 1 ms ++ dims_numbers (steps_of b bs ds))))
  one_behind bs (at_fault k) = refl
  one_behind bs (found ds) =
      let rs = dims_numbers (steps_of (a * extent_of (l, u)) bs ds) in
      let first = summed (pos s) (cond (d.count == 0) (pos 0) (pos a *ℤ (d.first -ℤ l))) (start_of (a * extent_of (l, u)) bs ds) in
      let p = ap (λ (v : List ℤ). drop 1 ns ++ v) (numbers_kept d.is_kept d.count (pos a *ℤ d.stride) (steps_of (a * extent_of (l, u)) bs ds)) ∙ kept_behind d.is_kept (pos d.count) (pos a *ℤ d.stride) ns rs some in
      ap (λ (v : ℤ). found (v ∷ (drop 1 ns ++ dims_numbers (steps_of a ((l, u) ∷ bs) (seen d ∷ ds))))) (first ∙ ap (λ (v : ℤ). v +ℤ start_of (a * extent_of (l, u)) bs ds) (sym start))
      ∙ ap (λ (v : List ℤ). found ((pos t +ℤ start_of (a * extent_of (l, u)) bs ds) ∷ v)) (p ∙ ap (λ (v : List ℤ). drop 1 v ++ rs) (sym place))
      ∙ ap (λ (k : ℕ). found ((pos t +ℤ start_of k bs ds) ∷ (drop 1 ms ++ dims_numbers (steps_of k bs ds)))) (sym far)

  pub goes_on : (bs : List (ℤ × ℤ)) (sub : Subscript) (ss : List Subscript) → found (seen d) ≡ dimension (l, u) sub
      → numbers_from a s ns ((l, u) ∷ bs) (sub ∷ ss) ≡ numbers_from b t ms bs ss
  goes_on bs sub ss e =
      ap (λ (x : Found Dimension). with_found (with_found x (λ y. with_found (dimensions bs ss) (λ ds. found (y ∷ ds)))) (λ ds. found ((pos s +ℤ start_of a ((l, u) ∷ bs) ds) ∷ (drop 1 ns ++ dims_numbers (steps_of a ((l, u) ∷ bs) ds))))) (sym e)
      ∙ one_behind bs (dimensions bs ss)

pub digit_subscripts : (d : ℕ) (ds : List ℕ) (vs : List ℤ) → (d ≡ 0 → ⊥) → subscripts_in (with_digit d ds) vs ≡ subscript_in d vs ∷ subscripts_in ds (drop (numbers_in d) vs)
digit_subscripts zero ds vs h = absurd (h refl)
digit_subscripts (suc d) ds vs h = refl

pub place_some : (k : Bool) (x y : ℤ) (ns ms : List ℤ) → 0 < length ns → ms ≡ cond k (ns ++ x ∷ y ∷ []) ns → 0 < length ms
place_some k x y [] ms h e = absurd (omega arith)
place_some true x y (n ∷ ns) ms h e = rw e (omega arith)
place_some false x y (n ∷ ns) ms h e = rw e (omega arith)

-- the same as the size, where there is an element
extent_some : (e r : ℕ) → 0 < e * r → max 1 e ≡ e
extent_some zero r h = absurd (grind arith)
extent_some (suc e) r h = omega arith

rest_some : (e r : ℕ) → 0 < e * r → 0 < r
rest_some e zero h = absurd (grind arith)
rest_some e (suc r) h = omega arith

pub spread_size : (bs : List (ℤ × ℤ)) → 0 < size_of bs → spread_of bs ≡ size_of bs
spread_size [] h = refl
spread_size (b ∷ bs) h =
    ap (λ (k : ℕ). k * spread_of bs) (extent_some (extent_of b) (size_of bs) h)
    ∙ ap (λ (k : ℕ). extent_of b * k) (spread_size bs (rest_some (extent_of b) (size_of bs) h))

pub spread_turn : (cells more e n most t : ℕ) (l u : ℤ) (left rest : List ℤ) → left ≡ l ∷ u ∷ rest → e ≡ extent_of (l, u) → n ≡ max 1 e → more ≡ min (cells * n) most
    → min (cells * spread_of (pairs_in left)) most ≡ t → min (more * spread_of (pairs_in rest)) most ≡ t
spread_turn cells more e n most t l u left rest s f g m i =
    ap (λ (k : ℕ). min (k * spread_of (pairs_in rest)) most) m
    ∙ capped_times cells n (spread_of (pairs_in rest)) most
    ∙ ap (λ (k : ℕ). min (cells * (k * spread_of (pairs_in rest))) most) (g ∙ ap (max 1) f)
    ∙ ap (λ (v : List ℤ). min (cells * spread_of (pairs_in v)) most) (sym s)
    ∙ i
