-- How many numbers the section subscripts of a form are, and how many the place is that they name.
use Rattle.std.proofs.Common.{◌≡◌, ℕ, zero, suc, ◌+◌, ◌-◌, ◌*◌, ◌/◌, ◌%◌, ◌≤◌, ℤ, pos, ◌+ℤ◌, ◌*ℤ◌, Bool, true, false, ◌&&◌, ◌||◌, cond, List, [], ◌∷◌, length, drop, refl, ap, ◌∙◌, arith}
use Rattle.std.specs.Prelude.{Option, Some, None, ◌==◌, unwrap_or}
use Rattle.std.specs.Ordering.{int_eq}
use Rattle.caf_base.specs.Arithmetic.{is_within, iterations}
use Rattle.coarray_types.specs.Places.{extent_of}
use Rattle.walk_theory.specs.Terms.{Found, found, at_fault, with_found}
use Rattle.image_acts.specs.Core.{Own}
use Rattle.image_acts.specs.Places.{Subscript, single, triplet, apart_by, Dimension, Place, numbers_in, numbers_of_form, digits, with_digit, triplets, dimension, dimensions, steps_of, dims_numbers, no_place, place_numbers, place_size, place_within, subscripts_in}
use Rattle.array_places.specs.Sections.{numbers_of}
use Rattle.array_places.proofs.Found.{found_steps}
use Rattle.coarray_tables.specs.Sections.{own_place}

-- a digit of 0 is no subscript
with_one : (d : ℕ) (ds : List ℕ) → numbers_of_form (with_digit d ds) ≡ numbers_in d + numbers_of_form ds
with_one zero ds = omega arith
with_one (suc d) ds = refl

pub in_form : (form : ℕ) → numbers_of_form (digits form) ≡ numbers_in (form % 10) + (numbers_in ((form / 10) % 10) + numbers_in ((form / 100) % 10))
in_form form =
    let a = form % 10 in
    let b = (form / 10) % 10 in
    let c = (form / 100) % 10 in
    let last : numbers_of_form (with_digit c []) ≡ numbers_in c = with_one c [] ∙ omega arith in
    with_one a (with_digit b (with_digit c [])) ∙ ap (λ k. numbers_in a + k) (with_one b (with_digit c []) ∙ ap (λ k. numbers_in b + k) last)

-- a subscript is no dimension of the section, and a triplet is one
abbrev kept : Subscript → Bool
kept (single s) = false
kept (triplet f l s) = true

abbrev one_where : Bool → ℕ
one_where b = cond b 1 0

abbrev one_unless : Bool → ℕ
one_unless b = cond b 0 1

abbrev kept_in : List Subscript → ℕ
kept_in [] = 0
kept_in (s ∷ ss) = one_where (kept s) + kept_in ss

kept_by : (b : Bool) (x : ℤ) (f l s : Option ℤ) → one_where (kept (cond b (single x) (triplet f l s))) ≡ one_unless b
kept_by true x f l s = refl
kept_by false x f l s = refl

as_triplets : (ds : List ℕ) (vs : List ℤ) → kept_in (subscripts_in ds vs) ≡ triplets ds
as_triplets [] vs = refl
as_triplets (d ∷ ds) vs =
    ap (λ (n : ℕ). n + kept_in (subscripts_in ds (drop (numbers_in d) vs))) (kept_by (d == 1) _ _ _ _) ∙ ap (λ (n : ℕ). one_unless (d == 1) + n) (as_triplets ds (drop (numbers_in d) vs))

-- what was found of one dimension, and of one after another
chosen : (t : Bool) (x d : Dimension) (k : ℕ) → cond t (found x) (at_fault k) ≡ found d → d ≡ x
chosen true x d k e = cc
chosen false x d k e = absurd (cc)

past : (t : Bool) (x : Found Dimension) (d : Dimension) (k : ℕ) → cond t (at_fault k) x ≡ found d → x ≡ found d
past true x d k e = absurd (cc)
past false x d k e = e

dimension_kept : (b : ℤ × ℤ) (s : Subscript) (d : Dimension) → dimension b s ≡ found d → d.is_kept ≡ kept s
dimension_kept b (single s) d e = ap (λ (x : Dimension). x.is_kept) (chosen (is_within b.0 b.1 s) _ d 3 e)
dimension_kept b (triplet f l s) d e =
    let first = unwrap_or f b.0 in
    let stride = unwrap_or s (pos 1) in
    let n = iterations first (unwrap_or l b.1) stride in
    ap (λ (x : Dimension). x.is_kept)
    (chosen ((n == 0) || (is_within b.0 b.1 first && is_within b.0 b.1 (first +ℤ (pos (n - 1) *ℤ stride)))) (record { first = first; count = n; stride = apart_by n stride; is_kept = true }) d 3 (past (int_eq stride (pos 0)) _ d 4 e))

split : (x : Found Dimension) (y : Found (List Dimension)) (ds : List Dimension) → with_found x (λ d. with_found y (λ es. found (d ∷ es))) ≡ found ds
    → (d : Dimension) × (es : List Dimension) × (x ≡ found d) × (y ≡ found es) × (ds ≡ d ∷ es)
split (found d) (found es) ds e = (d, es, refl, refl, cc)
split (found d) (at_fault k) ds e = absurd (cc)
split (at_fault k) y ds e = absurd (cc)

one_more : (b : Bool) (x : ℕ × ℤ) (xs : List (ℕ × ℤ)) (n : ℕ) → length (dims_numbers xs) ≡ 2 * n → length (dims_numbers (cond b (x ∷ xs) xs)) ≡ 2 * (one_where b + n)
one_more true x xs n h = omega arith
one_more false x xs n h = omega arith

steps_many : (bs : List (ℤ × ℤ)) (ss : List Subscript) (ds : List Dimension) (w : ℕ) → dimensions bs ss ≡ found ds → length (dims_numbers (steps_of w bs ds)) ≡ 2 * kept_in ss
steps_many [] [] ds w e = refl
steps_many [] (s ∷ ss) ds w e = absurd (cc)
steps_many (b ∷ bs) [] ds w e = absurd (cc)
steps_many (b ∷ bs) (s ∷ ss) ds w e =
    let p = split (dimension b s) (dimensions bs ss) ds e in
    let n = w * extent_of b in
    let x : ℕ × ℤ = (p.0.count, pos w *ℤ p.0.stride) in
    let h : length (dims_numbers (steps_of n bs p.1)) ≡ 2 * kept_in ss = steps_many bs ss p.1 n p.3 in
    ap (λ (es : List Dimension). length (dims_numbers (steps_of w (b ∷ bs) es))) p.4 ∙ one_more p.0.is_kept x (steps_of n bs p.1) (kept_in ss) h
    ∙ ap (λ (t : Bool). 2 * (one_where t + kept_in ss)) (dimension_kept b s p.0 p.2)

place_by : (bs : List (ℤ × ℤ)) (ss : List Subscript) (ps : List ℤ) (x : Found Place) → place_within bs ss ≡ x → numbers_of x ≡ found ps → length ps ≡ 1 + 2 * kept_in ss
place_by bs ss ps (found p) a e =
    let q : ps ≡ place_numbers p = cc in
    let y = found_steps bs ss p a in
    let h : length (dims_numbers (steps_of 1 bs y.0)) ≡ 2 * kept_in ss = steps_many bs ss y.0 1 y.1 in
    let n = y.2 in
    ap length q ∙ omega arith
place_by bs ss ps (at_fault k) a e = absurd (cc)

nowhere : (n : ℕ) → length (place_numbers (no_place n)) ≡ 1 + 2 * n
nowhere zero = refl
nowhere (suc n) = let h : length (place_numbers (no_place n)) ≡ 1 + 2 * n = nowhere n in omega arith

place_many : (o : Option Own) (ds : List ℕ) (vs ps : List ℤ) → numbers_of (own_place o ds vs) ≡ found ps → length ps ≡ place_size (triplets ds)
place_many None ds vs ps e = let q : ps ≡ place_numbers (no_place (triplets ds)) = cc in ap length q ∙ nowhere (triplets ds)
place_many (Some o) ds vs ps e =
    let ss = subscripts_in ds vs in
    place_by o.bounds ss ps (place_within o.bounds ss) refl e
    ∙ ap (λ (n : ℕ). 1 + 2 * n) (as_triplets ds vs)

-- so many numbers as there is room for
pub place_fits : (o : Option Own) (form : ℕ) (vs ps : List ℤ) (n size most : ℕ) → numbers_of (own_place o (digits form) vs) ≡ found ps → n ≡ numbers_of_form (digits form)
    → size + place_size (triplets (digits form)) ≤ most + numbers_of_form (digits form) → size + length ps ≤ most + n
place_fits o form vs ps n size most e h l = let k = place_many o (digits form) vs ps e in omega arith
