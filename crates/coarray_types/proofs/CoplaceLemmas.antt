-- Cosubscripts and the images that they name belong to each other.
use Rattle.std.proofs.Common.{◌≡◌, ℕ, ◌+◌, ◌*◌, ◌/◌, ◌%◌, ◌-◌, ◌<◌, ◌≤◌, ℤ, pos, ◌+ℤ◌, ◌≤ℤ◌, List, [], ◌∷◌, length, take, get_or, slice_set, refl, sym, subst, ap, ap₂, ◌∙◌, arith}
use Rattle.std.specs.Int.RustNames.{unsigned_abs}
use Rattle.std.proofs.lemmas.Int.{ints}
use Rattle.coarray_types.specs.Distances.{distance}
use Rattle.coarray_types.specs.Coplaces.{HasCobounds, AllWithinCobounds, image_order, Names}
use Rattle.coarray_types.proofs.DigitLemmas.{digit_same, rest_same, digit_split}
use Rattle.coarray_types.proofs.Parts.{tail_of, tail_of-cons, take-put}
use borrow.Rule.Slice.PartMut.{put_mid}
use Rattle.coarray_types.proofs.DistanceLemmas.{distance-add, add-up, distance_same}

-- cosubscripts with the same place are the same
pub image_order-once : (ls es xs ys : List ℤ) → AllWithinCobounds ls es xs → AllWithinCobounds ls es ys → image_order ls es xs ≡ image_order ls es ys → xs ≡ ys
image_order-once [] es xs ys v w e = absurd v
image_order-once (l ∷ ls) es [] ys v w e = absurd v
image_order-once (l ∷ ls) es (a ∷ xs) [] v w e = absurd w
image_order-once (l ∷ ls) [] (a ∷ xs) (b ∷ ys) v w e =
    ap₂ (λ h t. h ∷ t) (distance_same l a b v.0 w.0 e) (v.2 ∙ sym w.2)
image_order-once (l ∷ ls) (e ∷ es) (a ∷ xs) (b ∷ ys) v w h =
    ap₂ (λ h t. h ∷ t)
    (distance_same l a b v.0 w.0 (digit_same (distance l a) (distance l b) (unsigned_abs e) (image_order ls es xs) (image_order ls es ys) v.1 w.1 h))
    (image_order-once ls es xs ys v.2 w.2 (rest_same (distance l a) (distance l b) (unsigned_abs e) (image_order ls es xs) (image_order ls es ys) v.1 w.1 h))

-- a coextent is at least 1
pub coextent-pos : (e : ℤ) → pos 1 ≤ℤ e → 0 < unsigned_abs e
coextent-pos e h = omega (arith, ints)

-- each place has cosubscripts
pub image_order-each : (ls es : List ℤ) (n : ℕ) → HasCobounds ls es → (cs : List ℤ) × AllWithinCobounds ls es cs × (image_order ls es cs ≡ n)
image_order-each [] es n h = absurd h
image_order-each (l ∷ ls) [] n h = ((l +ℤ pos n) ∷ [], (add-up l n, h.1, refl), distance-add l n)
image_order-each (l ∷ ls) (e ∷ es) n h =
    let p : 0 < unsigned_abs e = coextent-pos e h.1 in
    let r : n % unsigned_abs e < unsigned_abs e = omega arith in
    let rest = image_order-each ls es (n / unsigned_abs e) h.3 in
    let same = distance-add l (n % unsigned_abs e) in (
      (l +ℤ pos (n % unsigned_abs e)) ∷ rest.0,
      (add-up l (n % unsigned_abs e), subst (λ x. x < unsigned_abs e) (sym same) r, rest.1),
      ap₂ (λ x y. x + unsigned_abs e * y) same rest.2 ∙ digit_split n (unsigned_abs e) p,
    )

-- each image has cosubscripts that name it
pub named-each : (ls es : List ℤ) (image : ℕ) → HasCobounds ls es → 1 ≤ image → (cs : List ℤ) × Names ls es cs image
named-each ls es image h p =
    let found = image_order-each ls es (image - 1) h in
    let back : image_order ls es found.0 ≡ image - 1 = found.2 in
    (found.0, record { within = found.1; index = omega arith })

-- no two lists of cosubscripts name the same image
pub named-once : (ls es xs ys : List ℤ) (image : ℕ) → Names ls es xs image → Names ls es ys image → xs ≡ ys
named-once ls es xs ys image v w =
    let same : image_order ls es xs ≡ image_order ls es ys = omega (arith, v.index, w.index) in
    image_order-once ls es xs ys v.within w.within same

-- one codimension more: the cosubscripts of a place
pub cosubscripts_step : (ls es subs rest : List ℤ) (j place : ℕ) (c : ℤ) → 1 ≤ length ls → 1 ≤ length es → length ls ≤ length subs → length ls ≤ length rest + 1 → HasCobounds ls es → c ≡ get_or ls 0 (pos 0) +ℤ pos (place % unsigned_abs (get_or es 0 (pos 0))) → AllWithinCobounds (tail_of ls) (tail_of es) (take (length (tail_of ls)) rest) → image_order (tail_of ls) (tail_of es) (take (length (tail_of ls)) rest) ≡ place / unsigned_abs (get_or es 0 (pos 0)) → AllWithinCobounds ls es (take (length ls) (put_mid 1 j (slice_set subs 0 c) rest)) × (image_order ls es (take (length ls) (put_mid 1 j (slice_set subs 0 c) rest)) ≡ place)
cosubscripts_step [] es subs rest j place c hl he hs hr cobounds at within back = absurd (omega arith)
cosubscripts_step (l ∷ ls) [] subs rest j place c hl he hs hr cobounds at within back = absurd (omega arith)
cosubscripts_step (l ∷ ls) (e ∷ es) subs rest j place c hl he hs hr cobounds at within back =
    let p : 0 < unsigned_abs e = coextent-pos e cobounds.1 in
    let r : place % unsigned_abs e < unsigned_abs e = omega arith in
    let some : 1 ≤ length subs = omega arith in
    let few : length ls ≤ length rest = omega arith in
    let front : take (length (l ∷ ls)) (put_mid 1 j (slice_set subs 0 c) rest) ≡ c ∷ take (length ls) rest = take-put subs rest j (length ls) c some few in
    let tl = tail_of-cons l ls in
    let te = tail_of-cons e es in
    let v : AllWithinCobounds ls es (take (length ls) rest) = subst (λ xs. AllWithinCobounds xs es (take (length xs) rest)) tl (subst (λ ys. AllWithinCobounds (tail_of (l ∷ ls)) ys (take (length (tail_of (l ∷ ls))) rest)) te within) in
    let b : image_order ls es (take (length ls) rest) ≡ place / unsigned_abs e = sym (ap₂ (λ xs ys. image_order xs ys (take (length xs) rest)) tl te) ∙ back in
    let d : distance l c ≡ place % unsigned_abs e = ap (distance l) at ∙ distance-add l (place % unsigned_abs e) in
    let low : l ≤ℤ c = subst (λ z. l ≤ℤ z) (sym at) (add-up l (place % unsigned_abs e)) in
    let below : distance l c < unsigned_abs e = subst (λ n. n < unsigned_abs e) (sym d) r in
    let all : AllWithinCobounds (l ∷ ls) (e ∷ es) (c ∷ take (length ls) rest) = (low, below, v) in (
      subst (λ xs. AllWithinCobounds (l ∷ ls) (e ∷ es) xs) (sym front) all,
      ap (image_order (l ∷ ls) (e ∷ es)) front ∙ (ap₂ (λ x y. x + unsigned_abs e * y) d b ∙ digit_split place (unsigned_abs e) p),
    )
