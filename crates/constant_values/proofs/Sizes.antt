-- Sizes that 128 bits may not hold.
use Rattle.std.proofs.Common.{◌≡◌, ◌≢◌, ℕ, zero, suc, ◌-◌, ◌*◌, ◌^◌, ◌<◌, ◌≤◌, Bool, true, false, List, [], ◌∷◌, length, get_or, take, drop, refl, sym, ap, ◌∙◌, arith}
use Rattle.std.specs.Prelude.{ℤ, pos, min, nat_le, nat_eq, Option, Some, None, slice_get}
use Rattle.std.proofs.lemmas.Grind.{common_steps}
use Rattle.std.proofs.Math.Nat.{le-mul_of_pos_right, mul_comm}
use Rattle.coarray_types.specs.Places.{extent_of, size_of}
use Rattle.checked_tree.specs.declared.data.DataType.TheVariants.{Intrinsic}
use Rattle.caf_base.specs.declared.value.Kind.TheVariants.{I4}
use Rattle.rule_definitions.specs.Names.{KnownBounds}
use Rattle.rule_definitions.specs.Judgements.{made, item_at}
use Rattle.rule_definitions.specs.Constants.{with_first, all_bounds, known_size, in_type, size_constant}
use Rattle.constant_values.proofs.Lists.{front_of}
use Rattle.constant_values.specs.Sizes.{capped, with_extent}

abbrev least : ℕ → ℕ → ℕ
least M n = min n M

above : (M a b : ℕ) → M ≤ a → 0 < b → M ≤ a * b
above M a b h p = let k : a ≤ a * b = le-mul_of_pos_right a p in omega (arith, h, k)

whole : (M n : ℕ) → M ≤ n → least M n ≡ M
whole M n h = omega arith

part : (M n : ℕ) → n < M → least M n ≡ n
part M n h = omega arith

-- a product of which one factor is at the limit
high : (M a b : ℕ) → 0 < M → M ≤ a → least M (least M a * least M b) ≡ least M (a * b)
high M a zero p h = grind (arith, common_steps)
high M a (suc b) p h =
    let k : 0 < least M (suc b) = omega arith in
    let l : M ≤ least M a = omega arith in
    let s : 0 < suc b = omega arith in
    whole M (least M a * least M (suc b)) (above M (least M a) (least M (suc b)) l k)
    ∙ sym (whole M (a * suc b) (above M a (suc b) h s))

low : (M a b : ℕ) → a < M → b < M → least M (least M a * least M b) ≡ least M (a * b)
low M a b h k = ap (λ n. least M (n * least M b)) (part M a h) ∙ ap (λ n. least M (a * n)) (part M b k)

by_tests : (M a b : ℕ) (s t : Bool) → 0 < M → nat_le M a ≡ s → nat_le M b ≡ t → least M (least M a * least M b) ≡ least M (a * b)
by_tests M a b true t p h k = let l : M ≤ a = grind (arith, common_steps) in high M a b p l
by_tests M a b false true p h k =
    let l : M ≤ b = grind (arith, common_steps) in
    ap (least M) (mul_comm (least M a) (least M b)) ∙ high M b a p l ∙ ap (least M) (mul_comm b a)
by_tests M a b false false p h k =
    let l : a < M = grind (arith, common_steps) in
    let m : b < M = grind (arith, common_steps) in
    low M a b l m

pub capped_product : (a b : ℕ) → min (capped a * capped b) 340282366920938463463374607431768211455 ≡ capped (a * b)
capped_product a b =
    let p : 0 < 340282366920938463463374607431768211455 = omega arith in
    by_tests 340282366920938463463374607431768211455 a b (nat_le 340282366920938463463374607431768211455 a) (nat_le 340282366920938463463374607431768211455 b) p refl refl

with_all : (d : ℤ × ℤ) (o : Option (List (ℤ × ℤ))) → made capped (made size_of (with_first d o)) ≡ with_extent (Some d) (made capped (made size_of o))
with_all d None = refl
with_all d (Some ds) = ap Some (sym (capped_product (extent_of d) (size_of ds)))

-- a dimension more
pub size_more : (b : KnownBounds) (bs : List KnownBounds) → made capped (known_size (b ∷ bs)) ≡ with_extent b (made capped (known_size bs))
size_more None bs = refl
size_more (Some d) bs = with_all d (all_bounds bs)

-- a number that is below the limit is itself
pub not_capped : (n m : ℕ) → n ≡ capped m → n < 2 ^ 127 → n ≡ m
not_capped n m e h = omega (arith, e, h)

pub item_is : {T : Type 0} (xs : List T) (k : ℕ) → item_at xs k ≡ slice_get xs k
item_is [] k = refl
item_is (x ∷ xs) zero = refl
item_is (x ∷ xs) (suc k) = item_is xs k

size_known : (n : ℕ) (t : Bool) → nat_le 340282366920938463463374607431768211455 n ≡ t → in_type (Intrinsic I4) (pos (capped n)) ≡ in_type (Intrinsic I4) (pos n)
size_known n true h = grind (arith, common_steps)
size_known n false h = let e : capped n ≡ n = grind (arith, common_steps) in ap (λ k. in_type (Intrinsic I4) (pos k)) e

-- a size that 128 bits can't hold is none of kind 4
pub size_capped : (o : Option ℕ) → size_constant (made capped o) ≡ size_constant o
size_capped None = refl
size_capped (Some n) = size_known n (nat_le 340282366920938463463374607431768211455 n) refl

agree_capped : (a b : ℕ) (t : Bool) → a ≤ 2 ^ 64 → nat_le 340282366920938463463374607431768211455 b ≡ t → nat_eq a (capped b) ≡ nat_eq a b
agree_capped a b true h k = grind (arith, common_steps)
agree_capped a b false h k = let e : capped b ≡ b = grind (arith, common_steps) in ap (nat_eq a) e

-- whether extents agree
pub extents_capped : (a b : ℕ) → a ≤ 2 ^ 64 → nat_eq a (capped b) ≡ nat_eq a b
extents_capped a b h = agree_capped a b (nat_le 340282366920938463463374607431768211455 b) h refl

pub size_front : (bs : List KnownBounds) → 1 ≤ length bs → with_extent (get_or bs 0 None) (made capped (known_size (take (length bs - 1) (drop 1 bs)))) ≡ made capped (known_size bs)
size_front bs h =
    sym (size_more (get_or bs 0 None) (take (length bs - 1) (drop 1 bs))) ∙ ap (λ l. made capped (known_size l)) (front_of bs None h)

-- a size that isn't at the limit is itself
pub exact_size : (o p : Option ℕ) → p ≡ made capped o → (p ≡ Some 340282366920938463463374607431768211455 → ⊥) → p ≡ o
exact_size None p e h = e
exact_size (Some n) p e h =
    let k : capped n ≢ 340282366920938463463374607431768211455 = λ q. h (e ∙ ap Some q) in
    e ∙ ap Some (omega (arith, k))

-- a number that 64 bits can hold isn't capped
pub below_limit : (n m : ℕ) → n ≡ capped m → n < 2 ^ 64 → n ≡ m
below_limit n m e h = omega (arith, e, h)

pub within_capped : (i n : ℕ) → i < capped n → i < n
within_capped i n h = omega (arith, h)

pub beyond_capped : (i n : ℕ) → i < 2 ^ 64 → capped n ≤ i → n ≤ i
beyond_capped i n f h = omega (arith, f, h)
