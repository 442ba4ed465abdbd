-- The index that cosubscripts name.
use Rattle.std.proofs.Common.{◌≡◌, refl, ap, sym, subst, ℕ, ◌+◌, ◌<◌, ◌≤◌, ℤ, Bool, true, false, ◌&&◌, cond, List, [], ◌∷◌, arith}
use Rattle.std.specs.Prelude.{T, int_le, nat_le, nat_lt, unsigned_abs}
use Rattle.std.specs.Int.Signed.{le_z_yes}
use Rattle.std.proofs.lemmas.Float.{T_from_true}
use Rattle.std.proofs.lemmas.Bool.{ltb-true, lt-ltb, leb-true, leb-false, and_from}
use Rattle.coarray_types.specs.Distances.{distance}
use Rattle.coarray_types.specs.Coplaces.{AllWithinCobounds, image_order, Names}
use Rattle.image_acts.specs.Core.{Own}
use Rattle.image_acts.specs.Teams.{has_none, are_within_cobounds, index_of}

pub left_one : (a b : Bool) → (a && b) ≡ true → a ≡ true
left_one true b h = refl
left_one false b h = cc

pub right_one : (a b : Bool) → (a && b) ≡ true → b ≡ true
right_one true b h = h
right_one false b h = cc

none_of : (vs : List ℤ) → has_none vs ≡ true → vs ≡ []
none_of [] h = refl
none_of (v ∷ vs) h = cc

within : (ls es ss : List ℤ) → are_within_cobounds ls es ss ≡ true → AllWithinCobounds ls es ss
within [] es ss h = cc
within (l ∷ ls) es [] h = cc
within (l ∷ ls) [] (s ∷ ss) h =
    let k = right_one (int_le l s) (has_none ls && has_none ss) h in
    (le_z_yes (T_from_true (int_le l s) (left_one (int_le l s) (has_none ls && has_none ss) h)), none_of ls (left_one (has_none ls) (has_none ss) k), none_of ss (right_one (has_none ls) (has_none ss) k))
within (l ∷ ls) (e ∷ es) (s ∷ ss) h =
    let k = right_one (int_le l s) (nat_lt (distance l s) (unsigned_abs e) && are_within_cobounds ls es ss) h in (
      le_z_yes (T_from_true (int_le l s) (left_one (int_le l s) (nat_lt (distance l s) (unsigned_abs e) && are_within_cobounds ls es ss) h)),
      ltb-true (distance l s) (unsigned_abs e) (left_one (nat_lt (distance l s) (unsigned_abs e)) (are_within_cobounds ls es ss) k),
      within ls es ss (right_one (nat_lt (distance l s) (unsigned_abs e)) (are_within_cobounds ls es ss) k),
    )

true_from : (b : Bool) → T b → b ≡ true
true_from true h = refl
true_from false h = absurd h

within_tells : (ls es ss : List ℤ) → AllWithinCobounds ls es ss → are_within_cobounds ls es ss ≡ true
within_tells [] es ss h = absurd h
within_tells (l ∷ ls) es [] h = absurd h
within_tells (l ∷ ls) [] (s ∷ ss) h = and_from (int_le l s) (has_none ls && has_none ss) (true_from (int_le l s) h.0.le) (and_from (has_none ls) (has_none ss) (ap has_none h.1) (ap has_none h.2))
within_tells (l ∷ ls) (e ∷ es) (s ∷ ss) h =
    and_from (int_le l s) (nat_lt (distance l s) (unsigned_abs e) && are_within_cobounds ls es ss) (true_from (int_le l s) h.0.le)
    (and_from (nat_lt (distance l s) (unsigned_abs e)) (are_within_cobounds ls es ss) (lt-ltb (distance l s) (unsigned_abs e) h.1) (within_tells ls es ss h.2))

-- a number that is taken where two tests hold
both_hold : (b c : Bool) (i : ℕ) → 0 < cond b (cond c i 0) 0 → (b ≡ true) × (c ≡ true) × (cond b (cond c i 0) 0 ≡ i)
both_hold true true i h = (refl, refl, refl)
both_hold true false i h = let none : ⊥ = omega arith in absurd none
both_hold false c i h = let none : ⊥ = omega arith in absurd none

-- the index is that of the image that the cosubscripts name
pub index_names : (o : Own) (ss : List ℤ) (n : ℕ) → 0 < index_of o ss n → Names o.lowers o.extents ss (index_of o ss n) × (index_of o ss n ≤ n)
index_names o ss n h =
    let i = image_order o.lowers o.extents ss + 1 in
    let p = both_hold (are_within_cobounds o.lowers o.extents ss) (nat_le i n) i h in
    (record { within = within o.lowers o.extents ss p.0; index = p.2 }, subst (λ k. k ≤ n) (sym p.2) (leb-true i n p.1))

not_taken : (b c : Bool) (k : ℕ) → b ≡ true → cond b (cond c (k + 1) 0) 0 ≡ 0 → c ≡ false
not_taken true true k h e = let none : ⊥ = omega arith in absurd none
not_taken true false k h e = refl
not_taken false c k h e = cc

-- and 0 where they name none of them
pub no_index : (o : Own) (ss : List ℤ) (n : ℕ) → index_of o ss n ≡ 0 → (i : ℕ) → Names o.lowers o.extents ss i → n < i
no_index o ss n h i names =
    let k = image_order o.lowers o.extents ss in
    subst (λ j. n < j) (sym names.index) (leb-false (k + 1) n (not_taken (are_within_cobounds o.lowers o.extents ss) (nat_le (k + 1) n) k (within_tells o.lowers o.extents ss names.within) h))
