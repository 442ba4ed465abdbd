-- Places among images, codimension by codimension.
use Rattle.std.proofs.Common.{◌≡◌, ◌∙◌, ℕ, zero, suc, ◌+◌, ◌-◌, ◌*◌, ◌^◌, min, ℤ, Bool, true, false, ◌&&◌, cond, List, ◌∷◌, refl, sym, ap, arith}
use Rattle.std.specs.Prelude.{Option, Some, None, int_le, nat_eq, nat_lt, unsigned_abs}
use Rattle.coarray_types.specs.Distances.{distance}
use Rattle.coarray_types.specs.Coplaces.{image_order}
use Rattle.image_acts.specs.Teams.{are_within_cobounds, index_in}
use Rattle.array_places.specs.Images.{order_found}
use Rattle.array_places.proofs.Counting.{capped}

sum_capped : (o x b c m : ℕ) → min b m ≡ min c m → min (min (o + min x m) m + b) m ≡ min (o + (x + c)) m
sum_capped o x b c m e = omega arith

times_sum : (w d e r : ℕ) → w * d + w * e * r ≡ w * (d + e * r)
times_sum w d e r = grind arith

order_more : (o w d e r m : ℕ) → min (min (o + min (w * d) m) m + min (w * e) m * r) m ≡ min (o + w * (d + e * r)) m
order_more o w d e r m = sum_capped o (w * d) (min (w * e) m * r) (w * e * r) m (capped (w * e) r m) ∙ ap (λ (k : ℕ). min (o + k) m) (times_sum w d e r)

-- one codimension more, whose digit was found or not
abbrev pub digit : (l s : ℤ) (e : ℕ) → Option ℕ
digit l s e = cond (int_le l s && nat_lt (distance l s) e) (Some (distance l s)) None

three : (a b c : Bool) → (a && b) ≡ true → (a && (b && c)) ≡ c
three true true c h = refl
three true false c h = absurd (cc)
three false b c h = absurd (cc)

given : (t : Bool) (n d : ℕ) → Some d ≡ cond t (Some n) None → (t ≡ true) × (d ≡ n)
given true n d e = (refl, cc)
given false n d e = absurd (cc)

module _ (o w : ℕ) (l e s : ℤ) (ls es ss lows more left : List ℤ) (x : lows ≡ l ∷ ls) (y : more ≡ e ∷ es) (z : left ≡ s ∷ ss) where
  split : order_found o w (l ∷ ls) (e ∷ es) (s ∷ ss) ≡ order_found o w lows more left
  split =
      ap (λ (v : List ℤ). order_found o w v (e ∷ es) (s ∷ ss)) (sym x) ∙ ap (λ (v : List ℤ). order_found o w lows v (s ∷ ss)) (sym y) ∙ ap (order_found o w lows more) (sym z)

  pub order_turn : (d p v : ℕ) → Some d ≡ digit l s (unsigned_abs e) → p ≡ min (o + min (w * d) (2 ^ 64 - 1)) (2 ^ 64 - 1) → v ≡ min (w * unsigned_abs e) (2 ^ 64 - 1)
      → order_found p v ls es ss ≡ order_found o w lows more left
  order_turn d p v h f g =
      let q = given (int_le l s && nat_lt (distance l s) (unsigned_abs e)) (distance l s) d h in
      let r = image_order ls es ss in
      ap (λ (t : Bool). cond t (Some (min (p + v * r) (2 ^ 64 - 1))) None) (sym (three (int_le l s) (nat_lt (distance l s) (unsigned_abs e)) (are_within_cobounds ls es ss) q.0))
      ∙ ap (λ (k : ℕ). cond (are_within_cobounds (l ∷ ls) (e ∷ es) (s ∷ ss)) (Some (min (k + v * r) (2 ^ 64 - 1))) None) (f ∙ ap (λ (j : ℕ). min (o + min (w * j) (2 ^ 64 - 1)) (2 ^ 64 - 1)) q.1)
      ∙ ap (λ (k : ℕ). cond (are_within_cobounds (l ∷ ls) (e ∷ es) (s ∷ ss)) (Some (min (min (o + min (w * distance l s) (2 ^ 64 - 1)) (2 ^ 64 - 1) + k * r) (2 ^ 64 - 1))) None) g
      ∙ ap (λ (k : ℕ). cond (are_within_cobounds (l ∷ ls) (e ∷ es) (s ∷ ss)) (Some k) None) (order_more o w (distance l s) (unsigned_abs e) r (2 ^ 64 - 1))
      ∙ split

-- an index behind so many members
abbrev pub behind : ℕ → ℕ → ℕ
behind b zero = 0
behind b (suc i) = b + suc i

abbrev further : ℕ → ℕ
further zero = 0
further (suc i) = suc (suc i)

behind_one : (b i : ℕ) → behind (b + 1) i ≡ behind b (further i)
behind_one b zero = refl
behind_one b (suc i) = omega arith

pub behind_none : (i : ℕ) → behind 0 i ≡ i
behind_none zero = refl
behind_none (suc i) = omega arith

module _ (b m n t : ℕ) (left rest : List ℕ) (e : left ≡ m ∷ rest) (h : behind b (index_in n left) ≡ t) where
  here : behind b (cond (nat_eq m n) 1 (further (index_in n rest))) ≡ t
  here = ap (λ (l : List ℕ). behind b (index_in n l)) (sym e) ∙ h

  pub member_found : nat_eq m n ≡ true → b + 1 ≡ t
  member_found f = ap (λ (k : Bool). behind b (cond k 1 (further (index_in n rest)))) (sym f) ∙ here

  pub member_not : nat_eq m n ≡ false → behind (b + 1) (index_in n rest) ≡ t
  member_not f = behind_one b (index_in n rest) ∙ ap (λ (k : Bool). behind b (cond k 1 (further (index_in n rest)))) (sym f) ∙ here
