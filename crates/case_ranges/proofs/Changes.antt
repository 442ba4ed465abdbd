-- What a map has after an interval was taken out or put in.
use Rattle.std.proofs.Common.{◌≡◌, ◌∙◌, ◌⊎◌, inl, inr, sym, refl, ℤ, Bool, true, false, cond, Option, Some, is_eq}
use Rattle.std.specs.BTreeMap.{BTreeMap, get}
use Rattle.std.specs.Ordering.{int_cmp}
use Rattle.std.specs.Cmp.{signed_Decides}
use Rattle.case_ranges.specs.Intervals.{Has}

-- n has w at k, and at each other key what m has
abbrev pub Turns : BTreeMap ℤ ℤ → BTreeMap ℤ ℤ → ℤ → Option ℤ → Type 0
Turns m n k w = (q : ℤ) → get int_cmp n q ≡ cond (is_eq (int_cmp k q)) w (get int_cmp m q)

same_key : (k q : ℤ) → is_eq (int_cmp k q) ≡ true → k ≡ q
same_key k q e = (signed_Decides k q).0 e

own_key : (k : ℤ) → is_eq (int_cmp k k) ≡ true
own_key k = (signed_Decides k k).1 refl

by_key : (b : Bool) (k q l : ℤ) (v w : Option ℤ) → (b ≡ true → k ≡ q) → cond b w v ≡ Some l → ((k ≡ q) × (w ≡ Some l)) ⊎ ((b ≡ false) × (v ≡ Some l))
by_key true k q l v w h e = inl (h refl, e)
by_key false k q l v w h e = inr (refl, e)

-- what is there then was there, or is the new one
pub was_there : (m n : BTreeMap ℤ ℤ) (k : ℤ) (w : Option ℤ) → Turns m n k w → (q l : ℤ) → Has n q l → ((k ≡ q) × (w ≡ Some l)) ⊎ ((is_eq (int_cmp k q) ≡ false) × Has m q l)
was_there m n k w t q l h = by_key (is_eq (int_cmp k q)) k q l (get int_cmp m q) w (same_key k q) (sym (t q) ∙ h)

by_other : (b : Bool) (k q l : ℤ) (v w : Option ℤ) → (b ≡ true → k ≡ q) → v ≡ Some l → (k ≡ q) ⊎ (cond b w v ≡ Some l)
by_other true k q l v w h e = inl (h refl)
by_other false k q l v w h e = inr e

-- what was there is there, but at k
pub stays : (m n : BTreeMap ℤ ℤ) (k : ℤ) (w : Option ℤ) → Turns m n k w → (q l : ℤ) → Has m q l → (k ≡ q) ⊎ Has n q l
stays m n k w t q l h = elim (by_other (is_eq (int_cmp k q)) k q l (get int_cmp m q) w (same_key k q) h) [ inl e ↦ inl e | inr e ↦ inr (t q ∙ e) ]

taken : (b : Bool) (v w : Option ℤ) → b ≡ true → cond b w v ≡ w
taken true v w e = refl
taken false v w e = cc

pub at_key : (m n : BTreeMap ℤ ℤ) (k l : ℤ) → Turns m n k (Some l) → Has n k l
at_key m n k l t = t k ∙ taken (is_eq (int_cmp k k)) (get int_cmp m k) (Some l) (own_key k)
