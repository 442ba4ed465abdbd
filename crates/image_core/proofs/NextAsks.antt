-- The asks that are kept, where the one of an image is written again.
use Rattle.std.proofs.Common.{◌≡◌, ℕ, zero, suc, ◌<◌, ◌≤◌, List, [], ◌∷◌, inl, inr, length, refl, ap, sym, ◌∙◌, subst, arith, length-set}
use Rattle.std.specs.Prelude.{slice_get, slice_set, replicate, Option, Some, None}
use Rattle.std.proofs.lemmas.Bool.{cases_eq}
use Rattle.caf_events.specs.declared.ask.Ask.{Ask}
use Rattle.core_runs.specs.Moments.{Rules, Moment, item_at, with_item}
use Rattle.core_runs.proofs.Numbered.{get_other, get_same}
use Rattle.image_core.specs.NextAsks.{IsNextAsk, AreNextAsks}

pub item_other : {A : Type 0} (xs : List A) (i j : ℕ) (x : A) → (j ≡ i → ⊥) → item_at (with_item xs i x) j ≡ item_at xs j
item_other xs zero j x n = refl
item_other xs (suc k) zero x n = refl
item_other xs (suc k) (suc j) x n = get_other xs k j x (λ e. n (ap suc (sym e)))

pub length_with : {A : Type 0} (xs : List A) (n : ℕ) (x : A) → length (with_item xs n x) ≡ length xs
length_with xs zero x = refl
length_with xs (suc k) x = length-set xs k x

pub item_same : {A : Type 0} (xs : List A) (n : ℕ) (x : A) → 0 < n → n ≤ length xs → item_at (with_item xs n x) n ≡ Some x
item_same xs zero x low high = absurd (omega arith)
item_same xs (suc k) x low high = get_same xs k x (omega arith)

get_written : {A : Type 0} (xs : List A) (k : ℕ) (x y : A) → slice_get (slice_set xs k x) k ≡ Some y → x ≡ y
get_written [] k x y h = absurd (cc)
get_written (z ∷ zs) zero x y h = cc
get_written (z ∷ zs) (suc k) x y h = get_written zs k x y h

item_written : {A : Type 0} (xs : List A) (n : ℕ) (x y : A) → item_at (with_item xs n x) n ≡ Some y → x ≡ y
item_written xs zero x y h = absurd (cc)
item_written xs (suc k) x y h = get_written xs k x y h

none_there : (n k : ℕ) (a : Ask) → slice_get (replicate n None) k ≡ Some (Some a) → ⊥
none_there zero k a h = cc
none_there (suc n) zero a h = cc
none_there (suc n) (suc k) a h = none_there n k a h

none_at : (n i : ℕ) (a : Ask) → item_at (replicate n None) i ≡ Some (Some a) → ⊥
none_at n zero a h = cc
none_at n (suc k) a h = none_there n k a h

length_replicate : {A : Type 0} (n : ℕ) (x : A) → length (replicate n x) ≡ n
length_replicate zero x = refl
length_replicate (suc n) x = ap suc (length_replicate n x)

module _ {C M B : Type 0} (r : Rules C M B) (m : Moment C M B) where
  -- where none is kept
  pub none_kept : (n : ℕ) → n ≡ length m.configs → AreNextAsks r m (replicate n None)
  none_kept n many = record { count = length_replicate n None ∙ many; each = λ i a h. absurd (none_at n i a h) }

  module _ (kept : List (Option Ask)) (asked : AreNextAsks r m kept) (i : ℕ) where
    written : (o : Option Ask) → ((a : Ask) → o ≡ Some a → IsNextAsk r m i a) → AreNextAsks r m (with_item kept i o)
    written o next = record {
      count = length_with kept i o ∙ asked.count;
      each = λ j a h. elim (cases_eq j i) [
        | inl e ↦ subst (λ n. IsNextAsk r m n a) (sym e) (next a (item_written kept i o (Some a) (subst (λ n. item_at (with_item kept i o) n ≡ Some (Some a)) e h)))
        | inr n ↦ asked.each j a (sym (item_other kept i j o n) ∙ h)
      ];
    }

    -- where the image's next ask is kept
    pub one_kept : (a : Ask) → IsNextAsk r m i a → AreNextAsks r m (with_item kept i (Some a))
    one_kept a next = written (Some a) (λ b e. subst (IsNextAsk r m i) (let same : a ≡ b = cc in same) next)

    -- where it is taken
    pub one_taken : AreNextAsks r m (with_item kept i None)
    one_taken = written None (λ a e. absurd (cc))
