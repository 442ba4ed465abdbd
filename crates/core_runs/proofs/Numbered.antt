-- Lists whose items are counted from 1, where one item is written again.
use Rattle.std.proofs.Common.{◌≡◌, ℕ, zero, suc, ◌<◌, List, [], ◌∷◌, length, refl, ap, arith}
use Rattle.std.specs.Prelude.{slice_index_or, slice_get, slice_set, Some}
use Rattle.core_runs.specs.Lists.{list_at}
use Rattle.core_runs.specs.Moments.{with_item}

pub item_within : {A : Type 0} (xs : List A) (k : ℕ) (x : A) → slice_get xs k ≡ Some x → k < length xs
item_within [] k x h = absurd (cc)
item_within (y ∷ ys) zero x h = omega arith
item_within (y ∷ ys) (suc k) x h = let r = item_within ys k x h in omega arith

pub index_same : {A : Type 0} (xs : List A) (k : ℕ) (x d : A) → k < length xs → slice_index_or (slice_set xs k x) k d ≡ x
index_same [] k x d h = absurd (omega arith)
index_same (y ∷ ys) zero x d h = refl
index_same (y ∷ ys) (suc k) x d h = index_same ys k x d (omega arith)

-- what holds of the item and of the default holds of what stands there
pub index_either : {A : Type 0} (P : A → Type 0) (xs : List A) (k : ℕ) (x d : A) → P x → P d → P (slice_index_or (slice_set xs k x) k d)
index_either P [] k x d p q = q
index_either P (y ∷ ys) zero x d p q = p
index_either P (y ∷ ys) (suc k) x d p q = index_either P ys k x d p q

pub index_other : {A : Type 0} (xs : List A) (k j : ℕ) (x d : A) → (k ≡ j → ⊥) → slice_index_or (slice_set xs k x) j d ≡ slice_index_or xs j d
index_other [] k j x d n = refl
index_other (y ∷ ys) zero zero x d n = absurd (n refl)
index_other (y ∷ ys) zero (suc j) x d n = refl
index_other (y ∷ ys) (suc k) zero x d n = refl
index_other (y ∷ ys) (suc k) (suc j) x d n = index_other ys k j x d (λ e. n (ap suc e))

pub get_same : {A : Type 0} (xs : List A) (k : ℕ) (x : A) → k < length xs → slice_get (slice_set xs k x) k ≡ Some x
get_same [] k x h = absurd (omega arith)
get_same (y ∷ ys) zero x h = refl
get_same (y ∷ ys) (suc k) x h = get_same ys k x (omega arith)

pub get_other : {A : Type 0} (xs : List A) (k j : ℕ) (x : A) → (k ≡ j → ⊥) → slice_get (slice_set xs k x) j ≡ slice_get xs j
get_other [] k j x n = refl
get_other (y ∷ ys) zero zero x n = absurd (n refl)
get_other (y ∷ ys) zero (suc j) x n = refl
get_other (y ∷ ys) (suc k) zero x n = refl
get_other (y ∷ ys) (suc k) (suc j) x n = get_other ys k j x (λ e. n (ap suc e))

pub list_other : {A : Type 0} (ls : List (List A)) (i j : ℕ) (x : List A) → (i ≡ j → ⊥) → list_at (with_item ls i x) j ≡ list_at ls j
list_other ls zero j x n = refl
list_other ls (suc k) zero x n = refl
list_other ls (suc k) (suc j) x n = index_other ls k j x [] (λ e. n (ap suc e))
