-- Lists: what holds of each item, of some item, and of each front.
use Rattle.std.proofs.Common.{◌≡◌, ℕ, zero, suc, ◌<◌, ◌≤◌, Bool, true, false, List, [], ◌∷◌, ◌++◌, ◌⊎◌, inl, inr, length, refl, ap, sym, subst, arith, append_assoc}
use Rattle.std.specs.Prelude.{map, Some, slice_get}
use Rattle.std.specs.List.{list_any, list_all, filter}
use Rattle.std.proofs.lemmas.List.{append-nil}
use Rattle.std.proofs.lemmas.Bool.{cases_Bool, and_parts, and_from, or_left, or_right}
use Rattle.trace_theory.specs.Entries.{Each}

-- what holds before the first entry, and of one entry more, holds of each history
pub grown : {E : Type 0} (P : List E → Type 0) → ((h : List E) (e : E) → P h → P (h ++ e ∷ [])) → (h es : List E) → P h → P (h ++ es)
grown P next h [] p = subst P (sym (append-nil h)) p
grown P next h (e ∷ es) p = subst P (append_assoc h (e ∷ []) es) (grown P next (h ++ e ∷ []) es (next h e p))

-- where a test passes, a wider one does
pub any_by : {A : Type 0} (p q : A → Bool) → ((x : A) → p x ≡ true → q x ≡ true) → (xs : List A) → list_any p xs ≡ true → list_any q xs ≡ true
any_by p q k [] h = absurd (cc)
any_by p q k (x ∷ xs) h = elim (cases_Bool (p x)) [
  | inl t ↦ or_left (q x) (list_any q xs) (k x t)
  | inr f ↦ or_right (q x) (list_any q xs) (any_by p q k xs (rw f at h))
]

pub all_by : {A : Type 0} (p q : A → Bool) → ((x : A) → p x ≡ true → q x ≡ true) → (xs : List A) → list_all p xs ≡ true → list_all q xs ≡ true
all_by p q k [] h = refl
all_by p q k (x ∷ xs) h = let r = and_parts (p x) (list_all p xs) h in and_from (q x) (list_all q xs) (k x r.0) (all_by p q k xs r.1)

-- an item that passes
pub any_there : {A : Type 0} (p : A → Bool) (xs : List A) → list_any p xs ≡ true → (x : A) × (p x ≡ true)
any_there p [] h = absurd (cc)
any_there p (x ∷ xs) h = elim (cases_Bool (p x)) [ inl t ↦ (x, t) | inr f ↦ any_there p xs (rw f at h) ]

-- what is true of each is true of each of both lists, of an item by its place, and of each image of an item
pub each_append : {A : Type 0} (P : A → Type 0) (xs ys : List A) → Each P xs → Each P ys → Each P (xs ++ ys)
each_append P [] ys h k = k
each_append P (x ∷ xs) ys h k = (h.0, each_append P xs ys h.1 k)

pub each_get : {A : Type 0} (P : A → Type 0) (xs : List A) (k : ℕ) (x : A) → Each P xs → slice_get xs k ≡ Some x → P x
each_get P [] k x h e = absurd (cc)
each_get P (y ∷ ys) zero x h e = let w : y ≡ x = cc in subst P w h.0
each_get P (y ∷ ys) (suc k) x h e = each_get P ys k x h.1 e

pub each_from : {A : Type 0} (P : A → Type 0) (xs : List A) → ((k : ℕ) (x : A) → slice_get xs k ≡ Some x → P x) → Each P xs
each_from P [] at = tt
each_from P (x ∷ xs) at = (at 0 x refl, each_from P xs (λ k y e. at (suc k) y e))

pub each_by : {A : Type 0} (P Q : A → Type 0) → ((x : A) → P x → Q x) → (xs : List A) → Each P xs → Each Q xs
each_by P Q k [] h = tt
each_by P Q k (x ∷ xs) h = (k x h.0, each_by P Q k xs h.1)

pub each_true : {A : Type 0} (p : A → Bool) (xs : List A) → list_all p xs ≡ true → Each (λ x. p x ≡ true) xs
each_true p [] h = tt
each_true p (x ∷ xs) h = let r = and_parts (p x) (list_all p xs) h in (r.0, each_true p xs r.1)

-- what is true of each item by what stands before and behind it
pub each_split : {E : Type 0} (P : E → Type 0) (xs : List E) → ((before after : List E) (x : E) → xs ≡ before ++ x ∷ after → P x) → Each P xs
each_split P [] at = tt
each_split P (x ∷ xs) at = (at [] xs x refl, each_split P xs (λ before after y e. at (x ∷ before) after y (ap (λ z. x ∷ z) e)))

pub each_mapped : {A B : Type 0} (P : B → Type 0) (g : A → B) (xs : List A) → Each (λ x. P (g x)) xs → Each P (map g xs)
each_mapped P g [] h = tt
each_mapped P g (x ∷ xs) h = (h.0, each_mapped P g xs h.1)

-- an item stays at its place when items come behind it
pub get_front : {A : Type 0} (xs ys : List A) (k : ℕ) (x : A) → slice_get xs k ≡ Some x → slice_get (xs ++ ys) k ≡ Some x
get_front [] ys k x h = absurd (cc)
get_front (z ∷ zs) ys zero x h = h
get_front (z ∷ zs) ys (suc k) x h = get_front zs ys k x h

pub get_low : {A : Type 0} (xs : List A) (k : ℕ) (x : A) → slice_get xs k ≡ Some x → k < length xs
get_low [] k x h = absurd (cc)
get_low (z ∷ zs) zero x h = omega arith
get_low (z ∷ zs) (suc k) x h = let r = get_low zs k x h in omega arith

-- an item of two lists is one of the first, at its place, or one of the second
pub get_either : {A : Type 0} (xs ys : List A) (k : ℕ) (x : A) → slice_get (xs ++ ys) k ≡ Some x → (slice_get xs k ≡ Some x) ⊎ ((j : ℕ) × (slice_get ys j ≡ Some x) × (length xs ≤ k))
get_either [] ys k x h = inr (k, h, omega arith)
get_either (z ∷ zs) ys zero x h = inl h
get_either (z ∷ zs) ys (suc k) x h = elim (get_either zs ys k x h) [
  | inl old ↦ inl old
  | inr new ↦ (let le = new.2 in inr (new.0, new.1, omega arith))
]

pub slice_there : {A : Type 0} (xs : List A) (k : ℕ) → k < length xs → (x : A) × (slice_get xs k ≡ Some x)
slice_there [] k lt = absurd (omega arith)
slice_there (x ∷ xs) zero lt = (x, refl)
slice_there (x ∷ xs) (suc k) lt = slice_there xs k (omega arith)

pub some_there : {A : Type 0} (xs : List A) (p : A → Bool) → list_any p xs ≡ true → 1 ≤ length xs
some_there [] p h = absurd (cc)
some_there (x ∷ xs) p h = omega arith

-- a filter that takes each image of an item, or none
pub filter_mapped : {A B : Type 0} (p : B → Bool) (g : A → B) → ((x : A) → p (g x) ≡ true) → (xs : List A) → filter p (map g xs) ≡ map g xs
filter_mapped p g h [] = refl
filter_mapped p g h (x ∷ xs) = rw (h x) (ap (λ z. g x ∷ z) (filter_mapped p g h xs))

pub filter_unmapped : {A B : Type 0} (p : B → Bool) (g : A → B) → ((x : A) → p (g x) ≡ false) → (xs : List A) → filter p (map g xs) ≡ []
filter_unmapped p g h [] = refl
filter_unmapped p g h (x ∷ xs) = rw (h x) (filter_unmapped p g h xs)
