-- Places of lists, by both ways to read them.
use Rattle.std.proofs.Common.{◌≡◌, ℕ, zero, suc, ◌+◌, ◌<◌, List, [], ◌∷◌, ◌++◌, length, map, set, sym, subst, refl, arith}
use Rattle.std.specs.Prelude.{slice_get, slice_index_or, Some}
use mathlib.Core.Option.{some-injective, some-ne-none}
use Rattle.turn_gate.specs.Gates.{At}

pub at_get : {A : Type 0} (xs : List A) (k : ℕ) (x : A) → slice_get xs k ≡ Some x → At xs k x
at_get [] k x h = absurd (cc)
at_get (y ∷ ys) zero x h = let e : y ≡ x = cc in subst (λ z. At (y ∷ ys) 0 z) e refl
at_get (y ∷ ys) (suc k) x h = at_get ys k x h

pub at_is : {A : Type 0} (xs : List A) (k : ℕ) (x d : A) → At xs k x → slice_index_or xs k d ≡ x
at_is [] k x d h = absurd (some-ne-none x (sym h))
at_is (y ∷ ys) zero x d h = some-injective y x h
at_is (y ∷ ys) (suc k) x d h = at_is ys k x d h

pub at_mapped : {A B : Type 0} (f : A → B) (xs : List A) (k : ℕ) (x : A) → At xs k x → At (map f xs) k (f x)
at_mapped f [] k x h = absurd (some-ne-none x (sym h))
at_mapped f (y ∷ ys) zero x h = subst (λ z. At (f y ∷ map f ys) 0 (f z)) (some-injective y x h) refl
at_mapped f (y ∷ ys) (suc k) x h = at_mapped f ys k x h

-- what stands at a place of a mapped list
pub mapped_at : {A B : Type 0} (f : A → B) (xs : List A) (k : ℕ) (y : B) → At (map f xs) k y → (x : A) × At xs k x × (f x ≡ y)
mapped_at f [] k y h = absurd (some-ne-none y (sym h))
mapped_at f (x ∷ xs) zero y h = (x, refl, some-injective (f x) y h)
mapped_at f (x ∷ xs) (suc k) y h = mapped_at f xs k y h

-- a place of one of two lists is one of both
pub at_first : {A : Type 0} (xs ys : List A) (k : ℕ) (x : A) → At xs k x → At (xs ++ ys) k x
at_first [] ys k x h = absurd (some-ne-none x (sym h))
at_first (y ∷ xs) ys zero x h = h
at_first (y ∷ xs) ys (suc k) x h = at_first xs ys k x h

pub at_second : {A : Type 0} (xs ys : List A) (k : ℕ) (x : A) → At ys k x → (j : ℕ) × At (xs ++ ys) j x
at_second [] ys k x h = (k, h)
at_second (y ∷ xs) ys k x h = let r = at_second xs ys k x h in (suc r.0, r.1)

-- what is written at a place stands there
pub set_here : {A : Type 0} (xs : List A) (k : ℕ) (x : A) → k < length xs → At (set xs k x) k x
set_here [] k x h = absurd (omega arith)
set_here (y ∷ ys) zero x h = refl
set_here (y ∷ ys) (suc k) x h = set_here ys k x (omega arith)
