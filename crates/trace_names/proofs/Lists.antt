-- Lists of names: that each is one, and that they differ.
use Rattle.std.proofs.Common.{◌≡◌, ◌∙◌, ℕ, zero, suc, ◌+◌, List, [], ◌∷◌, ◌++◌, refl, sym, ap, subst}
use Rattle.std.specs.Prelude.{Some, None, slice_get}
use Rattle.trace_theory.specs.Entries.{Each}

pub some_same : {A : Type 0} (x y : A) → Some x ≡ Some y → x ≡ y
some_same x y e = cc

pub none_some : {A B : Type 0} (x : A) → None ≡ Some x → B
none_some x e = absurd (never x e)
  where
    never : {A : Type 0} (x : A) → None ≡ Some x → ⊥
    never x e = cc

module _ {A : Type 0} (P : A → Type 0) where
  pub each_first : (xs ys : List A) → Each P (xs ++ ys) → Each P xs
  each_first [] ys h = tt
  each_first (x ∷ xs) ys h = (h.0, each_first xs ys h.1)

  pub each_second : (xs ys : List A) → Each P (xs ++ ys) → Each P ys
  each_second [] ys h = h
  each_second (x ∷ xs) ys h = each_second xs ys h.1

  pub each_both : (xs ys : List A) → Each P xs → Each P ys → Each P (xs ++ ys)
  each_both [] ys h k = k
  each_both (x ∷ xs) ys h k = (h.0, each_both xs ys h.1 k)

  pub each_at : (xs : List A) (k : ℕ) (x : A) → Each P xs → slice_get xs k ≡ Some x → P x
  each_at [] k x h e = none_some x e
  each_at (y ∷ ys) zero x h e = subst P (some_same y x e) h.0
  each_at (y ∷ ys) (suc k) x h e = each_at ys k x h.1 e

-- a name that is none of these
abbrev pub Apart : List ℕ → List (List ℕ) → Type 0
Apart n ms = Each (λ m. m ≡ n → ⊥) ms

-- no two of them are alike
abbrev pub Differ : List (List ℕ) → Type 0
Differ [] = Unit {0}
Differ (n ∷ ns) = Apart n ns × Differ ns

-- one name more
pub differ_more : (ns : List (List ℕ)) (n : List ℕ) → Differ ns → Apart n ns → Differ (ns ++ n ∷ [])
differ_more [] n d a = (tt, tt)
differ_more (m ∷ ns) n d a =
    (each_both (λ k. k ≡ m → ⊥) ns (n ∷ []) d.0 ((λ e. a.0 (sym e)), tt), differ_more ns n d.1 a.1)

apart_at : (n : List ℕ) (ns : List (List ℕ)) (k : ℕ) → Apart n ns → slice_get ns k ≡ Some n → ⊥
apart_at n ns k a e = each_at (λ m. m ≡ n → ⊥) ns k n a e refl

-- so a name stands at one place
pub differ_at : (ns : List (List ℕ)) (j k : ℕ) (n : List ℕ) → Differ ns → slice_get ns j ≡ Some n → slice_get ns k ≡ Some n → j ≡ k
differ_at [] j k n d e f = none_some n e
differ_at (m ∷ ns) zero zero n d e f = refl
differ_at (m ∷ ns) zero (suc k) n d e f =
    absurd (apart_at m ns k d.0 (f ∙ ap Some (sym (some_same m n e))))
differ_at (m ∷ ns) (suc j) zero n d e f =
    absurd (apart_at m ns j d.0 (e ∙ ap Some (sym (some_same m n f))))
differ_at (m ∷ ns) (suc j) (suc k) n d e f = ap suc (differ_at ns j k n d.1 e f)
