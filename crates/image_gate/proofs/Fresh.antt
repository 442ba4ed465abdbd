-- Fresh passes of each image.
use Rattle.std.proofs.Common.{◌≡◌, ◌≢◌, ℕ, zero, suc, ◌+◌, ◌<◌, ◌≤◌, List, [], ◌∷◌, ◌++◌, inl, inr, length, map, refl, ap, sym, ◌∙◌, subst, arith}
use mathlib.Core.Option.{some-injective, some-ne-none}
use lib.ListN.{get_elem?}
use Rattle.std.proofs.lemmas.List.{length-map}
use Rattle.trace_theory.specs.Entries.{Each}
use Rattle.trace_theory.proofs.Snocs.{each_last}
use Rattle.turn_gate.specs.Gates.{At, NotIn}
use Rattle.turn_gate.specs.Known.{Known}
use Rattle.turn_gate.specs.Passes.{Opened, IsPassOf}
use Rattle.image_gate.specs.declared.passes.Passes.{Passes}
use Rattle.image_gate.specs.Fabrics.{images_to, fresh_pass, desk_of, AreFresh}
use Rattle.image_gate.specs.Rows.{AreFree, IsRowOf, Grown}
use Rattle.image_gate.proofs.Rows.{at_end, is_there}

-- lists of one length with the same at each place are the same
pub same_lists : {A : Type 0} → (xs ys : List A) → length xs ≡ length ys → ((k : ℕ) (x y : A) → At xs k x → At ys k y → x ≡ y) → xs ≡ ys
same_lists [] [] l f = refl
same_lists [] (y ∷ ys) l f = absurd (omega arith)
same_lists (x ∷ xs) [] l f = absurd (omega arith)
same_lists (x ∷ xs) (y ∷ ys) l f = ap (λ z. z ∷ xs) (f 0 x y refl refl) ∙ ap (λ zs. y ∷ zs) (same_lists xs ys (omega arith) (λ k a b p q. f (suc k) a b p q))

-- what stands at a place of a mapped list
pub at_mapped : {A B : Type 0} → (f : A → B) (xs : List A) (k : ℕ) (b : B) → At (map f xs) k b → (a : A) × At xs k a × (f a ≡ b)
at_mapped f [] k b e = absurd (some-ne-none b (sym e))
at_mapped f (x ∷ xs) zero b e = (x, refl, some-injective (f x) b e)
at_mapped f (x ∷ xs) (suc k) b e = at_mapped f xs k b e

pub mapped_at : {A B : Type 0} → (f : A → B) (xs : List A) (k : ℕ) (a : A) → At xs k a → At (map f xs) k (f a)
mapped_at f [] k a e = absurd (some-ne-none a (sym e))
mapped_at f (x ∷ xs) zero a e = ap (λ z. get_elem? (f z ∷ []) 0) (some-injective x a e)
mapped_at f (x ∷ xs) (suc k) a e = mapped_at f xs k a e

each_there : {A : Type 0} → (P : A → Type 0) (xs : List A) (k : ℕ) (x : A) → Each P xs → At xs k x → P x
each_there P [] k x h e = absurd (some-ne-none x (sym e))
each_there P (y ∷ ys) zero x h e = subst P (some-injective y x e) h.0
each_there P (y ∷ ys) (suc k) x h e = each_there P ys k x h.1 e

pub not_among : (n m : ℕ) → n < m → NotIn m (images_to n)
not_among zero m h = tt
not_among (suc n) m h = each_last (λ x. x ≢ m) (images_to n) (suc n) (not_among n m (omega arith)) (λ e. absurd (omega arith))

module _ {O : Type 0} (gates : List (Opened O)) where
  pub none_split : (i n : ℕ) (images : List ℕ) (desks : List Known) → desks ≡ map (desk_of images) gates → Each (λ (g : Opened O). g.images ≡ n) gates → i ≤ n → NotIn i images → AreFree gates i desks
  none_split i n images desks are all le new k g p at_gate at =
      let d = at_mapped (desk_of images) gates k p (subst (λ l. At l k p) are at) in
      let same : d.0 ≡ g = some-injective d.0 g (sym d.1 ∙ at_gate) in
      let p_is : desk_of images g ≡ p = ap (desk_of images) (sym same) ∙ d.2 in
      let many = each_there (λ (x : Opened O). x.images ≡ n) gates k g all at_gate in
      subst (λ (q : Known). IsPassOf g q × (q.image ≡ 0) × (i ≤ g.images) × NotIn i q.images) p_is (refl, refl, omega arith, new)

  pub row_is : (i : ℕ) (images : List ℕ) (desks row : List Known) → desks ≡ map (desk_of images) gates → IsRowOf i (length gates) desks row → row ≡ map (fresh_pass i) gates
  row_is i images desks row are r = same_lists row (map (fresh_pass i) gates) (r.long ∙ sym (length-map gates (fresh_pass i))) (λ k x y a b.
      let d = at_mapped (fresh_pass i) gates k y b in
      r.made k x (desk_of images d.0) (is_there gates k d.0 d.1) a (subst (λ l. At l k (desk_of images d.0)) (sym are) (mapped_at (desk_of images) gates k d.0 d.1)) ∙ d.2)

  pub desks_are : (i : ℕ) (images : List ℕ) (desks desks' : List Known) → desks ≡ map (desk_of images) gates → Grown i (length gates) desks desks' → desks' ≡ map (desk_of (images ++ i ∷ [])) gates
  desks_are i images desks desks' are g = same_lists desks' (map (desk_of (images ++ i ∷ [])) gates) (g.wide ∙ ap length are ∙ length-map gates (desk_of images) ∙ sym (length-map gates (desk_of (images ++ i ∷ [])))) (λ k x y a b.
      let d = at_mapped (desk_of (images ++ i ∷ [])) gates k y b in
      g.more k (desk_of images d.0) x (is_there gates k d.0 d.1) (subst (λ l. At l k (desk_of images d.0)) (sym are) (mapped_at (desk_of images) gates k d.0 d.1)) a ∙ d.2)

-- one image's passes more
pub fresh_more : {O B : Type 0} → (board : Opened B) (memories : List (Opened O)) (passes : List Passes) (p : Passes) (k : ℕ) → length passes ≡ k → AreFresh board memories passes → p.board ≡ fresh_pass (suc k) board → p.memories.items ≡ map (fresh_pass (suc k)) memories
    → AreFresh board memories (passes ++ p ∷ [])
fresh_more board memories passes p k long all b m j q at = elim (at_end passes p q j at) [
  | inl t ↦ all j q t
  | inr t ↦ let n = t.0 ∙ long in subst (λ (z : Passes × ℕ). (z.0.board ≡ fresh_pass (suc z.1) board) × (z.0.memories.items ≡ map (fresh_pass (suc z.1)) memories)) (λ i. (t.1 i, sym n i)) (b, m)
]

pub images_more : (k : ℕ) → images_to (k + 1) ≡ images_to k ++ (k + 1) ∷ []
images_more k = let e : k + 1 ≡ suc k = omega arith in ap images_to e ∙ ap (λ n. images_to k ++ n ∷ []) (sym e)

-- the same, where the number is one more than the place
pub fresh_next : {O B : Type 0} → (board : Opened B) (memories : List (Opened O)) (passes : List Passes) (p : Passes) (k : ℕ) → length passes ≡ k → AreFresh board memories passes → p.board ≡ fresh_pass (k + 1) board → p.memories.items ≡ map (fresh_pass (k + 1)) memories
    → AreFresh board memories (passes ++ p ∷ [])
fresh_next board memories passes p k long all b m =
    let e : k + 1 ≡ suc k = omega arith in
    fresh_more board memories passes p k long all (b ∙ ap (λ n. fresh_pass n board) e) (m ∙ ap (λ n. map (fresh_pass n) memories) e)

-- a mapped list with one more, in front of the rest
pub mapped_front : {A B : Type 0} → (f : A → B) (xs : List A) (x : A) (rest : List B) → map f (xs ++ x ∷ []) ++ rest ≡ map f xs ++ f x ∷ rest
mapped_front f [] x rest = refl
mapped_front f (y ∷ ys) x rest = ap (λ l. f y ∷ l) (mapped_front f ys x rest)

pub mapped_more : {A B : Type 0} → (f : A → B) (xs : List A) (x : A) → map f (xs ++ x ∷ []) ≡ map f xs ++ f x ∷ []
mapped_more f [] x = refl
mapped_more f (y ∷ ys) x = ap (λ l. f y ∷ l) (mapped_more f ys x)
