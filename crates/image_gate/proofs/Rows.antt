-- Passes of each gate for one image, gate by gate.
use Rattle.std.proofs.Common.{◌≡◌, ℕ, zero, suc, ◌+◌, ◌<◌, ◌≤◌, List, [], ◌∷◌, ◌++◌, ◌⊎◌, inl, inr, length, set, refl, ap, sym, ◌∙◌, subst, arith, length-set}
use Rattle.std.proofs.lemmas.List.{length-append}
use mathlib.Core.Option.{some-injective, some-ne-none}
use Rattle.atomic_table.proofs.Lists.{at_set}
use Rattle.turn_gate.specs.Gates.{At, NotIn}
use Rattle.turn_gate.specs.Known.{Known}
use Rattle.turn_gate.specs.Passes.{Opened, IsPassOf, split_from, with_split}
use Rattle.image_gate.specs.Rows.{AreFree, IsRowOf, Grown}

pub found : {A : Type 0} → (xs : List A) (k : ℕ) → k < length xs → (x : A) × At xs k x
found [] k h = absurd (omega arith)
found (x ∷ xs) zero h = (x, refl)
found (x ∷ xs) (suc k) h = found xs k (omega arith)

pub is_there : {A : Type 0} → (xs : List A) (k : ℕ) (x : A) → At xs k x → k < length xs
is_there [] k x e = absurd (some-ne-none x (sym e))
is_there (y ∷ ys) zero x e = omega arith
is_there (y ∷ ys) (suc k) x e = let r = is_there ys k x e in omega arith

pub at_end : {A : Type 0} → (l : List A) (a b : A) (j : ℕ) → At (l ++ a ∷ []) j b → At l j b ⊎ ((j ≡ length l) × (a ≡ b))
at_end [] a b zero e = inr (refl, some-injective a b e)
at_end [] a b (suc j) e = absurd (some-ne-none b (sym e))
at_end (x ∷ xs) a b zero e = inl e
at_end (x ∷ xs) a b (suc j) e = elim (at_end xs a b j e) [ inl t ↦ inl t | inr t ↦ inr (let n = t.0 in omega arith, t.1) ]

pub row_none : (image : ℕ) (desks : List Known) → IsRowOf image 0 desks [] × Grown image 0 desks desks
row_none image desks = (record { long = refl; made = λ j p f lt a b. absurd (omega arith) }, record { wide = refl; more = λ j f p lt a b. absurd (omega arith); same = λ j f p le a b. some-injective p f (sym b ∙ a) })

pub row_more : (image k : ℕ) (desks desks' row : List Known) (f : Known) → At desks' k f → IsRowOf image k desks row → Grown image k desks desks'
    → IsRowOf image (k + 1) desks (row ++ split_from image f ∷ []) × Grown image (k + 1) desks (set desks' k (with_split image f))
row_more image k desks desks' row f at r g = (
  record {
    long = (let a = length-append row (split_from image f ∷ []) in let b = r.long in omega arith);
    made = λ j p f0 lt a b. elim (at_end row (split_from image f) p j a) [
      | inl q ↦ let n = is_there row j p q in let l = r.long in r.made j p f0 (omega arith) q b
      | inr e ↦ let same = g.same k f0 f (omega arith) (subst (λ i. At desks i f0) (e.0 ∙ r.long) b) at in sym e.1 ∙ ap (split_from image) same
    ];
  },
  record {
    wide = length-set desks' k (with_split image f) ∙ g.wide;
    more = λ j f0 p lt a b. elim (at_set desks' k j (with_split image f) p b) [
      | inl e ↦ let same = g.same k f0 f (omega arith) (subst (λ i. At desks i f0) e.0 a) at in sym e.1 ∙ ap (with_split image) same
      | inr e ↦ let ne = e.0 in g.more j f0 p (omega arith) a e.1
    ];
    same = λ j f0 p le a b. elim (at_set desks' k j (with_split image f) p b) [
      | inl e ↦ let is = e.0 in absurd (omega arith)
      | inr e ↦ g.same j f0 p (omega arith) a e.1
    ];
  },
)

-- what the k-th gate asks of its first pass
pub asks_free : {O : Type 0} → (gates : List (Opened O)) (image k : ℕ) (desks desks' : List Known) (g : Opened O) (f : Known) → length desks ≡ length gates → AreFree gates image desks → Grown image k desks desks' → At gates k g → At desks' k f
    → IsPassOf g f × (f.image ≡ 0) × (image ≤ g.images) × NotIn image f.images
asks_free gates image k desks desks' g f wide free grown at_gate at =
    let lt = is_there gates k g at_gate in
    let f0 = found desks k (omega arith) in
    let same : f ≡ f0.0 = grown.same k f0.0 f (omega arith) f0.1 at in
    subst (λ (p : Known). IsPassOf g p × (p.image ≡ 0) × (image ≤ g.images) × NotIn image p.images) (sym same) (free k g f0.0 at_gate f0.1)
