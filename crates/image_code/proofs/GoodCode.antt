-- Code without a bad instruction is good.
use Rattle.std.proofs.Common.{◌≡◌, ℕ, zero, suc, ◌⊎◌, inl, inr, true, List, [], ◌∷◌, refl, ap, sym, ◌∙◌}
use Rattle.std.specs.Prelude.{Some, slice_get}
use Rattle.std.proofs.lemmas.Bool.{cases_Bool}
use Rattle.walk_theory.specs.Code.{Instr, does_act, count_one, jump, jump_if, jump_unless, skip, skip_unless, call, go_back, Line, on}
use Rattle.walk_theory.specs.Good.{is_count, counts, GoesOn, Fine, IsGood}
use Rattle.image_acts.specs.Acts.{Act}
use Rattle.image_code.specs.declared.shape.Height.{Height}
use Rattle.image_code.specs.declared.shape.Shape.{Shape}
use Rattle.image_code.specs.declared.step.Step.{Step}
use Rattle.image_code.specs.Table.{instr_of, lines_of}
use Rattle.image_code.specs.Sizes.{shape_of}
use Rattle.image_code.specs.Draft.{shapes, JumpsWell, Stays, IsBad, leaves}
use Rattle.image_code.specs.Code.{IsWhole}
use Rattle.image_code.proofs.TextFree.{same_for_texts}
use Rattle.image_code.proofs.Paths.{get_shapes, decide_less}

-- a step counts where its shape does
shape_counts : (i : Instr Act) → (shape_of i).counts ≡ true → is_count i ≡ true
shape_counts (does_act a) e = absurd (cc)
shape_counts count_one e = refl
shape_counts (jump q) e = absurd (cc)
shape_counts (jump_if q) e = absurd (cc)
shape_counts (jump_unless q) e = absurd (cc)
shape_counts (skip n) e = absurd (cc)
shape_counts (skip_unless n) e = absurd (cc)
shape_counts (call q) e = absurd (cc)
shape_counts go_back e = absurd (cc)

pub step_of : (texts : List (List ℕ)) (ss : List Step) (ls : List ℕ) (p : ℕ) (x : Line Act) → slice_get (lines_of texts ss ls) p ≡ Some x → (s : Step) × (slice_get ss p ≡ Some s) × (instr_of texts s ≡ x.instr)
step_of texts [] ls p x e = absurd (cc)
step_of texts (s ∷ ss) [] zero x e = (s, refl, (let f : on 0 (instr_of texts s) ≡ x = cc in ap (λ y. y.instr) f))
step_of texts (s ∷ ss) (l ∷ ls) zero x e = (s, refl, (let f : on l (instr_of texts s) ≡ x = cc in ap (λ y. y.instr) f))
step_of texts (s ∷ ss) [] (suc p) x e = step_of texts ss [] p x e
step_of texts (s ∷ ss) (l ∷ ls) (suc p) x e = step_of texts ss ls p x e

counts_here : (texts : List (List ℕ)) (y : Step) (s : Shape) → shape_of (instr_of [] y) ≡ s → s.counts ≡ true → is_count (instr_of texts y) ≡ true
counts_here texts y s f t = shape_counts (instr_of texts y) (ap (λ x. x.counts) (sym (same_for_texts texts y) ∙ f) ∙ t)

counts_of : (texts : List (List ℕ)) (ss : List Step) (ls : List ℕ) (q : ℕ) (s : Shape) → slice_get (shapes ss) q ≡ Some s → s.counts ≡ true → counts (slice_get (lines_of texts ss ls) q) ≡ true
counts_of texts [] ls q s e t = absurd (cc)
counts_of texts (y ∷ ys) [] zero s e t = counts_here texts y s (cc) t
counts_of texts (y ∷ ys) (l ∷ ls) zero s e t = counts_here texts y s (cc) t
counts_of texts (y ∷ ys) [] (suc q) s e t = counts_of texts ys [] q s e t
counts_of texts (y ∷ ys) (l ∷ ls) (suc q) s e t = counts_of texts ys ls q s e t

module _ (texts : List (List ℕ)) (ss : List Step) where
  -- the shape at a place is that of the step that is run there
  pub shape_there : (p : ℕ) (y : Step) → slice_get ss p ≡ Some y → slice_get (shapes ss) p ≡ Some (shape_of (instr_of texts y))
  shape_there p y e = get_shapes ss p y e ∙ ap Some (same_for_texts texts y)

  module _ (ls : List ℕ) where
    goes_on : (p q : ℕ) → (JumpsWell (shapes ss) p q → ⊥) ⊎ GoesOn (lines_of texts ss ls) p q
    goes_on p q = elim (decide_less p q) [
      | inl l ↦ inr (inl l)
      | inr n ↦ elim (cases_Bool (counts (slice_get (lines_of texts ss ls) q))) [
        | inl t ↦ inr (inr t)
        | inr f ↦ inl (λ w. elim w.1 [ inl l ↦ n l | inr c ↦ (let t = counts_of texts ss ls q c.0 c.1 c.2 in let g = sym t ∙ f in absurd (cc)) ])
      ]
    ]

    -- where the way of the step at p were not in the code it were bad
    jump_good : (none : (p : ℕ) → IsBad (shapes ss) p → ⊥) (p q : ℕ) (s : Shape) → slice_get (shapes ss) p ≡ Some s → (Stays (shapes ss) p s.flow → JumpsWell (shapes ss) p q) → GoesOn (lines_of texts ss ls) p q
    jump_good none p q s e w = elim (goes_on p q) [ inl n ↦ absurd (none p (leaves s e (λ t. n (w t)))) | inr g ↦ g ]

    fine_at : (none : (p : ℕ) → IsBad (shapes ss) p → ⊥) (p : ℕ) (i : Instr Act) → slice_get (shapes ss) p ≡ Some (shape_of i) → Fine (lines_of texts ss ls) p i
    fine_at none p (does_act a) e = tt
    fine_at none p count_one e = tt
    fine_at none p (jump q) e = jump_good none p q (shape_of (jump q)) e (λ t. t)
    fine_at none p (jump_if q) e = jump_good none p q (shape_of (jump_if q)) e (λ t. t.1)
    fine_at none p (jump_unless q) e = jump_good none p q (shape_of (jump_unless q)) e (λ t. t.1)
    fine_at none p (skip n) e = tt
    fine_at none p (skip_unless n) e = tt
    fine_at none p (call q) e = tt
    fine_at none p go_back e = tt

pub whole_is_good : (texts : List (List ℕ)) (ss : List Step) (ls : List ℕ) (highest : Height) → IsWhole ss highest → IsGood (lines_of texts ss ls)
whole_is_good texts ss ls highest w p l i e =
    let y = step_of texts ss ls p (on l i) e in
    fine_at texts ss ls w.none_bad p i (shape_there texts ss p y.0 y.1 ∙ ap (λ x. Some (shape_of x)) y.2)
