-- Code without a bad instruction has heights.
use Rattle.std.proofs.Common.{◌≡◌, ℕ, zero, suc, ◌+◌, ◌-◌, ◌<◌, ◌≤◌, ◌⊎◌, inl, inr, Bool, true, false, cond, List, refl, ap, sym, ◌∙◌, subst, arith}
use Rattle.std.specs.Prelude.{Option, Some, None, slice_get}
use Rattle.walk_theory.specs.Code.{Instr, does_act, count_one, jump, jump_if, jump_unless, skip, skip_unless, call, go_back, on}
use Rattle.code_heights.specs.Heights.{Level, IsLevel}
use Rattle.image_acts.specs.Acts.{Act}
use Rattle.image_code.specs.declared.shape.Flow.TheVariants as flows
use Rattle.image_code.specs.declared.shape.Height.{Height}
use Rattle.image_code.specs.declared.shape.Shape.{Shape}
use Rattle.image_code.specs.declared.step.Step.{Step}
use Rattle.image_code.specs.Table.{lines_of}
use Rattle.image_code.specs.Sizes.{shape_of, ends_act}
use Rattle.image_code.specs.Draft.{shapes, nothing, Within, after, lead, leads, Known, wants, keeps}
use Rattle.image_code.specs.Code.{IsWhole}
use Rattle.image_code.specs.Levels.{Part, of_numbers, of_arrays, of_texts, part_of, tested_of, taken_of, left_of, HasLevels}
use Rattle.image_code.proofs.Paths.{all_known, way_reaches, alike}
use Rattle.image_code.proofs.GoodCode.{step_of, shape_there}

no_more : (m n : ℕ) → (m ≤ n) ⊎ (n < m)
no_more zero n = inl (omega arith)
no_more (suc m) zero = inr (omega arith)
no_more (suc m) (suc n) = elim (no_more m n) [ inl l ↦ inl (omega arith) | inr l ↦ inr (omega arith) ]

within_part : (x : Part) (a b : Height) → Within a b → part_of x a ≤ part_of x b
within_part of_numbers a b w = w.0
within_part of_arrays a b w = w.1
within_part of_texts a b w = w.2

after_part : (x : Part) (s : Shape) (h : Height) → part_of x (after s h) ≡ (part_of x h - part_of x s.takes) + part_of x s.leaves
after_part of_numbers s h = refl
after_part of_arrays s h = refl
after_part of_texts s h = refl

none_of : (x : Part) → part_of x nothing ≡ 0
none_of of_numbers = refl
none_of of_arrays = refl
none_of of_texts = refl

module _ (x : Part) where
  abbrev number_in : Option (Option Height) → Option ℕ
  number_in None = None
  number_in (Some None) = None
  number_in (Some (Some h)) = Some (part_of x h)

  abbrev numbers_at : List (Option Height) → ℕ → Option ℕ
  numbers_at heights p = number_in (slice_get heights p)

  known_of : (o : Option (Option Height)) (n : ℕ) → number_in o ≡ Some n → (h : Height) × (o ≡ Some (Some h)) × (part_of x h ≡ n)
  known_of None n e = absurd (cc)
  known_of (Some None) n e = absurd (cc)
  known_of (Some (Some h)) n e = (h, refl, cc)

  number_known : (heights : List (Option Height)) (p : ℕ) (h : Height) → Known heights p h → numbers_at heights p ≡ Some (part_of x h)
  number_known heights p h e = ap number_in e

  -- a jump takes and leaves nothing, and a test leaves nothing
  jump_part : (s : Shape) (h : Height) → s.takes ≡ nothing → s.leaves ≡ nothing → part_of x (after s h) ≡ part_of x h
  jump_part s h t l = (let a = after_part x s h in let b = ap (part_of x) t ∙ none_of x in let c = ap (part_of x) l ∙ none_of x in omega arith)

  test_part : (s : Shape) (h : Height) → s.leaves ≡ nothing → part_of x s.takes ≡ tested_of x → part_of x s.takes ≤ part_of x h → part_of x (after s h) + tested_of x ≡ part_of x h
  test_part s h l t e = (let a = after_part x s h in let c = ap (part_of x) l ∙ none_of x in omega arith)

  module _ (texts : List (List ℕ)) (ss : List Step) (ls : List ℕ) (highest : Height) (w : IsWhole ss highest) where
    abbrev LevelAt : ℕ → ℕ → Instr Act → Type 0
    LevelAt p h i = Level (tested_of x) (taken_of x) (left_of x) ends_act (lines_of texts ss ls) (numbers_at w.heights) p h i

    -- no more is taken than stands there
    within : (p : ℕ) (s : Shape) (h : Height) → slice_get (shapes ss) p ≡ Some s → Known w.heights p h → Within s.takes h
    within p s h e k = (
      elim (no_more s.takes.numbers h.numbers) [
        | inl l ↦ l
        | inr n ↦ absurd (w.fine p p (inl (wants s h e k (λ t. (let u = t.0 in absurd (omega arith))), refl)))
      ],
      elim (no_more s.takes.arrays h.arrays) [
        | inl l ↦ l
        | inr n ↦ absurd (w.fine p p (inl (wants s h e k (λ t. (let u = t.1 in absurd (omega arith))), refl)))
      ],
      elim (no_more s.takes.texts h.texts) [
        | inl l ↦ l
        | inr n ↦ absurd (w.fine p p (inl (wants s h e k (λ t. (let u = t.2 in absurd (omega arith))), refl)))
      ],
    )

    enough : (p : ℕ) (s : Shape) (h : Height) → slice_get (shapes ss) p ≡ Some s → Known w.heights p h → part_of x s.takes ≤ part_of x h
    enough p s h e k = within_part x s.takes h (within p s h e k)

    -- where a way leads, its height is known
    there : (p : ℕ) (s : Shape) (h : Height) (aside : Bool) (q : ℕ) (k : Height) → slice_get (shapes ss) p ≡ Some s → Known w.heights p h → leads aside p s.flow (after s h) ≡ Some (lead q k) → (m : ℕ) → part_of x k ≡ m → numbers_at w.heights q ≡ Some m
    there p s h aside q k e n g m f = number_known w.heights q k (all_known (shapes ss) w.heights w.are w.fine q k (way_reaches (shapes ss) w.heights p aside (lead q k) w.are.sound (record { shape = s; height = h; here = e; known = n; takes = within p s h e n; goes = g }))) ∙ ap Some f

    test_level : (p : ℕ) (h : Height) (s : Shape) → slice_get (shapes ss) p ≡ Some s → Known w.heights p h → s.leaves ≡ nothing → part_of x s.takes ≡ tested_of x → part_of x (after s h) + tested_of x ≡ part_of x h
    test_level p h s e k l t = test_part s h l t (enough p s h e k)

    level_at : (p : ℕ) (h : Height) (i : Instr Act) → slice_get (shapes ss) p ≡ Some (shape_of i) → Known w.heights p h → LevelAt p (part_of x h) i
    level_at p h (does_act a) e k = (let l = enough p (shape_of (does_act a)) h e k in (
      l,
      λ f. (
        (part_of x h - taken_of x a) + left_of x a,
        there p (shape_of (does_act a)) h false (p + 1) (after (shape_of (does_act a)) h) e k (subst (λ b. leads false p (cond b flows.End flows.On) (after (shape_of (does_act a)) h) ≡ Some (lead (p + 1) (after (shape_of (does_act a)) h))) (sym f) refl) ((part_of x h - taken_of x a) + left_of x a) (after_part x (shape_of (does_act a)) h),
        omega arith,
      ),
    ))
    level_at p h count_one e k = there p (shape_of count_one) h false (p + 1) (after (shape_of count_one) h) e k refl (part_of x h) (jump_part (shape_of count_one) h refl refl)
    level_at p h (jump q) e k = there p (shape_of (jump q)) h false q (after (shape_of (jump q)) h) e k refl (part_of x h) (jump_part (shape_of (jump q)) h refl refl)
    level_at p h (jump_if q) e k = (
      part_of x (after (shape_of (jump_if q)) h),
      test_level p h (shape_of (jump_if q)) e k refl refl,
      there p (shape_of (jump_if q)) h true q (after (shape_of (jump_if q)) h) e k refl (part_of x (after (shape_of (jump_if q)) h)) refl,
      there p (shape_of (jump_if q)) h false (p + 1) (after (shape_of (jump_if q)) h) e k refl (part_of x (after (shape_of (jump_if q)) h)) refl,
    )
    level_at p h (jump_unless q) e k = (
      part_of x (after (shape_of (jump_unless q)) h),
      test_level p h (shape_of (jump_unless q)) e k refl refl,
      there p (shape_of (jump_unless q)) h true q (after (shape_of (jump_unless q)) h) e k refl (part_of x (after (shape_of (jump_unless q)) h)) refl,
      there p (shape_of (jump_unless q)) h false (p + 1) (after (shape_of (jump_unless q)) h) e k refl (part_of x (after (shape_of (jump_unless q)) h)) refl,
    )
    level_at p h (skip n) e k = there p (shape_of (skip n)) h false (p + 1 + n) (after (shape_of (skip n)) h) e k refl (part_of x h) (jump_part (shape_of (skip n)) h refl refl)
    level_at p h (skip_unless n) e k = (
      part_of x (after (shape_of (skip_unless n)) h),
      test_level p h (shape_of (skip_unless n)) e k refl refl,
      there p (shape_of (skip_unless n)) h true (p + 1 + n) (after (shape_of (skip_unless n)) h) e k refl (part_of x (after (shape_of (skip_unless n)) h)) refl,
      there p (shape_of (skip_unless n)) h false (p + 1) (after (shape_of (skip_unless n)) h) e k refl (part_of x (after (shape_of (skip_unless n)) h)) refl,
    )
    level_at p h (call q) e k = (
      there p (shape_of (call q)) h true q nothing e k refl 0 (none_of x),
      there p (shape_of (call q)) h false (p + 1) (after (shape_of (call q)) h) e k refl (part_of x h) (jump_part (shape_of (call q)) h refl refl),
    )
    level_at p h go_back e k = elim (alike h nothing) [ inl s ↦ ap (part_of x) s ∙ none_of x | inr n ↦ absurd (w.fine p p (inl (keeps (shape_of go_back) h e k refl n, refl))) ]

    level : IsLevel (tested_of x) (taken_of x) (left_of x) ends_act (lines_of texts ss ls) (numbers_at w.heights)
    level p n l i e k =
        let h = known_of (slice_get w.heights p) n k in
        let y = step_of texts ss ls p (on l i) e in
        subst (λ m. LevelAt p m i) h.2 (level_at p h.0 i (shape_there texts ss p y.0 y.1 ∙ ap (λ z. Some (shape_of z)) y.2) h.1)

pub whole_is_level : (x : Part) (texts : List (List ℕ)) (ss : List Step) (ls : List ℕ) (highest : Height) → IsWhole ss highest → HasLevels x texts ss ls highest
whole_is_level x texts ss ls highest w = record {
  heights = numbers_at x w.heights;
  level = level x texts ss ls highest w;
  first = number_known x w.heights 0 nothing w.are.first ∙ ap Some (none_of x);
  most = λ p n e. (let h = known_of x (slice_get w.heights p) n e in let m = within_part x h.0 highest (w.most p h.0 h.1) in let g = h.2 in omega arith);
}
