-- No instruction of made code is bad, where the bodies of its program are even.
use Rattle.std.proofs.Common.{◌≡◌, ℕ, zero, suc, ◌+◌, ◌-◌, ◌<◌, ◌≤◌, inl, inr, Bool, true, false, cond, List, [], ◌∷◌, length, refl, ap, sym, ◌∙◌, subst, arith}
use Rattle.std.specs.Prelude.{Option, Some, None, slice_get}
use Rattle.std.proofs.lemmas.Option.{slice_get_within}
use Rattle.walk_theory.specs.Syntax.{Steps}
use Rattle.walk_theory.specs.Code.{Instr, does_act, count_one, jump, jump_if, jump_unless, skip, skip_unless, call, go_back, Line, on}
use Rattle.walk_theory.specs.Made.{program_code}
use Rattle.walk_theory.specs.Good as good
use Rattle.walk_theory.proofs.MadeGood.{made_code_is_good}
use Rattle.code_heights.specs.Heights.{Level, IsLevel}
use Rattle.code_heights.specs.MadeHeights.{AllEven, program_heights}
use Rattle.code_heights.proofs.MadeHeights.{made_is_level}
use Rattle.image_acts.specs.Acts.{Act}
use Rattle.image_code.specs.declared.shape.Flow.TheVariants as flows
use Rattle.image_code.specs.declared.shape.Height.{Height}
use Rattle.image_code.specs.declared.shape.Shape.{Shape}
use Rattle.image_code.specs.declared.step.Step.{Step}
use Rattle.image_code.specs.Table.{instr_of, lines_of}
use Rattle.image_code.specs.Sizes.{shape_of, ends_act}
use Rattle.image_code.specs.Draft as d
use Rattle.image_code.specs.Draft.{shapes, nothing, Within, after, lead, leads, CountsAt, JumpsWell, Stays, Reaches, at_start, IsBad}
use Rattle.image_code.specs.Levels.{Part, of_numbers, of_arrays, of_texts, part_of, tested_of, taken_of, left_of}
use Rattle.image_code.proofs.TextFree.{same_for_texts}
use Rattle.image_code.proofs.GoodCode.{step_of, shape_there}
use Rattle.made_code.proofs.Lengths.{program_many}

-- ---- lists
as_long : {X Y : Type 0} (xs : List X) (ys : List Y) → length xs ≡ length ys → (p : ℕ) (y : Y) → slice_get ys p ≡ Some y → (x : X) × (slice_get xs p ≡ Some x)
as_long xs [] e p y h = absurd (cc)
as_long [] (z ∷ ys) e p y h = absurd (let f : 0 ≡ suc (length ys) = e in omega arith)
as_long (x ∷ xs) (z ∷ ys) e zero y h = (x, refl)
as_long (x ∷ xs) (z ∷ ys) e (suc p) y h = as_long xs ys (let f : suc (length xs) ≡ suc (length ys) = e in omega arith) p y h

shapes_long : (texts : List (List ℕ)) (ss : List Step) (ls : List ℕ) → length (shapes ss) ≡ length (lines_of texts ss ls)
shapes_long texts [] ls = refl
shapes_long texts (s ∷ ss) [] = (let h = shapes_long texts ss [] in omega arith)
shapes_long texts (s ∷ ss) (l ∷ ls) = (let h = shapes_long texts ss ls in omega arith)

-- a shape is that of the step that is run there
line_of : (texts : List (List ℕ)) (ss : List Step) (ls : List ℕ) (p : ℕ) (s : Shape) → slice_get (shapes ss) p ≡ Some s → (l : ℕ) × (i : Instr Act) × (slice_get (lines_of texts ss ls) p ≡ Some (on l i)) × (s ≡ shape_of i)
line_of texts [] ls p s e = absurd (cc)
line_of texts (y ∷ ys) [] zero s e = (0, instr_of texts y, refl, (let f : shape_of (instr_of [] y) ≡ s = cc in sym f ∙ same_for_texts texts y))
line_of texts (y ∷ ys) (l ∷ ls) zero s e = (l, instr_of texts y, refl, (let f : shape_of (instr_of [] y) ≡ s = cc in sym f ∙ same_for_texts texts y))
line_of texts (y ∷ ys) [] (suc p) s e = line_of texts ys [] p s e
line_of texts (y ∷ ys) (l ∷ ls) (suc p) s e = line_of texts ys ls p s e

counting_shape : (i : Instr Act) → good.is_count i ≡ true → (shape_of i).counts ≡ true
counting_shape (does_act x) e = absurd (cc)
counting_shape count_one e = refl
counting_shape (jump q) e = absurd (cc)
counting_shape (jump_if q) e = absurd (cc)
counting_shape (jump_unless q) e = absurd (cc)
counting_shape (skip n) e = absurd (cc)
counting_shape (skip_unless n) e = absurd (cc)
counting_shape (call q) e = absurd (cc)
counting_shape go_back e = absurd (cc)

-- ---- heights
none_of : (x : Part) → part_of x nothing ≡ 0
none_of of_numbers = refl
none_of of_arrays = refl
none_of of_texts = refl

part_after : (x : Part) (s : Shape) (h : Height) → part_of x (after s h) ≡ (part_of x h - part_of x s.takes) + part_of x s.leaves
part_after of_numbers s h = refl
part_after of_arrays s h = refl
part_after of_texts s h = refl

unmoved : (x : Part) (s : Shape) (h : Height) → s.takes ≡ nothing → s.leaves ≡ nothing → part_of x (after s h) ≡ part_of x h
unmoved x s h t l = (let e = part_after x s h in let b = ap (part_of x) t ∙ none_of x in let c = ap (part_of x) l ∙ none_of x in omega arith)

tested_away : (x : Part) (s : Shape) (h : Height) (k : ℕ) → s.leaves ≡ nothing → part_of x s.takes ≡ tested_of x → k + tested_of x ≡ part_of x h → part_of x (after s h) ≡ k
tested_away x s h k l t e = (let f = part_after x s h in let c = ap (part_of x) l ∙ none_of x in omega arith)

all_within : (s : Height) (h : Height) → ((x : Part) → part_of x s ≤ part_of x h) → Within s h
all_within s h f = (f of_numbers, f of_arrays, f of_texts)

abbrev height_of : ℕ → ℕ → ℕ → Height
height_of n m t = record { numbers = n; arrays = m; texts = t }

same_height : (h k : Height) → ((x : Part) → part_of x h ≡ part_of x k) → h ≡ k
same_height h k f = ap (λ x. height_of x h.arrays h.texts) (f of_numbers) ∙ ap (λ x. height_of k.numbers x h.texts) (f of_arrays) ∙ ap (λ x. height_of k.numbers k.arrays x) (f of_texts)

module _ (last : Act) (l : ℕ) (bs : List (Steps Act)) (no_takes : (x : Part) → taken_of x last ≡ 0) (ends : ends_act last ≡ true) (even : (x : Part) → AllEven (tested_of x) (taken_of x) (left_of x) bs)
    (texts : List (List ℕ)) (ss : List Step) (ls : List ℕ) (made : lines_of texts ss ls ≡ program_code last l bs) where
  abbrev code : List (Line Act)
  code = program_code last l bs

  abbrev at_height : Part → ℕ → Option ℕ
  at_height x p = slice_get (program_heights (tested_of x) (taken_of x) (left_of x) bs) p

  abbrev LevelAt : Part → ℕ → ℕ → Instr Act → Type 0
  LevelAt x p h i = Level (tested_of x) (taken_of x) (left_of x) ends_act code (at_height x) p h i

  level : (x : Part) → IsLevel (tested_of x) (taken_of x) (left_of x) ends_act code (at_height x)
  level x = made_is_level (tested_of x) (taken_of x) (left_of x) ends_act last l bs (no_takes x) ends (even x)

  many : (x : Part) → length (program_heights (tested_of x) (taken_of x) (left_of x) bs) ≡ length (shapes ss)
  many x = program_many (tested_of x) (taken_of x) (left_of x) last l bs ∙ sym (shapes_long texts ss ls ∙ ap length made)

  -- a place with a height is in the code
  inside : (x : Part) (q k : ℕ) → at_height x q ≡ Some k → q < length (shapes ss)
  inside x q k e = (let w = slice_get_within (program_heights (tested_of x) (taken_of x) (left_of x) bs) q k e in let m = many x in omega arith)

  here : (p : ℕ) (s : Shape) → slice_get (shapes ss) p ≡ Some s → (n : ℕ) × (i : Instr Act) × (slice_get code p ≡ Some (on n i)) × (s ≡ shape_of i)
  here p s e = (let f = line_of texts ss ls p s e in (f.0, f.1, sym (ap (λ c. slice_get c p) made) ∙ f.2, f.3))

  count_there : (q : ℕ) → good.counts (slice_get code q) ≡ true → CountsAt (shapes ss) q
  count_there q t = found (slice_get (lines_of texts ss ls) q) refl (subst (λ c. good.counts (slice_get c q) ≡ true) (sym made) t) where
    found : (o : Option (Line Act)) → slice_get (lines_of texts ss ls) q ≡ o → good.counts o ≡ true → CountsAt (shapes ss) q
    found None e u = absurd (cc)
    found (Some i) e u =
        let y = step_of texts ss ls q i e in
        (shape_of (instr_of texts y.0), shape_there texts ss q y.0 y.1, counting_shape (instr_of texts y.0) (ap good.is_count y.2 ∙ u))

  jumps : (p q k : ℕ) → at_height of_numbers q ≡ Some k → good.GoesOn code p q → JumpsWell (shapes ss) p q
  jumps p q k e (inl n) = (inside of_numbers q k e, inl n)
  jumps p q k e (inr t) = (inside of_numbers q k e, inr (count_there q t))

  on_or_end : (b : Bool) (p : ℕ) → (b ≡ false → p + 1 < length (shapes ss)) → Stays (shapes ss) p (cond b flows.End flows.On)
  on_or_end true p h = tt
  on_or_end false p h = h refl

  stays : (p h : ℕ) (i : Instr Act) → LevelAt of_numbers p h i → good.Fine code p i → Stays (shapes ss) p (shape_of i).flow
  stays p h (does_act x) v g = on_or_end (ends_act x) p (λ f. (let k = v.1 f in inside of_numbers (p + 1) k.0 k.1))
  stays p h count_one v g = inside of_numbers (p + 1) h v
  stays p h (jump q) v g = jumps p q h v g
  stays p h (jump_if q) v g = (inside of_numbers (p + 1) v.0 v.3, jumps p q v.0 v.2 g)
  stays p h (jump_unless q) v g = (inside of_numbers (p + 1) v.0 v.3, jumps p q v.0 v.2 g)
  stays p h (skip n) v g = inside of_numbers (p + 1 + n) h v
  stays p h (skip_unless n) v g = (inside of_numbers (p + 1) v.0 v.3, inside of_numbers (p + 1 + n) v.0 v.2)
  stays p h (call q) v g = (inside of_numbers (p + 1) h v.1, inside of_numbers q 0 v.0)
  stays p h go_back v g = tt

  -- ---- paths
  arrives : (x : Part) (p : ℕ) (h : Height) (q : ℕ) (k : Height) (m : ℕ) → Some (lead p h) ≡ Some (lead q k) → at_height x p ≡ Some m → part_of x h ≡ m → at_height x q ≡ Some (part_of x k)
  arrives x p h q k m e f g =
      let s : lead p h ≡ lead q k = cc in
      subst (λ y. at_height x y ≡ Some (part_of x k)) (ap (λ y. y.place) s) (f ∙ ap Some (sym g ∙ ap (part_of x) (ap (λ y. y.height) s)))

  act_goes : (b : Bool) (p : ℕ) (h : Height) (aside : Bool) (q : ℕ) (k : Height) → leads aside p (cond b flows.End flows.On) h ≡ Some (lead q k) → (b ≡ false) × (Some (lead (p + 1) h) ≡ Some (lead q k))
  act_goes true p h true q k e = absurd (cc)
  act_goes true p h false q k e = absurd (cc)
  act_goes false p h true q k e = absurd (cc)
  act_goes false p h false q k e = (refl, e)

  next : (x : Part) (p : ℕ) (h : Height) (aside : Bool) (q : ℕ) (k : Height) (i : Instr Act) → LevelAt x p (part_of x h) i → leads aside p (shape_of i).flow (after (shape_of i) h) ≡ Some (lead q k) → at_height x q ≡ Some (part_of x k)
  next x p h aside q k (does_act y) v e =
      let f = act_goes (ends_act y) p (after (shape_of (does_act y)) h) aside q k e in
      let m = v.1 f.0 in
      let g = part_after x (shape_of (does_act y)) h in
      let t = v.0 in
      let z = m.2 in
      arrives x (p + 1) (after (shape_of (does_act y)) h) q k m.0 f.1 m.1 (omega arith)
  next x p h false q k count_one v e = arrives x (p + 1) (after (shape_of count_one) h) q k (part_of x h) e v (unmoved x (shape_of count_one) h refl refl)
  next x p h true q k count_one v e = absurd (cc)
  next x p h false q k (jump r) v e = arrives x r (after (shape_of (jump r)) h) q k (part_of x h) e v (unmoved x (shape_of (jump r)) h refl refl)
  next x p h true q k (jump r) v e = absurd (cc)
  next x p h false q k (jump_if r) v e = arrives x (p + 1) (after (shape_of (jump_if r)) h) q k v.0 e v.3 (tested_away x (shape_of (jump_if r)) h v.0 refl refl v.1)
  next x p h true q k (jump_if r) v e = arrives x r (after (shape_of (jump_if r)) h) q k v.0 e v.2 (tested_away x (shape_of (jump_if r)) h v.0 refl refl v.1)
  next x p h false q k (jump_unless r) v e = arrives x (p + 1) (after (shape_of (jump_unless r)) h) q k v.0 e v.3 (tested_away x (shape_of (jump_unless r)) h v.0 refl refl v.1)
  next x p h true q k (jump_unless r) v e = arrives x r (after (shape_of (jump_unless r)) h) q k v.0 e v.2 (tested_away x (shape_of (jump_unless r)) h v.0 refl refl v.1)
  next x p h false q k (skip n) v e = arrives x (p + 1 + n) (after (shape_of (skip n)) h) q k (part_of x h) e v (unmoved x (shape_of (skip n)) h refl refl)
  next x p h true q k (skip n) v e = absurd (cc)
  next x p h false q k (skip_unless n) v e = arrives x (p + 1) (after (shape_of (skip_unless n)) h) q k v.0 e v.3 (tested_away x (shape_of (skip_unless n)) h v.0 refl refl v.1)
  next x p h true q k (skip_unless n) v e = arrives x (p + 1 + n) (after (shape_of (skip_unless n)) h) q k v.0 e v.2 (tested_away x (shape_of (skip_unless n)) h v.0 refl refl v.1)
  next x p h false q k (call r) v e = arrives x (p + 1) (after (shape_of (call r)) h) q k (part_of x h) e v.1 (unmoved x (shape_of (call r)) h refl refl)
  next x p h true q k (call r) v e = arrives x r nothing q k 0 e v.0 (none_of x)
  next x p h false q k go_back v e = absurd (cc)
  next x p h true q k go_back v e = absurd (cc)

  -- a path reaches a place with its height
  reached : (p : ℕ) (h : Height) → Reaches (shapes ss) p h → (x : Part) → at_height x p ≡ Some (part_of x h)
  reached _ _ at_start x = ap Some (sym (none_of x))
  reached _ _ (d.onward p h aside q k s r e w g) x =
      let i = here p s e in
      let v = level x p (part_of x h) i.0 i.1 i.2 (reached p h r x) in
      next x p h aside q k i.1 v (subst (λ y. leads aside p y.flow (after y h) ≡ Some (lead q k)) i.3 g)

  -- no more is taken than stands there
  enough : (x : Part) (p h : ℕ) (i : Instr Act) → LevelAt x p h i → part_of x (shape_of i).takes ≤ h
  enough x p h (does_act y) v = v.0
  enough x p h count_one v = (let n = none_of x in omega arith)
  enough x p h (jump q) v = (let n = none_of x in omega arith)
  enough x p h (jump_if q) v = (let n = v.1 in omega arith)
  enough x p h (jump_unless q) v = (let n = v.1 in omega arith)
  enough x p h (skip n) v = (let m = none_of x in omega arith)
  enough x p h (skip_unless n) v = (let m = v.1 in omega arith)
  enough x p h (call q) v = (let n = none_of x in omega arith)
  enough x p h go_back v = (let n = none_of x in omega arith)

  back_or_end : (b : Bool) → cond b flows.End flows.On ≡ flows.Back → ⊥
  back_or_end true e = cc
  back_or_end false e = cc

  even_back : (x : Part) (p h : ℕ) (i : Instr Act) → LevelAt x p h i → (shape_of i).flow ≡ flows.Back → h ≡ 0
  even_back x p h (does_act y) v e = absurd (back_or_end (ends_act y) e)
  even_back x p h count_one v e = absurd (cc)
  even_back x p h (jump q) v e = absurd (cc)
  even_back x p h (jump_if q) v e = absurd (cc)
  even_back x p h (jump_unless q) v e = absurd (cc)
  even_back x p h (skip n) v e = absurd (cc)
  even_back x p h (skip_unless n) v e = absurd (cc)
  even_back x p h (call q) v e = absurd (cc)
  even_back x p h go_back v e = v

  pub none_bad : (p : ℕ) → IsBad (shapes ss) p → ⊥
  none_bad p (d.leaves s e n) =
      let i = here p s e in
      let h = as_long (program_heights (tested_of of_numbers) (taken_of of_numbers) (left_of of_numbers) bs) (shapes ss) (many of_numbers) p s e in
      n (subst (λ y. Stays (shapes ss) p y.flow) (sym i.3) (stays p h.0 i.1 (level of_numbers p h.0 i.0 i.1 i.2 h.1) (made_code_is_good last l bs p i.0 i.1 i.2)))
  none_bad p (d.takes_more s h e r n) =
      let i = here p s e in
      n (subst (λ y. Within y.takes h) (sym i.3) (all_within (shape_of i.1).takes h (λ x. enough x p (part_of x h) i.1 (level x p (part_of x h) i.0 i.1 i.2 (reached p h r x)))))
  none_bad p (d.uneven s h e r b n) =
      let i = here p s e in
      n (same_height h nothing (λ x. even_back x p (part_of x h) i.1 (level x p (part_of x h) i.0 i.1 i.2 (reached p h r x)) (sym (ap (λ y. y.flow) i.3) ∙ b) ∙ sym (none_of x)))
  none_bad p (d.unlike h k r q n) = n (same_height h k (λ x. (let e = sym (reached p h r x) ∙ reached p k q x in cc)))
