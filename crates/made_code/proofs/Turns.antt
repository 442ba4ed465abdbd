-- Parts by what they take from the three parts of the stack and what they leave there.
use Rattle.std.proofs.Common.{◌≡◌, ℕ, ◌+◌, ◌-◌, ◌≤◌, Bool, true, false, cond, List, [], ◌∷◌, ◌++◌, refl, ap, sym, ◌∙◌, subst, arith}
use Rattle.walk_theory.specs.Syntax.{Parts, end_parts, act, enter}
use Rattle.code_heights.specs.MadeHeights.{after, Balanced}
use Rattle.image_acts.specs.Acts.{Act}
use Rattle.image_code.specs.Sizes.{Size, numbers, act_size}
use Rattle.image_code.specs.Levels.{Part, of_numbers, of_arrays, of_texts, part_of, tested_of, taken_of, left_of}
use Rattle.tree_meaning.specs.Sequences.{◌▸◌, choosing}

-- on s values of one part of the stack, these parts take no more than stands there, and k stand afterwards
abbrev pub Runs : Part → (s k : ℕ) → Parts Act → Type 0
Runs x s k p = Balanced (tested_of x) (taken_of x) (left_of x) s p × (after (tested_of x) (taken_of x) (left_of x) s p ≡ k)

-- the parts take and leave so much, whatever stands beneath
pub record Turns (z : Size) (p : Parts Act) : Type 0 where
  pub runs : (x : Part) (f : ℕ) → Runs x (f + part_of x z.takes) (f + part_of x z.leaves) p

-- from s values to k by taking and leaving so much, one after another
abbrev pub Flows : Part → ℕ → List Size → ℕ → Type 0
Flows x s [] k = s ≡ k
Flows x s (z ∷ zs) k = (part_of x z.takes ≤ s) × ((m : ℕ) → m + part_of x z.takes ≡ s + part_of x z.leaves → Flows x m zs k)

-- so much is taken and left, one after another
pub record Does (zs : List Size) (p : Parts Act) : Type 0 where
  pub runs : (x : Part) (s k : ℕ) → Flows x s zs k → Runs x s k p

-- all of it together, on each part of the stack
abbrev pub Closes : Size → List Size → Type 0
Closes z zs =
    (f : ℕ) → Flows of_numbers (f + z.takes.numbers) zs (f + z.leaves.numbers) × Flows of_arrays (f + z.takes.arrays) zs (f + z.leaves.arrays) × Flows of_texts (f + z.takes.texts) zs (f + z.leaves.texts)

closed_part : (x : Part) (f : ℕ) (z : Size) (zs : List Size) → Closes z zs → Flows x (f + part_of x z.takes) zs (f + part_of x z.leaves)
closed_part of_numbers f z zs c = (c f).0
closed_part of_arrays f z zs c = (c f).1
closed_part of_texts f z zs c = (c f).2

pub closes : {zs : List Size} {p : Parts Act} {z : Size} → Does zs p → Closes z zs → Turns z p
closes {zs} {p} {z} d c = record { runs = λ x f. d.runs x (f + part_of x z.takes) (f + part_of x z.leaves) (closed_part x f z zs c) }

-- ---- parts one after another
over : (s t l : ℕ) → t ≤ s → ((s - t) + l) + t ≡ s + l
over s t l h = omega arith

split : (x : Part) (s : ℕ) (zs ws : List Size) (k : ℕ) → Flows x s (zs ++ ws) k → (m : ℕ) × Flows x s zs m × Flows x m ws k
split x s [] ws k f = (s, refl, f)
split x s (z ∷ zs) ws k f =
    let t = part_of x z.takes in
    let l = part_of x z.leaves in
    let h = split x ((s - t) + l) zs ws k (f.1 ((s - t) + l) (over s t l f.0)) in (
      h.0,
      (f.0, λ m e. subst (λ n. Flows x n zs h.0) (let u = f.0 in omega arith) h.1),
      h.2,
    )

pub ended : Does [] end_parts
ended = record { runs = λ x s k e. (tt, e) }

pub acts : {zs : List Size} {a : Act} {q : Parts Act} → Does zs q → Does (act_size a ∷ zs) (act a q)
acts {zs} {a} {q} d = record {
  runs = λ x s k f.
      let m = (s - taken_of x a) + left_of x a in
      let r = d.runs x m k (f.1 m (over s (taken_of x a) (left_of x a) f.0)) in
      ((f.0, r.0), r.1);
}

pub enters : {zs : List Size} {n : ℕ} {q : Parts Act} → Does zs q → Does zs (enter n q)
enters d = record { runs = λ x s k f. d.runs x s k f }

infixr 40 ◌⨾◌
pub ◌⨾◌ : {zs ws : List Size} {p q : Parts Act} → Does zs p → Does ws q → Does (zs ++ ws) (p ▸ q)
◌⨾◌ {zs} {ws} {p} {q} c d = record {
  runs = λ x s k f.
      let h = split x s zs ws k f in
      let a = c.runs x s h.0 h.1 in
      let b = d.runs x h.0 k h.2 in (
        (a.0, subst (λ n. Balanced (tested_of x) (taken_of x) (left_of x) n q) (sym a.1) b.0),
        ap (λ n. after (tested_of x) (taken_of x) (left_of x) n q) a.1 ∙ b.1,
      );
}

runs_at : (x : Part) (z : Size) (p : Parts Act) → Turns z p → (s k : ℕ) → part_of x z.takes ≤ s → k + part_of x z.takes ≡ s + part_of x z.leaves → Runs x s k p
runs_at x z p t s k l e =
    let r = t.runs x (s - part_of x z.takes) in
    subst (λ n. Runs x n k p) (let a : (s - part_of x z.takes) + part_of x z.takes ≡ s = omega arith in a)
    (subst (λ n. Runs x ((s - part_of x z.takes) + part_of x z.takes) n p) (let b : (s - part_of x z.takes) + part_of x z.leaves ≡ k = omega arith in b) r)

-- parts of which this is known
pub part : {z : Size} {p : Parts Act} → Turns z p → Does (z ∷ []) p
part {z} {p} t = record {
  runs = λ x s k f.
      let m = (s - part_of x z.takes) + part_of x z.leaves in
      let e = over s (part_of x z.takes) (part_of x z.leaves) f.0 in
      runs_at x z p t s k f.0 (ap (λ n. n + part_of x z.takes) (sym (f.1 m e)) ∙ e);
}

-- a choice by the truth value on top
pub chosen : {z : Size} {p q : Parts Act} → Turns z p → Turns z q → Does (numbers 1 0 ∷ z ∷ []) (choosing p q)
chosen {z} {p} {q} c d = record {
  runs = λ x s k f.
      let t = part_of x z.takes in
      let l = part_of x z.leaves in
      let v = tested_of x in
      let nothing_left = none_left x in
      let g = f.1 (s - v) (let u = f.0 in omega arith) in
      let e : k + t ≡ (s - v) + l = (let m = ((s - v) - t) + l in let w = over (s - v) t l g.0 in ap (λ n. n + t) (sym (g.1 m w)) ∙ w) in
      let a = runs_at x z p c (s - v) k g.0 e in
      let b = runs_at x z q d (s - v) k g.0 e in
      ((f.0, a.0, b.0, b.1 ∙ sym a.1, tt), a.1);
} where
  none_left : (x : Part) → part_of x (numbers 1 0).leaves ≡ 0
  none_left of_numbers = refl
  none_left of_arrays = refl
  none_left of_texts = refl

-- one or the other
pub by_cases : {z : Size} {p q : Parts Act} (b : Bool) → (b ≡ true → Turns z p) → (b ≡ false → Turns z q) → Turns z (cond b p q)
by_cases true g h = g refl
by_cases false g h = h refl

pub either_way : {z : Size} {p q : Parts Act} (b : Bool) → Turns z p → Turns z q → Turns z (cond b p q)
either_way b g h = by_cases b (λ e. g) (λ e. h)
