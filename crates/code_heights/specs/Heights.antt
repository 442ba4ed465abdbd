-- How many values stand on one part of the stack at each place of flat code.
use Rattle.std.specs.Prelude.{ℕ, ◌+◌, ◌-◌, ◌≤◌, ◌≡◌, ◌⊎◌, Bool, false, List, [], ◌∷◌, Option, Some, None, slice_get}
use Rattle.trace_theory.specs.Machines.{Move, goes, asks, over}
use Rattle.walk_theory.specs.Language.{Effect, goes_to, faults, asking, ends_with, stuck, Tested, no_value, holds, fails, Language}
use Rattle.walk_theory.specs.Code.{Instr, does_act, count_one, jump, jump_if, jump_unless, skip, skip_unless, call, go_back, Line, on, State}

module _ {A C Q R : Type 0} (L : Language A C Q R) (height : C → ℕ) (tested : ℕ) (takes leaves : A → ℕ) (ends : A → Bool) where
  -- an act on h values takes t of them, and leaves no more than l in their place; one that ends goes nowhere
  abbrev pub Moves : (h t l : ℕ) → Bool → Effect C Q R → Type 0
  Moves h t l e (goes_to d) = (e ≡ false) × (height d + t ≤ h + l)
  Moves h t l e (faults k) = Unit {0}
  Moves h t l e (asking q f) = (e ≡ false) × ((r : R) → height (f r) + t ≤ h + l)
  Moves h t l e (ends_with q) = Unit {0}
  Moves h t l e stuck = Unit {0}

  -- a truth value that was taken is so many of them, or all where there are fewer: one of the numbers, none of another
  -- part
  abbrev pub TakesTested : ℕ → Tested C → Type 0
  TakesTested h no_value = Unit {0}
  TakesTested h (holds d) = height d ≤ h - tested
  TakesTested h (fails d) = height d ≤ h - tested

  -- each act of the code takes and leaves as many values as is said, and so does a test
  pub record IsSized (code : List (Line A)) : Type 0 where
    pub acts : (p l : ℕ) (a : A) → slice_get code p ≡ Some (on l (does_act a)) → (c : C) → Moves (height c) (takes a) (leaves a) (ends a) (L.operate a c)
    pub tests : (c : C) → TakesTested (height c) (L.test c)

module _ {A : Type 0} (tested : ℕ) (takes leaves : A → ℕ) (ends : A → Bool) (code : List (Line A)) (heights : ℕ → Option ℕ) where
  -- a step on h values: it takes no more than stand there, and each place where it goes on has what it leaves
  abbrev pub Level : ℕ → ℕ → Instr A → Type 0
  Level p h (does_act a) = (takes a ≤ h) × ((ends a ≡ false) → (k : ℕ) × (heights (p + 1) ≡ Some k) × (k + takes a ≡ h + leaves a))
  Level p h count_one = heights (p + 1) ≡ Some h
  Level p h (jump q) = heights q ≡ Some h
  Level p h (jump_if q) = (k : ℕ) × (k + tested ≡ h) × (heights q ≡ Some k) × (heights (p + 1) ≡ Some k)
  Level p h (jump_unless q) = (k : ℕ) × (k + tested ≡ h) × (heights q ≡ Some k) × (heights (p + 1) ≡ Some k)
  Level p h (skip n) = heights (p + 1 + n) ≡ Some h
  Level p h (skip_unless n) = (k : ℕ) × (k + tested ≡ h) × (heights (p + 1 + n) ≡ Some k) × (heights (p + 1) ≡ Some k)
  Level p h (call q) = (heights q ≡ Some 0) × (heights (p + 1) ≡ Some h)
  Level p h go_back = h ≡ 0

  -- these are heights of the code: each place that has one is level
  abbrev pub IsLevel : Type 0
  IsLevel = (p h l : ℕ) (i : Instr A) → slice_get code p ≡ Some (on l i) → heights p ≡ Some h → Level p h i

module _ {A C : Type 0} (height : C → ℕ) (code : List (Line A)) (heights : ℕ → Option ℕ) where
  -- so many values stand under those of the body in front, below the places to return to
  abbrev pub Under : List ℕ → ℕ → Type 0
  Under [] n = n ≡ 0
  Under (r ∷ rs) n = (k : ℕ) × (heights r ≡ Some k) × (m : ℕ) × Under rs m × (n ≡ k + m)

  -- the place in front has a height, and so has each place to return to; no more than all of these stand on the stack
  abbrev pub Piled : State C → Type 0
  Piled d = (h : ℕ) × (heights d.at ≡ Some h) × (n : ℕ) × Under d.returns n × (height d.core ≤ h + n)

  -- the code has ended, or its stack is no higher than the heights say
  abbrev pub Stands : State C → Type 0
  Stands d = (slice_get code d.at ≡ None) ⊎ Piled d

  module _ {Q R : Type 0} where
    abbrev pub Keeps : Move (State C) Q R → Type 0
    Keeps (goes d) = Stands d
    Keeps (asks a l k) = (r : R) → Stands (k r)
    Keeps over = Unit {0}
