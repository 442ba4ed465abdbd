-- Wide steps, each of which does what several steps do. The code keeps its length and its places: what a wide step
-- stands for stays behind it.
use Rattle.std.specs.Prelude.{ℕ, suc, ◌≡◌, List, [], ◌∷◌, length, Option, Some, None, slice_get}
use Rattle.trace_theory.specs.Machines.{Move, goes, asks, over, go}
use Rattle.trace_theory.specs.Equivalence.{SameWalks}
use Rattle.walk_theory.specs.Language.{Language}
use Rattle.walk_theory.specs.Syntax.{Steps, body_of}
use Rattle.walk_theory.specs.Walks.{Config, step, start}
use Rattle.walk_theory.specs.Code.{Instr, Line, on, State, at_place, code_step, Stands}
use Rattle.walk_theory.specs.Programs.{SameCore}

-- a kind of wide steps: the steps that one stands for, and what it does at a line, where `behind` is the place behind
-- the code
pub record Wides (A C Q R W : Type 0) : Type 0 where
  pub steps_of : W → List (Instr A)
  pub does : (behind line : ℕ) → W → State C → Move (State C) Q R

-- a wide step and the line that it is of
pub record Placed (W : Type 0) : Type 0 where
  pub wide : W
  pub line : ℕ

-- steps that are all of one line
abbrev pub lined : {A : Type 0} → ℕ → List (Instr A) → List (Line A)
lined l [] = []
lined l (i ∷ is) = on l i ∷ lined l is

module _ {A C Q R W : Type 0} (L : Language A C Q R) (K : Wides A C Q R W) (code : List (Line A)) (limit : ℕ) where
  -- the wide step that is there, if there is one
  abbrev pub wide_fetched : Option (Placed W) → State C → Move (State C) Q R
  wide_fetched None d = over
  wide_fetched (Some w) d = K.does (length code) w.line w.wide d

  -- one step of the wide code
  abbrev pub wide_step : List (Placed W) → State C → Move (State C) Q R
  wide_step wides d = wide_fetched (slice_get wides d.at) d

  -- the steps that this wide step stands for stand at place p
  abbrev pub Covered : Option (Placed W) → ℕ → Type 0
  Covered None p = slice_get code p ≡ None
  Covered (Some w) p = Stands code p (lined w.line (K.steps_of w.wide))

  -- each wide step stands where the steps that it stands for stand
  abbrev pub Covers : List (Placed W) → Type 0
  Covers wides = (p : ℕ) → Covered (slice_get wides p) p

  module _ {V : Type 0} (kept : C → V) where
    -- the code comes to this stop by steps that keep the count and what is kept of the core
    pub record StopsAs (m : Move (State C) Q R) (d : State C) : Type 0 where
      pub steps : ℕ
      pub there : State C
      pub comes : go (code_step L code limit) steps d ≡ goes there
      pub stops : code_step L code limit there ≡ m
      pub core : kept there.core ≡ kept d.core
      pub count : there.count ≡ d.count

    -- what comes of a wide step at d comes of the code's steps there, of one or more of them where it goes on
    abbrev pub ComesOf : Move (State C) Q R → State C → Type 0
    ComesOf (goes e) d = (n : ℕ) × (go (code_step L code limit) (suc n) d ≡ goes e)
    ComesOf (asks a l k) d = StopsAs (asks a l k) d
    ComesOf over d = StopsAs over d

    -- what is to be shown of each wide step
    abbrev pub Unfolds : Type 0
    Unfolds = (w : W) (l : ℕ) (d : State C) → Stands code d.at (lined l (K.steps_of w)) → ComesOf (K.does (length code) l w d) d

-- the same count, and the same of what is kept of the core
abbrev pub SameKept : {A C V : Type 0} → (C → V) → Config A C → State C → Type 0
SameKept kept c d = (kept d.core ≡ kept c.core) × (d.count ≡ c.count)

-- The wide code has the walks of the program: what it asks and at which lines; where it stops, what is kept of the core
-- is the same.
abbrev pub HasWideWalksOf : {A C Q R W V : Type 0} → Language A C Q R → Wides A C Q R W → (kept : C → V) → (answers : Q → R → Type 0) → (last : A) → List (Steps A) → (line limit : ℕ) → C → List (Line A) → List (Placed W) → Type 0
HasWideWalksOf L K kept answers last bodies line limit first code wides =
    SameWalks answers SameCore (SameKept kept) (step L (body_of bodies) limit) (start last line first) (wide_step L K code limit wides) (at_place 0 [] first 0)
