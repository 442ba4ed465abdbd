-- What parts come to where they ask nothing and enter no procedure: a plain evaluation by recursion, that knows no task
-- and no place.
use Rattle.std.specs.Prelude.{ℕ, List, []}
use Rattle.trace_theory.specs.Machines.{goes, asks, Comes}
use Rattle.walk_theory.specs.Language.{Effect, goes_to, faults, asking, ends_with, stuck, Tested, no_value, holds, fails, Language}
use Rattle.walk_theory.specs.Syntax.{Parts, end_parts, value, act, enter, either, Steps}
use Rattle.walk_theory.specs.Walks.{Task, Config, to, step}

-- what is left, or the first fault and the core that it found, or that this is no plain evaluation
pub data Outcome (C : Type 0) : Type 0 where
  leaves : C → Outcome C
  faulted : ℕ → C → Outcome C
  not_plain : Outcome C

-- one evaluation after another
abbrev pub and_then : {C : Type 0} → Outcome C → (C → Outcome C) → Outcome C
and_then (leaves c) f = f c
and_then (faulted k c) f = faulted k c
and_then not_plain f = not_plain

-- an act
abbrev pub of_effect : {C Q R : Type 0} → C → Effect C Q R → Outcome C
of_effect c (goes_to d) = leaves d
of_effect c (faults k) = faulted k c
of_effect c (asking q f) = not_plain
of_effect c (ends_with q) = not_plain
of_effect c stuck = not_plain

-- a truth value, and then the one or the other
abbrev pub of_test : {C : Type 0} → Tested C → (so other : C → Outcome C) → Outcome C
of_test no_value so other = not_plain
of_test (holds c) so other = so c
of_test (fails c) so other = other c

module _ {A C Q R : Type 0} (L : Language A C Q R) where
  -- parts in their order: an operand, then what follows it; an act, then what follows it
  abbrev pub outcome : Parts A → C → Outcome C
  outcome end_parts c = leaves c
  outcome (value p q) c = and_then (outcome p c) (outcome q)
  outcome (act a q) c = and_then (of_effect c (L.operate a c)) (outcome q)
  outcome (enter k q) c = not_plain
  outcome (either a b q) c = and_then (of_test (L.test c) (outcome a) (outcome b)) (outcome q)

  module _ (procedures : ℕ → Steps A) (limit : ℕ) where
    -- the walk comes without an ask to what is left, with the tasks ts before it, or to the ask of the fault, after
    -- which nothing is done
    abbrev pub ComesTo : Outcome C → (line : ℕ) → List (Task A) → (count : ℕ) → Config A C → Type 0
    ComesTo (leaves d) l ts n c = Comes (step L procedures limit) c (goes (to ts d n))
    ComesTo (faulted k d) l ts n c = Comes (step L procedures limit) c (asks (L.fault k) l (λ r. to [] (L.forget d) n))
    ComesTo not_plain l ts n c = Unit {0}
