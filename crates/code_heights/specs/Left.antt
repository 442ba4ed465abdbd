-- How much is left to do at a state of flat code: a number that falls with each step and with each ask.
use Rattle.std.specs.Prelude.{ℕ, suc, ◌+◌, ◌-◌, ◌*◌, ◌<◌, List, length}
use Rattle.trace_theory.specs.Machines.{Move, goes, asks, over}
use Rattle.walk_theory.specs.Language.{Language}
use Rattle.walk_theory.specs.Code.{Line, State, code_step}
use Rattle.walk_theory.specs.Good.{rest, power, IsShallow}

-- nothing at the end
abbrev pub unless_over : {X Q R : Type 0} → Move X Q R → ℕ → ℕ
unless_over (goes c) n = n
unless_over (asks a l k) n = n
unless_over over n = 0

module _ {A C Q R : Type 0} (L : Language A C Q R) (code : List (Line A)) (limit deepest : ℕ) where
  -- the counts that are left, and then what is left before the next one
  abbrev pub number : State C → ℕ
  number d = (limit - d.count) * power (length code + 2) (suc deepest) + rest code deepest d

  abbrev pub left : State C → ℕ
  left d = unless_over (code_step L code limit d) (suc (number d))

  -- less is left after a step, and after an ask with any reply
  abbrev pub LeavesLess : ℕ → Move (State C) Q R → Type 0
  LeavesLess n (goes d) = IsShallow deepest d × (left d < n)
  LeavesLess n (asks a l k) = (r : R) → IsShallow deepest (k r) × (left (k r) < n)
  LeavesLess n over = Unit {0}
