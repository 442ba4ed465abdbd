-- What is left to do before the next count or ask: a number that falls with each step.
use Rattle.std.specs.Prelude.{ℕ, ◌+◌, List, [], ◌∷◌}
use Rattle.walk_theory.specs.Syntax.{Parts, end_parts, value, act, enter, either, Branches, otherwise, branch}
use Rattle.walk_theory.specs.Walks.{Task, run, eval, tally, decide, pick, again, iterate, back}

-- of parts
abbrev pub parts_weight : {A : Type 0} → Parts A → ℕ
parts_weight end_parts = 1
parts_weight (value p q) = parts_weight p + parts_weight q + 1
parts_weight (act a q) = parts_weight q + 1
parts_weight (enter k q) = parts_weight q + 3
parts_weight (either a b q) = parts_weight a + parts_weight b + parts_weight q + 2

-- of the tests of a choice
abbrev pub branches_weight : {A : Type 0} → Branches A → ℕ
branches_weight (otherwise b) = 2
branches_weight (branch l p a rest) = parts_weight p + branches_weight rest + 3

-- of a task before others of weight w; behind a count nothing weighs
abbrev pub task_weight : {A : Type 0} → Task A → ℕ → ℕ
task_weight (run ss) w = 1 + w
task_weight (eval l p) w = parts_weight p + w
task_weight (tally l) w = 1
task_weight (decide b) w = branches_weight b + w
task_weight (pick l a b) w = branches_weight b + 2 + w
task_weight (again l) w = parts_weight l.next + parts_weight l.test + 3 + w
task_weight (iterate l) w = 2 + w
task_weight back w = 1 + w

-- of all that is left to do
abbrev pub weight : {A : Type 0} → List (Task A) → ℕ
weight [] = 0
weight (t ∷ ts) = task_weight t (weight ts)
