-- The walk of a program: one small step after another over the list of what is left to do.
use Rattle.std.specs.Prelude.{ℕ, zero, suc, ◌+◌, cond, nat_lt, List, [], ◌∷◌}
use Rattle.trace_theory.specs.Machines.{Move, goes, over}
use Rattle.walk_theory.specs.Language.{Language, acted, counted, by_test}
use Rattle.walk_theory.specs.Syntax.{Parts, end_parts, value, act, enter, either, Form, simple, choose, loop, around, exit, cycle, return, Branches, otherwise, branch, Steps, stop, also}

-- a loop that is under way
pub record Loop (A : Type 0) : Type 0 where
  pub line : ℕ
  pub next : Parts A
  pub test : Parts A
  pub body : Steps A

-- what is left to do
pub data Task (A : Type 0) : Type 0 where
  run : Steps A → Task A  -- a block
  eval : ℕ → Parts A → Task A  -- parts, at this line
  tally : ℕ → Task A  -- counts one, at this line
  decide : Branches A → Task A  -- finds the block whose test gives true
  pick : ℕ → Steps A → Branches A → Task A  -- this block where the test gave true, else one of the others
  again : Loop A → Task A  -- the end of an iteration of a loop
  iterate : Loop A → Task A  -- one more iteration where the test gave true
  back : Task A  -- the end of a procedure's body

-- what is left to do, the core, and how many statements were counted
pub record Config (A C : Type 0) : Type 0 where
  pub tasks : List (Task A)
  pub core : C
  pub count : ℕ

-- a configuration
abbrev pub to : {A C : Type 0} → List (Task A) → C → ℕ → Config A C
to ts c n = record { tasks = ts; core = c; count = n }

-- where a statement of a block is next, with what is behind it in the block and ts after the block
abbrev pub at_statement : {A C : Type 0} → ℕ → Form A → Steps A → List (Task A) → C → ℕ → Config A C
at_statement l f rest ts c n = to (run (also l f rest) ∷ ts) c n

-- where parts are next
abbrev pub at_parts : {A C : Type 0} → ℕ → Parts A → List (Task A) → C → ℕ → Config A C
at_parts l p ts c n = to (eval l p ∷ ts) c n

-- where the test of a loop is next
abbrev pub at_test : {A C : Type 0} → Loop A → List (Task A) → C → ℕ → Config A C
at_test m ts c n = to (eval m.line m.test ∷ iterate m ∷ ts) c n

-- where the body of a loop is next
abbrev pub at_body : {A C : Type 0} → Loop A → List (Task A) → C → ℕ → Config A C
at_body m ts c n = to (run m.body ∷ again m ∷ ts) c n

-- EXIT (ISO/IEC 1539-1:2018, 11.1.12) of a loop that is n loops out: what follows that loop. Where there is none, the
-- body ends.
abbrev pub after_loop : {A : Type 0} → ℕ → List (Task A) → List (Task A)
after_loop n [] = []
after_loop n (back ∷ ts) = back ∷ ts
after_loop n (again l ∷ ts) = elim n [ zero ↦ ts | suc m ↦ after_loop m ts ]
after_loop n (run ss ∷ ts) = after_loop n ts
after_loop n (eval l p ∷ ts) = after_loop n ts
after_loop n (tally l ∷ ts) = after_loop n ts
after_loop n (decide b ∷ ts) = after_loop n ts
after_loop n (pick l a b ∷ ts) = after_loop n ts
after_loop n (iterate l ∷ ts) = after_loop n ts

-- CYCLE (11.1.7.4.4): the end of that loop's iteration
abbrev pub from_loop : {A : Type 0} → ℕ → List (Task A) → List (Task A)
from_loop n [] = []
from_loop n (back ∷ ts) = back ∷ ts
from_loop n (again l ∷ ts) = elim n [ zero ↦ again l ∷ ts | suc m ↦ from_loop m ts ]
from_loop n (run ss ∷ ts) = from_loop n ts
from_loop n (eval l p ∷ ts) = from_loop n ts
from_loop n (tally l ∷ ts) = from_loop n ts
from_loop n (decide b ∷ ts) = from_loop n ts
from_loop n (pick l a b ∷ ts) = from_loop n ts
from_loop n (iterate l ∷ ts) = from_loop n ts

-- RETURN (15.6.2.7): the end of the procedure's body
abbrev pub from_back : {A : Type 0} → List (Task A) → List (Task A)
from_back [] = []
from_back (back ∷ ts) = back ∷ ts
from_back (again l ∷ ts) = from_back ts
from_back (run ss ∷ ts) = from_back ts
from_back (eval l p ∷ ts) = from_back ts
from_back (tally l ∷ ts) = from_back ts
from_back (decide b ∷ ts) = from_back ts
from_back (pick l a b ∷ ts) = from_back ts
from_back (iterate l ∷ ts) = from_back ts

-- how many bodies are being executed: the main program's, and one for each instance of a procedure (15.6.2.4)
abbrev pub backs : {A : Type 0} → List (Task A) → ℕ
backs [] = 0
backs (back ∷ ts) = suc (backs ts)
backs (again l ∷ ts) = backs ts
backs (run ss ∷ ts) = backs ts
backs (eval l p ∷ ts) = backs ts
backs (tally l ∷ ts) = backs ts
backs (decide b ∷ ts) = backs ts
backs (pick l a b ∷ ts) = backs ts
backs (iterate l ∷ ts) = backs ts

-- what a form of statement leaves to do before what is behind it
abbrev pub form_tasks : {A : Type 0} → ℕ → Form A → List (Task A) → List (Task A)
form_tasks l (simple p) ts = eval l p ∷ ts
form_tasks l (choose p bs) ts = eval l p ∷ decide bs ∷ ts
form_tasks l (loop s n t b) ts = eval l s ∷ run stop ∷ eval l t ∷ iterate (record { line = l; next = n; test = t; body = b }) ∷ ts
form_tasks l (around p b m q) ts = eval l p ∷ run b ∷ tally m ∷ eval m q ∷ ts
form_tasks l (exit n) ts = after_loop n ts
form_tasks l (cycle n) ts = from_loop n ts
form_tasks l return ts = from_back ts

module _ {A C Q R : Type 0} (L : Language A C Q R) (procedures : ℕ → Steps A) (limit : ℕ) where
  -- the first task, with those behind it, the core and the count; no task recurs over a tree
  abbrev pub step_task : Task A → List (Task A) → C → ℕ → Move (Config A C) Q R
  step_task (run stop) ts c n = goes (to ts c n)
  step_task (run (also l f rest)) ts c n = counted L limit l n (to (form_tasks l f (run rest ∷ ts)) c (n + 1)) (to [] c n)
  step_task (eval l end_parts) ts c n = goes (to ts c n)
  step_task (eval l (value p q)) ts c n = goes (to (eval l p ∷ eval l q ∷ ts) c n)
  step_task (eval l (act a q)) ts c n = acted L l (λ d. to (eval l q ∷ ts) d n) (λ d. to [] d n) c (L.operate a c)
  step_task (eval l (enter k q)) ts c n = cond (nat_lt (L.frames c) (backs ts)) over (goes (to (run (procedures k) ∷ back ∷ eval l q ∷ ts) c n))
  step_task (eval l (either a b q)) ts c n = by_test (L.test c) (λ d. to (eval l a ∷ run stop ∷ eval l q ∷ ts) d n) (λ d. to (eval l b ∷ eval l q ∷ ts) d n)
  step_task (tally l) ts c n = counted L limit l n (to ts c (n + 1)) (to [] c n)
  step_task (decide (otherwise b)) ts c n = goes (to (run b ∷ ts) c n)
  step_task (decide (branch l p a rest)) ts c n = goes (to (eval l p ∷ pick l a rest ∷ ts) c n)
  step_task (pick l a rest) ts c n = by_test (L.test c) (λ d. to (run a ∷ ts) d n) (λ d. to (decide rest ∷ ts) d n)
  step_task (again p) ts c n = goes (to (eval p.line p.next ∷ eval p.line p.test ∷ iterate p ∷ ts) c n)
  step_task (iterate p) ts c n = by_test (L.test c) (λ d. to (tally p.line ∷ run p.body ∷ again p ∷ ts) d n) (λ d. to ts d n)
  step_task back ts c n = goes (to ts c n)

  -- one step of the walk
  abbrev pub step : Config A C → Move (Config A C) Q R
  step c = elim c.tasks [ [] ↦ over | t ∷ ts ↦ step_task t ts c.core c.count ]

-- the whole program: the body of its main program, which is the first, then the count and the last act of its end
abbrev pub start : {A C : Type 0} → A → ℕ → C → Config A C
start last line c = to (eval line (enter 0 end_parts) ∷ tally line ∷ eval line (act last end_parts) ∷ []) c 0
