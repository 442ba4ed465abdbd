-- The code of a program: how long it is, and its steps.
use Rattle.std.specs.Prelude.{ℕ, zero, suc, ◌+◌, List, [], ◌∷◌, ◌++◌}
use Rattle.walk_theory.specs.Syntax.{Parts, end_parts, value, act, enter, either, Form, simple, choose, loop, around, exit, cycle, return, Branches, otherwise, branch, Steps, stop, also}
use Rattle.walk_theory.specs.Code.{Instr, does_act, count_one, jump, jump_if, jump_unless, skip, skip_unless, call, go_back, Line, on}

-- how many steps of code parts make
abbrev pub parts_size : {A : Type 0} → Parts A → ℕ
parts_size end_parts = 0
parts_size (value p q) = parts_size p + parts_size q
parts_size (act a q) = 1 + parts_size q
parts_size (enter k q) = 1 + parts_size q
parts_size (either a b q) = 1 + parts_size a + 1 + parts_size b + parts_size q

-- how many steps a block, a form of statement and a choice make
abbrev mutual
  pub steps_size : {A : Type 0} → Steps A → ℕ
  steps_size stop = 0
  steps_size (also l f rest) = 1 + form_size f + steps_size rest

  pub form_size : {A : Type 0} → Form A → ℕ
  form_size (simple p) = parts_size p
  form_size (choose p bs) = parts_size p + branches_size bs
  form_size (loop s n t b) = parts_size s + 1 + (1 + steps_size b + parts_size n + parts_size t + 1)
  form_size (around p b m q) = parts_size p + steps_size b + 1 + parts_size q
  form_size (exit n) = 1
  form_size (cycle n) = 1
  form_size return = 1

  pub branches_size : {A : Type 0} → Branches A → ℕ
  branches_size (otherwise b) = steps_size b
  branches_size (branch l p a rest) = parts_size p + 1 + steps_size a + 1 + branches_size rest

-- where a loop around goes on: with the next iteration, and after the loop
pub record Places : Type 0 where
  pub next : ℕ
  pub exit : ℕ

-- EXIT (ISO/IEC 1539-1:2018, 11.1.12) of a loop that is n loops out; where there is none, the body ends
abbrev pub exit_instr : {A : Type 0} → List Places → ℕ → Instr A
exit_instr [] n = go_back
exit_instr (x ∷ xs) zero = jump x.exit
exit_instr (x ∷ xs) (suc n) = exit_instr xs n

-- CYCLE (11.1.7.4.4) of that loop
abbrev pub cycle_instr : {A : Type 0} → List Places → ℕ → Instr A
cycle_instr [] n = go_back
cycle_instr (x ∷ xs) zero = jump x.next
cycle_instr (x ∷ xs) (suc n) = cycle_instr xs n

-- the places of a loop whose iterations begin at this place
abbrev pub places : {A : Type 0} → ℕ → (body : Steps A) (next test : Parts A) → Places
places p b n t = record { next = p + 1 + steps_size b; exit = p + 1 + steps_size b + parts_size n + parts_size t + 1 }

module _ {A : Type 0} (starts : ℕ → ℕ) where
  -- the code of parts at a line
  abbrev pub parts_code : ℕ → Parts A → List (Line A)
  parts_code l end_parts = []
  parts_code l (value p q) = parts_code l p ++ parts_code l q
  parts_code l (act a q) = on l (does_act a) ∷ parts_code l q
  parts_code l (enter k q) = on l (call (starts k)) ∷ parts_code l q
  parts_code l (either a b q) = on l (skip_unless (parts_size a + 1)) ∷ (parts_code l a ++ (on l (skip (parts_size b)) ∷ (parts_code l b ++ parts_code l q)))

  -- the code of a loop from the count of an iteration at p on
  abbrev pub iterations_code : ℕ → ℕ → List (Line A) → Parts A → Parts A → List (Line A)
  iterations_code p l body n t = on l count_one ∷ (body ++ (parts_code l n ++ (parts_code l t ++ on l (jump_if p) ∷ [])))

  -- the code of a choice behind its test: a block, and what else there is at q; it ends at e
  abbrev pub pick_code : ℕ → ℕ → ℕ → List (Line A) → List (Line A) → List (Line A)
  pick_code l q e a rest = on l (jump_unless q) ∷ (a ++ (on l (jump e) ∷ rest))

  -- the code of a block at place p, inside loops that go on at these places
  abbrev mutual
    pub steps_code : List Places → ℕ → Steps A → List (Line A)
    steps_code xs p stop = []
    steps_code xs p (also l f rest) = on l count_one ∷ (form_code xs (p + 1) l f ++ steps_code xs (p + 1 + form_size f) rest)

    pub form_code : List Places → ℕ → ℕ → Form A → List (Line A)
    form_code xs p l (simple q) = parts_code l q
    form_code xs p l (choose q bs) = parts_code l q ++ branches_code xs (p + parts_size q) bs
    form_code xs p l (loop s n t b) =
        parts_code l s ++ (on l (jump (p + parts_size s + 1 + 1 + steps_size b + parts_size n)) ∷ iterations_code (p + parts_size s + 1) l (steps_code (places (p + parts_size s + 1) b n t ∷ xs) (p + parts_size s + 1 + 1) b) n t)
    form_code xs p l (around q b m r) = parts_code l q ++ (steps_code xs (p + parts_size q) b ++ (on m count_one ∷ parts_code m r))
    form_code xs p l (exit n) = on l (exit_instr xs n) ∷ []
    form_code xs p l (cycle n) = on l (cycle_instr xs n) ∷ []
    form_code xs p l return = on l go_back ∷ []

    pub branches_code : List Places → ℕ → Branches A → List (Line A)
    branches_code xs p (otherwise b) = steps_code xs p b
    branches_code xs p (branch l q a rest) =
        parts_code l q ++ pick_code l (p + parts_size q + 1 + steps_size a + 1) (p + parts_size q + 1 + steps_size a + 1 + branches_size rest) (steps_code xs (p + parts_size q + 1) a) (branches_code xs (p + parts_size q + 1 + steps_size a + 1) rest)

-- where the procedures of this list start, the first one at p
abbrev pub start_of : {A : Type 0} → ℕ → List (Steps A) → ℕ → ℕ
start_of p [] k = p
start_of p (b ∷ bs) zero = p
start_of p (b ∷ bs) (suc k) = start_of (p + steps_size b + 1) bs k

-- the code of procedures, the first one at p, and one step back behind it
abbrev pub bodies_code : {A : Type 0} → (ℕ → ℕ) → ℕ → ℕ → List (Steps A) → List (Line A)
bodies_code starts l p [] = on l go_back ∷ []
bodies_code starts l p (b ∷ bs) = steps_code starts [] p b ++ on l go_back ∷ bodies_code starts l (p + steps_size b + 1) bs

-- the code of a program: the call of its main program, which is the first procedure, the count and the last act of its
-- end
abbrev pub program_code : {A : Type 0} → A → ℕ → List (Steps A) → List (Line A)
program_code last l bs = on l (call (start_of 4 bs 0)) ∷ on l count_one ∷ on l (does_act last) ∷ on l go_back ∷ bodies_code (start_of 4 bs) l 4 bs
