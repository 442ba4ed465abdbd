-- When a configuration of the walk and a state of the code stand alike: the code does these tasks.
use Rattle.std.specs.Prelude.{ℕ, ◌+◌, ◌≡◌, ◌⊎◌, ◌++◌, List, [], ◌∷◌, Some, None, slice_get}
use Rattle.walk_theory.specs.Syntax.{Steps}
use Rattle.walk_theory.specs.Walks.{Loop, Task, run, eval, tally, decide, pick, again, iterate, back, Config}
use Rattle.walk_theory.specs.Code.{Line, on, State, Instr, does_act, count_one, jump, jump_if, jump_unless, skip, skip_unless, call, go_back, Stands}
use Rattle.walk_theory.specs.Made.{parts_size, steps_size, branches_size, Places, places, parts_code, iterations_code, pick_code, steps_code, branches_code}

-- a jump or a skip from p goes to q
abbrev pub Hops : {A : Type 0} → Instr A → ℕ → ℕ → Type 0
Hops (jump r) p q = r ≡ q
Hops (skip k) p q = p + 1 + k ≡ q
Hops (does_act a) p q = ⊥
Hops count_one p q = ⊥
Hops (jump_if r) p q = ⊥
Hops (jump_unless r) p q = ⊥
Hops (skip_unless k) p q = ⊥
Hops (call r) p q = ⊥
Hops go_back p q = ⊥

module _ {A : Type 0} (code : List (Line A)) (starts : ℕ → ℕ) where
  -- a place is reached from another by at most one jump
  abbrev pub Leads : ℕ → ℕ → Type 0
  Leads p q = (p ≡ q) ⊎ ((l : ℕ) × (i : Instr A) × (slice_get code p ≡ Some (on l i)) × Hops i p q)

  -- the iterations of this loop stand at p, and it goes on outside with the places xs
  abbrev pub IterationsStand : List Places → ℕ → Loop A → Type 0
  IterationsStand xs p l = Stands code p (iterations_code starts p l.line (steps_code starts (places p l.body l.next l.test ∷ xs) (p + 1) l.body) l.next l.test)

  -- the code from p on does these tasks, inside these loops, and then goes back to these places
  abbrev pub Does : List Places → ℕ → List ℕ → List (Task A) → Type 0
  Does xs p rs [] = (xs ≡ []) × (rs ≡ []) × ((slice_get code p ≡ None) ⊎ ((l : ℕ) × (slice_get code p ≡ Some (on l go_back))))
  Does xs p rs (run ss ∷ ts) = Stands code p (steps_code starts xs p ss) × (q : ℕ) × Leads (p + steps_size ss) q × Does xs q rs ts
  Does xs p rs (eval l q ∷ ts) = Stands code p (parts_code starts l q) × Does xs (p + parts_size q) rs ts
  Does xs p rs (tally l ∷ ts) = (slice_get code p ≡ Some (on l count_one)) × Does xs (p + 1) rs ts
  Does xs p rs (decide b ∷ ts) = Stands code p (branches_code starts xs p b) × Does xs (p + branches_size b) rs ts
  Does xs p rs (pick l a b ∷ ts) =
      Stands code p (pick_code starts l (p + 1 + steps_size a + 1) (p + 1 + steps_size a + 1 + branches_size b) (steps_code starts xs (p + 1) a) (branches_code starts xs (p + 1 + steps_size a + 1) b))
      × Does xs (p + 1 + steps_size a + 1 + branches_size b) rs ts
  Does [] p rs (again l ∷ ts) = ⊥
  Does (x ∷ xs) p rs (again l ∷ ts) = (t : ℕ) × (x ≡ places t l.body l.next l.test) × (p ≡ t + 1 + steps_size l.body) × IterationsStand xs t l × Does xs (t + 1 + steps_size l.body + parts_size l.next + parts_size l.test + 1) rs ts
  Does xs p rs (iterate l ∷ ts) = (t : ℕ) × (p ≡ t + 1 + steps_size l.body + parts_size l.next + parts_size l.test) × IterationsStand xs t l × Does xs (p + 1) rs ts
  Does xs p [] (back ∷ ts) = ⊥
  Does xs p (r ∷ rs) (back ∷ ts) = (xs ≡ []) × (l : ℕ) × (slice_get code p ≡ Some (on l go_back)) × (ys : List Places) × Does ys r rs ts

  -- The configuration and the state stand alike: the code does what is left to do, and core and count are the same.
  pub record Alike {C : Type 0} (c : Config A C) (d : State C) : Type 0 where
    pub loops : List Places
    pub does : Does loops d.at d.returns c.tasks
    pub core : d.core ≡ c.core
    pub count : d.count ≡ c.count

  -- the code of every procedure stands where it starts
  abbrev pub Proceed : (ℕ → Steps A) → Type 0
  Proceed procedures = (k : ℕ) → (l : ℕ) × Stands code (starts k) (steps_code starts [] (starts k) (procedures k) ++ on l go_back ∷ [])
