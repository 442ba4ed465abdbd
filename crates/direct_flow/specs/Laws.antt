-- What is claimed of blocks, and of programs without calls.
use Rattle.std.specs.Prelude.{ℕ, suc, ◌≤◌, ◌<◌, List, ◌∷◌, map}
use Rattle.walk_theory.specs.Syntax.{Steps, body_of}
use Rattle.walk_theory.specs.Walks.{Task, run, to}
use Rattle.checked_tree.specs.Statements as s
use Rattle.image_acts.specs.Acts.{Act, here}
use Rattle.image_acts.specs.Core.{Core}
use Rattle.tree_meaning.specs.Environment.{Environment}
use Rattle.tree_meaning.specs.Forms.{steps, environment_of, bodies}
use Rattle.tree_meaning.specs.Start.{cell_of, first_core, first_frame, start_of}
use Rattle.direct_meaning.specs.States.{State, state_of}
use Rattle.direct_meaning.specs.Outcomes.{Does, nothing_said}
use Rattle.direct_meaning.specs.Values.{Value}
use Rattle.direct_meaning.specs.Expressions.{Passed}
use Rattle.direct_meaning.specs.Statements.{block, whole}
use Rattle.direct_laws.specs.Laws.{IsCovered, OptionWithin, ResultWithin}
use Rattle.direct_statements.specs.Laws.{IsAssigned}
use Rattle.direct_output.specs.Laws.{AreItems, literals_in}
use Rattle.direct_hidden.specs.Laws.{AreBlind}
use Rattle.direct_control.specs.Laws.{IsControl}
use Rattle.direct_locks.specs.Laws.{IsLocking}
use Rattle.direct_walks.specs.Walking.{Beside, core_of, Walks}
use Rattle.direct_walks.specs.Ready.{IsReady, GoesOn}

-- The statements for which the law is proved. A unit has hidden cells for so many constructs that are open at one time:
-- each DO with a variable and each SELECT CASE has a number below that, at least h, and those in it higher ones. A PRINT
-- has at most so many literals.
module _ (most lines : ℕ) where
  abbrev mutual
    pub IsStatement : (h : ℕ) → s.StatementForm → Type 0
    IsStatement h (s.assign d type rank x) = IsCovered x × IsAssigned d rank
    IsStatement h (s.print f xs) = AreItems xs × (literals_in xs ≤ lines)
    IsStatement h (s.exit k) = Unit {0}
    IsStatement h (s.cycle k) = Unit {0}
    IsStatement h s.return = Unit {0}
    IsStatement h (s.stop code) = OptionWithin 64 code
    IsStatement h (s.error_stop code) = OptionWithin 64 code
    IsStatement h s.fail_image = Unit {0}
    IsStatement h (s.if x body others none) = IsCovered x × IsBlock h body × AreElseIfs h others × IsBlock h none
    IsStatement h (s.do_counted v k first last step n body) =
        IsCovered first × IsCovered last × OptionWithin 64 step × (h ≤ n) × (n < most) × IsBlock (suc n) body
    IsStatement h (s.do_while x body) = IsCovered x × IsBlock h body
    IsStatement h (s.do_forever body) = IsBlock h body
    IsStatement h (s.select x n cs none) = IsCovered x × (h ≤ n) × (n < most) × AreCases (suc n) cs × IsBlock (suc n) none
    IsStatement h (s.sync_all stat) = IsControl (s.sync_all stat)
    IsStatement h (s.sync_memory stat) = IsControl (s.sync_memory stat)
    IsStatement h (s.sync_images is stat) = IsControl (s.sync_images is stat)
    IsStatement h (s.sync_team x stat) = IsControl (s.sync_team x stat)
    IsStatement h (s.form_team x v index stat order) = IsCovered x × OptionWithin 64 index × ResultWithin 64 stat
    IsStatement h (s.lock d acquired stat order) = IsLocking (s.lock d acquired stat order)
    IsStatement h (s.unlock d stat) = IsLocking (s.unlock d stat)
    IsStatement h (s.event_post d stat) = IsLocking (s.event_post d stat)
    IsStatement h (s.event_wait d until stat order) = IsLocking (s.event_wait d until stat order)
    IsStatement h (s.critical k stat body m) = ResultWithin 64 stat × IsBlock h body
    IsStatement h (s.change_team x stat body end_stat m) = IsCovered x × ResultWithin 64 stat × IsBlock h body × ResultWithin 64 end_stat
    IsStatement h f = ⊥

    pub IsBlock : (h : ℕ) → s.Statements → Type 0
    IsBlock h s.no_statements = Unit {0}
    IsBlock h (s.more_statements (s.on_line f l) ss) = IsStatement h f × IsBlock h ss

    pub AreElseIfs : (h : ℕ) → s.ElseIfs → Type 0
    AreElseIfs h s.no_else_ifs = Unit {0}
    AreElseIfs h (s.more_else_ifs x body l others) = IsCovered x × IsBlock h body × AreElseIfs h others

    pub AreCases : (h : ℕ) → s.Cases → Type 0
    AreCases h s.no_cases = Unit {0}
    AreCases h (s.more_cases rs body l others) = IsBlock h body × AreCases h others

-- the walk of a block does what it means
abbrev pub BlockLaw : Type 0
BlockLaw = (procedures : ℕ → Steps Act) (limit : ℕ) (e : Environment) (calls : ℕ → List Passed → Does Value) → AreBlind calls
    → (most lines h : ℕ) (ss : s.Statements) → IsBlock most lines h ss
    → (l n : ℕ) (ts : List (Task Act)) (c : Core) (b : Beside) (z : State) → IsReady e most lines c b z
    → Walks procedures limit (GoesOn e most lines h ts c b n) (block limit e calls ss n l z) (to (run (steps e ss) ∷ ts) (core_of c b z) n)

-- a program of these statements: none calls a procedure
abbrev pub IsPlain : s.Program → Type 0
IsPlain p = IsBlock p.main.hidden 65793 0 p.main.statements

abbrev pub no_calls : ℕ → List Passed → Does Value
no_calls n xs = nothing_said

-- the variables of the main program at its start (5.3.5, 8.4)
abbrev pub first_state : s.Program → (me images : ℕ) → State
first_state p me n = record (state_of (first_core p me n)) { frame = record (first_frame p) { cells = map cell_of p.main.variables } }

-- the walk of a program does what it means; it ends with an ask
abbrev pub ProgramLaw : Type 0
ProgramLaw = (p : s.Program) (me images limit l : ℕ) → IsPlain p
    → Walks (body_of (bodies p)) limit (λ u z d. ⊥)
    (whole limit (environment_of p here p.main) no_calls p.main.statements p.end_line l (first_state p me images))
    (start_of p me images)
