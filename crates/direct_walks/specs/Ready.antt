-- Where a statement begins, and where the walk goes on behind statements.
use Rattle.std.specs.Prelude.{ℕ, ◌+◌, ◌*◌, ◌≤◌, ◌<◌, ◌≡◌, List, length, slice_get}
use Rattle.walk_theory.specs.Walks.{Task, Config, to}
use Rattle.image_acts.specs.Statuses.{most_cells}
use Rattle.image_acts.specs.Acts.{Act}
use Rattle.image_acts.specs.Core.{Core, elements_in}
use Rattle.image_acts.specs.Operate.Printing.{open_portions}
use Rattle.tree_meaning.specs.Environment.{Environment}
use Rattle.direct_meaning.specs.States.{State}
use Rattle.direct_meaning.specs.Statements.{Control}
use Rattle.direct_walks.specs.Walking.{Beside, core_of, behind}

-- the hidden cells of constructs with lower numbers are as they were
abbrev pub Keeps : ℕ → Beside → Beside → Type 0
Keeps h b f = (j : ℕ) → j < 2 * h → slice_get f.hidden j ≡ slice_get b.hidden j

module _ (e : Environment) (most lines : ℕ) where
  -- Before a statement: the frame has the cells of its unit, no evaluation cell is in use but those of the callers, and
  -- there is room for array values and for the literals of a PRINT beside those that are being evaluated.
  pub record IsReady (c : Core) (b : Beside) (z : State) : Type 0 where
    pub variables : length z.frame.cells ≡ e.hidden
    pub hidden : length b.hidden ≡ 2 * most
    pub free : z.used ≡ z.frame.base
    pub cells : z.used ≤ most_cells
    pub room : elements_in c.arrays + 6 * 64 ≤ z.used + 458751
    pub texts : open_portions c.printing + lines ≤ z.used + 65793

  -- behind a block: the walk goes on where the meaning says, with the same stack, ready for what follows
  abbrev pub GoesOn : (h : ℕ) → List (Task Act) → Core → Beside → ℕ → Control × ℕ → State → Config Act Core → Type 0
  GoesOn h ts c b n q z d = (f : Beside) × (d ≡ to (behind q.0 ts) (core_of c f z) q.1) × Keeps h b f × (n ≤ q.1) × IsReady c f z
