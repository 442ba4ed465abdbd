-- Statements of a body suit, wherever the body runs.
use Rattle.std.proofs.Common.{ℕ, zero, suc, ◌*◌, ◌≤◌, List, refl}
use Rattle.checked_tree.specs.declared.data.DataType.{DataType}
use Rattle.checked_tree.specs.Expressions as t
use Rattle.checked_tree.specs.Statements as s
use Rattle.checked_tree.specs.Statements.{Program}
use Rattle.object_rules.specs.Cells.{Declared}
use Rattle.tree_meaning.specs.Forms.{form}
use Rattle.made_code.specs.Ranks as ranks
use Rattle.kind_walks.specs.Kinds.{Typing}
use Rattle.kind_walks.specs.Suiting.{IsIn, FormSuits}
use Rattle.kind_expressions.specs.Kinded.{layouts, main_layout}
use Rattle.kind_expressions.specs.Laws.{environment_at}
use Rattle.kind_expressions.proofs.Bodies.{setting}
use Rattle.kind_statements.specs.Kinded.{IsAssigned}
use Rattle.kind_statements.proofs.Settled.{goes_released}
use Rattle.kind_statements.proofs.Assignments.{goes_assignment}

pub assignments_suit : (p : Program) (coarrays : List Declared) (n : ℕ) → 2 * n ≤ 2147483647 → (k : ℕ) (z : Typing) → IsIn coarrays n (layouts p) k z
    → (d : t.Designator) (y : DataType) (r : ℕ) (x : t.Expression) → ranks.IsAssigned p.procedures d r x → IsAssigned p coarrays (layouts p k) (main_layout p) d y x
    → (l : ℕ) → FormSuits coarrays n (layouts p) z (form (environment_at p k) l (s.assign d y r x))
assignments_suit p coarrays n few zero z i d y r x h g l =
    (goes_released (setting p coarrays n) (goes_assignment (setting p coarrays n) few (environment_at p 0) (main_layout p) (main_layout p) refl (λ m. refl) d y r x z (record { running = i.0; last = i.1; constants = i.0 }) h g)).leads
assignments_suit p coarrays n few (suc m) z i d y r x h g l =
    (goes_released (setting p coarrays n) (goes_assignment (setting p coarrays n) few (environment_at p (suc m)) (layouts p (suc m)) (main_layout p) refl (λ o. refl) d y r x z (record { running = i.0; last = i.1; constants = i.1 }) h g)).leads
