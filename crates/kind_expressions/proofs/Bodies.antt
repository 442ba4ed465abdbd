-- Each expression of a body leaves a value of its kind, wherever the body runs.
use Rattle.std.proofs.Common.{ℕ, zero, suc, ◌*◌, ◌≤◌, List, refl}
use Rattle.checked_tree.specs.Expressions as t
use Rattle.checked_tree.specs.Statements.{Program}
use Rattle.object_rules.specs.Cells.{Declared}
use Rattle.tree_meaning.specs.Expressions.{expression}
use Rattle.made_code.specs.Ranks.{IsRanked}
use Rattle.kind_walks.specs.Kinds.{Typing}
use Rattle.kind_walks.specs.Suiting.{IsIn, Leads}
use Rattle.kind_expressions.specs.Kinded.{layouts, main_layout, IsKinded}
use Rattle.kind_expressions.specs.Laws.{environment_at, value_of}
use Rattle.kind_expressions.proofs.Goes.{Setting}
use Rattle.kind_expressions.proofs.Expressions.{goes_expression}

abbrev pub setting : Program → List Declared → ℕ → Setting
setting p coarrays n = record { coarrays = coarrays; images = n; layouts = layouts p }

pub expressions_lead : (p : Program) (coarrays : List Declared) (n : ℕ) → 2 * n ≤ 2147483647 → (k : ℕ) (s : Typing) → IsIn coarrays n (layouts p) k s → (x : t.Expression) → IsRanked p.procedures x
    → IsKinded p coarrays (layouts p k) (main_layout p) x → Leads coarrays n (layouts p) s (expression (environment_at p k) x) (value_of x s)
expressions_lead p coarrays n few zero s i (t.typed f y r) h k =
    (goes_expression (setting p coarrays n) few (environment_at p 0) (main_layout p) (main_layout p) refl (λ m. refl) (t.typed f y r) s (record { running = i.0; last = i.1; constants = i.0 }) h k).leads
expressions_lead p coarrays n few (suc m) s i (t.typed f y r) h k =
    (goes_expression (setting p coarrays n) few (environment_at p (suc m)) (layouts p (suc m)) (main_layout p) refl (λ m. refl) (t.typed f y r) s (record { running = i.0; last = i.1; constants = i.1 }) h k).leads
