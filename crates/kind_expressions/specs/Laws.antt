-- What is claimed of expressions (ISO/IEC 1539-1:2018, 7.4, 10.1).
use Rattle.std.specs.Prelude.{ℕ, zero, suc, ◌*◌, ◌≤◌, List, Option}
use Rattle.caf_base.specs.declared.value.Kind.{Kind}
use Rattle.checked_tree.specs.Expressions as t
use Rattle.checked_tree.specs.Statements.{Program}
use Rattle.object_rules.specs.Cells.{Declared}
use Rattle.image_acts.specs.Acts.{here, host}
use Rattle.tree_meaning.specs.Environment.{Environment}
use Rattle.tree_meaning.specs.Expressions.{expression}
use Rattle.tree_meaning.specs.Forms.{environment_of}
use Rattle.made_code.specs.Ranks.{IsRanked}
use Rattle.kind_walks.specs.Kinds.{Typing, with_number, with_array}
use Rattle.kind_walks.specs.Suiting.{IsIn, Leads}
use Rattle.kind_expressions.specs.Kinded.{kind_of, layouts, main_layout, procedure_at, IsKinded}

-- with a value more: a number, or an array, with numbers of this kind
abbrev pub result : Option Kind → ℕ → Typing → Typing
result k zero s = with_number k s
result k (suc rank) s = with_array k s

abbrev pub value_of : t.Expression → Typing → Typing
value_of (t.typed f y r) s = result (kind_of y) r s

-- what a statement of this body sees, the main program's first
abbrev pub environment_at : Program → ℕ → Environment
environment_at p zero = environment_of p here p.main
environment_at p (suc n) = environment_of p host (procedure_at p.procedures n).unit

-- wherever the body runs, in a run of so few images that their number is of kind 4, twice
abbrev pub ExpressionLaw : Type 0
ExpressionLaw = (p : Program) (coarrays : List Declared) (n : ℕ) → 2 * n ≤ 2147483647 → (k : ℕ) (s : Typing) → IsIn coarrays n (layouts p) k s
    → (x : t.Expression) → IsRanked p.procedures x → IsKinded p coarrays (layouts p k) (main_layout p) x → Leads coarrays n (layouts p) s (expression (environment_at p k) x) (value_of x s)
