-- What is claimed of statements (ISO/IEC 1539-1:2018, 10.2.1).
use Rattle.std.specs.Prelude.{ℕ, ◌*◌, ◌≤◌, List}
use Rattle.checked_tree.specs.declared.data.DataType.{DataType}
use Rattle.checked_tree.specs.Expressions as t
use Rattle.checked_tree.specs.Statements as s
use Rattle.checked_tree.specs.Statements.{Program}
use Rattle.object_rules.specs.Cells.{Declared}
use Rattle.tree_meaning.specs.Forms.{form, bodies}
use Rattle.made_code.specs.Ranks as ranks
use Rattle.kind_walks.specs.Kinds.{Typing}
use Rattle.walk_theory.specs.Syntax.{body_of}
use Rattle.checked_tree.specs.declared.action.WrittenArguments.{WrittenArguments}
use Rattle.tree_meaning.specs.Pieces.{written_dummies}
use Rattle.tree_meaning.specs.Subroutines.{intrinsic_call}
use Rattle.kind_walks.specs.Suiting.{IsIn, Leads, FormSuits, BodiesSuit}
use Rattle.kind_expressions.specs.Kinded.{layouts, main_layout}
use Rattle.kind_expressions.specs.Laws.{environment_at}
use Rattle.kind_statements.specs.Kinded.{IsAssigned, IsSubroutine, IsKindedProgram}

-- an assignment suits wherever its body runs, in a run of so few images that twice their number is of kind 4
abbrev pub AssignmentLaw : Type 0
AssignmentLaw = (p : Program) (coarrays : List Declared) (n : ℕ) → 2 * n ≤ 2147483647 → (k : ℕ) (z : Typing) → IsIn coarrays n (layouts p) k z
    → (d : t.Designator) (y : DataType) (r : ℕ) (x : t.Expression) → ranks.IsAssigned p.procedures d r x → IsAssigned p coarrays (layouts p k) (main_layout p) d y x
    → (l : ℕ) → FormSuits coarrays n (layouts p) z (form (environment_at p k) l (s.assign d y r x))

-- calls of intrinsic subroutines do so too, of the program's bodies
abbrev pub SubroutinesSuit : Program → List Declared → ℕ → Type 0
SubroutinesSuit p coarrays n = (k : ℕ) (z : Typing) → IsIn coarrays n (layouts p) k z
    → (i : s.IntrinsicSubroutine) (a : WrittenArguments) → ranks.IsSubroutine p.procedures i (written_dummies a) → IsSubroutine p coarrays (layouts p k) (main_layout p) i → Leads coarrays n (layouts p) z (intrinsic_call (environment_at p k) i a) z

-- where they do, each body of a program suits whose parts are of the ranks, types and kinds that their places want
abbrev pub ProgramLaw : Type 0
ProgramLaw = (p : Program) (coarrays : List Declared) (n : ℕ) → 2 * n ≤ 2147483647 → ranks.IsRankedProgram p → IsKindedProgram coarrays p → SubroutinesSuit p coarrays n → BodiesSuit coarrays n (layouts p) (body_of (bodies p))
