-- The argument of a collective.
use Rattle.std.proofs.Common.{◌≡◌, ◌≢◌, ℕ, zero, suc, List, [], ◌∷◌, refl}
use Rattle.walk_theory.specs.Syntax.{Parts}
use Rattle.image_acts.specs.Acts as a
use Rattle.image_acts.specs.Acts.{Act, stack}
use Rattle.caf_events.specs.declared.round.GatherOp.{GatherOp}
use Rattle.checked_tree.specs.Expressions as t
use Rattle.checked_tree.specs.Statements as s
use Rattle.tree_meaning.specs.Pieces.{Piece, evaluating}
use Rattle.expr_code.specs.Drafts.{Drafted, written}
use Rattle.subroutine_code.specs.Collecting as part
use Rattle.tree_meaning.specs.Environment.{Environment}
use Rattle.tree_meaning.specs.Expressions as expressions
use Rattle.tree_meaning.specs.Sequences.{◌▸◌, doing}
use Rattle.tree_meaning.specs.Subroutines as meaning

pub array_as_it_is : (e : Environment) (r : ℕ) (p : Parts Act) → r ≢ 0 → meaning.as_array e r p ≡ (p ▸ doing (stack a.take_cells ∷ []))
array_as_it_is e zero p h = absurd (h refl)
array_as_it_is e (suc r) p h = refl

pub same_cells : (e : Environment) (r : ℕ) → meaning.taking_cells e r ≡ expressions.taking_cells r
same_cells e zero = refl
same_cells e (suc r) = refl

pub ruleset of_arrays = (array_as_it_is)

-- CO_SUM, CO_MIN and CO_MAX, by whether there is a root
pub combine_is : (e : Environment) (ps : List Piece) (ds : List ℕ) (x : s.Collected) (op : GatherOp) (r : t.OptionalExpression) (stat : t.OptionalResult) (l : ℕ) (d : Drafted) →
    written l (meaning.combine e ps ds x op r stat) d ≡ written l (meaning.settled e ps ds stat) (written l (part.combined_at e ps ds x op r) (written l (evaluating ps ds) d))
combine_is e ps ds x op t.missing stat l d = refl
combine_is e ps ds x op (t.given r) stat l d = refl
