-- Calls of atomic subroutines in memory, as their code is made.
use Rattle.std.specs.Prelude.{ℕ, ◌+◌, pos, List, [], ◌∷◌, Option, Some, None}
use Rattle.std.specs.Option.{option_map}
use Rattle.walk_theory.specs.Syntax.{Parts}
use Rattle.checked_tree.specs.Expressions as t
use Rattle.checked_tree.specs.ExpressionViews as view
use Rattle.image_acts.specs.Acts as a
use Rattle.image_acts.specs.Acts.{Act, stack, ask}
use Rattle.tree_meaning.specs.Environment.{Environment}
use Rattle.tree_meaning.specs.Expressions.{storing}
use Rattle.tree_meaning.specs.ImageControl.{cell_there, cell_coarray, cell_stat}
use Rattle.tree_meaning.specs.Pieces.{Piece, evaluating, sizes, depth, fetching}
use Rattle.tree_meaning.specs.Sequences.{◌▸◌, doing, nothing, dropping, copying, pushing, choosing}
use Rattle.tree_meaning.specs.Settling.{settling, settling_selector}
use Rattle.tree_meaning.specs.Subroutines.{atomic, fetched, no_operand, succeeded}
use Rattle.subroutine_code.specs.declared.atomic.AtomicCall.{AtomicCall}

-- the old value goes into the result variable whose place stands beneath so many numbers, where the action succeeded
abbrev pub fetching_old : t.ResultVariable → (depth : ℕ) → Parts Act
fetching_old r depth = succeeded 0 ▸ choosing (copying 1 1 ▸ storing depth r) nothing

module _ (e : Environment) (ps : List Piece) (ds : List ℕ) where
  -- an operand by its dummy, with so many numbers above the arguments; where there is none it is 0
  abbrev pub operand : Option ℕ → (above : ℕ) → Parts Act
  operand None above = no_operand e
  operand (Some d) above = fetching ps ds d above 1

  abbrev pub old_of : AtomicCall → t.OptionalResult
  old_of c = view.maybe_result (option_map (λ r. r.now) c.old)

  -- the operands and the action
  abbrev pub operated : AtomicCall → Parts Act
  operated c = operand c.first 2 ▸ operand c.second 3 ▸ doing (ask (a.atomic c.op (cell_coarray e (view.designator c.atom.now)) c.kind) ∷ stack a.accessed ∷ [])

  -- the arguments and the action
  abbrev pub acting : AtomicCall → Parts Act
  acting c = evaluating ps ds ▸ cell_there e (view.designator c.atom.now) ▸ fetching ps ds c.atom_dummy 0 2 ▸ operated c

  -- what becomes of the status and of the old value
  abbrev pub acted : AtomicCall → Parts Act
  acted c =
      settling_selector (cell_stat e (view.designator c.atom.now)) (depth ps ds c.atom_dummy + 5) ▸ fetched e (old_of c) (depth ps ds c.old_dummy + 3)
      ▸ settling (view.maybe_result c.stat.now) (depth ps ds c.stat_dummy + 2) [] ▸ dropping (sizes ps ds + 1)

  abbrev pub atomic_call : AtomicCall → Parts Act
  atomic_call c =
      atomic e ps ds c.atom_dummy (view.designator c.atom.now) c.op c.kind (operand c.first 2) (operand c.second 3) (old_of c) c.old_dummy (view.maybe_result c.stat.now) c.stat_dummy

  -- EVENT_QUERY behind its ask
  abbrev pub queried : t.ResultVariable → t.OptionalResult → Parts Act
  queried count stat = storing (depth ps ds 1 + 1) count ▸ pushing (pos 0) ▸ settling stat (depth ps ds 2 + 1) [] ▸ dropping (sizes ps ds)
