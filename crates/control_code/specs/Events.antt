-- What stands behind the cell of a lock or an event.
use Rattle.std.specs.Prelude.{ℕ, ◌+◌, ℤ, List, [], ◌∷◌}
use Rattle.walk_theory.specs.Syntax.{Parts}
use Rattle.checked_tree.specs.declared.expr.WrittenOrder.{WrittenOrder}
use Rattle.checked_tree.specs.Expressions as t
use Rattle.image_acts.specs.Acts as a
use Rattle.image_acts.specs.Acts.{Act, stack, ask}
use Rattle.tree_meaning.specs.Environment.{Environment}
use Rattle.tree_meaning.specs.Expressions.{optional_place, optional_size, result_size}
use Rattle.tree_meaning.specs.ImageControl.{put_down_as_written, cell_there, cell_stat, cell_size, tried_lock}
use Rattle.tree_meaning.specs.Sequences.{◌▸◌, doing, dropping, copying}
use Rattle.tree_meaning.specs.Settling.{settling, settling_selector}

-- the wait for this image's event, whose place stands beneath the threshold and the place of STAT=
abbrev pub waiting : (c : ℕ) → t.OptionalResult → Parts Act
waiting c stat = copying (optional_size stat) 2 ▸ doing (ask (a.wait c) ∷ []) ▸ settling stat 1 [] ▸ dropping (optional_size stat + 2)

module _ (e : Environment) where
  -- the access to the cell whose place and owner stand beneath so many numbers
  abbrev pub asking : t.Designator → ℕ → a.AskAct → Parts Act
  asking d depth act' = cell_there e d ▸ copying depth 2 ▸ doing (ask act' ∷ stack a.accessed ∷ [])

  -- STAT=, the access, and what becomes of its status
  abbrev pub on_there : t.Designator → t.OptionalResult → a.AskAct → (accepted : List ℤ) → Parts Act
  on_there d stat act' accepted =
      optional_place e stat ▸ asking d (optional_size stat) act' ▸ settling_selector (cell_stat e d) (optional_size stat + 4) ▸ settling stat 1 accepted
      ▸ dropping (optional_size stat + cell_size e d)

  -- ACQUIRED_LOCK= and STAT=, as they are written
  abbrev pub places : t.ResultVariable → t.OptionalResult → WrittenOrder → Parts Act
  places acquired stat order = put_down_as_written order (optional_place e (t.result acquired)) (result_size acquired) (optional_place e stat) (optional_size stat)

  -- LOCK with ACQUIRED_LOCK=
  abbrev pub tried : t.Designator → t.ResultVariable → t.OptionalResult → WrittenOrder → Parts Act
  tried d acquired stat order = tried_lock e d acquired stat order (result_size acquired)
