-- Parts of the collectives that stand together.
use Rattle.std.specs.Prelude.{ℕ, ◌+◌, pos, List, [], ◌∷◌}
use Rattle.caf_events.specs.declared.round.GatherOp.{GatherOp}
use Rattle.walk_theory.specs.Syntax.{Parts}
use Rattle.checked_tree.specs.declared.data.Local.{Local}
use Rattle.checked_tree.specs.declared.data.Object.TheVariants as objects
use Rattle.checked_tree.specs.Expressions as t
use Rattle.checked_tree.specs.Statements as s
use Rattle.image_acts.specs.Statuses.{bad_argument}
use Rattle.image_acts.specs.Places.{place_size}
use Rattle.image_acts.specs.Acts as a
use Rattle.image_acts.specs.Acts.{Act, stack, variable, bounded, selector, ask}
use Rattle.tree_meaning.specs.Environment.{Environment}
use Rattle.tree_meaning.specs.Pieces.{Piece, depth, fetching}
use Rattle.tree_meaning.specs.Sequences.{◌▸◌, doing, copying, pushing, choosing}
use Rattle.tree_meaning.specs.Subroutines.{as_array, collected_piece, collected_value, collected_put, dropping_collected, succeeded}
use Rattle.subroutine_code.specs.declared.collective.Beneath.{Beneath}
use Rattle.subroutine_code.specs.declared.collective.Root.{Root}
use Rattle.subroutine_code.specs.declared.collective.Root.TheVariants as roots

-- the root of a collective, whose index stands beneath so many numbers, and behind the status beneath so many; and
-- whether the result comes to this image
abbrev pub root_of : Root → Parts Act
root_of roots.Nobody = pushing (pos 0)
root_of (roots.Only depth behind) = copying depth 1
root_of (roots.Source depth) = copying depth 1

abbrev pub comes_here : Root → Parts Act
comes_here roots.Nobody = pushing (pos 1)
comes_here (roots.Only depth behind) = copying behind 1 ▸ doing (selector a.is_root ∷ [])
comes_here (roots.Source depth) = pushing (pos 1)

module _ (e : Environment) where
  -- the values of a local array at the place on top
  abbrev pub loaded : a.Scope → (array rank : ℕ) → Parts Act
  loaded x n rank = as_array e rank (copying 0 (place_size rank) ▸ doing (variable (a.load x n rank) ∷ []))

  -- a local variable or a part of one
  abbrev pub local : Local → t.Subscripts → ℕ → Piece
  local v ss rank = collected_piece e (t.part (objects.Local v) ss t.no_selector) rank

  -- the change, where it comes to this image
  abbrev pub put_or_not : s.Collected → Beneath → Parts Act
  put_or_not x p = choosing (collected_put e x.variable x.kind x.rank (copying p.put p.size)) (doing (stack a.drop_array ∷ []))

  abbrev pub received : s.Collected → Root → Beneath → Parts Act
  received x root p = comes_here root ▸ put_or_not x p

  abbrev pub received_or_not : s.Collected → Root → Beneath → Parts Act
  received_or_not x root p = choosing (received x root p) (doing (stack a.drop_array ∷ []))

  -- the round
  abbrev pub gathered : s.Collected → GatherOp → Root → Beneath → Parts Act
  gathered x op root p =
      collected_value e x.variable x.rank (copying p.value p.size) ▸ root_of root ▸ doing (ask (a.gather op x.kind) ∷ ask a.take ∷ []) ▸ succeeded 0
      ▸ received_or_not x root p

  abbrev pub not_gathered : s.Collected → Parts Act
  not_gathered x = dropping_collected e x.variable ▸ pushing bad_argument

  abbrev pub gathered_or_not : s.Collected → GatherOp → Root → Beneath → Parts Act
  gathered_or_not x op root p = choosing (gathered x op root p) (not_gathered x)

module _ (e : Environment) (ps : List Piece) (ds : List ℕ) where
  -- where the place of the argument stands
  abbrev pub beneath : s.Collected → Beneath
  beneath x = record { value = depth ps ds 0 + 0; put = depth ps ds 0 + 1; size = (collected_piece e x.variable x.rank).size }

  -- the round with a root, which is tested
  abbrev pub rooted_at : s.Collected → GatherOp → Root → Parts Act
  rooted_at x op root = fetching ps ds 1 0 1 ▸ doing (bounded a.is_index ∷ []) ▸ gathered_or_not e x op root (beneath x)

  -- that of CO_SUM, CO_MIN and CO_MAX
  abbrev pub combined_at : s.Collected → GatherOp → t.OptionalExpression → Parts Act
  combined_at x op t.missing = gathered e x op roots.Nobody (beneath x)
  combined_at x op (t.given r) = rooted_at x op (roots.Only (depth ps ds 1 + 0) (depth ps ds 1 + 1))
