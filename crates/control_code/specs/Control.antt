-- Parts that stand together in several image control statements.
use Rattle.std.specs.Prelude.{ℕ, ◌+◌, ℤ, Bool, false, [], ◌∷◌, Option, Some, None}
use Rattle.walk_theory.specs.Syntax.{Parts}
use Rattle.checked_tree.specs.declared.data.Variable.{Variable}
use Rattle.checked_tree.specs.declared.expr.WrittenOrder.{WrittenOrder}
use Rattle.checked_tree.specs.Expressions as t
use Rattle.image_acts.specs.Statuses.{bad_argument}
use Rattle.image_acts.specs.Acts as a
use Rattle.image_acts.specs.Acts.{Act, stack, ask}
use Rattle.tree_meaning.specs.Environment.{Environment}
use Rattle.tree_meaning.specs.Expressions.{optional_place, optional_size}
use Rattle.tree_meaning.specs.ImageControl.{round, or_number, put_down_as_written}
use Rattle.tree_meaning.specs.Sequences.{◌▸◌, doing, pushing, dropping, copying, choosing}
use Rattle.tree_meaning.specs.Settling.{settling}

-- the pairing of SYNC IMAGES, where the truth value on top says that there are such images
abbrev pub pairing : Parts Act
pairing = choosing (doing (ask a.pair ∷ ask a.unpair ∷ [])) (doing (stack a.drop_array ∷ []) ▸ pushing bad_argument)

-- the round of a team that stands beneath so many numbers, and is looked up by this act before it arrives
abbrev pub team_round : ℕ → a.TeamAct → a.AskAct → Parts Act
team_round depth lookup arrival = copying depth 1 ▸ doing (Act.team lookup ∷ ask arrival ∷ []) ▸ copying depth 1 ▸ doing (ask a.leave ∷ [])

-- that of FORM TEAM, with its number and index beneath a place of this size
abbrev pub forming : ℕ → Parts Act
forming size = round (copying (size + 1) 2 ▸ doing (ask a.arrive_form ∷ []))

-- a number, which may be missing, and STAT=, as they are written
abbrev pub number_and_place : Environment → t.OptionalExpression → ℤ → t.OptionalResult → WrittenOrder → Parts Act
number_and_place e x missing stat order = put_down_as_written order (or_number e x (pushing missing)) 1 (optional_place e stat) (optional_size stat)

-- the team beneath the place of STAT= and the status becomes current
abbrev pub becoming_current : t.OptionalResult → Parts Act
becoming_current stat = copying (optional_size stat + 1) 1 ▸ doing (Act.team a.make_current ∷ []) ▸ settling stat 1 [] ▸ dropping (optional_size stat + 1)

-- whether the variable that is there, if one is, is allocatable
abbrev pub allocatable_found : Option Variable → Bool
allocatable_found None = false
allocatable_found (Some v) = v.is_allocatable
