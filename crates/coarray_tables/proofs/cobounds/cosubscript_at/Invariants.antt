use Rattle.std.proofs.Common.{◌≡◌, length}
use Rattle.std.specs.Prelude.{slice_get}
use Rattle.image_acts.specs.Owning.{lowers_in, extents_in}
use Rattle.image_acts.specs.Teams.{cosubscripts_behind}
use Rattle.coarray_tables.proofs.cobounds.cosubscript_at.Given as goal

-- the codimensions that are left
abbrev pub invariant-loop-lower : goal.invariant-loop-lower
invariant-loop-lower l = slice_get (cosubscripts_behind (lowers_in l.more) (extents_in l.more) l.place) l.further ≡ slice_get (cosubscripts_behind (lowers_in l.cobounds) (extents_in l.cobounds) l.images) l.number

abbrev pub decreases-loop-lower : goal.decreases-loop-lower
decreases-loop-lower l = length l.more
