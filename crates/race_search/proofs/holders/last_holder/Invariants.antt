use Rattle.std.proofs.Common.{◌≡◌, [], drop}
use Rattle.order_axioms.specs.Views.{last_holder}
use Rattle.race_watch.specs.ActParts.{as_cell}
use Rattle.race_search.specs.Spoken.{only}
use Rattle.race_search.proofs.holders.last_holder.Given as goal

abbrev pub invariant-loop-e : goal.invariant-loop-e
invariant-loop-e l = last_holder (as_cell l.cell) (only l.held) (drop l.e-index l.before) ≡ last_holder (as_cell l.cell) [] l.before
