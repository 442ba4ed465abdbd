use Rattle.std.proofs.Common.{◌≡◌, [], drop}
use Rattle.order_axioms.specs.Views.{last_inside}
use Rattle.race_search.specs.Spoken.{only}
use Rattle.race_search.proofs.holders.last_inside.Given as goal

abbrev pub invariant-loop-e : goal.invariant-loop-e
invariant-loop-e l = last_inside l.construct (only l.inside) (drop l.e-index l.before) ≡ last_inside l.construct [] l.before
