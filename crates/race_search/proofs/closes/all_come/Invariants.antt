use Rattle.std.proofs.Common.{◌≡◌, drop}
use Rattle.std.specs.List.{list_all}
use Rattle.order_axioms.specs.Closes.{has_come}
use Rattle.race_search.proofs.closes.all_come.Given as goal

abbrev pub invariant-loop-image : goal.invariant-loop-image
invariant-loop-image l = list_all (has_come l.team l.round l.before) (drop l.image-index l.images) ≡ list_all (has_come l.team l.round l.before) l.images
