use Rattle.std.proofs.Common.{◌≡◌, drop}
use Rattle.std.specs.List.{list_all}
use Rattle.race_search.specs.Steps.{has_met}
use Rattle.race_search.proofs.closes.all_met.Given as goal

abbrev pub invariant-loop-other : goal.invariant-loop-other
invariant-loop-other l = list_all (has_met l.image l.before l.then) (drop l.other-index l.others) ≡ list_all (has_met l.image l.before l.then) l.others
