use Rattle.std.proofs.Common.{◌≡◌, drop, map}
use Rattle.branch_rules.specs.Branches.{inwards_all, target}
use Rattle.branch_rules.specs.Sites.{around}
use Rattle.branch_rules.proofs.branch.find_target.Given as goal

abbrev pub invariant-loop-inner : goal.invariant-loop-inner
invariant-loop-inner l = inwards_all l.construct l.found (map around (drop l.inner-index l.around)) ≡ target l.construct (map around l.around)
