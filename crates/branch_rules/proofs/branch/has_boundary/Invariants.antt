use Rattle.std.proofs.Common.{◌≡◌, drop, map}
use Rattle.branch_rules.specs.Sites.{around}
use Rattle.rule_definitions.specs.Actions.{has_boundary}
use Rattle.branch_rules.proofs.branch.has_boundary.Given as goal

abbrev pub invariant-loop-construct : goal.invariant-loop-construct
invariant-loop-construct l = has_boundary (map around (drop l.construct-index l.around)) ≡ has_boundary (map around l.around)
