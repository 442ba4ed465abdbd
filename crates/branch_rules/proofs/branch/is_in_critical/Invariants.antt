use Rattle.std.proofs.Common.{◌≡◌, drop, map}
use Rattle.branch_rules.specs.Sites.{around}
use Rattle.rule_definitions.specs.Actions.{is_in_critical}
use Rattle.branch_rules.proofs.branch.is_in_critical.Given as goal

abbrev pub invariant-loop-construct : goal.invariant-loop-construct
invariant-loop-construct l = is_in_critical (map around (drop l.construct-index l.around)) ≡ is_in_critical (map around l.around)
