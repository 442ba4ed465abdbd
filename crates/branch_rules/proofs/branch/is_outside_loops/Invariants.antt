use Rattle.std.proofs.Common.{◌≡◌, drop, map, nat_eq}
use Rattle.branch_rules.specs.Sites.{around}
use Rattle.rule_definitions.specs.Actions.{loops_in}
use Rattle.branch_rules.proofs.branch.is_outside_loops.Given as goal

abbrev pub invariant-loop-construct : goal.invariant-loop-construct
invariant-loop-construct l = nat_eq (loops_in (map around (drop l.construct-index l.around))) 0 ≡ nat_eq (loops_in (map around l.around)) 0
