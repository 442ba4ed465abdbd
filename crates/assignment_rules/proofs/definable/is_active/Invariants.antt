use Rattle.std.proofs.Common.{◌≡◌, drop, map}
use Rattle.branch_rules.specs.Sites.{around}
use Rattle.rule_definitions.specs.Actions as rules
use Rattle.assignment_rules.proofs.definable.is_active.Given as goal

abbrev pub invariant-loop-construct : goal.invariant-loop-construct
invariant-loop-construct l = rules.is_active l.local (map around (drop l.construct-index l.around)) ≡ rules.is_active l.local (map around l.around)
