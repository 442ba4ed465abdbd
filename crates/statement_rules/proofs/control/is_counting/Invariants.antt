use Rattle.std.proofs.Common.{◌≡◌, drop, map}
use Rattle.branch_rules.specs.Sites.{around}
use Rattle.rule_definitions.specs.Actions.{is_active}
use Rattle.statement_rules.proofs.control.is_counting.Given as goal

abbrev pub invariant-loop-construct : goal.invariant-loop-construct
invariant-loop-construct l = is_active l.variable (map around (drop l.construct-index l.around)) ≡ is_active l.variable (map around l.around)
