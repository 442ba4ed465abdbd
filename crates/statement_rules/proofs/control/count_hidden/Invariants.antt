use Rattle.std.proofs.Common.{◌≡◌, ◌+◌, drop, map}
use Rattle.branch_rules.specs.Sites.{around}
use Rattle.rule_definitions.specs.Statements.{hidden_of}
use Rattle.statement_rules.proofs.control.count_hidden.Given as goal

abbrev pub invariant-loop-construct : goal.invariant-loop-construct
invariant-loop-construct l = l.count + hidden_of (map around (drop l.construct-index l.around)) ≡ hidden_of (map around l.around)
