use Rattle.std.proofs.Common.{◌≡◌, ◌++◌, ◌-◌, true}
use Rattle.rule_definitions.specs.Constants as rules
use Rattle.constant_values.proofs.chosen.row.Given as goal

abbrev pub invariant-loop-i : goal.invariant-loop-i
invariant-loop-i l =
    (l.subscripts.items ++ rules.row (l.count - l.i) l.stride l.at ≡ rules.row l.count l.stride l.first) × (rules.all_inside l.bounds l.subscripts.items ≡ true)
