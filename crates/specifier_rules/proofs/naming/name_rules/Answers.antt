use Rattle.std.proofs.Common.{map}
use Rattle.std.specs.Prelude.{◌++◌, []}
use Rattle.rule_definitions.specs.Specifiers.{specifier_breaks}
use Rattle.specifier_rules.specs.Values.{text}
use Rattle.specifier_rules.specs.Views.{written}
use Rattle.specifier_rules.proofs.NameTurns.{names_turn}
use Rattle.specifier_rules.proofs.naming.name_rules.Goals as goal

pub loop-index-preserved : goal.loop-index-preserved
loop-index-preserved c =
    names_turn (map text c.args.allowed.now) c.args.specified.now c.loop-index.index c.index-specified-index.result c.loop-index-test.true c.index-specified-index.is
    c.loop-index.breaks.items c.name_rule.new.breaks.items (c.args.breaks.now.items ++ specifier_breaks (map text c.args.allowed.now) [] (map written c.args.specified.now))
    c.in_ok-name_rule.ensures c.loop-index.invariant
