use Rattle.std.proofs.Common.{refl}
use Rattle.rule_definitions.specs.Judgements.{unless, is_there}
use Rattle.rule_definitions.specs.Names.{denoted_in, module_names}
use Rattle.rule_definitions.specs.Units.{only_breaks}
use Rattle.fortran_tree.specs.declared.name.Name.{Name}
use Rattle.declaration_rules.proofs.Shapes.{turn_notes}
use Rattle.scope_table.proofs.Orders.{item_drop}
use Rattle.declaration_rules.proofs.heading.judge_only.Goals as goal

pub loop-name-preserved : goal.loop-name-preserved
loop-name-preserved c =
    turn_notes (λ (x : Name). unless (is_there (denoted_in module_names x.text)) 20 x.at) only_breaks (λ x xs. refl) c.args.only.now c.loop-name.name-index c.name-item.result c.loop-name.first c.judge_only_name.new.first _
    (item_drop c.args.only.now c.loop-name.name-index c.name-item.result c.name-item.is c.loop-name-test.true) c.judge_only_name.ensures c.loop-name.invariant
