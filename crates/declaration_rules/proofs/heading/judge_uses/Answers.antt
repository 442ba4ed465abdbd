use Rattle.std.proofs.Common.{refl, map}
use Rattle.fortran_tree.specs.UnitViews.{use_statement}
use Rattle.rule_definitions.specs.Units.{use_breaks, uses_breaks}
use Rattle.declaration_rules.proofs.Shapes.{turn_notes}
use Rattle.scope_table.proofs.Orders.{item_drop}
use Rattle.declaration_rules.proofs.heading.judge_uses.Goals as goal

pub loop-statement-preserved : goal.loop-statement-preserved
loop-statement-preserved c =
    turn_notes (λ x. use_breaks (use_statement x)) (λ xs. uses_breaks (map use_statement xs)) (λ x xs. refl) c.args.uses.now c.loop-statement.statement-index c.statement-item.result c.loop-statement.first c.judge_use.new.first _
    (item_drop c.args.uses.now c.loop-statement.statement-index c.statement-item.result c.statement-item.is c.loop-statement-test.true) c.judge_use.ensures c.loop-statement.invariant
