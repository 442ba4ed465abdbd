use Rattle.scope_table.proofs.Orders.{item_drop}
use Rattle.function_rules.proofs.Forms.{keyword_here, keyword_on}
use Rattle.function_rules.proofs.form.has_keyword.Goals as goal

pub returns-then-is_named : goal.returns-then-is_named
returns-then-is_named c =
    keyword_here c.args.name.now c.args.actuals.now c.loop-actual.actual-index c.actual-item.result c.is_named.result
    (item_drop c.args.actuals.now c.loop-actual.actual-index c.actual-item.result c.actual-item.is c.loop-actual-test.true) c.loop-actual.invariant c.is_named.ensures c.if-is_named.true

pub loop-actual-preserved : goal.loop-actual-preserved
loop-actual-preserved c =
    keyword_on c.args.name.now c.args.actuals.now c.loop-actual.actual-index c.actual-item.result c.is_named.result
    (item_drop c.args.actuals.now c.loop-actual.actual-index c.actual-item.result c.actual-item.is c.loop-actual-test.true) c.loop-actual.invariant c.is_named.ensures c.if-is_named.false
