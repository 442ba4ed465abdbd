use Rattle.std.proofs.Common.{drop, ◌+◌}
use Rattle.declaration_rules.specs.Entities.{unit}
use Rattle.declaration_rules.proofs.Results.{dummies_first, dummies_scope}
use Rattle.scope_table.proofs.Orders.{item_drop}
use Rattle.declaration_rules.proofs.result.add_dummies.Goals as goal

pub loop-dummy-preserved : goal.loop-dummy-preserved
loop-dummy-preserved c =
    let d = item_drop c.args.dummies.now c.loop-dummy.dummy-index c.dummy-item.result c.dummy-item.is c.loop-dummy-test.true in (
      λ s. dummies_first (unit c.args.of.now) c.dummy-item.result (drop (c.loop-dummy.dummy-index + 1) c.args.dummies.now) (drop c.loop-dummy.dummy-index c.args.dummies.now)
          (record s { own = c.loop-dummy.own }) (record s { own = c.add_dummy.new.own }) c.loop-dummy.first c.add_dummy.new.first _ d (c.in_ok-add_dummy.ensures.first s) (c.in_ok-add_dummy.ensures.own s) (c.loop-dummy.invariant.0 s),
      λ s. dummies_scope (unit c.args.of.now) c.dummy-item.result (drop (c.loop-dummy.dummy-index + 1) c.args.dummies.now) (drop c.loop-dummy.dummy-index c.args.dummies.now)
          (record s { own = c.loop-dummy.own }) (record s { own = c.add_dummy.new.own }) _ d (c.in_ok-add_dummy.ensures.own s) (c.loop-dummy.invariant.1 s),
    )
