use Rattle.std.proofs.Common.{drop, map, ◌+◌}
use Rattle.scope_table.proofs.Orders.{drop_at}
use Rattle.unit_tree.specs.FileViews as view
use Rattle.unit_names.proofs.Kept.{kept_name}
use Rattle.unit_names.proofs.lists.add_own.Goals as goal

pub loop-name-preserved : goal.loop-name-preserved
loop-name-preserved c = λ n.
    kept_name (drop c.loop-name.name-index c.args.names.now) (drop (c.loop-name.name-index + 1) c.args.names.now) _ (map view.rename c.args.renames.now) c.args.from.now c.loop-name.into c.add_unless.new.into _ n
    (drop_at c.args.names.now c.loop-name.name-index _ c.loop-name-test.true) c.in_ok-add_unless.ensures (c.loop-name.invariant n)
