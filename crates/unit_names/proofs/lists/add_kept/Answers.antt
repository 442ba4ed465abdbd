use Rattle.std.proofs.Common.{drop, map, ◌+◌}
use Rattle.scope_table.proofs.Orders.{drop_at}
use Rattle.unit_tree.specs.FileViews as view
use Rattle.unit_names.specs.Found.{under}
use Rattle.unit_names.proofs.Kept.{kept_level}
use Rattle.unit_names.proofs.lists.add_kept.Goals as goal

pub loop-level-preserved : goal.loop-level-preserved
loop-level-preserved c = λ n.
    kept_level c.args.blocks.now (drop c.loop-level.level-index c.args.levels.now) (drop (c.loop-level.level-index + 1) c.args.levels.now) _ (map view.rename c.args.renames.now) (under c.loop-level.into n) (under c.add_level_own.new.into n) _ n
    (drop_at c.args.levels.now c.loop-level.level-index _ c.loop-level-test.true) (c.in_ok-add_level_own.ensures n) (c.loop-level.invariant n)
