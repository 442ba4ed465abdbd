use Rattle.std.proofs.Common.{drop, refl, ◌+◌}
use Rattle.scope_table.proofs.Orders.{drop_at}
use Rattle.unit_names.specs.Found.{under}
use Rattle.unit_names.proofs.Reached.{level_step}
use Rattle.unit_names.proofs.levels.add_levels.Goals as goal

pub loop-level-preserved : goal.loop-level-preserved
loop-level-preserved c = λ n.
    level_step c.args.blocks.now (drop c.loop-level.level-index c.args.levels.now) (drop (c.loop-level.level-index + 1) c.args.levels.now) _ (under c.loop-level.into n) (under c.add_level.new.into n) _ _ n
    (drop_at c.args.levels.now c.loop-level.level-index _ c.loop-level-test.true) (c.in_ok-add_level.ensures n) refl (c.loop-level.invariant n)
