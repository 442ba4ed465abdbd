use Rattle.std.proofs.Common.{drop, ◌+◌}
use Rattle.scope_table.proofs.Orders.{drop_at}
use Rattle.unit_names.specs.Found.{found}
use Rattle.unit_names.proofs.Reached.{level_step}
use Rattle.unit_names.proofs.levels.find_in.Goals as goal

pub loop-level-preserved : goal.loop-level-preserved
loop-level-preserved c =
    level_step c.args.blocks.now (drop c.loop-level.level-index c.args.levels.now) (drop (c.loop-level.level-index + 1) c.args.levels.now) _ (found c.loop-level.all) (found c.joined-all.result) (found c.find_at.result) _ c.args.name.now
    (drop_at c.args.levels.now c.loop-level.level-index _ c.loop-level-test.true) c.joined-all.ensures c.find_at.ensures c.loop-level.invariant
