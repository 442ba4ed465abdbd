use Rattle.std.proofs.Common.{ap, sym, ◌∙◌, drop, map, ◌+◌}
use Rattle.scope_table.proofs.Orders.{item_drop}
use Rattle.unit_tree.specs.FileViews as view
use Rattle.unit_names.specs.Found.{joined, under}
use Rattle.unit_names.specs.Levels.{reached}
use Rattle.unit_names.specs.Accessible.{under_new, under_renames}
use Rattle.unit_names.proofs.Joins.{joined_three}
use Rattle.unit_names.proofs.lists.add_renames.Goals as goal

pub loop-rename-preserved : goal.loop-rename-preserved
loop-rename-preserved c = λ n.
    let g = reached c.args.blocks.now c.args.levels.now in
    let rest = under_renames g (map view.rename (drop (c.loop-rename.rename-index + 1) c.args.renames.now)) n in
    ap (λ d. joined d rest) (c.in_ok-add_new.ensures n)
    ∙ (joined_three (under c.loop-rename.into n) (under_new g c.rename-item.result.local.text c.rename-item.result.entity.text n) rest
    ∙ (ap (λ z. joined (under c.loop-rename.into n) (under_renames g (map view.rename z) n)) (sym (item_drop c.args.renames.now c.loop-rename.rename-index c.rename-item.result c.rename-item.is c.loop-rename-test.true))
    ∙ c.loop-rename.invariant n))
