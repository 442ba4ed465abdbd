use Rattle.std.proofs.Common.{ap, sym, ◌∙◌, drop, map, ◌+◌}
use Rattle.scope_table.proofs.Orders.{item_drop}
use Rattle.unit_tree.specs.FileViews as view
use Rattle.unit_names.specs.Found.{joined, under}
use Rattle.unit_names.specs.Levels.{reached}
use Rattle.unit_names.specs.Accessible.{under_item, under_items}
use Rattle.unit_names.proofs.Joins.{joined_three}
use Rattle.unit_names.proofs.lists.add_items.Goals as goal

pub loop-one-preserved : goal.loop-one-preserved
loop-one-preserved c = λ n.
    let g = reached c.args.blocks.now c.args.levels.now in
    let rest = under_items g (map view.only_item (drop (c.loop-one.one-index + 1) c.args.items.now)) n in
    ap (λ d. joined d rest) (c.in_ok-add_item.ensures n)
    ∙ (joined_three (under c.loop-one.into n) (under_item g (view.only_item c.one-item.result) n) rest
    ∙ (ap (λ z. joined (under c.loop-one.into n) (under_items g (map view.only_item z) n)) (sym (item_drop c.args.items.now c.loop-one.one-index c.one-item.result c.one-item.is c.loop-one-test.true))
    ∙ c.loop-one.invariant n))
