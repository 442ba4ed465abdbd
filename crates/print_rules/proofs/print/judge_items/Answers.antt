use Rattle.std.proofs.Common.{ap, drop, map, ◌+◌}
use Rattle.std.specs.Option.{option_map}
use Rattle.checked_tree.specs.StatementViews.{item as item_seen}
use Rattle.fortran_tree.specs.ActionViews.{item}
use Rattle.rule_definitions.specs.Actions.{printed_all}
use Rattle.scope_table.proofs.Orders.{item_drop}
use Rattle.part_rules.specs.Views.{list_of}
use Rattle.shared_rules.proofs.Turns.{turn_breaks, turn_meaning}
use Rattle.print_rules.specs.Outputs.{printed_item}
use Rattle.print_rules.proofs.Outputs.{printed_turn}
use Rattle.print_rules.proofs.print.judge_items.Goals as goal

pub loop-item-preserved : goal.loop-item-preserved
loop-item-preserved c =
    let left = drop (c.loop-item.item-index + 1) c.args.items.now in
    let d = item_drop c.args.items.now c.loop-item.item-index c.item-item.result c.item-item.is c.loop-item-test.true in
    let rest = printed_all c.args.scope.now c.in_ok-number.number (map item left) in
    let this = printed_item c.args.scope.now c.loop-item.number (item c.item-item.result) in
    let turn = printed_turn c.args.scope.now c.loop-item.number c.in_ok-number.number (drop c.loop-item.item-index c.args.items.now) left c.item-item.result d c.in_ok-number.ensures.number in (
      turn_breaks c.loop-item.list.breaks.items this.breaks c.add_item.new.list.breaks.items _ rest.breaks _ c.in_ok-number.ensures.breaks (ap (λ j. j.breaks) turn) c.loop-item.invariant.0,
      turn_meaning (option_map (map item_seen) (option_map list_of c.loop-item.list.meaning)) (option_map (map item_seen) (option_map list_of c.add_item.new.list.meaning)) this.meaning _ rest.meaning _ c.in_ok-number.ensures.meaning
          (ap (λ j. j.meaning) turn) c.loop-item.invariant.1,
    )
