use Rattle.std.proofs.Common.{ap, drop, map, ◌+◌}
use Rattle.std.specs.Option.{option_map}
use Rattle.rule_definitions.specs.Actions.{deallocated}
use Rattle.rule_definitions.specs.Judgements.{all_made}
use Rattle.scope_table.proofs.Orders.{item_drop}
use Rattle.part_rules.specs.Views.{list_of}
use Rattle.shared_rules.proofs.Turns.{turn_breaks, turn_meaning}
use Rattle.allocation_rules.proofs.allocation.judge_names.Goals as goal

pub loop-name-preserved : goal.loop-name-preserved
loop-name-preserved c =
    let d = item_drop c.args.names.now c.loop-name.name-index c.name-item.result c.name-item.is c.loop-name-test.true in
    let rest = all_made (map (deallocated c.args.scope.now) (drop (c.loop-name.name-index + 1) c.args.names.now)) in
    let item = (deallocated c.args.scope.now) c.name-item.result in (
      turn_breaks c.loop-name.list.breaks.items item.breaks c.add_name.new.list.breaks.items _ rest.breaks _ c.in_ok-add_name.ensures.breaks
          (ap (λ xs. (all_made (map (deallocated c.args.scope.now) xs)).breaks) d) c.loop-name.invariant.0,
      turn_meaning (option_map list_of c.loop-name.list.meaning) (option_map list_of c.add_name.new.list.meaning) item.meaning _ rest.meaning _ c.in_ok-add_name.ensures.meaning
          (ap (λ xs. (all_made (map (deallocated c.args.scope.now) xs)).meaning) d) c.loop-name.invariant.1,
    )
