use Rattle.std.proofs.Common.{ap, drop, map, ◌+◌}
use Rattle.std.specs.Option.{option_map}
use Rattle.checked_tree.specs.StatementViews.{allocation as allocation_seen}
use Rattle.fortran_tree.specs.ActionViews.{allocation}
use Rattle.rule_definitions.specs.Actions.{allocation_judged}
use Rattle.rule_definitions.specs.Judgements.{all_made}
use Rattle.scope_table.proofs.Orders.{item_drop}
use Rattle.part_rules.specs.Views.{list_of}
use Rattle.shared_rules.proofs.Turns.{turn_breaks, turn_meaning}
use Rattle.allocation_rules.proofs.allocation.judge_objects.Goals as goal

pub loop-object-preserved : goal.loop-object-preserved
loop-object-preserved c =
    let d = item_drop c.args.objects.now c.loop-object.object-index c.object-item.result c.object-item.is c.loop-object-test.true in
    let rest = all_made (map (allocation_judged c.args.scope.now) (map allocation (drop (c.loop-object.object-index + 1) c.args.objects.now))) in
    let item = (allocation_judged c.args.scope.now) (allocation c.object-item.result) in (
      turn_breaks c.loop-object.list.breaks.items item.breaks c.add_object.new.list.breaks.items _ rest.breaks _ c.in_ok-add_object.ensures.breaks
          (ap (λ xs. (all_made (map (allocation_judged c.args.scope.now) (map allocation xs))).breaks) d) c.loop-object.invariant.0,
      turn_meaning (option_map (map allocation_seen) (option_map list_of c.loop-object.list.meaning)) (option_map (map allocation_seen) (option_map list_of c.add_object.new.list.meaning)) item.meaning _ rest.meaning _ c.in_ok-add_object.ensures.meaning
          (ap (λ xs. (all_made (map (allocation_judged c.args.scope.now) (map allocation xs))).meaning) d) c.loop-object.invariant.1,
    )
