use Rattle.std.proofs.Common.{ap, drop, map, ◌+◌}
use Rattle.std.specs.Option.{option_map}
use Rattle.checked_tree.specs.StatementViews.{allocated_bounds}
use Rattle.fortran_tree.specs.DeclarationViews.{bounds}
use Rattle.rule_definitions.specs.Actions as a
use Rattle.rule_definitions.specs.Judgements.{all_made}
use Rattle.scope_table.proofs.Orders.{item_drop}
use Rattle.part_rules.specs.Views.{list_of}
use Rattle.shared_rules.proofs.Turns.{turn_breaks, turn_meaning}
use Rattle.allocation_rules.proofs.bounds.judge_all_bounds.Goals as goal

pub loop-bounds-preserved : goal.loop-bounds-preserved
loop-bounds-preserved c =
    let d = item_drop c.args.cobounds.now c.loop-bounds.bounds-index c.bounds-item.result c.bounds-item.is c.loop-bounds-test.true in
    let rest = all_made (map (a.allocated_bounds c.args.scope.now) (map bounds (drop (c.loop-bounds.bounds-index + 1) c.args.cobounds.now))) in
    let item = (a.allocated_bounds c.args.scope.now) (bounds c.bounds-item.result) in (
      turn_breaks c.loop-bounds.list.breaks.items item.breaks c.add_bounds.new.list.breaks.items _ rest.breaks _ c.in_ok-add_bounds.ensures.breaks
          (ap (λ xs. (all_made (map (a.allocated_bounds c.args.scope.now) (map bounds xs))).breaks) d) c.loop-bounds.invariant.0,
      turn_meaning (option_map (map allocated_bounds) (option_map list_of c.loop-bounds.list.meaning)) (option_map (map allocated_bounds) (option_map list_of c.add_bounds.new.list.meaning)) item.meaning _ rest.meaning _ c.in_ok-add_bounds.ensures.meaning
          (ap (λ xs. (all_made (map (a.allocated_bounds c.args.scope.now) (map bounds xs))).meaning) d) c.loop-bounds.invariant.1,
    )
