use Rattle.std.proofs.Common.{ap, drop, map, ◌+◌}
use Rattle.std.specs.Option.{option_map}
use Rattle.checked_tree.specs.StatementViews.{allocated_bounds}
use Rattle.fortran_tree.specs.DeclarationViews.{dimension}
use Rattle.rule_definitions.specs.Actions.{bounds_or_none}
use Rattle.rule_definitions.specs.Judgements.{all_made}
use Rattle.scope_table.proofs.Orders.{item_drop}
use Rattle.part_rules.specs.Views.{list_of}
use Rattle.shared_rules.proofs.Turns.{turn_breaks, turn_meaning}
use Rattle.allocation_rules.proofs.bounds.judge_dimensions.Goals as goal

pub loop-dimension-preserved : goal.loop-dimension-preserved
loop-dimension-preserved c =
    let d = item_drop c.args.dimensions.now c.loop-dimension.dimension-index c.dimension-item.result c.dimension-item.is c.loop-dimension-test.true in
    let rest = all_made (map (bounds_or_none c.args.scope.now) (map dimension (drop (c.loop-dimension.dimension-index + 1) c.args.dimensions.now))) in
    let item = (bounds_or_none c.args.scope.now) (dimension c.dimension-item.result) in (
      turn_breaks c.loop-dimension.list.breaks.items item.breaks c.add_dimension.new.list.breaks.items _ rest.breaks _ c.in_ok-add_dimension.ensures.breaks
          (ap (λ xs. (all_made (map (bounds_or_none c.args.scope.now) (map dimension xs))).breaks) d) c.loop-dimension.invariant.0,
      turn_meaning (option_map (map allocated_bounds) (option_map list_of c.loop-dimension.list.meaning)) (option_map (map allocated_bounds) (option_map list_of c.add_dimension.new.list.meaning)) item.meaning _ rest.meaning _ c.in_ok-add_dimension.ensures.meaning
          (ap (λ xs. (all_made (map (bounds_or_none c.args.scope.now) (map dimension xs))).meaning) d) c.loop-dimension.invariant.1,
    )
