use Rattle.std.proofs.Common.{ap, sym, ◌∙◌}
use Rattle.std.specs.Prelude.{map, None}
use Rattle.std.specs.Option.{option_map}
use Rattle.checked_tree.specs.ExpressionViews.{expression}
use Rattle.rule_definitions.specs.Judgements.{all_made}
use Rattle.rule_definitions.specs.Parts.{plain, type_behind}
use Rattle.part_rules.specs.Items.{constructor_item, constructor_items, type_after}
use Rattle.part_rules.specs.Views.{list_of, placed}
use Rattle.part_rules.proofs.Gathering.{breaks_gathered, mapped_behind, meaning_gathered}
use Rattle.part_rules.proofs.Lists.{items_behind, type_behind_all}
use Rattle.part_rules.proofs.constructor.items.Goals as goal

pub loop-part-preserved : goal.loop-part-preserved
loop-part-preserved c =
    let ys = map placed c.loop-part.yielded in
    let y = placed c.in-Some.part in
    let js = constructor_items None ys in
    let j = constructor_item (type_after None ys) y in
    let one = mapped_behind placed c.loop-part.yielded c.in-Some.part in
    let more = sym (ap (constructor_items None) one ∙ items_behind None ys y) in (
      c.in_ok-value.ensures.before ∙ ap (λ o. type_behind o (plain y).meaning) c.loop-part.invariant.0 ∙ sym (ap (type_after None) one ∙ type_behind_all None ys y),
      breaks_gathered expression js j c.loop-part.list.breaks.items c.in_ok-value.value.breaks.items c.keep.new.list.breaks.items c.in_ok-keep.ensures.breaks c.loop-part.invariant.1
          (c.in_ok-value.ensures.breaks ∙ ap (λ o. (constructor_item o y).breaks) c.loop-part.invariant.0)
          ∙ ap (λ l. (all_made l).breaks) more,
      meaning_gathered expression js j (option_map list_of c.loop-part.list.meaning) (option_map list_of c.keep.new.list.meaning) c.in_ok-value.value.meaning c.in_ok-keep.ensures.meaning c.loop-part.invariant.2
          (c.in_ok-value.ensures.meaning ∙ ap (λ o. (constructor_item o y).meaning) c.loop-part.invariant.0)
          ∙ ap (λ l. (all_made l).meaning) more,
    )
