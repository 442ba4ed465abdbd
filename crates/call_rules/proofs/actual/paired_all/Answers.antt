use Rattle.std.proofs.Common.{ap, sym, ◌∙◌}
use Rattle.std.specs.Prelude.{map, false}
use Rattle.std.specs.Option.{option_map}
use Rattle.checked_tree.specs.ExpressionViews.{argument}
use Rattle.rule_definitions.specs.Judgements.{all_made}
use Rattle.scope_table.specs.Symbols.{symbol}
use Rattle.part_rules.specs.Brackets.{actual_seen}
use Rattle.part_rules.specs.Views.{list_of}
use Rattle.part_rules.proofs.Gathering.{breaks_gathered, mapped_behind, meaning_gathered}
use Rattle.call_rules.specs.Pairs.{are_over, argument_behind, argument_list, dummies_after, dummies_behind, over_after}
use Rattle.call_rules.proofs.Pairs.{dummies_left, one_behind, over_behind}
use Rattle.call_rules.proofs.actual.paired_all.Goals as goal

pub loop-actual-preserved : goal.loop-actual-preserved
loop-actual-preserved c =
    let s = c.args.scope.now in
    let ds = map symbol c.args.dummies.now in
    let ys = map actual_seen c.loop-actual.yielded in
    let y = actual_seen c.in-Some.actual in
    let js = argument_list s ds false ys in
    let j = argument_behind s (dummies_after ds ys) (over_after ds false ys) y in
    let one = mapped_behind actual_seen c.loop-actual.yielded c.in-Some.actual in
    let more = sym (ap (argument_list s ds false) one ∙ one_behind s ds false ys y) in
    let i = c.loop-actual.invariant in (
      c.behind_first-left.ensures ∙ ap dummies_behind i.0 ∙ sym (ap (dummies_after ds) one ∙ dummies_left ds ys y),
      c.is_over-over.ensures ∙ ap are_over i.0 ∙ sym (ap (over_after ds false) one ∙ over_behind ds false ys y),
      breaks_gathered argument js j c.loop-actual.list.breaks.items c.in_ok-value.value.breaks.items c.keep.new.list.breaks.items c.in_ok-keep.ensures.breaks i.2
          (c.in_ok-value.ensures.breaks ∙ ap (λ xs. (argument_behind s xs c.loop-actual.over y).breaks) i.0 ∙ ap (λ o. (argument_behind s (dummies_after ds ys) o y).breaks) i.1)
          ∙ ap (λ l. (all_made l).breaks) more,
      meaning_gathered argument js j (option_map list_of c.loop-actual.list.meaning) (option_map list_of c.keep.new.list.meaning) c.in_ok-value.value.meaning c.in_ok-keep.ensures.meaning i.3
          (c.in_ok-value.ensures.meaning ∙ ap (λ xs. (argument_behind s xs c.loop-actual.over y).meaning) i.0 ∙ ap (λ o. (argument_behind s (dummies_after ds ys) o y).meaning) i.1)
          ∙ ap (λ l. (all_made l).meaning) more,
    )
