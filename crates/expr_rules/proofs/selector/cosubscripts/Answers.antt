use Rattle.std.proofs.Common.{ap, sym, ◌∙◌}
use Rattle.std.specs.Prelude.{map}
use Rattle.std.specs.Option.{option_map}
use Rattle.checked_tree.specs.ExpressionViews.{expression}
use Rattle.rule_definitions.specs.Judgements.{all_made}
use Rattle.rule_definitions.specs.Parts.{integer}
use Rattle.part_rules.specs.Views.{list_of, placed}
use Rattle.part_rules.proofs.Gathering.{breaks_gathered, mapped_behind, meaning_gathered}
use Rattle.expr_rules.proofs.selector.cosubscripts.Goals as goal

pub loop-part-preserved : goal.loop-part-preserved
loop-part-preserved c =
    let ys = map placed c.loop-part.yielded in
    let y = placed c.in-Some.part in
    let js = map (integer 31) ys in
    let j = integer 31 y in
    let more = sym (ap (map (integer 31)) (mapped_behind placed c.loop-part.yielded c.in-Some.part) ∙ mapped_behind (integer 31) ys y) in (
      breaks_gathered expression js j c.loop-part.list.breaks.items c.in_ok-item.item.breaks.items c.keep.new.list.breaks.items c.in_ok-keep.ensures.breaks c.loop-part.invariant.0 c.in_ok-item.ensures.breaks
          ∙ ap (λ l. (all_made l).breaks) more,
      meaning_gathered expression js j (option_map list_of c.loop-part.list.meaning) (option_map list_of c.keep.new.list.meaning) c.in_ok-item.item.meaning c.in_ok-keep.ensures.meaning c.loop-part.invariant.1 c.in_ok-item.ensures.meaning
          ∙ ap (λ l. (all_made l).meaning) more,
    )
