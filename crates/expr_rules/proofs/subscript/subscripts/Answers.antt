use Rattle.std.proofs.Common.{ap, sym, ◌∙◌}
use Rattle.std.specs.Prelude.{map}
use Rattle.std.specs.Option.{option_map}
use Rattle.checked_tree.specs.ExpressionViews.{subscript}
use Rattle.rule_definitions.specs.Expressions.{subscript_of}
use Rattle.rule_definitions.specs.Judgements.{all_made}
use Rattle.part_rules.specs.Brackets.{actual_seen}
use Rattle.part_rules.specs.Views.{list_of}
use Rattle.part_rules.proofs.Gathering.{breaks_gathered, mapped_behind, meaning_gathered}
use Rattle.expr_rules.proofs.subscript.subscripts.Goals as goal

pub loop-actual-preserved : goal.loop-actual-preserved
loop-actual-preserved c =
    let ys = map actual_seen c.loop-actual.yielded in
    let y = actual_seen c.in-Some.actual in
    let js = map subscript_of ys in
    let j = subscript_of y in
    let more = sym (ap (map subscript_of) (mapped_behind actual_seen c.loop-actual.yielded c.in-Some.actual) ∙ mapped_behind subscript_of ys y) in (
      breaks_gathered subscript js j c.loop-actual.list.breaks.items c.in_ok-item.item.breaks.items c.keep.new.list.breaks.items c.in_ok-keep.ensures.breaks c.loop-actual.invariant.0 c.in_ok-item.ensures.breaks
          ∙ ap (λ l. (all_made l).breaks) more,
      meaning_gathered subscript js j (option_map list_of c.loop-actual.list.meaning) (option_map list_of c.keep.new.list.meaning) c.in_ok-item.item.meaning c.in_ok-keep.ensures.meaning c.loop-actual.invariant.1 c.in_ok-item.ensures.meaning
          ∙ ap (λ l. (all_made l).meaning) more,
    )
