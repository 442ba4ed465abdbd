use Rattle.std.proofs.Common.{ap, sym, ◌∙◌}
use Rattle.std.specs.Prelude.{map}
use Rattle.std.specs.Option.{option_map}
use Rattle.checked_tree.specs.ExpressionViews.{expression}
use Rattle.rule_definitions.specs.IntrinsicFunctions as rules
use Rattle.rule_definitions.specs.Judgements.{all_made}
use Rattle.part_rules.specs.Brackets.{actual_seen}
use Rattle.part_rules.specs.Views.{list_of}
use Rattle.part_rules.proofs.Gathering.{breaks_gathered, mapped_behind, meaning_gathered}
use Rattle.function_rules.proofs.several.unnamed_integers.Goals as goal

pub loop-actual-preserved : goal.loop-actual-preserved
loop-actual-preserved c =
    let ys = map actual_seen c.loop-actual.yielded in
    let y = actual_seen c.in-Some.actual in
    let js = map rules.unnamed_integer ys in
    let j = rules.unnamed_integer y in
    let more = sym (ap (map rules.unnamed_integer) (mapped_behind actual_seen c.loop-actual.yielded c.in-Some.actual) ∙ mapped_behind rules.unnamed_integer ys y) in (
      breaks_gathered expression js j c.loop-actual.list.breaks.items c.in_ok-value.value.breaks.items c.keep.new.list.breaks.items c.in_ok-keep.ensures.breaks c.loop-actual.invariant.0 c.in_ok-value.ensures.breaks
          ∙ ap (λ l. (all_made l).breaks) more,
      meaning_gathered expression js j (option_map list_of c.loop-actual.list.meaning) (option_map list_of c.keep.new.list.meaning) c.in_ok-value.value.meaning c.in_ok-keep.ensures.meaning c.loop-actual.invariant.1 c.in_ok-value.ensures.meaning
          ∙ ap (λ l. (all_made l).meaning) more,
    )
