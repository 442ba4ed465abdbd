use Rattle.std.proofs.Common.{◌≡◌, length, ap, ◌∙◌, arith}
use Rattle.std.proofs.lemmas.Grind.{common_steps}
use Rattle.std.proofs.lemmas.List.{length-map}
use Rattle.std.specs.Prelude.{map, ◌++◌}
use Rattle.std.specs.Option.{option_map}
use Rattle.checked_tree.specs.ExpressionViews.{maybe_selector}
use Rattle.rule_definitions.specs.Expressions.{cosubscripts}
use Rattle.rule_definitions.specs.Judgements.{both}
use Rattle.part_rules.specs.Views.{placed}
use Rattle.specifier_rules.specs.Views.{team_and_stat_seen, written}
use Rattle.expr_rules.specs.Selections.{selector_with}
use Rattle.expr_rules.proofs.Selectors.{selector_is}
use Rattle.expr_rules.proofs.selector.selected.Goals as goal

pub returns : goal.returns
returns c =
    let es = map placed c.args.parts.items in
    let ws = map written c.args.specified.items in
    let k : c.len-count.result ≡ length es = grind (arith, common_steps, length-map) in
    selector_is es ws c.len-count.result c.in_ok-judged.judged.breaks.items (option_map maybe_selector c.in_ok-judged.judged.meaning) k
    (c.in_ok-judged.ensures.breaks ∙ ap (λ bs. bs ++ c.in_ok-further.further.breaks.items) c.in_ok-cosubscripts.ensures.breaks ∙ ap (λ bs. (cosubscripts es).breaks ++ bs) c.in_ok-further.ensures.breaks)
    (c.in_ok-judged.ensures.meaning ∙ ap (λ o. both selector_with o (option_map team_and_stat_seen c.in_ok-further.further.meaning)) c.in_ok-cosubscripts.ensures.meaning ∙ ap (both selector_with (cosubscripts es).meaning) c.in_ok-further.ensures.meaning)
