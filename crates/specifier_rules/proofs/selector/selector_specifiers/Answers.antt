use Rattle.std.proofs.Common.{rules, ◌≡◌, ◌∙◌, sym, map}
use Rattle.std.specs.Prelude.{cond, None}
use Rattle.std.specs.Option.{option_map}
use Rattle.rule_definitions.specs.Judgements.{both, is_nothing}
use Rattle.rule_definitions.specs.Specifiers.{selector_specifiers}
use Rattle.specifier_rules.specs.Meanings.{team_with}
use Rattle.specifier_rules.specs.Values.{result_in, team_in, values_named}
use Rattle.specifier_rules.specs.Views.{team_and_stat_seen, values_seen, written}
use Rattle.specifier_rules.proofs.Slots.{selector_found, selector_says}
use Rattle.specifier_rules.proofs.selector.selector_specifiers.Goals as goal

pub returns-clause-breaks : goal.returns-clause-breaks
returns-clause-breaks c =
    let said : c.in_ok-breaks.field-0.breaks.items ≡ selector_specifiers (map written c.args.specified.items) = search rules in
    said ∙ sym (selector_says (map written c.args.specified.items))

pub returns-clause-meaning : goal.returns-clause-meaning
returns-clause-meaning c =
    let ws = map written c.args.specified.items in
    let v = values_seen c.in_ok-breaks.field-0.values in
    let said : c.in_ok-breaks.field-0.breaks.items ≡ selector_specifiers (map written c.args.specified.items) = search rules in
    let holds : c.are_none-holds.result ≡ is_nothing c.in_ok-breaks.field-0.breaks.items = search rules in
    let named : values_seen c.in_ok-breaks.field-0.values ≡ values_named (map written c.args.specified.items) = search rules in
    let found : option_map team_and_stat_seen c.in_ok-meaning.meaning ≡ cond c.are_none-holds.result (both team_with (team_in (values_seen c.in_ok-breaks.field-0.values).team (values_seen c.in_ok-breaks.field-0.values).team_number) (option_map result_in (values_seen c.in_ok-breaks.field-0.values).stat)) None = search rules in
    selector_found ws (option_map team_and_stat_seen c.in_ok-meaning.meaning) c.are_none-holds.result c.in_ok-breaks.field-0.breaks.items v found holds said named
