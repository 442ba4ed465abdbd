use Rattle.std.proofs.Common.{rules, refl, ◌≡◌, ◌∙◌, sym, map}
use Rattle.std.specs.Prelude.{cond, codes, ◌∷◌, None}
use Rattle.std.specs.Option.{option_map}
use Rattle.rule_definitions.specs.Actions.{stat_name}
use Rattle.rule_definitions.specs.Judgements.{both, is_nothing}
use Rattle.rule_definitions.specs.Specifiers.{all_breaks, order_written}
use Rattle.specifier_rules.specs.Meanings.{number_with}
use Rattle.specifier_rules.specs.Values.{expression_in, result_in, values_named}
use Rattle.specifier_rules.specs.Views.{number_and_stat_seen, values_seen, written}
use Rattle.specifier_rules.proofs.Slots.{number_found, number_and_stat_says}
use Rattle.specifier_rules.proofs.statement.event_wait_specifiers.Goals as goal

pub returns-clause-breaks : goal.returns-clause-breaks
returns-clause-breaks c =
    let said : c.in_ok-breaks.field-0.breaks.items ≡ all_breaks (codes "until_count" ∷ stat_name) (map written c.args.specified.items) = search rules in
    said ∙ sym (number_and_stat_says (codes "until_count") (map written c.args.specified.items))

pub returns-clause-meaning : goal.returns-clause-meaning
returns-clause-meaning c =
    let ws = map written c.args.specified.items in
    let v = values_seen c.in_ok-breaks.field-0.values in
    let said : c.in_ok-breaks.field-0.breaks.items ≡ all_breaks (codes "until_count" ∷ stat_name) (map written c.args.specified.items) = search rules in
    let holds : c.are_none-holds.result ≡ is_nothing c.in_ok-breaks.field-0.breaks.items = search rules in
    let named : values_seen c.in_ok-breaks.field-0.values ≡ values_named (map written c.args.specified.items) = search rules in
    let order : c.order_written-order.result ≡ order_written (codes "until_count") (codes "stat") (map written c.args.specified.items) = search rules in
    let found : option_map number_and_stat_seen c.until_count_value-meaning.result ≡ cond c.are_none-holds.result (both (number_with c.order_written-order.result) (option_map expression_in (values_seen c.in_ok-breaks.field-0.values).until_count) (option_map result_in (values_seen c.in_ok-breaks.field-0.values).stat)) None = search rules in
    number_found (codes "until_count") (λ x. x.until_count) ws (option_map number_and_stat_seen c.until_count_value-meaning.result) c.are_none-holds.result c.in_ok-breaks.field-0.breaks.items v c.order_written-order.result found holds said named order refl
