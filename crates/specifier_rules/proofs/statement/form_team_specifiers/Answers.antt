use Rattle.std.proofs.Common.{rules, refl, ◌≡◌, map}
use Rattle.std.specs.Prelude.{cond, codes, ◌∷◌, None}
use Rattle.std.specs.Option.{option_map}
use Rattle.rule_definitions.specs.Actions.{stat_name}
use Rattle.rule_definitions.specs.Judgements.{both, is_nothing}
use Rattle.rule_definitions.specs.Specifiers.{all_breaks, order_written}
use Rattle.specifier_rules.specs.Meanings.{number_with}
use Rattle.specifier_rules.specs.Values.{expression_in, result_in, values_named}
use Rattle.specifier_rules.specs.Views.{number_and_stat_seen, values_seen, written}
use Rattle.specifier_rules.proofs.Slots.{number_found}
use Rattle.specifier_rules.proofs.statement.form_team_specifiers.Goals as goal

pub returns-clause-meaning : goal.returns-clause-meaning
returns-clause-meaning c =
    let ws = map written c.args.specified.items in
    let v = values_seen c.in_ok-breaks.field-0.values in
    let said : c.in_ok-breaks.field-0.breaks.items ≡ all_breaks (codes "new_index" ∷ stat_name) (map written c.args.specified.items) = search rules in
    let holds : c.are_none-holds.result ≡ is_nothing c.in_ok-breaks.field-0.breaks.items = search rules in
    let named : values_seen c.in_ok-breaks.field-0.values ≡ values_named (map written c.args.specified.items) = search rules in
    let order : c.order_written-order.result ≡ order_written (codes "new_index") (codes "stat") (map written c.args.specified.items) = search rules in
    let found : option_map number_and_stat_seen c.new_index_value-meaning.result ≡ cond c.are_none-holds.result (both (number_with c.order_written-order.result) (option_map expression_in (values_seen c.in_ok-breaks.field-0.values).new_index) (option_map result_in (values_seen c.in_ok-breaks.field-0.values).stat)) None = search rules in
    number_found (codes "new_index") (λ x. x.new_index) ws (option_map number_and_stat_seen c.new_index_value-meaning.result) c.are_none-holds.result c.in_ok-breaks.field-0.breaks.items v c.order_written-order.result found holds said named order refl
