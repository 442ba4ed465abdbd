use Rattle.std.proofs.Common.{◌∙◌, ap, ◌||◌}
use Rattle.rule_definitions.specs.Names.{is_among}
use Rattle.scope_table.specs.Pending.{name_texts}
use Rattle.scope_table.proofs.dummy.Dummies.of.Goals as goal

pub invariant_of-result : goal.invariant_of-result
invariant_of-result c = λ n. c.in_ok-add_names.ensures n ∙ ap (λ k. is_among k n || is_among (name_texts c.args.listed.now) n) c.new-names.ensures
