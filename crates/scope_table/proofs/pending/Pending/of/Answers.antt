use Rattle.scope_table.specs.Pending.{declared_names, name_texts, maybe_name}
use Rattle.scope_table.proofs.Sets.{three_sets}
use Rattle.scope_table.proofs.pending.Pending.of.Goals as goal

pub invariant_of-result : goal.invariant_of-result
invariant_of-result c = λ n.
    three_sets c.new-names.result c.add_declared.new.names c.add_names.new.names c.add_maybe.new.names (declared_names c.args.declarations.now) (name_texts c.args.dummies.now) (maybe_name c.args.answer) n
    c.new-names.ensures c.in_ok-add_declared.ensures c.in_ok-add_names.ensures c.in_ok-add_maybe.ensures
