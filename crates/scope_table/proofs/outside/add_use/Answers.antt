use Rattle.std.proofs.Common.{◌∙◌, ◌≡◌, true, ap, sym, arith}
use Rattle.std.proofs.lemmas.Grind.{common_steps}
use Rattle.fortran_tree.specs.UnitViews.{use_statement, maybe_names}
use Rattle.rule_definitions.specs.Judgements.{or_else}
use Rattle.rule_definitions.specs.Names.{denoted_in}
use Rattle.rule_definitions.specs.Units.{is_module}
use Rattle.scope_table.proofs.Orders.{accessible_all}
use Rattle.scope_table.proofs.outside.add_use.Goals as goal

pub returns-in_ok-add_all-in-None : goal.returns-in_ok-add_all-in-None
returns-in_ok-add_all-in-None c = λ n.
    let m : is_module c.args.statement.now.module.text ≡ true = grind (arith, common_steps) in
    let e = accessible_all (use_statement c.args.statement.now) m (ap maybe_names c.in-None.is) in
    c.in_ok-add_all-in-None.ensures n ∙ ap (λ k. or_else (denoted_in c.args.names.now n) (denoted_in k n)) (sym e)
