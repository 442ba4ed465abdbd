use Rattle.std.proofs.Common.{◌∙◌, ℕ, List, [], ap, map, refl}
use Rattle.std.specs.Prelude.{Some, None}
use Rattle.fortran_tree.specs.StatementViews.{statement_list}
use Rattle.fortran_tree.specs.UnitViews.{program}
use Rattle.rule_definitions.specs.Judgements.{first_of}
use Rattle.rule_definitions.specs.Statements.{Counted, behind, counted_statements}
use Rattle.scope_table.specs.Symbols.{interface}
use Rattle.statement_rules.specs.Positions.{position}
use Rattle.unit_scopes.specs.Scopes.{main_scope}
use Rattle.rule_checker.specs.Units.{unit_here}
use Rattle.rule_checker.proofs.Whole.{begun_is}
use Rattle.rule_checker.proofs.program.judge_main.Goals as goal

pub returns : goal.returns
returns c =
    let n : List (List ℕ) → Counted = λ z. record { criticals = 0; literals = z } in
    begun_is (map interface c.args.common.interfaces.now) c.args.common.constants.now (record (main_scope c.args.common.outside.now [] []) { own = c.args.own.now }) c.scope_of_main-scope.result (program c.args.program.now)
    (position c.in_ok-position.position) _ (n c.new.result.items) (ap n c.new.ensures.items) c.scope_of_main-scope.ensures c.in_ok-position.ensures
    (c.in_ok-main.ensures.first ∙ ap (λ z. first_of None (unit_here c.args.own.now (position c.in_ok-position.position) (statement_list z)).breaks) c.as_slice-statements.ensures.value)
    (c.in_ok-main.ensures.unit ∙ ap (λ z. (unit_here c.args.own.now (position c.in_ok-position.position) (statement_list z)).meaning) c.as_slice-statements.ensures.value)
    (c.in_ok-count.ensures ∙ ap (λ z. behind (n c.new.result.items) (counted_statements (statement_list z))) c.as_slice-statements.ensures.value)
    (ap Some c.new-2.ensures.items)
