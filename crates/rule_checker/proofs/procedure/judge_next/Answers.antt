use Rattle.std.proofs.Common.{◌∙◌, [], ap, map}
use Rattle.fortran_tree.specs.StatementViews.{statement_list}
use Rattle.rule_definitions.specs.Statements.{behind, counted_statements}
use Rattle.rule_checker.specs.Units.{counted}
use Rattle.fortran_tree.specs.UnitViews.{procedure}
use Rattle.scope_table.specs.Symbols.{interface}
use Rattle.statement_rules.specs.Positions.{position}
use Rattle.unit_scopes.specs.Openings.{closing}
use Rattle.unit_scopes.specs.Scopes.{main_scope, owning}
use Rattle.rule_checker.proofs.Units.{next_units}
use Rattle.rule_checker.proofs.procedure.judge_next.Goals as goal

pub returns : goal.returns
returns c =
    next_units (map interface c.args.common.interfaces.now) c.args.common.constants.now (procedure c.args.procedure.now) (owning (closing (main_scope c.args.common.outside.now [] []) c.args.host.now) c.args.own.now) (interface c.args.interface.now)
    c.args.all.now _ c.scope_inside-scope.result (position c.in_ok-position.position) c.in_ok-next.next
    c.scope_inside-scope.ensures c.in_ok-position.ensures c.in_ok-next.ensures.first c.in_ok-next.ensures.procedure c.in_ok-keep.ensures (c.in_ok-count.ensures ∙ ap (λ z. behind (counted c.args.all.now.counts) (counted_statements (statement_list z))) c.as_slice.ensures.value)
