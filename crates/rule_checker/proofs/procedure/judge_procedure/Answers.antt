use Rattle.std.proofs.Common.{◌∙◌, ap}
use Rattle.fortran_tree.specs.StatementViews.{statement_list}
use Rattle.rule_definitions.specs.Judgements.{first_of}
use Rattle.rule_checker.specs.Units.{unit_here}
use Rattle.fortran_tree.specs.UnitViews.{procedure}
use Rattle.scope_table.specs.Symbols.{interface}
use Rattle.statement_rules.specs.Positions.{position}
use Rattle.rule_checker.proofs.Units.{procedure_broken, procedure_fine, procedure_first}
use Rattle.rule_checker.proofs.procedure.judge_procedure.Goals as goal

pub returns-in_ok-typed-clause-first : goal.returns-in_ok-typed-clause-first
returns-in_ok-typed-clause-first c =
    procedure_first c.args.own.now (position c.args.position) (interface c.args.interface.now) (procedure c.args.procedure.now) c.heading_name-name.result.now c.args.first.now c.judge_unit.new.first c.judge_end.new.first
    c.heading_name-name.ensures (c.in_ok-unit.ensures.first ∙ ap (λ z. first_of c.args.first.now (unit_here c.args.own.now (position c.args.position) (statement_list z)).breaks) c.as_slice.ensures.value) c.judge_end.ensures.first

pub returns-in_ok-typed-clause-procedure : goal.returns-in_ok-typed-clause-procedure
returns-in_ok-typed-clause-procedure c =
    procedure_fine c.args.own.now (position c.args.position) (interface c.args.interface.now) (procedure c.args.procedure.now) c.heading_name-name.result.now c.judge_end.result _ _
    c.heading_name-name.ensures c.judge_end.ensures.fine c.if-judge_end.true (c.in_ok-unit.ensures.unit ∙ ap (λ z. (unit_here c.args.own.now (position c.args.position) (statement_list z)).meaning) c.as_slice.ensures.value) c.in_ok-typed.ensures

pub returns-else-judge_end-clause-first : goal.returns-else-judge_end-clause-first
returns-else-judge_end-clause-first c =
    procedure_first c.args.own.now (position c.args.position) (interface c.args.interface.now) (procedure c.args.procedure.now) c.heading_name-name.result.now c.args.first.now c.judge_unit.new.first c.judge_end.new.first
    c.heading_name-name.ensures (c.in_ok-unit.ensures.first ∙ ap (λ z. first_of c.args.first.now (unit_here c.args.own.now (position c.args.position) (statement_list z)).breaks) c.as_slice.ensures.value) c.judge_end.ensures.first

pub returns-else-judge_end-clause-procedure : goal.returns-else-judge_end-clause-procedure
returns-else-judge_end-clause-procedure c =
    procedure_broken c.args.own.now (position c.args.position) (interface c.args.interface.now) (procedure c.args.procedure.now) c.heading_name-name.result.now c.judge_end.result
    c.heading_name-name.ensures c.judge_end.ensures.fine c.if-judge_end.false
