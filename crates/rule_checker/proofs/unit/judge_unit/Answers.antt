use Rattle.std.proofs.Common.{◌∙◌, ap}
use Rattle.fortran_tree.specs.StatementViews.{statement_list}
use Rattle.rule_definitions.specs.Judgements.{first_of}
use Rattle.statement_rules.specs.Positions.{position}
use Rattle.rule_checker.proofs.Typing.{unit_first, unit_meaning}
use Rattle.rule_checker.proofs.unit.judge_unit.Goals as goal

pub returns-clause-first : goal.returns-clause-first
returns-clause-first c =
    unit_first c.args.own.now (position c.args.position) (statement_list c.args.statements.now) c.args.first.now c.note_all.new.first c.in_ok-judged.judged.breaks.items
    c.in_ok-judged.ensures.breaks (c.note_all.ensures ∙ ap (first_of c.args.first.now) c.as_slice.ensures.value)

pub returns-clause-unit : goal.returns-clause-unit
returns-clause-unit c =
    unit_meaning c.args.own.now (position c.args.position) (statement_list c.args.statements.now) c.in_ok-hidden.hidden _ _ _
    c.in_ok-hidden.ensures c.in_ok-variables.ensures c.in_ok-judged.ensures.meaning c.joined.ensures
