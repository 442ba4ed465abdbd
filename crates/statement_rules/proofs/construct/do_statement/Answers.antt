use Rattle.std.proofs.Common.{◌∙◌, ap, refl}
use Rattle.std.specs.Prelude.{None, cond}
use Rattle.std.specs.Option.{option_map}
use Rattle.fortran_tree.specs.StatementViews.{loop_control}
use Rattle.checked_tree.specs.Statements as ts
use Rattle.checked_tree.specs.StatementViews.{statement_form}
use Rattle.rule_definitions.specs.Judgements.{both, is_nothing, made}
use Rattle.rule_definitions.specs.Statements.{end_breaks, judged_control, loop_form}
use Rattle.case_rules.specs.Blocks.{block}
use Rattle.statement_rules.specs.Controls.{control}
use Rattle.statement_rules.specs.Positions.{position}
use Rattle.statement_rules.proofs.Pairs.{ruled_seen, two_found}
use Rattle.statement_rules.proofs.construct.do_statement.Goals as goal

pub returns-clause-meaning : goal.returns-clause-meaning
returns-clause-meaning c =
    let bs = end_breaks c.args.construct.now c.args.end.now in
    c.on_line.ensures.meaning
    ∙ ap (made (λ x. ts.on_line x c.args.at.line))
    (ap (option_map statement_form) c.in_ok-form.ensures.meaning
    ∙ ruled_seen statement_form (is_nothing bs) c.loop_form.result
    ∙ ap (λ m. cond (is_nothing bs) m None)
    (two_found (loop_form c.in_ok-hidden.hidden) control block _ _ _ _ _ _ c.loop_form.ensures c.in_ok-breaks.ensures.meaning c.in_ok-control.ensures.meaning refl
    ∙ ap (λ h. both (loop_form h) (judged_control (position c.args.position) (loop_control c.args.control.now)).meaning (option_map block c.args.body.judged.meaning)) c.in_ok-hidden.ensures))
