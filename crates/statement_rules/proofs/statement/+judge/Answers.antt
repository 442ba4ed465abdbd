use Rattle.std.proofs.Common.{ap, map, ◌∙◌}
use Rattle.std.proofs.lemmas.Result.{IfOk-weaker}
use Rattle.checked_tree.specs.StatementViews.{statement as statement_seen}
use Rattle.fortran_tree.specs.ExpressionViews.{expression, specifiers}
use Rattle.fortran_tree.specs.StatementViews.{bracketed_specifier, case_blocks, case_selector, else_ifs, loop_control, statement_list}
use Rattle.part_rules.specs.Views.{judgement}
use Rattle.rule_definitions.specs.Statements.{case_joined, counted_cases, counted_else_ifs, counted_statements, judged_else_ifs, judged_statement, judged_statements, more_else_ifs}
use Rattle.case_rules.specs.Blocks.{block, else_if_list, else_if_parts, known, selection as selection_seen, whole}
use Rattle.statement_rules.specs.Parts.{critical_counted, else_if_counted, else_if_judged, select_judged, statement_counted, statement_judged}
use Rattle.statement_rules.specs.Positions.{numbers_past, position}
use Rattle.statement_rules.proofs.Constructs.{action_behind, action_found, critical_behind, critical_counts, critical_found, critical_seen, do_counted, do_found, do_seen, else_counted, else_found, if_behind, if_found, moved_within, no_else_behind, no_else_found, nothing_seen, select_counted, select_found, select_seen, team_counted, team_found, team_seen, within_found}
use Rattle.statement_rules.proofs.Sequences.{else_ifs_begin, else_ifs_end_behind, else_ifs_end_judged, else_ifs_go_on, passed_whole, statements_begin, statements_end_behind, statements_end_judged, statements_go_on}
use Rattle.branch_rules.specs.Sites.{around}
use Rattle.rule_definitions.specs.Expressions.{placed}
use Rattle.rule_definitions.specs.Judgements.{made_of_both}
use Rattle.rule_definitions.specs.Parts.{condition}
use Rattle.checked_tree.specs.ExpressionViews.{expression as typed_expression}
use Rattle.rule_definitions.specs.Actions.{selection}
use Rattle.std.specs.Option.{option_map}
use Rattle.statement_rules.proofs.Cases.{cases_begin, cases_end_behind, cases_end_judged, cases_go_on}
use Rattle.fortran_tree.specs.Statements as fs
use Rattle.statement_rules.proofs.statement.+judge.Goals as goal

pub judge_statement-returns-in-Action-clause-judged : goal.judge_statement-returns-in-Action-clause-judged
judge_statement-returns-in-Action-clause-judged t' c =
    passed_whole statement_seen c.action_statement.result _ _
    (action_found (position c.args.position) c.args.statement.now c.in-Action.action c.in-Action.is)
    c.action_statement.ensures.breaks c.action_statement.ensures.meaning

pub judge_statement-returns-in-Action-clause-behind : goal.judge_statement-returns-in-Action-clause-behind
judge_statement-returns-in-Action-clause-behind t' c =
    action_behind c.action_statement.result (position c.args.position) c.args.statement.now c.in-Action.action c.in-Action.is c.action_statement.ensures.criticals c.action_statement.ensures.literals

pub judge_statement-returns-in_ok-otherwise-in-If-clause-judged : goal.judge_statement-returns-in_ok-otherwise-in-If-clause-judged
judge_statement-returns-in_ok-otherwise-in-If-clause-judged t' c =
    let x = position c.args.position in
    let y = position c.moved.result in
    let z = position c.moved-in-If.result in
    let w = c.in-If in
    let b = c.in_ok-body-in-If in
    let e = c.in_ok-else_ifs-in-If in
    let o = c.in_ok-otherwise-in-If in
    passed_whole statement_seen c.if_statement.result _ _
    (if_found x y z c.args.statement.now w.condition w.body w.else_ifs w.otherwise w.at w.end
    (judgement block b.body.judged) (judgement else_if_list e.else_ifs.judged) (judgement block o.otherwise.judged) b.body.behind e.else_ifs.behind
    w.is
    (b.ensures.judged ∙ ap (λ l. judged_statements x (statement_list l)) c.deref.ensures.value)
    (b.ensures.behind ∙ ap (λ l. numbers_past x (counted_statements (statement_list l))) c.deref.ensures.value)
    c.moved.ensures
    (e.ensures.judged ∙ ap (λ l. judged_else_ifs y (else_ifs l)) c.deref-in-If.ensures.value)
    (e.ensures.behind ∙ ap (λ l. numbers_past y (counted_else_ifs (else_ifs l))) c.deref-in-If.ensures.value)
    c.moved-in-If.ensures o.ensures.judged)
    c.if_statement.ensures.breaks c.if_statement.ensures.meaning

pub judge_statement-returns-in_ok-otherwise-in-If-clause-behind : goal.judge_statement-returns-in_ok-otherwise-in-If-clause-behind
judge_statement-returns-in_ok-otherwise-in-If-clause-behind t' c =
    let x = position c.args.position in
    let y = position c.moved.result in
    let z = position c.moved-in-If.result in
    let w = c.in-If in
    let b = c.in_ok-body-in-If in
    let e = c.in_ok-else_ifs-in-If in
    let o = c.in_ok-otherwise-in-If in
    let counts = if_behind x y z c.args.statement.now w.condition w.body w.else_ifs w.otherwise w.at w.end b.body.behind e.else_ifs.behind o.otherwise.behind
    w.is
    (b.ensures.behind ∙ ap (λ l. numbers_past x (counted_statements (statement_list l))) c.deref.ensures.value)
    c.moved.ensures
    (e.ensures.behind ∙ ap (λ l. numbers_past y (counted_else_ifs (else_ifs l))) c.deref-in-If.ensures.value)
    c.moved-in-If.ensures o.ensures.behind in
    IfOk-weaker c.if_statement.result _ _ (λ p h. h ∙ counts) c.if_statement.ensures.behind

pub judge_statement-returns-in-Do-clause-judged : goal.judge_statement-returns-in-Do-clause-judged
judge_statement-returns-in-Do-clause-judged t' c =
    let x = position c.args.position in
    let w = c.in-Do in
    IfOk-weaker c.judge_do.result _ _
    (λ p h. h ∙ ap (λ l. judged_statement x (fs.do_construct w.construct (loop_control w.control) (statement_list l) w.at w.end)) c.deref-in-Do.ensures.value
    ∙ do_seen x c.args.statement.now w.construct w.control w.body w.at w.end w.is)
    c.judge_do.ensures.judged

pub judge_statement-returns-in-Do-clause-behind : goal.judge_statement-returns-in-Do-clause-behind
judge_statement-returns-in-Do-clause-behind t' c =
    let x = position c.args.position in
    let w = c.in-Do in
    IfOk-weaker c.judge_do.result _ _
    (λ p h. h ∙ ap (λ l. numbers_past x (counted_statements (statement_list l))) c.deref-in-Do.ensures.value
    ∙ ap (numbers_past x) (do_counted c.args.statement.now w.construct w.control w.body w.at w.end w.is))
    c.judge_do.ensures.behind

pub judge_statement-returns-in-SelectCase-clause-judged : goal.judge_statement-returns-in-SelectCase-clause-judged
judge_statement-returns-in-SelectCase-clause-judged t' c =
    let x = position c.args.position in
    let w = c.in-SelectCase in
    IfOk-weaker c.judge_select.result _ _
    (λ p h. h ∙ ap (λ l. select_judged x (expression w.expression) (case_blocks l) w.at) c.deref-in-SelectCase.ensures.value
    ∙ select_seen x c.args.statement.now w.expression w.cases w.at w.end w.is)
    c.judge_select.ensures.judged

pub judge_statement-returns-in-SelectCase-clause-behind : goal.judge_statement-returns-in-SelectCase-clause-behind
judge_statement-returns-in-SelectCase-clause-behind t' c =
    let x = position c.args.position in
    let w = c.in-SelectCase in
    IfOk-weaker c.judge_select.result _ _
    (λ p h. h ∙ ap (λ l. numbers_past x (counted_cases (case_blocks l))) c.deref-in-SelectCase.ensures.value
    ∙ ap (numbers_past x) (select_counted c.args.statement.now w.expression w.cases w.at w.end w.is))
    c.judge_select.ensures.behind

pub judge_statement-returns-in-Critical-clause-judged : goal.judge_statement-returns-in-Critical-clause-judged
judge_statement-returns-in-Critical-clause-judged t' c =
    let x = position c.args.position in
    let w = c.in-Critical in
    IfOk-weaker c.judge_critical.result _ _
    (λ p h. h ∙ ap (λ l. judged_statement x (fs.critical_construct (bracketed_specifier w.specifier) (statement_list l) w.at w.end)) c.deref-in-Critical.ensures.value
    ∙ critical_seen x c.args.statement.now w.specifier w.body w.at w.end w.is)
    c.judge_critical.ensures.judged

pub judge_statement-returns-in-Critical-clause-behind : goal.judge_statement-returns-in-Critical-clause-behind
judge_statement-returns-in-Critical-clause-behind t' c =
    let x = position c.args.position in
    let w = c.in-Critical in
    IfOk-weaker c.judge_critical.result _ _
    (λ p h. h ∙ ap (λ l. numbers_past x (critical_counted (statement_list l))) c.deref-in-Critical.ensures.value
    ∙ ap (numbers_past x) (critical_counts c.args.statement.now w.specifier w.body w.at w.end w.is))
    c.judge_critical.ensures.behind

pub judge_statement-returns-in-ChangeTeam-clause-judged : goal.judge_statement-returns-in-ChangeTeam-clause-judged
judge_statement-returns-in-ChangeTeam-clause-judged t' c =
    let x = position c.args.position in
    let w = c.in-ChangeTeam in
    IfOk-weaker c.judge_team_change.result _ _
    (λ p h. h ∙ ap (λ l. judged_statement x (fs.change_team_construct (expression w.team) (specifiers c.deref-in-ChangeTeam-2.result.now) (statement_list l) (bracketed_specifier w.end_specifier) w.at w.end)) c.deref-in-ChangeTeam.ensures.value
    ∙ ap (λ l. judged_statement x (fs.change_team_construct (expression w.team) (specifiers l) (statement_list w.body.items) (bracketed_specifier w.end_specifier) w.at w.end)) c.deref-in-ChangeTeam-2.ensures.value
    ∙ team_seen x c.args.statement.now w.team w.specifiers w.body w.end_specifier w.at w.end w.is)
    c.judge_team_change.ensures.judged

pub judge_statement-returns-in-ChangeTeam-clause-behind : goal.judge_statement-returns-in-ChangeTeam-clause-behind
judge_statement-returns-in-ChangeTeam-clause-behind t' c =
    let x = position c.args.position in
    let w = c.in-ChangeTeam in
    IfOk-weaker c.judge_team_change.result _ _
    (λ p h. h ∙ ap (λ l. numbers_past x (counted_statements (statement_list l))) c.deref-in-ChangeTeam.ensures.value
    ∙ ap (numbers_past x) (team_counted c.args.statement.now w.team w.specifiers w.body w.end_specifier w.at w.end w.is))
    c.judge_team_change.ensures.behind

pub judge_block-loop-statement-init : goal.judge_block-loop-statement-init
judge_block-loop-statement-init t' c =
    statements_begin (position c.args.position) c.no_parts-list.result c.args.statements.now c.no_parts-list.ensures.judged c.no_parts-list.ensures.behind

pub judge_block-loop-statement-preserved : goal.judge_block-loop-statement-preserved
judge_block-loop-statement-preserved t' c =
    let s = c.statement-item.result in
    statements_go_on (position c.args.position) c.loop-statement.list c.keep_passed.new.list c.in_ok-next.next c.args.statements.now c.loop-statement.statement-index s
    c.statement-item.is c.loop-statement-test.true
    (c.in_ok-next.ensures.judged ∙ ap (λ y. statement_judged y s) c.moved.ensures)
    (c.in_ok-next.ensures.behind ∙ ap (λ y. numbers_past y (statement_counted s)) c.moved.ensures)
    c.in_ok-keep_passed.ensures.breaks c.in_ok-keep_passed.ensures.meaning c.in_ok-keep_passed.ensures.behind c.loop-statement.invariant

pub judge_block-returns-clause-judged : goal.judge_block-returns-clause-judged
judge_block-returns-clause-judged t' c =
    statements_end_judged (position c.args.position) c.loop-statement.list c.args.statements.now c.loop-statement.statement-index c.loop-statement-test.false c.loop-statement.invariant

pub judge_block-returns-clause-behind : goal.judge_block-returns-clause-behind
judge_block-returns-clause-behind t' c =
    statements_end_behind (position c.args.position) c.loop-statement.list c.args.statements.now c.loop-statement.statement-index c.loop-statement-test.false c.loop-statement.invariant

pub judge_inside-returns-clause-judged : goal.judge_inside-returns-clause-judged
judge_inside-returns-clause-judged t' c =
    let at = within_found (position c.args.position) (position c.inside.result) _ (around c.args.construct) c.inside.ensures (ap (map around) c.as_slice.ensures.value ∙ c.in_ok-around.ensures) in
    IfOk-weaker c.judge_block.result _ _ (λ p h. h ∙ ap (λ y. judged_statements y (statement_list c.args.statements.now)) at) c.judge_block.ensures.judged

pub judge_inside-returns-clause-behind : goal.judge_inside-returns-clause-behind
judge_inside-returns-clause-behind t' c =
    let at = within_found (position c.args.position) (position c.inside.result) _ (around c.args.construct) c.inside.ensures (ap (map around) c.as_slice.ensures.value ∙ c.in_ok-around.ensures) in
    IfOk-weaker c.judge_block.result _ _ (λ p h. moved_within (position c.args.position) (position c.inside.result) (around c.args.construct) (counted_statements (statement_list c.args.statements.now)) p.behind h at) c.judge_block.ensures.behind

pub judge_else_if-returns-clause-judged : goal.judge_else_if-returns-clause-judged
judge_else_if-returns-clause-judged t' c =
    let x = position c.args.position in
    let e = c.args.else_if.now in
    passed_whole else_if_parts c.else_if_block.result _ _
    (ap (made_of_both (more_else_ifs e.at.line) (condition (placed x.scope (expression e.condition)))) (c.in_ok-body.ensures.judged ∙ ap (λ l. judged_statements x (statement_list l)) c.deref.ensures.value))
    c.else_if_block.ensures.breaks c.else_if_block.ensures.meaning

pub judge_else_if-returns-clause-behind : goal.judge_else_if-returns-clause-behind
judge_else_if-returns-clause-behind t' c =
    IfOk-weaker c.else_if_block.result _ _ (λ p h. h ∙ c.in_ok-body.ensures.behind ∙ ap (λ l. numbers_past (position c.args.position) (counted_statements (statement_list l))) c.deref.ensures.value) c.else_if_block.ensures.behind

pub judge_else_ifs-loop-else_if-init : goal.judge_else_ifs-loop-else_if-init
judge_else_ifs-loop-else_if-init t' c =
    else_ifs_begin (position c.args.position) c.no_parts-list.result c.args.else_ifs.now c.no_parts-list.ensures.judged c.no_parts-list.ensures.behind

pub judge_else_ifs-loop-else_if-preserved : goal.judge_else_ifs-loop-else_if-preserved
judge_else_ifs-loop-else_if-preserved t' c =
    let s = c.else_if-item.result in
    else_ifs_go_on (position c.args.position) c.loop-else_if.list c.keep_passed.new.list c.in_ok-next.next c.args.else_ifs.now c.loop-else_if.else_if-index s
    c.else_if-item.is c.loop-else_if-test.true
    (c.in_ok-next.ensures.judged ∙ ap (λ y. else_if_judged y s) c.moved.ensures)
    (c.in_ok-next.ensures.behind ∙ ap (λ y. numbers_past y (else_if_counted s)) c.moved.ensures)
    c.in_ok-keep_passed.ensures.breaks c.in_ok-keep_passed.ensures.meaning c.in_ok-keep_passed.ensures.behind c.loop-else_if.invariant

pub judge_else_ifs-returns-clause-judged : goal.judge_else_ifs-returns-clause-judged
judge_else_ifs-returns-clause-judged t' c =
    else_ifs_end_judged (position c.args.position) c.loop-else_if.list c.args.else_ifs.now c.loop-else_if.else_if-index c.loop-else_if-test.false c.loop-else_if.invariant

pub judge_else_ifs-returns-clause-behind : goal.judge_else_ifs-returns-clause-behind
judge_else_ifs-returns-clause-behind t' c =
    else_ifs_end_behind (position c.args.position) c.loop-else_if.list c.args.else_ifs.now c.loop-else_if.else_if-index c.loop-else_if-test.false c.loop-else_if.invariant

pub judge_else-returns-in-Some-clause-judged : goal.judge_else-returns-in-Some-clause-judged
judge_else-returns-in-Some-clause-judged t' c =
    let x = position c.args.position in
    IfOk-weaker c.judge_block.result _ _
    (λ p h. h ∙ ap (λ l. judged_statements x (statement_list l)) c.deref.ensures.value ∙ else_found x c.args.otherwise.now c.in-Some.otherwise c.in-Some.is)
    c.judge_block.ensures.judged

pub judge_else-returns-in-Some-clause-behind : goal.judge_else-returns-in-Some-clause-behind
judge_else-returns-in-Some-clause-behind t' c =
    let x = position c.args.position in
    IfOk-weaker c.judge_block.result _ _
    (λ p h. h ∙ ap (λ l. numbers_past x (counted_statements (statement_list l))) c.deref.ensures.value ∙ ap (numbers_past x) (else_counted c.args.otherwise.now c.in-Some.otherwise c.in-Some.is))
    c.judge_block.ensures.behind

pub judge_else-returns-in-None-clause-judged : goal.judge_else-returns-in-None-clause-judged
judge_else-returns-in-None-clause-judged t' c = nothing_seen c.no_parts.result.judged c.no_parts.ensures.judged ∙ no_else_found (position c.args.position) c.args.otherwise.now c.in-None.is

pub judge_else-returns-in-None-clause-behind : goal.judge_else-returns-in-None-clause-behind
judge_else-returns-in-None-clause-behind t' c = no_else_behind (position c.args.position) c.args.otherwise.now c.no_parts.result.behind c.in-None.is c.no_parts.ensures.behind

pub judge_do-returns-clause-judged : goal.judge_do-returns-clause-judged
judge_do-returns-clause-judged t' c =
    passed_whole statement_seen c.do_statement.result _ _
    (do_found (position c.args.position) c.args.construct.now (loop_control c.args.control.now) (statement_list c.args.body.now) c.args.at c.args.end.now (around c.loop_around-inner.result) (judgement block c.in_ok-body.body.judged)
    c.loop_around-inner.ensures c.in_ok-body.ensures.judged)
    c.do_statement.ensures.breaks c.do_statement.ensures.meaning

pub judge_do-returns-clause-behind : goal.judge_do-returns-clause-behind
judge_do-returns-clause-behind t' c = IfOk-weaker c.do_statement.result _ _ (λ p h. h ∙ c.in_ok-body.ensures.behind) c.do_statement.ensures.behind

pub judge_critical-returns-clause-judged : goal.judge_critical-returns-clause-judged
judge_critical-returns-clause-judged t' c =
    passed_whole statement_seen c.critical_statement.result _ _
    (critical_found (position c.args.position) (position c.moved.result) c.in_ok-number.number (bracketed_specifier c.args.brackets.now) (statement_list c.args.body.now) c.args.at c.args.end (judgement block c.in_ok-body.body.judged)
    c.in_ok-number.ensures c.moved.ensures c.in_ok-body.ensures.judged)
    c.critical_statement.ensures.breaks c.critical_statement.ensures.meaning

pub judge_critical-returns-clause-behind : goal.judge_critical-returns-clause-behind
judge_critical-returns-clause-behind t' c =
    IfOk-weaker c.critical_statement.result _ _
    (λ p h. h ∙ critical_behind (position c.args.position) (position c.moved.result) c.in_ok-number.number (statement_list c.args.body.now) c.in_ok-body.body.behind c.in_ok-number.ensures c.moved.ensures c.in_ok-body.ensures.behind)
    c.critical_statement.ensures.behind

pub judge_team_change-returns-clause-judged : goal.judge_team_change-returns-clause-judged
judge_team_change-returns-clause-judged t' c =
    passed_whole statement_seen c.team_statement.result _ _
    (team_found (position c.args.position) (expression c.args.team.now) (specifiers c.args.specifiers.now) (statement_list c.args.body.now) (bracketed_specifier c.args.brackets.now) c.args.at c.args.end (judgement block c.in_ok-body.body.judged)
    c.in_ok-body.ensures.judged)
    c.team_statement.ensures.breaks c.team_statement.ensures.meaning

pub judge_team_change-returns-clause-behind : goal.judge_team_change-returns-clause-behind
judge_team_change-returns-clause-behind t' c = IfOk-weaker c.team_statement.result _ _ (λ p h. h ∙ c.in_ok-body.ensures.behind) c.team_statement.ensures.behind

pub judge_select-returns-clause-judged : goal.judge_select-returns-clause-judged
judge_select-returns-clause-judged t' c =
    let x = position c.args.position in
    let y = position c.inside-inner.result in
    let at = within_found x y _ selection c.inside-inner.ensures (ap (map around) c.as_slice.ensures.value ∙ c.in_ok-around.ensures) in
    passed_whole statement_seen c.select_statement.result _ _
    (select_found x y (expression c.args.expr.now) (case_blocks c.args.cases.now) c.args.at (judgement typed_expression c.in_ok-selector.selector) (judgement selection_seen c.in_ok-selected.selected.judged)
    c.in_ok-selector.ensures.breaks c.in_ok-selector.ensures.meaning at c.in_ok-selected.ensures.judged)
    c.select_statement.ensures.breaks c.select_statement.ensures.meaning

pub judge_select-returns-clause-behind : goal.judge_select-returns-clause-behind
judge_select-returns-clause-behind t' c =
    let x = position c.args.position in
    let y = position c.inside-inner.result in
    let at = within_found x y _ selection c.inside-inner.ensures (ap (map around) c.as_slice.ensures.value ∙ c.in_ok-around.ensures) in
    IfOk-weaker c.select_statement.result _ _
    (λ p h. h ∙ moved_within x y selection (counted_cases (case_blocks c.args.cases.now)) c.in_ok-selected.selected.behind c.in_ok-selected.ensures.behind at)
    c.select_statement.ensures.behind

pub judge_case-returns-clause-whole : goal.judge_case-returns-clause-whole
judge_case-returns-clause-whole t' c = λ r.
    let x = position c.args.position in
    let s = c.args.case.now in
    c.in_ok-add.ensures.whole r
    ∙ ap (λ j. whole c.args.list.now (case_joined x.scope (known (option_map typed_expression c.args.selector.now) c.args.list.now) (case_selector s.selector) s.at j r))
    (c.in_ok-judged.ensures.judged ∙ ap (λ l. judged_statements x (statement_list l)) c.deref.ensures.value)

pub judge_case-returns-clause-known : goal.judge_case-returns-clause-known
judge_case-returns-clause-known t' c = c.in_ok-add.ensures.known

pub judge_case-returns-clause-behind : goal.judge_case-returns-clause-behind
judge_case-returns-clause-behind t' c = c.in_ok-judged.ensures.behind ∙ ap (λ l. numbers_past (position c.args.position) (counted_statements (statement_list l))) c.deref.ensures.value

pub judge_cases-loop-case-init : goal.judge_cases-loop-case-init
judge_cases-loop-case-init t' c =
    let new = c.new-list.ensures in
    cases_begin (position c.args.position) c.new-list.result c.numbers_before-behind.result (option_map typed_expression c.args.selector.now) c.args.cases.now
    new.breaks new.cases new.otherwise new.ranges new.repeated c.numbers_before-behind.ensures

pub judge_cases-loop-case-preserved : goal.judge_cases-loop-case-preserved
judge_cases-loop-case-preserved t' c =
    cases_go_on (position c.args.position) (position c.moved.result) c.loop-case.list c.judge_case.new.list c.loop-case.behind c.in_ok-behind.behind (option_map typed_expression c.args.selector.now) c.args.cases.now c.loop-case.case-index c.case-item.result
    c.case-item.is c.loop-case-test.true c.moved.ensures
    c.in_ok-behind.ensures.whole c.in_ok-behind.ensures.known c.in_ok-behind.ensures.behind c.loop-case.invariant

pub judge_cases-returns-clause-judged : goal.judge_cases-returns-clause-judged
judge_cases-returns-clause-judged t' c =
    cases_end_judged (position c.args.position) c.loop-case.list c.loop-case.behind (option_map typed_expression c.args.selector.now) c.args.cases.now c.loop-case.case-index c.in_ok-judged.judged c.loop-case-test.false
    c.in_ok-judged.ensures.breaks c.in_ok-judged.ensures.meaning c.loop-case.invariant

pub judge_cases-returns-clause-behind : goal.judge_cases-returns-clause-behind
judge_cases-returns-clause-behind t' c =
    cases_end_behind (position c.args.position) c.loop-case.list c.loop-case.behind (option_map typed_expression c.args.selector.now) c.args.cases.now c.loop-case.case-index c.loop-case-test.false c.loop-case.invariant
