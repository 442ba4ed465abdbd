use Rattle.std.proofs.Common.{◌≡◌, ◌+◌, ◌∙◌, ap, ap₂, rules}
use Rattle.std.proofs.lemmas.Result.{IfOk-weaker}
use Rattle.std.specs.Prelude.{true}
use Rattle.walk_theory.specs.Made.{steps_size, parts_size}
use Rattle.checked_tree.specs.StatementViews as view
use Rattle.checked_tree.specs.StatementViews.{typed_statement_forms}
use Rattle.tree_meaning.specs.Environment.{hidden_cell}
use Rattle.tree_meaning.specs.Forms as meaning
use Rattle.tree_meaning.specs.Sequences.{doing}
use Rattle.expr_code.specs.Environments.{environment}
use Rattle.code_maker.proofs.Sizes.{cases_end, cases_on, change_team_sized, else_ifs_end, else_ifs_on, is_simple, simple_sized}
use Rattle.code_maker.proofs.size.+size.Goals as goal

pub else_ifs_size-loop-branch-preserved : goal.else_ifs_size-loop-branch-preserved
else_ifs_size-loop-branch-preserved t c =
    let e = environment c.args.env.now in
    let block = c.in_ok-block.ensures ∙ ap (λ l. steps_size (meaning.steps e (view.statements l))) c.deref.ensures.value in
    else_ifs_on e c.args.else_ifs.now c.loop-branch.branch-index c.branch-item.result c.loop-branch.total c.in_ok-total.total c.in_ok-branch_size.field-0
    c.branch-item.is c.loop-branch-test.true (c.in_ok-branch_size.ensures ∙ ap₂ (λ x y. x + 1 + y + 1) c.in_ok-test.ensures block) c.in_ok-total.ensures c.loop-branch.invariant

pub else_ifs_size-returns : goal.else_ifs_size-returns
else_ifs_size-returns t c = else_ifs_end (environment c.args.env.now) c.args.else_ifs.now c.loop-branch.branch-index c.loop-branch.total c.loop-branch-test.false c.loop-branch.invariant

pub cases_size-loop-case-preserved : goal.cases_size-loop-case-preserved
cases_size-loop-case-preserved t c =
    let e = environment c.args.env.now in
    let x = hidden_cell e c.args.hidden in
    let test = c.in_ok-test.ensures ∙ ap (λ l. parts_size (doing (meaning.in_ranges x l))) c.deref.ensures.value in
    let block = c.in_ok-block.ensures ∙ ap (λ l. steps_size (meaning.steps e (view.statements l))) c.deref-in-loop-case.ensures.value in
    cases_on e x c.args.cases.now c.loop-case.case-index c.case-item.result c.loop-case.total c.in_ok-total.total c.in_ok-branch_size.field-0
    c.case-item.is c.loop-case-test.true (c.in_ok-branch_size.ensures ∙ ap₂ (λ y z. y + 1 + z + 1) test block) c.in_ok-total.ensures c.loop-case.invariant

pub cases_size-returns : goal.cases_size-returns
cases_size-returns t c =
    let e = environment c.args.env.now in
    cases_end e (hidden_cell e c.args.hidden) c.args.cases.now c.loop-case.case-index c.loop-case.total c.loop-case-test.false c.loop-case.invariant

pub form_size-returns-in_ok-block_size-in-ChangeTeam : goal.form_size-returns-in_ok-block_size-in-ChangeTeam
form_size-returns-in_ok-block_size-in-ChangeTeam t c =
    let e = environment c.args.env.now in
    let x = c.in-ChangeTeam in
    let block = c.in_ok-block_size-in-ChangeTeam.ensures ∙ ap (λ l. steps_size (meaning.steps e (view.statements l))) c.deref-in-ChangeTeam.ensures.value in
    IfOk-weaker c.around_size-in-ChangeTeam.result _ _
    (λ n h. change_team_sized e c.args.line c.args.form.now x.team x.stat x.body x.end_stat x.end_line x.is n _ _ _ h c.in_ok-before-in-ChangeTeam.ensures block c.in_ok-behind-in-ChangeTeam.ensures)
    c.around_size-in-ChangeTeam.ensures

pub form_size-returns-in-Assign : goal.form_size-returns-in-Assign
form_size-returns-in-Assign t c =
    let f = meaning.form (environment c.args.env.now) c.args.line (view.statement_form c.args.form.now) in
    let k : is_simple f ≡ true = search (rules, typed_statement_forms) in
    IfOk-weaker c.simple_size.result _ _ (λ n h. simple_sized f n k h) c.simple_size.ensures
