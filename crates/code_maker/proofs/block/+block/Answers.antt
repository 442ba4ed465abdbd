use Rattle.std.proofs.lemmas.Result.{on_ok_weaker}
use Rattle.checked_tree.specs.StatementViews as view
use Rattle.tree_meaning.specs.Environment.{hidden_cell}
use Rattle.tree_meaning.specs.Forms.{form}
use Rattle.expr_code.specs.Environments.{environment}
use Rattle.code_maker.specs.Loops.{open_loops}
use Rattle.code_maker.proofs.Constructs.{cases_all, cases_go_on, change_team_written, else_ifs_all, else_ifs_go_on, steps_go_on}
use Rattle.code_maker.proofs.Texts.{texts_behind_form, texts_behind_line}
use Rattle.code_maker.proofs.block.+block.Goals as goal

pub push_block-loop-statement-preserved : goal.push_block-loop-statement-preserved
push_block-loop-statement-preserved t c =
    let e = environment c.args.env.now in
    let xs = open_loops c.args.loops.now in
    let s = c.statement-item.result in
    let d1 = c.push.new.self in
    let d2 = c.push_form.new.draft in (
      steps_go_on e xs c.args.statements.now c.loop-statement.statement-index s _ d1 d2 _ c.statement-item.is c.loop-statement-test.true c.in_ok-push.ensures c.in_ok-push_form.ensures c.loop-statement.invariant.0,
      texts_behind_form e xs s.line (form e s.line (view.statement_form s.form)) d1 d2 c.in_ok-push_form.ensures (texts_behind_line e _ _ d1 c.in_ok-push.ensures c.loop-statement.invariant.1),
    )

pub push_form-returns-in_ok-push-in-ChangeTeam : goal.push_form-returns-in_ok-push-in-ChangeTeam
push_form-returns-in_ok-push-in-ChangeTeam t c =
    let x = c.in-ChangeTeam in
    on_ok_weaker c.push_end_team.result
    (change_team_written (environment c.args.env.now) (open_loops c.args.loops.now) c.args.line c.args.form.now x.team x.stat x.body x.end_stat x.end_line c.deref-in-ChangeTeam.result.now c.deref-in-ChangeTeam.ensures.value x.is
    c.args.draft.now c.begin_change_team.new.draft c.push_block-in-ChangeTeam.new.draft c.push-in-ChangeTeam.new.self c.push_end_team.new.draft
    c.in_ok-begin_change_team-in-ChangeTeam.ensures.written c.in_ok-push_block-in-ChangeTeam.ensures.written c.in_ok-push-in-ChangeTeam.ensures)
    c.push_end_team.ensures

pub push_else_ifs-loop-branch-preserved : goal.push_else_ifs-loop-branch-preserved
push_else_ifs-loop-branch-preserved t c = (
  else_ifs_go_on (environment c.args.env.now) (open_loops c.args.loops.now) c.args.behind c.args.else_ifs.now c.loop-branch.branch-index c.branch-item.result c.deref.result.now _ _ c.begin_branch.new.draft c.push_branch.new.draft
      c.deref.ensures.value c.branch-item.is c.loop-branch-test.true c.in_ok-begin_branch.ensures.written c.in_ok-push_branch.ensures.written c.loop-branch.invariant.0,
  c.in_ok-push_branch.ensures.texts,
)

pub push_else_ifs-returns-clause-written : goal.push_else_ifs-returns-clause-written
push_else_ifs-returns-clause-written t c =
    else_ifs_all (environment c.args.env.now) (open_loops c.args.loops.now) c.args.behind c.args.else_ifs.now c.loop-branch.branch-index _ _ c.loop-branch-test.false c.loop-branch.invariant.0

pub push_cases-loop-case-preserved : goal.push_cases-loop-case-preserved
push_cases-loop-case-preserved t c =
    let e = environment c.args.env.now in (
      cases_go_on e (open_loops c.args.loops.now) c.args.behind (hidden_cell e c.args.hidden) c.args.cases.now c.loop-case.case-index c.case-item.result c.deref.result.now c.deref-in-loop-case.result.now _ _ c.begin_case.new.draft c.push_branch.new.draft
          c.deref.ensures.value c.deref-in-loop-case.ensures.value c.case-item.is c.loop-case-test.true c.in_ok-begin_case.ensures.written c.in_ok-push_branch.ensures.written c.loop-case.invariant.0,
      c.in_ok-push_branch.ensures.texts,
    )

pub push_cases-returns-clause-written : goal.push_cases-returns-clause-written
push_cases-returns-clause-written t c =
    let e = environment c.args.env.now in
    cases_all e (open_loops c.args.loops.now) c.args.behind (hidden_cell e c.args.hidden) c.args.cases.now c.loop-case.case-index _ _ c.loop-case-test.false c.loop-case.invariant.0
