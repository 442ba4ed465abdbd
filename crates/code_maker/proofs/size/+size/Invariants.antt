use Rattle.std.proofs.Common.{◌≡◌, ◌+◌, drop}
use Rattle.walk_theory.specs.Made.{steps_size, branches_size}
use Rattle.walk_theory.specs.Syntax.{Steps}
use Rattle.checked_tree.specs.StatementViews as view
use Rattle.image_acts.specs.Acts.{Act}
use Rattle.tree_meaning.specs.Environment.{hidden_cell}
use Rattle.tree_meaning.specs.Forms as meaning
use Rattle.expr_code.specs.Environments.{environment}
use Rattle.code_maker.proofs.size.+size.Given as goal

-- what was counted, and then what is left to count, is the whole

abbrev pub invariant-block_size-loop-statement : goal.invariant-block_size-loop-statement
invariant-block_size-loop-statement l =
    l.total + steps_size (meaning.steps (environment l.env) (view.statements (drop l.statement-index l.statements))) ≡ steps_size (meaning.steps (environment l.env) (view.statements l.statements))

abbrev pub invariant-else_ifs_size-loop-branch : goal.invariant-else_ifs_size-loop-branch
invariant-else_ifs_size-loop-branch l =
    (none : Steps Act) → branches_size (meaning.else_ifs (environment l.env) (view.else_ifs l.else_ifs) none) ≡ l.total + branches_size (meaning.else_ifs (environment l.env) (view.else_ifs (drop l.branch-index l.else_ifs)) none)

abbrev pub invariant-cases_size-loop-case : goal.invariant-cases_size-loop-case
invariant-cases_size-loop-case l =
    (none : Steps Act) → branches_size (meaning.cases (environment l.env) (hidden_cell (environment l.env) l.hidden) (view.cases l.cases) none) ≡ l.total + branches_size (meaning.cases (environment l.env) (hidden_cell (environment l.env) l.hidden) (view.cases (drop l.case-index l.cases)) none)
