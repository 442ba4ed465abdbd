use Rattle.std.proofs.Common.{◌≡◌, drop}
use Rattle.walk_theory.specs.Syntax.{Steps}
use Rattle.checked_tree.specs.StatementViews as view
use Rattle.image_acts.specs.Acts.{Act}
use Rattle.tree_meaning.specs.Environment.{hidden_cell}
use Rattle.tree_meaning.specs.Forms as meaning
use Rattle.expr_code.specs.Environments.{environment}
use Rattle.statement_code.specs.Texts.{HasTexts}
use Rattle.code_maker.specs.Blocks.{steps_written, branches_written}
use Rattle.code_maker.specs.Loops.{open_loops}
use Rattle.code_maker.proofs.block.+block.Given as goal

-- what is written, and then what is left to write, is the whole; the texts stay

abbrev pub invariant-push_block-loop-statement : goal.invariant-push_block-loop-statement
invariant-push_block-loop-statement l =
    (steps_written (open_loops l.loops) (meaning.steps (environment l.env) (view.statements (drop l.statement-index l.statements))) l.draft ≡ steps_written (open_loops l.loops) (meaning.steps (environment l.env) (view.statements l.statements)) l.initial.draft)
    × HasTexts (environment l.env) l.draft

abbrev pub invariant-push_else_ifs-loop-branch : goal.invariant-push_else_ifs-loop-branch
invariant-push_else_ifs-loop-branch l =
    ((none : Steps Act) → branches_written (open_loops l.loops) l.behind (meaning.else_ifs (environment l.env) (view.else_ifs l.else_ifs) none) l.initial.draft ≡ branches_written (open_loops l.loops) l.behind (meaning.else_ifs (environment l.env) (view.else_ifs (drop l.branch-index l.else_ifs)) none) l.draft)
    × HasTexts (environment l.env) l.draft

abbrev pub invariant-push_cases-loop-case : goal.invariant-push_cases-loop-case
invariant-push_cases-loop-case l =
    ((none : Steps Act) → branches_written (open_loops l.loops) l.behind (meaning.cases (environment l.env) (hidden_cell (environment l.env) l.hidden) (view.cases l.cases) none) l.initial.draft ≡ branches_written (open_loops l.loops) l.behind (meaning.cases (environment l.env) (hidden_cell (environment l.env) l.hidden) (view.cases (drop l.case-index l.cases)) none) l.draft)
    × HasTexts (environment l.env) l.draft
