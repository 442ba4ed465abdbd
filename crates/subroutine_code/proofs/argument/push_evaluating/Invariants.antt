use Rattle.std.proofs.Common.{◌≡◌, drop}
use Rattle.tree_meaning.specs.Pieces.{evaluating}
use Rattle.expr_code.specs.Drafts.{written}
use Rattle.expr_code.specs.Environments.{environment}
use Rattle.subroutine_code.specs.Arguments.{pieces}
use Rattle.subroutine_code.proofs.argument.push_evaluating.Given as goal

abbrev pub invariant-loop-dummy : goal.invariant-loop-dummy
invariant-loop-dummy l =
    written l.line (evaluating (pieces (environment l.env) l.arguments) (drop l.dummy-index l.dummies)) l.draft ≡ written l.line (evaluating (pieces (environment l.env) l.arguments) l.dummies) l.initial.draft
