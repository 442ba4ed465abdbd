use Rattle.std.proofs.Common.{◌≡◌, drop}
use Rattle.tree_meaning.specs.ImageControl.{deleting}
use Rattle.expr_code.specs.Drafts.{written}
use Rattle.expr_code.specs.Environments.{environment}
use Rattle.control_code.proofs.image_control.push_deleting.Given as goal

abbrev pub invariant-loop-variable : goal.invariant-loop-variable
invariant-loop-variable l =
    written l.line (deleting (environment l.env) (drop l.variable-index l.coarrays) l.coarray) l.draft ≡ written l.line (deleting (environment l.env) l.coarrays 0) l.initial.draft
