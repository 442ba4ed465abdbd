use Rattle.std.proofs.Common.{◌≡◌, drop, map}
use Rattle.checked_tree.specs.StatementViews.{allocation}
use Rattle.tree_meaning.specs.Allocation.{objects_bounds}
use Rattle.expr_code.specs.Drafts.{written}
use Rattle.expr_code.specs.Environments.{environment}
use Rattle.allocation_code.proofs.allocation.push_objects_bounds.Given as goal

abbrev pub invariant-loop-object : goal.invariant-loop-object
invariant-loop-object l =
    written l.line (objects_bounds (environment l.env) (map allocation (drop l.object-index l.objects))) l.draft ≡ written l.line (objects_bounds (environment l.env) (map allocation l.objects)) l.initial.draft
