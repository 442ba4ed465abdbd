use Rattle.std.proofs.Common.{◌≡◌, drop, map}
use Rattle.checked_tree.specs.StatementViews.{allocated_bounds}
use Rattle.tree_meaning.specs.Allocation.{bounds}
use Rattle.expr_code.specs.Drafts.{written}
use Rattle.expr_code.specs.Environments.{environment}
use Rattle.allocation_code.proofs.allocation.push_bounds.Given as goal

abbrev pub invariant-loop-pair : goal.invariant-loop-pair
invariant-loop-pair l =
    written l.line (bounds (environment l.env) (map allocated_bounds (drop l.pair-index l.bounds))) l.draft ≡ written l.line (bounds (environment l.env) (map allocated_bounds l.bounds)) l.initial.draft
