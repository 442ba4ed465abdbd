use Rattle.std.proofs.Common.{◌≡◌, drop, map}
use Rattle.checked_tree.specs.StatementViews.{allocation}
use Rattle.tree_meaning.specs.Allocation.{making, object_sizes}
use Rattle.expr_code.specs.Drafts.{written}
use Rattle.allocation_code.proofs.allocation.push_making.Given as goal

abbrev pub invariant-loop-object : goal.invariant-loop-object
invariant-loop-object l = record {
  left : l.left ≡ object_sizes (map allocation (drop l.object-index l.objects));
  code : written l.line (making (map allocation (drop l.object-index l.objects)) l.above) l.draft ≡ written l.line (making (map allocation l.objects) l.above) l.initial.draft;
}
