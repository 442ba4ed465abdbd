use Rattle.std.proofs.Common.{◌≡◌, drop, map}
use Rattle.checked_tree.specs.StatementViews as view
use Rattle.tree_meaning.specs.Assignments.{items}
use Rattle.expr_code.specs.Drafts.{written}
use Rattle.expr_code.specs.Environments.{environment}
use Rattle.statement_code.specs.Texts.{HasTexts}
use Rattle.statement_code.proofs.output.push_items.Given as goal

abbrev pub invariant-loop-item : goal.invariant-loop-item
invariant-loop-item l = record {
  texts : HasTexts (environment l.env) l.draft;
  code : written l.line (items (environment l.env) (map view.item (drop l.item-index l.items))) l.draft ≡ written l.line (items (environment l.env) (map view.item l.items)) l.initial.draft;
}
