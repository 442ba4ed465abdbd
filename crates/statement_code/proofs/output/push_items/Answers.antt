use Rattle.std.proofs.Common.{arith}
use Rattle.std.proofs.lemmas.Grind.{common_steps}
use Rattle.checked_tree.specs.StatementViews as view
use Rattle.tree_meaning.specs.Assignments.{item}
use Rattle.expr_code.specs.Environments.{environment}
use Rattle.statement_code.proofs.Texts.{texts_kept}
use Rattle.statement_code.proofs.output.push_items.Goals as goal

pub loop-item-preserved : goal.loop-item-preserved
loop-item-preserved c = record {
  texts = texts_kept (environment c.args.env.now) c.args.line (item (environment c.args.env.now) (view.item c.item-item.result)) c.loop-item.draft c.push_item.new.draft c.loop-item.invariant.texts c.in_ok-push_item.ensures;
  code = grind (arith, common_steps);
}
