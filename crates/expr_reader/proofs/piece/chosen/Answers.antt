use Rattle.std.proofs.Common.{rules, ◌≡◌, ◌++◌, ap, ◌∙◌}
use Rattle.fortran_tree.specs.ExpressionViews.{expression, expressions, specifiers}
use Rattle.expr_reader.specs.PieceViews.{option_items}
use Rattle.expr_reader.proofs.PieceLists.{values_pushed, specifiers_pushed}
use Rattle.expr_reader.proofs.piece.chosen.Goals as goal

pub loop-piece-preserved : goal.loop-piece-preserved
loop-piece-preserved c =
    let values : c.push_some.new.list.items ≡ c.loop-piece.values.items ++ option_items c.choice-value.result.0 = search rules in
    let found : c.push_some-in-loop-piece.new.list.items ≡ c.loop-piece.specifiers.items ++ option_items c.choice-value.result.1 = search rules in (
      ap expressions values ∙ values_pushed c.loop-piece.values.items (expression c.args.first) c.loop-piece.yielded c.choice-value.result.0 c.in-Some.piece c.loop-piece.invariant.0 c.choice-value.ensures.values,
      ap specifiers found ∙ specifiers_pushed c.loop-piece.specifiers.items c.loop-piece.yielded c.choice-value.result.1 c.in-Some.piece c.loop-piece.invariant.1 c.choice-value.ensures.specifiers,
    )
