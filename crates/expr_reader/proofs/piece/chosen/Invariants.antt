use Rattle.std.proofs.Common.{◌≡◌}
use Rattle.fortran_tree.specs.Expressions as s
use Rattle.fortran_tree.specs.ExpressionViews.{expression, expressions, specifiers}
use Rattle.expr_reader.specs.PieceViews.{pieces_of}
use Rattle.expr_reader.specs.Selectors as selectors
use Rattle.expr_reader.proofs.piece.chosen.Given as goal

abbrev pub invariant-loop-piece : goal.invariant-loop-piece
invariant-loop-piece l =
    (expressions l.values.items ≡ s.more_expressions (expression l.fn.first) (selectors.values_of (pieces_of l.yielded)))
    × (specifiers l.specifiers.items ≡ selectors.specifiers_of (pieces_of l.yielded))
