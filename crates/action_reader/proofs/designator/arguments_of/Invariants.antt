use Rattle.std.proofs.Common.{◌≡◌}
use Rattle.fortran_tree.specs.ExpressionViews.{arguments}
use Rattle.expr_reader.specs.PieceViews.{pieces_of}
use Rattle.expr_reader.specs.Pieces as pieces
use Rattle.action_reader.proofs.designator.arguments_of.Given as goal

abbrev pub invariant-loop-piece : goal.invariant-loop-piece
invariant-loop-piece l = arguments l.out.items ≡ pieces.arguments_of (pieces_of l.yielded)
