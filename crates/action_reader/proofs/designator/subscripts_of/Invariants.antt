use Rattle.std.proofs.Common.{◌≡◌}
use Rattle.fortran_tree.specs.ExpressionViews.{section_subscripts}
use Rattle.expr_reader.specs.PieceViews.{pieces_of}
use Rattle.expr_reader.specs.Pieces as pieces
use Rattle.action_reader.proofs.designator.subscripts_of.Given as goal

abbrev pub invariant-loop-piece : goal.invariant-loop-piece
invariant-loop-piece l = section_subscripts l.out.items ≡ pieces.subscripts_of (pieces_of l.yielded)
