use Rattle.std.proofs.Common.{◌≡◌, drop}
use Rattle.expr_reader.specs.PieceViews.{pieces_of}
use Rattle.expr_reader.specs.Pieces as pieces
use Rattle.expr_reader.proofs.piece.is_call.Given as goal

abbrev pub invariant-loop-piece : goal.invariant-loop-piece
invariant-loop-piece l = pieces.has_name (pieces_of (drop l.piece-index l.all)) ≡ pieces.is_call (pieces_of l.all)
