use Rattle.std.proofs.Common.{◌≡◌, List, [], ◌∷◌, length, refl, sym, ◌∙◌, arith}
use Rattle.std.proofs.lemmas.Bool.Decides.{nat_tests}
use Rattle.expr_reader.specs.declared.piece.Piece.{Piece as Held}
use Rattle.expr_reader.specs.PieceViews.{pieces_of}
use Rattle.expr_reader.specs.Pieces as pieces
use Rattle.expr_reader.proofs.piece.is_call.Goals as goal

some_call : (ps : List Held) → (length ps ≡ 0 → ⊥) → pieces.has_name (pieces_of ps) ≡ pieces.is_call (pieces_of ps)
some_call [] n = absurd (n refl)
some_call (p ∷ ps) n = refl

pub loop-piece-init : goal.loop-piece-init
loop-piece-init c = some_call c.args.all.now (λ e. let f = sym c.is_empty.ensures ∙ c.if-is_empty.false in grind (arith, nat_tests))
