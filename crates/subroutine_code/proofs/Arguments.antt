-- The arguments of intrinsic subroutines.
use Rattle.std.proofs.Common.{◌≡◌, ℕ, zero, suc, List, [], ◌∷◌, refl}
use Rattle.std.specs.Prelude.{Option, Some, None, slice_get}
use Rattle.tree_meaning.specs.Environment.{Environment}
use Rattle.tree_meaning.specs.Pieces.{Piece, no_piece, piece_of}
use Rattle.subroutine_code.specs.declared.argument.ArgumentOf.{ArgumentOf}
use Rattle.subroutine_code.specs.Arguments.{piece, pieces}

-- the argument that is there, if one is
abbrev pub piece_found : Environment → Option ArgumentOf → Piece
piece_found e None = no_piece
piece_found e (Some x) = piece e x

pub piece_at : (e : Environment) (xs : List ArgumentOf) (n : ℕ) → piece_of (pieces e xs) n ≡ piece_found e (slice_get xs n)
piece_at e [] n = refl
piece_at e (x ∷ xs) zero = refl
piece_at e (x ∷ xs) (suc n) = piece_at e xs n
