use Rattle.std.proofs.Common.{◌≡◌, ◌≤◌, ◌++◌, map, drop, Some}
use Rattle.std.specs.Prelude.{All, slice_get}
use Rattle.fortran_tokens.specs.Tokens as spec
use Rattle.fortran_tokens.proofs.place.placed.Given as goal

-- the tokens so far, and those of what is left
abbrev pub invariant-loop-piece : goal.invariant-loop-piece
invariant-loop-piece l = record {
  same : map spec.piece_of l.tokens.items ++ spec.with_halves l.depth (drop l.piece-index l.pieces) ≡ spec.with_halves 0 l.pieces;
  places : All (λ t. slice_get l.at t.from ≡ Some t.at) l.tokens.items;
  shallow : l.depth ≤ l.piece-index;
}
