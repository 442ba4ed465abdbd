use Rattle.std.proofs.Common.{◌≡◌, ◌∷◌, pos, replicate}
use Rattle.image_stores.specs.Piles.{pile}
use Rattle.array_values.proofs.filling.put_zeros.Given as goal

abbrev pub invariant-loop-i : goal.invariant-loop-i
invariant-loop-i l = l.piles ≡ record { piles = pile l.fn.extents (replicate l.i (pos 0)) ∷ l.fn.piles.piles; most = l.fn.piles.most; size = l.fn.piles.size }
