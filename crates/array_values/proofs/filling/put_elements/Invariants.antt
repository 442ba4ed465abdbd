use Rattle.std.proofs.Common.{◌≡◌, ◌∷◌, take}
use Rattle.std.specs.Prelude.{reverse}
use Rattle.image_stores.specs.Piles.{pile}
use Rattle.array_values.proofs.filling.put_elements.Given as goal

abbrev pub invariant-loop-i : goal.invariant-loop-i
invariant-loop-i l = l.piles ≡ record { piles = pile l.fn.extents (reverse (take l.i l.elements)) ∷ l.fn.piles.piles; most = l.fn.piles.most; size = l.fn.piles.size }
