use Rattle.std.proofs.Common.{◌≡◌, ◌∷◌, take}
use Rattle.std.specs.Prelude.{reverse, map}
use Rattle.caf_base.specs.Arithmetic.{number_of}
use Rattle.image_stores.specs.Piles.{pile}
use Rattle.array_values.proofs.filling.put_values.Given as goal

abbrev pub invariant-loop-i : goal.invariant-loop-i
invariant-loop-i l = l.piles ≡ record { piles = pile l.fn.extents (reverse (map number_of (take l.i l.values))) ∷ l.fn.piles.piles; most = l.fn.piles.most; size = l.fn.piles.size }
