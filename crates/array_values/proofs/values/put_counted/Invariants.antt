use Rattle.std.proofs.Common.{◌≡◌, ◌∷◌, pos}
use Rattle.std.specs.Prelude.{reverse}
use Rattle.image_acts.specs.Teams.{counted_from}
use Rattle.image_stores.specs.Piles.{pile}
use Rattle.array_values.specs.declared.extents.Extents.TheVariants as extents
use Rattle.array_values.proofs.values.put_counted.Given as goal

abbrev pub invariant-loop-i : goal.invariant-loop-i
invariant-loop-i l = l.piles ≡ record { piles = pile (extents.One (pos l.n)) (reverse (counted_from 1 l.i)) ∷ l.fn.piles.piles; most = l.fn.piles.most; size = l.fn.piles.size }
