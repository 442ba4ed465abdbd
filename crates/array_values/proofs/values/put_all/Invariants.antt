use Rattle.std.proofs.Common.{◌≡◌, ◌∷◌, length, take, pos}
use Rattle.std.specs.Prelude.{reverse, map}
use Rattle.image_stores.specs.Piles.{pile}
use Rattle.array_values.specs.declared.extents.Extents.TheVariants as extents
use Rattle.array_values.proofs.values.put_all.Given as goal

abbrev pub invariant-loop-i : goal.invariant-loop-i
invariant-loop-i l = l.piles ≡ record { piles = pile (extents.One (pos (length l.ns))) (reverse (map (λ n. pos n) (take l.i l.ns))) ∷ l.fn.piles.piles; most = l.fn.piles.most; size = l.fn.piles.size }
