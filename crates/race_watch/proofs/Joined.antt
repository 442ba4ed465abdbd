-- Clocks joined with nothing.
use Rattle.std.proofs.Common.{◌≡◌, ℕ, List, [], ◌∷◌, refl}
use Rattle.segment_clock.specs.Counts.{joined}

pub joined_nothing : (cs : List ℕ) → joined cs [] ≡ cs
joined_nothing [] = refl
joined_nothing (c ∷ cs) = refl
