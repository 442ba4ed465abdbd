-- Cobounds as numbers.
use Rattle.std.proofs.Common.{◌≡◌, ◌∙◌, ℕ, ◌*◌, min, ap, arith}
use Rattle.array_places.proofs.Counting.{capped}

turned : (a b : ℕ) → a * b ≡ b * a
turned a b = grind arith

pub capped_right : (w x m : ℕ) → min (w * min x m) m ≡ min (w * x) m
capped_right w x m = ap (λ (k : ℕ). min k m) (turned w (min x m)) ∙ capped x w m ∙ ap (λ (k : ℕ). min k m) (turned x w)
