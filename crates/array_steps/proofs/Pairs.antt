-- Bounds in pairs.
use Rattle.std.proofs.Common.{◌≡◌, ℕ, suc, ◌-◌, ◌%◌, ℤ, List, [], ◌∷◌, length, take, refl, ap, ◌∙◌, arith}
use Rattle.image_acts.specs.Frames.{pairs_in, pairs_numbers}

even_more : (n : ℕ) → suc (suc n) - suc (suc n) % 2 ≡ suc (suc (n - n % 2))
even_more n = omega arith

-- the numbers that are pairs are an even number of them
pub whole : (vs : List ℤ) → take (length vs - length vs % 2) vs ≡ pairs_numbers (pairs_in vs)
whole [] = refl
whole (l ∷ []) = refl
whole (l ∷ u ∷ vs) = ap (λ (n : ℕ). take n (l ∷ u ∷ vs)) (even_more (length vs)) ∙ ap (λ (ws : List ℤ). l ∷ u ∷ ws) (whole vs)
