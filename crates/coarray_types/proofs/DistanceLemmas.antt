-- What holds of distances.
use Rattle.std.proofs.Common.{◌≡◌, ℕ, ◌≤◌, ℤ, pos, ◌+ℤ◌, ◌≤ℤ◌, arith}
use Rattle.std.proofs.lemmas.Int.{ints}
use Rattle.coarray_types.specs.Distances.{distance}

-- of two numbers that aren't below a third, the greater one is farther from it
pub distance_order : (l s u : ℤ) → l ≤ℤ s → s ≤ℤ u → distance l s ≤ distance l u
distance_order l s u a b = omega (arith, ints)

-- n above a number is n away from it
pub distance-add : (l : ℤ) (n : ℕ) → distance l (l +ℤ pos n) ≡ n
distance-add l n = omega (arith, ints)

-- and isn't below it
pub add-up : (l : ℤ) (n : ℕ) → l ≤ℤ (l +ℤ pos n)
add-up l n = omega (arith, ints)

-- n above a number is within what is at least n away
pub add-within : (l u : ℤ) (n : ℕ) → l ≤ℤ u → n ≤ distance l u → (l +ℤ pos n) ≤ℤ u
add-within l u n a b = omega (arith, ints)

-- two numbers that aren't below a third, and equally far from it, are the same
pub distance_same : (l a b : ℤ) → l ≤ℤ a → l ≤ℤ b → distance l a ≡ distance l b → a ≡ b
distance_same l a b ha hb h = omega (arith, ints)
