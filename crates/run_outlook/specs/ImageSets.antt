-- Sets of images: image i is in a set where bit i % 64 of its word i / 64 is 1.
use Rattle.std.specs.Prelude.{ℕ, ◌/◌, ◌%◌, ◌≤◌, ◌<◌, ◌≡◌, Bool, true, false, nat_eq, List, slice_index_or, Option, Some, None}
use Rattle.std.specs.Int.{bit_at}

-- whether the image of this number is in the set of these words
abbrev pub has : List ℕ → ℕ → Bool
has words i = nat_eq (bit_at (slice_index_or words (i / 64) 0) (i % 64)) 1

-- the least number from `low` on that passes a test, or none
abbrev pub IsLeastFrom : (ℕ → Bool) → ℕ → Option ℕ → Type 0
IsLeastFrom test low None = (j : ℕ) → low ≤ j → test j ≡ false
IsLeastFrom test low (Some i) = (low ≤ i) × (test i ≡ true) × ((j : ℕ) → low ≤ j → j < i → test j ≡ false)
