-- How many events the images of a run have.
use Rattle.std.specs.Prelude.{ℕ, zero, suc, ◌+◌, ◌<◌, ◌≡◌, ◌⊎◌, List, [], length}

-- the number of events of images 1 to n
abbrev pub events_of : {E : Type 0} → (ℕ → List E) → ℕ → ℕ
events_of events zero = 0
events_of events (suc n) = events_of events n + length (events (suc n))

-- no other image than 1 to n has an event
abbrev pub NoneElse : {E : Type 0} → (ℕ → List E) → ℕ → Type 0
NoneElse events n = (i : ℕ) → (i ≡ 0) ⊎ (n < i) → events i ≡ []
