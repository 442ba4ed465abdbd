-- Clocks by two numbers.
use Rattle.std.specs.Prelude.{ℕ, ◌+◌, ◌-◌, ◌≡◌, List, [], ◌∷◌, ◌++◌, length, get_or, take, drop, Option, Some, None}
use Rattle.segment_clock.specs.Counts.{joined}

-- the counts of a clock, none where there is none
abbrev pub counts_of : Option (List ℕ) → List ℕ
counts_of None = []
counts_of (Some c) = c

-- a clock joined with what was kept
abbrev pub merged : Option (List ℕ) → List ℕ → Option (List ℕ)
merged None own = Some own
merged (Some c) own = Some (joined c own)

-- a clock of n images, or none
abbrev pub IsClockOf : ℕ → Option (List ℕ) → Type 0
IsClockOf n None = Unit {0}
IsClockOf n (Some c) = length c ≡ n

-- the clock of what waits at a line and place
abbrev pub clock_at : List (List (Option (List ℕ))) → ℕ → ℕ → Option (List ℕ)
clock_at t line place = get_or (get_or t line []) place None

-- the clocks that wait at a line and place, one for each segment
abbrev pub queue_at : List (List (List (List ℕ))) → ℕ → ℕ → List (List ℕ)
queue_at t line place = get_or (get_or t line []) place []

abbrev pub joined_all : List ℕ → List (List ℕ) → List ℕ
joined_all c [] = c
joined_all c (d ∷ ds) = joined_all (joined c d) ds

-- Clocks numbered from 0, of which those before the first that is kept are forgotten.
pub record Numbered : Type 0 where
  pub first : ℕ  -- its number, so how many are forgotten
  pub clocks : List (List ℕ)

abbrev pub none_yet : Numbered
none_yet = record { first = 0; clocks = [] }

-- the numbered clocks of a line and place
abbrev pub numbered_at : List (List Numbered) → ℕ → ℕ → Numbered
numbered_at t line place = get_or (get_or t line []) place none_yet

-- how many clocks there are, with those that are forgotten
abbrev pub count_in : Numbered → ℕ
count_in q = q.first + length q.clocks

-- the clock of a number from the first on, none where there is none
abbrev pub numbered : ℕ → Numbered → List (List ℕ)
numbered number q = take 1 (drop (number - q.first) q.clocks)

-- with one clock more
abbrev pub with_next : List ℕ → Numbered → Numbered
with_next own q = record { first = q.first; clocks = q.clocks ++ own ∷ [] }

-- with those below this number forgotten
abbrev pub without : ℕ → Numbered → Numbered
without number q = record { first = q.first + length (take (number - q.first) q.clocks); clocks = drop (number - q.first) q.clocks }
