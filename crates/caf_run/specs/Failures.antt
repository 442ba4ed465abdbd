-- With which of its events each image is to fail, by the failures that the words name.
use Rattle.std.specs.Prelude.{ℕ, ◌≤◌, List, [], ◌∷◌, min, ◌==◌, if◌then◌else◌}
use Rattle.caf_words.specs.declared.command.FailAt.{FailAt}

-- a failure of an image from 1 to 256
abbrev pub IsOfImage : FailAt → Type 0
IsOfImage f = (1 ≤ f.image) × (f.image ≤ 256)

-- the earlier of two events by their numbers, where 0 is none
abbrev pub earlier : ℕ → ℕ → ℕ
earlier a b = if a == 0 then b else (if b == 0 then a else min a b)

-- the number of the first event with which the words let image i fail; 0 where they let it not fail
abbrev pub first_failure : List FailAt → ℕ → ℕ
first_failure [] i = 0
first_failure (f ∷ fails) i = if f.image == i then earlier f.step (first_failure fails i) else first_failure fails i
