-- How many rounds of a team have closed: one number a team, from which each failed image's part in the statuses of its
-- rounds is told (ISO/IEC 1539-1:2018, 11.6.11).
use Rattle.std.specs.Prelude.{ℕ, ◌<◌, ◌≡◌, ◌↔◌, max, min, true, cond, List, [], ◌∷◌}
use Rattle.caf_events.specs.declared.event.Entry.{Entry}
use Rattle.order_axioms.specs.Closes.{joined_by, is_over, members, round_closed, gone_by}

-- the most rounds of the team that one of these images has joined
abbrev pub most_joined : ℕ → List Entry → List ℕ → ℕ
most_joined t g [] = 0
most_joined t g (j ∷ js) = max (joined_by t j g) (most_joined t g js)

-- the fewest that one of them has joined that is not over, and m where that is fewer
abbrev pub fewest_joined : ℕ → List Entry → ℕ → List ℕ → ℕ
fewest_joined t g m [] = m
fewest_joined t g m (j ∷ js) = cond (is_over j g) (fewest_joined t g m js) (min (joined_by t j g) (fewest_joined t g m js))

-- how many rounds of the team have closed
abbrev pub closed_rounds : ℕ → ℕ → List Entry → ℕ
closed_rounds n t g = fewest_joined t g (most_joined t g (members n t g)) (members n t g)

-- Image j was gone by the close of a round of team t exactly where the round is behind this number.
pub record MissedFrom (n : ℕ) (g : List Entry) (t j number : ℕ) : Type 0 where
  pub tells : (k : ℕ) → 0 < k → (gone_by (round_closed n t k) g j ≡ true) ↔ (number < k)
