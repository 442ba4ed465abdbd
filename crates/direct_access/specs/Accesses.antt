-- What is claimed of an access to a part of a coarray.
use Rattle.std.specs.Prelude.{ℕ, ◌≤◌, ◌≡◌, pos, [], ◌∷◌, length}
use Rattle.checked_tree.specs.Expressions as t
use Rattle.image_acts.specs.Statuses.{most_cells}
use Rattle.image_acts.specs.Acts as a
use Rattle.image_acts.specs.Acts.{stack}
use Rattle.image_acts.specs.Core.{Core, pushed, with_values}
use Rattle.image_acts.specs.Places.{Place, place_numbers}
use Rattle.image_acts.specs.Taking.{put_down as put_numbers}
use Rattle.tree_meaning.specs.Sequences.{◌▸◌, doing, dropping}
use Rattle.tree_meaning.specs.Expressions.{reading, storing_status, optional_size, as_value}
use Rattle.direct_meaning.specs.States.{State, with_state}
use Rattle.direct_meaning.specs.Told.{told}
use Rattle.direct_meaning.specs.Expressions.{read_from, nowhere}
use Rattle.direct_agreement.specs.Agreeing.{Agrees, put_down, HasRoom}

-- an image over a place, put down over what was there
abbrev pub owner_over : Core → Place → ℕ → State → Core
owner_over c p i z = pushed (pos i) (with_values (with_state z c) (put_numbers (place_numbers p) c.values))

-- The acts of a reference make one access to the part, or none where it has no cell, and come to its value, or to the
-- fault that the reply tells.
abbrev pub AccessLaw : Type 0
AccessLaw = (k rank i : ℕ) (p : Place) (l : ℕ) (z : State) (c : Core) → HasRoom 0 c → c.used ≤ z.used → z.used ≤ most_cells
    → length p.dims ≡ rank → rank ≤ 3
    → Agrees (put_down c) (read_from k p rank i nowhere l z)
    (told (reading k rank ▸ doing (stack a.accessed ∷ []) ▸ storing_status 1 t.no_result ▸ dropping (optional_size t.no_result) ▸ as_value
    rank) l (owner_over c p i z))
