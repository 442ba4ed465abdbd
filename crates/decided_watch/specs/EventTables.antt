-- Who posted which event last, and which coarrays of events were posted to or made, by owner and coarray.
use Rattle.std.specs.Prelude.{ℕ, ◌≡◌, Bool, false, List, [], get_or, Option, None}
use Rattle.caf_events.specs.declared.event.Entry.{Entry}
use Rattle.decided_watch.specs.Undecided.{last_poster, is_posted, is_made}

-- what was done to one coarray of one image: by the offset of each cell, who posted it last
pub record Events : Type 0 where
  pub posters : List (Option ℕ)
  pub posted : Bool
  pub made : Bool

abbrev pub untouched : Events
untouched = record { posters = []; posted = false; made = false }

-- of coarray k of image o
abbrev pub events_at : List (List Events) → ℕ → ℕ → Events
events_at t o k = get_or (get_or t o []) k untouched

abbrev pub poster_at : List (List Events) → ℕ → ℕ → ℕ → Option ℕ
poster_at t o k offset = get_or (events_at t o k).posters offset None

-- the table tells what these entries did
pub record Tells (t : List (List Events)) (g : List Entry) : Type 0 where
  pub posters : (o k offset : ℕ) → poster_at t o k offset ≡ last_poster (record { owner = o; coarray = k; offset = offset }) None g
  pub posted : (o k : ℕ) → (events_at t o k).posted ≡ is_posted o k g
  pub made : (o k : ℕ) → (events_at t o k).made ≡ is_made o k g
