-- The trace of the images' events.
use Rattle.std.specs.Prelude.{ℕ, ◌≡◌, List, slice_index_or, []}
use Rattle.caf_events.specs.declared.event.Event.{Event}
use Rattle.caf_events.specs.declared.event.Entry.{Entry}
use Rattle.trace_theory.specs.Entries.{of, Rises, IsTraceOrder}
use Rattle.trace_theory.specs.Runs.{TraceOf}
use Rattle.core_runs.specs.Lists.{image_of, key_of, stamp_of, own_stamp, entries_of, history_of}

-- each image's events have rising stamps
abbrev pub EachRises : List (List Event) → Type 0
EachRises ls = (k : ℕ) → Rises (λ (e : Event). e.stamp) (slice_index_or ls k [])

-- the entries are all events of the images, each image's in their order, and all by stamp, then image
pub record IsTraceOf (ls : List (List Event)) (t : List Entry) : Type 0 where
  pub images : (i : ℕ) → of image_of i t ≡ entries_of ls i
  pub ordered : IsTraceOrder image_of stamp_of t

-- the entries have each object's history too, and the stamps of a trace
abbrev pub HasHistories : List (List Event) → List Entry → List (List Entry) → List Entry → Type 0
HasHistories ls board hs t = TraceOf image_of key_of stamp_of own_stamp (entries_of ls) (history_of board hs) t
