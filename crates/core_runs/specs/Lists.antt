-- The lists of a run as numbered lists of entries: each image's events and each object's history.
use Rattle.std.specs.Prelude.{ℕ, zero, suc, List, [], map, slice_index_or}
use Rattle.caf_events.specs.declared.ask.Ask.{Ask}
use Rattle.caf_events.specs.declared.ask.Ask.TheVariants as asks
use Rattle.caf_events.specs.declared.reply.Reply.{Reply}
use Rattle.caf_events.specs.declared.event.Event.{Event}
use Rattle.caf_events.specs.declared.event.Entry.{Entry}
use Rattle.caf_events.specs.Asks.{place_of, object_of}
use Rattle.trace_theory.specs.Entries.{last_or}
use Rattle.trace_theory.specs.Machines.{Said}
use Rattle.trace_theory.specs.Runs.{Woven}

-- the number of the image that made an entry
abbrev pub image_of : Entry → ℕ
image_of e = e.image.0

-- the number of the object at which an entry was made, 0 for the image itself
abbrev pub key_of : Entry → ℕ
key_of e = object_of (place_of e.event.ask)

-- the stamp of an entry
abbrev pub stamp_of : Entry → ℕ
stamp_of e = e.event.stamp

-- the stamp of an image's own step after the image's last one: one more; but a limit of stamps has one more than the
-- stamp that it names, which may be the last one of an object
abbrev pub stamp_alone : Ask → ℕ → ℕ
stamp_alone (asks.LimitStamp number) mine = suc number
stamp_alone ask mine = suc mine

-- the same of an entry
abbrev pub own_stamp : Entry → ℕ → ℕ
own_stamp e mine = stamp_alone e.event.ask mine

-- an image's event as an entry
abbrev pub entry : ℕ → Event → Entry
entry i e = record { image = record { 0 = i }; event = e }

-- what an image said and heard by an event
abbrev pub said : Event → Said Ask Reply
said e = record { ask = e.ask; reply = e.reply; line = e.line }

-- the list of number n in a list of lists, counted from 1; none has the number 0
abbrev pub list_at : {A : Type 0} → List (List A) → ℕ → List A
list_at ls zero = []
list_at ls (suc k) = slice_index_or ls k []

-- the entries of an image, by its number
abbrev pub entries_of : List (List Event) → ℕ → List Entry
entries_of ls i = map (entry i) (list_at ls i)

-- the history of an object, by its number: 1 is the board, the memory of image i has i + 1
abbrev pub history_of : List Entry → List (List Entry) → ℕ → List Entry
history_of board hs zero = []
history_of board hs (suc zero) = board
history_of board hs (suc (suc k)) = slice_index_or hs k []

-- the last stamp of an image's events, 0 where there is none
abbrev pub last_of : List Event → ℕ
last_of es = last_or (λ e. e.stamp) 0 es

-- the images' events and the objects' histories are those of one run
abbrev pub IsWoven : List (List Event) → List Entry → List (List Entry) → Type 0
IsWoven ls board hs = Woven image_of key_of stamp_of own_stamp (entries_of ls) (history_of board hs)
