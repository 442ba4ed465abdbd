-- What one turn gives.
use Rattle.std.specs.Prelude.{ℕ, ◌≡◌, ◌+◌, ◌^◌, ◌<◌, ◌≤◌, ◌⊎◌, max, IsTrue, Bool, false, List, [], ◌∷◌, ◌++◌, length}
use Rattle.caf_events.specs.declared.ask.Ask.{Ask}
use Rattle.caf_events.specs.declared.reply.Reply.{Reply}
use Rattle.caf_events.specs.EventParts.{EventParts}
use Rattle.caf_events.specs.declared.event.Entry.{Entry}
use Rattle.caf_events.specs.Histories.{last_stamp_of}
use Rattle.trace_theory.specs.Entries.{of}
use Rattle.turn_gate.specs.Lists.{image_of, entry}
use Rattle.turn_gate.specs.Gates.{StartsWith, IsRecorded}
use Rattle.turn_gate.specs.Steps.{noted, rested}
use Rattle.turn_gate.specs.declared.view.View.{View}
use Rattle.turn_gate.specs.declared.turn.Turn.{Turn}
use Rattle.turn_gate.specs.declared.turn.Turn.TheVariants.{Done, NotYet, Full, NoMemory}

-- both are below the stamp after which no step is made
abbrev pub IsBelow : ℕ → List Entry → Type 0
IsBelow after h = (after < 2 ^ 62) × (last_stamp_of h < 2 ^ 62)

-- the last stamp is that of the history, and it or the image's has reached the greatest one
abbrev pub IsFull : ℕ → List Entry → ℕ → Type 0
IsFull after h last = (last ≡ last_stamp_of h) × ((2 ^ 62 ≤ after) ⊎ (2 ^ 62 ≤ last))

-- the history with one more entry, where an event was made
abbrev pub history_by : Turn → ℕ → List Entry → List Entry
history_by (Done e) image h = h ++ entry image e ∷ []
history_by (NotYet back) image h = h
history_by (Full back last) image h = h
history_by (NoMemory back) image h = h

-- the seat's view after a turn: with one more entry, where an event was made
abbrev pub noted_by : Turn → ℕ → View → View
noted_by (Done e) image v = noted v (entry image e)
noted_by (NotYet back) image v = rested v
noted_by (Full back last) image v = rested v
noted_by (NoMemory back) image v = rested v

module _ {M : Type 0} (ready : M → List Entry → ℕ → Ask → Bool) (reply : M → List Entry → ℕ → Ask → Reply) (made : M) where
  -- the event of an ask for which the object was ready after the history h: the reply that is due there, and a stamp
  -- above both last ones
  pub record Steps (h : List Entry) (image : ℕ) (ask : Ask) (line after : ℕ) (e : EventParts) : Type 0 where
    pub below : IsBelow after h
    pub was_ready : IsTrue (ready made h image ask)
    pub event : e ≡ record { ask = ask; reply = reply made h image ask; stamp = max after (last_stamp_of h) + 1; line = line }

  -- what a turn answers where the object has the history h
  abbrev pub Answers : List Entry → ℕ → Ask → ℕ → ℕ → Turn → Type 0
  Answers h image ask line after (Done e) = Steps h image ask line after e
  Answers h image ask line after (NotYet back) = (back ≡ ask) × (ready made h image ask ≡ false) × IsBelow after h
  Answers h image ask line after (Full back last) = (back ≡ ask) × IsFull after h last
  Answers h image ask line after (NoMemory back) = back ≡ ask

  -- where an event was made, it may be recorded behind what was seen, and the word doesn't wrap
  abbrev pub MayRecord : List Entry → ℕ → Turn → Type 0
  MayRecord seen image (Done e) = (length seen + 1 < 2 ^ 63) × IsRecorded ready reply made (seen ++ entry image e ∷ [])
  MayRecord seen image (NotYet back) = Unit {0}
  MayRecord seen image (Full back last) = Unit {0}
  MayRecord seen image (NoMemory back) = Unit {0}

  -- what a turn tells a pass: there is a history of the object that begins with all that the pass had seen and in which
  -- the image's entries are the pass's own list; the answer is the one that is due there; the pass has then seen that
  -- history, and its own entry where there is one
  pub record Tells (image : ℕ) (seen own seen' own' : List Entry) (ask : Ask) (line after : ℕ) (turn : Turn) : Type 0 where
    pub history : List Entry
    pub longer : StartsWith history seen
    pub mine : of image_of image history ≡ own
    pub answers : Answers history image ask line after turn
    pub seen_is : seen' ≡ history_by turn image history
    pub own_is : own' ≡ history_by turn image own

-- what a turn leaves as it was
pub record SameSeat (v w : View) : Type 0 where
  pub image : w.image ≡ v.image
  pub images : w.images ≡ v.images
  pub kept : w.kept ≡ v.kept
