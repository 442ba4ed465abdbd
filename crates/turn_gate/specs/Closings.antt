-- The end of a gate.
use Rattle.std.specs.Prelude.{ℕ, ◌≡◌, List, [], ◌∷◌}
use Rattle.caf_events.specs.declared.event.Entry.{Entry}
use Rattle.trace_theory.specs.Entries.{of, Each}
use Rattle.turn_gate.specs.Lists.{image_of}
use Rattle.atomic_table.specs.Seated.{TableId}
use Rattle.turn_gate.specs.declared.view.Kept.{Kept}
use Rattle.turn_gate.specs.Gates.{StartsWith, NotIn}
use Rattle.turn_gate.specs.Known.{Known}
use Rattle.turn_gate.specs.Passes.{Opened, kept_known}

abbrev pub kept_image : Kept → ℕ
kept_image x = x.image

-- each image's entries in the history are its own list, and each pass has seen a beginning
abbrev pub AreBack : List Entry → List Kept → Type 0
AreBack history back = Each (λ (x : Kept). (of image_of x.image history ≡ x.own) × StartsWith history x.seen) back

-- what is known of the object at the end: it is like the first one, its history is a recorded one, and it has no other
-- entries than those of the passes
pub record Closes {O : Type 0} (history : O → List Entry) (like : O → Type 0) (recorded : List Entry → Type 0) (images : List ℕ) (kept : List Kept) (object : O) : Type 0 where
  pub is_like : like object
  pub good : recorded (history object)
  pub lists : AreBack (history object) kept
  pub others : (i : ℕ) → NotIn i images → of image_of i (history object) ≡ []

-- a gate that is being closed: which one, the images of its first pass, and what came back
pub record Shutting (O : Type 0) : Type 0 where
  pub gate : Opened O
  pub images : List ℕ
  pub back : List Kept

-- its first seat
pub record IsFirstSeat {O : Type 0} (gate seat : TableId) (id : ℕ) (carried : List (ℕ × O)) : Type 0 where
  pub table : seat ≡ gate
  pub first : id ≡ 0
  pub empty : carried ≡ []

-- one pass more came back
abbrev pub took : {O : Type 0} → Shutting O → Known → Shutting O
took s p = record { gate = s.gate; images = s.images; back = kept_known p ∷ s.back }
