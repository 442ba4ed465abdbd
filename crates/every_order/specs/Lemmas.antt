-- The lemmas of the law, as statements.
use Rattle.std.specs.Prelude.{ℕ, ◌≡◌, IsTrue, List}
use Rattle.caf_events.specs.declared.event.Entry.{Entry}
use Rattle.caf_events.specs.Asks.{place_of}
use Rattle.caf_base.specs.declared.place.Place.TheVariants.{Memory, Board}
use Rattle.object_rules.specs.Cells.{Declared}
use Rattle.object_rules.specs.MemoryRules.{memory_ready, memory_reply, value_there}
use Rattle.object_rules.specs.BoardRules.{board_ready, board_reply}
use Rattle.core_runs.specs.CoreRuns.{said_by, at_board, of_memory}
use Rattle.core_runs.specs.Lawful.{IsLawfulTrace, made_memory}
use Rattle.order_theory.specs.Order.{Within}
use Rattle.order_theory.specs.Races.{Cell, Stands}
use Rattle.order_axioms.specs.Views.{view}
use Rattle.order_axioms.specs.Touching.{cells_of}
use Rattle.order_cuts.specs.Cuts.{Likeness, KeepsSources}
use Rattle.every_order.specs.Decided.{IsDecided}
use Rattle.every_order.specs.EveryOrder.{SaysNoMore}

-- the entry x of t is its image's next one behind u
abbrev pub ComesNext : {t : List Entry} → List Entry → Stands t → Type 0
ComesNext u x = said_by x.event.image.0 x.before ≡ said_by x.event.image.0 u

-- THE SAME VALUE: a cell that the next access touches holds after u what it held before that access in t.
abbrev pub SameValue : Type 0
SameValue =
    (coarrays : List Declared) (n : ℕ) (t u : List Entry) → IsLawfulTrace coarrays n t → IsLawfulTrace coarrays n u → IsDecided n t → SaysNoMore t u
    → (x : Stands t) → ComesNext u x → (c : Cell) → Within c (cells_of x.before x.event)
    → value_there (made_memory coarrays c.owner) (of_memory c.owner u) c.coarray c.offset ≡ value_there (made_memory coarrays c.owner) (of_memory c.owner x.before) c.coarray c.offset

-- THE SAME REPLY: an ask that is ready after u has there the reply that it has in t.
abbrev pub SameBoardReply : Type 0
SameBoardReply =
    (coarrays : List Declared) (n : ℕ) (t u : List Entry) → IsLawfulTrace coarrays n t → IsLawfulTrace coarrays n u → IsDecided n t → SaysNoMore t u
    → (x : Stands t) → ComesNext u x → place_of x.event.event.ask ≡ Board → IsTrue (board_ready n (at_board u) x.event.image.0 x.event.event.ask)
    → board_reply n (at_board u) x.event.image.0 x.event.event.ask ≡ x.event.event.reply

abbrev pub SameMemoryReply : Type 0
SameMemoryReply =
    (coarrays : List Declared) (n owner : ℕ) (t u : List Entry) → IsLawfulTrace coarrays n t → IsLawfulTrace coarrays n u → IsDecided n t → SaysNoMore t u
    → (x : Stands t) → ComesNext u x → place_of x.event.event.ask ≡ Memory (record { 0 = owner }) → IsTrue (memory_ready (made_memory coarrays owner) (of_memory owner u) x.event.image.0 x.event.event.ask)
    → memory_reply (made_memory coarrays owner) (of_memory owner u) x.event.image.0 x.event.event.ask ≡ x.event.event.reply

-- READY STAYS READY: what was ready after w is ready after u, where u's images have come as far as w's or farther, and
-- this one as far.
abbrev pub ReadyMore : Type 0
ReadyMore =
    (coarrays : List Declared) (n i : ℕ) (t w u : List Entry) → IsLawfulTrace coarrays n t → IsDecided n t → IsLawfulTrace coarrays n w → IsLawfulTrace coarrays n u
    → SaysNoMore t u → SaysNoMore u w → said_by i w ≡ said_by i u → (x : Stands t) → x.event.image.0 ≡ i → ComesNext w x
    → ((owner : ℕ) → place_of x.event.event.ask ≡ Memory (record { 0 = owner }) → IsTrue (memory_ready (made_memory coarrays owner) (of_memory owner w) i x.event.event.ask) → IsTrue (memory_ready (made_memory coarrays owner) (of_memory owner u) i x.event.event.ask))
    × (place_of x.event.event.ask ≡ Board → IsTrue (board_ready n (at_board w) i x.event.event.ask) → IsTrue (board_ready n (at_board u) i x.event.event.ask))

-- THE SAME SOURCES: who leaves a round, ends SYNC IMAGES or takes posts has heard of the same segments in every order.
-- (`same` is the likeness by ask and reply.)
abbrev pub SameSources : {S : Type 0} → ((n : ℕ) → Likeness (view n) S) → Type 0
SameSources same =
    (coarrays : List Declared) (n : ℕ) (t u : List Entry) → IsLawfulTrace coarrays n t → IsLawfulTrace coarrays n u → IsDecided n t → SaysNoMore t u
    → KeepsSources (view n) (same n) t u
