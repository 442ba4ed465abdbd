-- What each kind of step tells the seat that makes it.
use Rattle.std.specs.Prelude.{ℕ, ◌≡◌, ◌==◌, true, false, List, [], ◌∷◌, ◌++◌, Option, Some, MatchBool}
use Rattle.caf_events.specs.declared.event.Entry.{Entry}
use Rattle.trace_theory.specs.Entries.{of}
use Rattle.turn_gate.specs.Lists.{image_of}
use Rattle.turn_gate.specs.declared.view.View.{View}
use Rattle.turn_gate.specs.Gates.{StartsWith}
use Rattle.atomic_table.specs.Table.{Me, Step}

-- with the turn, and all of the recorded history seen
abbrev pub holding : View → List Entry → View
holding v log = record { image = v.image; turn = true; seen = log; own = v.own; images = v.images; kept = v.kept }

-- without the turn
abbrev pub rested : View → View
rested v = record { image = v.image; turn = false; seen = v.seen; own = v.own; images = v.images; kept = v.kept }

-- without the turn, and with one entry more
abbrev pub noted : View → Entry → View
noted v e = record { image = v.image; turn = false; seen = v.seen ++ e ∷ []; own = v.own ++ e ∷ []; images = v.images; kept = v.kept }

-- the seat has the turn: it holds the slot with the object in it, and has seen the object's whole history
pub record Holds {O : Type 0} (history : O → List Entry) (known : O → Type 0) (me me' : Me (Option O) View) : Type 0 where
  pub object : O
  pub me_is : me' ≡ (holding me.0 (history object), (0, Some object) ∷ [])
  pub longer : StartsWith (history object) me.0.seen
  pub own : of image_of me.0.image (history object) ≡ me.0.own
  pub is_known : known object

-- Seize: where the word is as it was read the seat has the turn; else nothing changes
abbrev pub Seizes : {O : Type 0} → (O → List Entry) → (O → Type 0) → Step (Option O) → Me (Option O) View → ℕ → Me (Option O) View → Type 0
Seizes history known step me found me' = MatchBool (found == step.first) (Holds history known me me') (me' ≡ me)

-- Record: the slot goes home, and the seat's own list, and what it has seen, grow by the entry
abbrev pub Records : {S : Type 0} → Entry → Step S → Me S View → ℕ → Me S View → Type 0
Records e step me found me' = me' ≡ (noted me.0 e, [])

-- Leave: the slot goes home
abbrev pub Leaves : {S : Type 0} → Step S → Me S View → ℕ → Me S View → Type 0
Leaves {S} step me found me' = me' ≡ (rested me.0, [])
