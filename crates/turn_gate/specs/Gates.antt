-- What holds of a gate at every moment: of its words, of its slot, and of what each seat knows.
use Rattle.std.specs.Prelude.{ℕ, suc, ◌≡◌, ◌≢◌, ◌*◌, ◌<◌, ◌⊎◌, Bool, true, false, List, [], ◌∷◌, ◌++◌, length, Option, Some}
use Rattle.caf_events.specs.declared.ask.Ask.{Ask}
use Rattle.caf_events.specs.declared.reply.Reply.{Reply}
use Rattle.caf_events.specs.declared.event.Entry.{Entry}
use Rattle.caf_events.specs.Histories.{Served}
use Rattle.trace_theory.specs.Entries.{of, Each, Rises}
use Rattle.turn_gate.specs.Lists.{image_of, stamp_of}
use Rattle.turn_gate.specs.declared.view.View.{View}
use Rattle.turn_gate.specs.declared.view.Kept.{Kept}
use Rattle.atomic_table.specs.Table.{State}
use mathlib.Core.Option as math
use lib.ListN.{get_elem?}

-- the longer list begins with the other one
abbrev pub StartsWith : List Entry → List Entry → Type 0
StartsWith log seen = (rest : List Entry) × (log ≡ seen ++ rest)

-- the seat of number k, from 0, has this view
abbrev pub At : {V : Type 0} → List V → ℕ → V → Type 0
At views k v = get_elem? views k ≡ math.some v

-- the number is none of the list
abbrev pub NotIn : ℕ → List ℕ → Type 0
NotIn i xs = Each (λ x. x ≢ i) xs

-- each number of the first list is one of the second
abbrev pub AreAmong : List ℕ → List ℕ → Type 0
AreAmong xs ys = Each (λ x. NotIn x ys → ⊥) xs

-- the first seat at the start
abbrev pub first_view : View
first_view = record { image = 0; turn = false; seen = []; own = []; images = []; kept = [] }

-- the object was made with what the gate's first one was made with
abbrev pub IsLike : {M O : Type 0} → (O → M) → O → O → Type 0
IsLike made start o = made o ≡ made start

-- each entry was ready after those before it, has the reply that is due there, and its stamp is above theirs
pub record IsRecorded {M : Type 0} (ready : M → List Entry → ℕ → Ask → Bool) (reply : M → List Entry → ℕ → Ask → Reply) (made : M) (log : List Entry) : Type 0 where
  pub served : Served (ready made) (reply made) [] log
  pub rises : Rises stamp_of log

-- a seat of an image: its own list is the image's part of the history, and it is the only seat of that image
pub record IsMember (log : List Entry) (f v : View) : Type 0 where
  pub own : of image_of v.image log ≡ v.own
  pub listed : NotIn v.image f.images → ⊥
  pub free : Each (λ x. x.image ≢ v.image) f.kept

-- what holds of each seat, also of the first one and of those that were given back
pub record Sits (log : List Entry) (f v : View) : Type 0 where
  pub turn : v.turn ≡ true → v.seen ≡ log
  pub idle : v.image ≡ 0 → v.turn ≡ false
  pub front : StartsWith log v.seen
  pub member : 0 < v.image → IsMember log f v

-- the images of the first seat's list, and what it knows of those whose seats were given back
pub record Desk (log : List Entry) (f : View) : Type 0 where
  pub image : f.image ≡ 0
  pub kept : Each (λ x. (of image_of x.image log ≡ x.own) × StartsWith log x.seen) f.kept
  pub known : Each (λ x. NotIn x.image f.images → ⊥) f.kept
  pub others : (i : ℕ) → NotIn i f.images → of image_of i log ≡ []

-- no seat holds the slot: the word is twice the number of entries, the object is in the slot, and its history is the
-- recorded one
pub record AtHome {O : Type 0} (history : O → List Entry) (like : O → Type 0) (log : List Entry) (s : State (Option O) View) : Type 0 where
  pub word : s.words ≡ 2 * length log ∷ []
  pub object : O
  pub home : s.homes ≡ math.some (Some object) ∷ []
  pub is_like : like object
  pub history_is : history object ≡ log
  pub none_out : (k : ℕ) (v : View) → At s.views k v → v.turn ≡ false

-- one seat holds the slot: the word is one more
pub record IsOut {O : Type 0} (log : List Entry) (s : State (Option O) View) : Type 0 where
  pub word : s.words ≡ suc (2 * length log) ∷ []
  pub home : s.homes ≡ math.none ∷ []
  pub seat : ℕ
  pub holder : View
  pub sits : At s.views seat holder
  pub turn : holder.turn ≡ true
  pub alone : (k : ℕ) (v : View) → At s.views k v → v.turn ≡ true → k ≡ seat

-- the rule: the recorded history, and one seat has the turn or none
pub record Keeps {O : Type 0} (history : O → List Entry) (like : O → Type 0) (recorded : List Entry → Type 0) (s : State (Option O) View) : Type 0 where
  pub log : List Entry
  pub f : View
  pub first : At s.views 0 f
  pub desk : Desk log f
  pub sits : (k : ℕ) (v : View) → At s.views k v → Sits log f v
  pub no_two : (j k : ℕ) (v w : View) → At s.views j v → At s.views k w → 0 < v.image → v.image ≡ w.image → j ≡ k
  pub slot : AtHome history like log s ⊎ IsOut log s
  pub good : recorded log

-- the views of the two seats after a split for image i
abbrev pub with_image : ℕ → View → View
with_image i f = record { image = f.image; turn = f.turn; seen = f.seen; own = f.own; images = f.images ++ i ∷ []; kept = f.kept }

abbrev pub newcomer : ℕ → View → View
newcomer i f = record { image = i; turn = false; seen = f.seen; own = []; images = []; kept = [] }

-- the views of the two seats after a seat was given back
abbrev pub kept_of : View → Kept
kept_of v = record { image = v.image; seen = v.seen; own = v.own }

abbrev pub gathered : View → View → View
gathered f v = record { image = f.image; turn = f.turn; seen = f.seen; own = f.own; images = f.images; kept = kept_of v ∷ f.kept }

abbrev pub spent_view : View
spent_view = record { image = 0; turn = false; seen = []; own = []; images = []; kept = [] }
