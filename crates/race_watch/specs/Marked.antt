-- The marks of cells after these entries, and what they tell of the next one.
use Rattle.std.specs.Prelude.{ℕ, ◌<◌, ◌≤◌, ◌≡◌, ◌⊎◌, List, Option}
use Rattle.caf_events.specs.declared.event.Entry.{Entry}
use Rattle.order_theory.specs.Order.{Within}
use Rattle.order_theory.specs.Races.{Cell, signals}
use Rattle.order_theory.specs.Acts.{entries}
use Rattle.order_theory.specs.Marks.{Mark, Keeps, Unordered, seen, mark_of}
use Rattle.order_axioms.specs.Views.{view, edges}
use Rattle.order_axioms.specs.Touching.{class_of, cells_of, touches}
use Rattle.race_watch.specs.declared.touch.Touch.{Touch}
use Rattle.race_watch.specs.Touched.{IsTouch, TouchedBy}
use Rattle.race_watch.specs.Rows.{marks_at}
use Rattle.race_watch.specs.Orders.{line_of}

-- the marks that are kept of each cell tell as much as all entries that touched it
pub record Marked (n : ℕ) (g : List Entry) (rows : List (List (List Mark))) : Type 0 where
  pub ranges : (l k : ℕ) (m : Mark) → Within m (marks_at rows l k) → (0 < m.segment.image) × (m.segment.image ≤ n)
  pub cells :
      (c : Cell) → 0 < c.owner → c.owner ≤ n
      → Keeps (edges n) g (seen (entries (view n)) touches c g) (marks_at rows (line_of n c.owner c.coarray) c.offset)

-- some entry so far that touched a cell which e touches conflicts with e, and its segment doesn't precede that of e
abbrev pub HasPartner : ℕ → List Entry → Entry → Type 0
HasPartner n g e = (c : Cell) × Within c (cells_of g e) × Unordered (edges n) g (seen (entries (view n)) touches c g) (mark_of (entries (view n)) touches g e)

-- this is what e touches; and so, if anything
abbrev pub Touching : ℕ → List Entry → Entry → Touch → Type 0
Touching n g e t = IsTouch n (class_of e) (cells_of g e) t

abbrev pub TouchesAll : ℕ → List Entry → Entry → Option Touch → Type 0
TouchesAll n g e t = TouchedBy n (class_of e) (cells_of g e) t

-- it may be noted: no entry so far is unordered with it, or it is no access
abbrev pub MayNote : ℕ → List Entry → Entry → Type 0
MayNote n g e = (HasPartner n g e → ⊥) ⊎ (class_of e ≡ signals)
