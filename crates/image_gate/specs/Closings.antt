-- Gates that are being closed, and the passes that come back.
use Rattle.std.specs.Prelude.{ℕ, ◌≡◌, ◌<◌, ◌≤◌, List, [], ◌∷◌, ◌++◌, length, map, slice_index_or}
use Rattle.caf_events.specs.Histories.{Served}
use Rattle.caf_events.specs.declared.object.Object as objects
use Rattle.trace_theory.specs.Entries.{of, Rises}
use Rattle.turn_gate.specs.Lists.{image_of, stamp_of}
use Rattle.turn_gate.specs.Gates.{At, NotIn, AreAmong}
use Rattle.turn_gate.specs.Known.{Known}
use Rattle.turn_gate.specs.Passes.{Opened, IsPassOf, kept_known}
use Rattle.turn_gate.specs.declared.view.Kept.{Kept}
use Rattle.turn_gate.specs.Closings.{Shutting, AreBack, kept_image, took}
use Rattle.image_gate.specs.declared.passes.Passes.{Passes}

-- a gate whose first pass is back, and no other
abbrev pub closing_of : {O : Type 0} → List ℕ → Opened O → Shutting O
closing_of images gate = record { gate = gate; images = images; back = [] }

-- what came back to the board's gate, and to that of the memory at place k, from 0
abbrev pub board_column : List Passes → List Kept
board_column passes = map (λ (q : Passes). kept_known q.board) passes

abbrev pub column : ℕ → List Passes → List Kept
column k passes = map (λ (q : Passes). kept_known (slice_index_or q.memories.items k q.board)) passes

-- the passes are of these gates, in order, and of an image
pub record AreTakers {O : Type 0} (closings : List (Shutting O)) (row : List Known) : Type 0 where
  pub wide : length row ≡ length closings
  pub each : (k : ℕ) (s : Shutting O) (p : Known) → At closings k s → At row k p → IsPassOf s.gate p × (0 < p.image)

-- each of the passes came back to its gate
pub record RowBack {O : Type 0} (row : List Known) (closings closings' : List (Shutting O)) : Type 0 where
  pub wide : length closings' ≡ length closings
  pub back : (j : ℕ) (s s' : Shutting O) (p : Known) → At closings j s → At closings' j s' → At row j p → s' ≡ took s p

-- of the passes, those behind the ones that are left came back
pub record TakesRow {O : Type 0} (row : List Known) (closings : List (Shutting O)) (left : List Known) (closings' : List (Shutting O)) : Type 0 where
  pub rest : List Known
  pub front : left ++ rest ≡ row
  pub wide : length closings' ≡ length closings
  pub back : (j : ℕ) (s s' : Shutting O) (p : Known) → length left ≤ j → At closings j s → At closings' j s' → At row j p → s' ≡ took s p
  pub same : (j : ℕ) (s s' : Shutting O) → j < length left → At closings j s → At closings' j s' → s' ≡ s

-- with these passes back in front of those that were
abbrev pub with_back : {O : Type 0} → List Kept → Shutting O → Shutting O
with_back back s = record { gate = s.gate; images = s.images; back = back ++ s.back }

-- one image's passes are of the board's gate and of the memories' gates
pub record IsTaker {O B : Type 0} (board : Shutting B) (closings : List (Shutting O)) (q : Passes) : Type 0 where
  pub at_board : IsPassOf board.gate q.board × (0 < q.board.image)
  pub memories : AreTakers closings q.memories.items

-- the images' passes came back to all gates
pub record HaveBack {O B : Type 0} (passes : List Passes) (board : Shutting B) (closings : List (Shutting O)) (board' : Shutting B) (closings' : List (Shutting O)) : Type 0 where
  pub board_is : board' ≡ with_back (board_column passes) board
  pub wide : length closings' ≡ length closings
  pub each : (k : ℕ) (s s' : Shutting O) → At closings k s → At closings' k s' → s' ≡ with_back (column k passes) s

-- of the passes, those behind the ones that are left came back
pub record TakesAll {O B : Type 0} (passes : List Passes) (board : Shutting B) (closings : List (Shutting O)) (left : List Passes) (board' : Shutting B) (closings' : List (Shutting O)) : Type 0 where
  pub taken : List Passes
  pub front : left ++ taken ≡ passes
  pub back : HaveBack taken board closings board' closings'

-- what is known of a gate's object at its end, with these passes back
pub record EndsWith {O : Type 0} (object : objects.Ghosts O) (s : Shutting O) (o : O) : Type 0 where
  pub made : object.made o ≡ object.made s.gate.start
  pub served : Served (object.ready_after (object.made o)) (object.reply_after (object.made o)) [] (object.history o)
  pub rises : Rises stamp_of (object.history o)
  pub lists : AreBack (object.history o) s.back
  pub others : (i : ℕ) → NotIn i s.images → of image_of i (object.history o) ≡ []

-- the same of several gates and their objects, in order
abbrev pub AllEnd : {O : Type 0} → objects.Ghosts O → List (Shutting O) → List O → Type 0
AllEnd object [] [] = Unit {0}
AllEnd object (s ∷ ss) (o ∷ os) = EndsWith object s o × AllEnd object ss os
AllEnd object [] (o ∷ os) = ⊥
AllEnd object (s ∷ ss) [] = ⊥

-- a pass of each image is back
abbrev pub IsWhole : {O : Type 0} → Shutting O → Type 0
IsWhole s = AreAmong s.images (map kept_image s.back)
