-- The two premises of the induction over another run: what its next step hears, and that who said all says no more.
use Rattle.std.specs.Prelude.{ℕ, ◌≡◌, List, [], ◌∷◌, ◌++◌}
use Rattle.caf_events.specs.declared.event.Entry.{Entry}
use Rattle.order_theory.specs.Races.{Stands}
use Rattle.core_runs.specs.Moments.{Rules}
use Rattle.core_runs.specs.Beginnings.{Beginning}
use Rattle.core_runs.specs.CoreRuns.{IsCoreRun, said_by}
use Rattle.order_axioms.specs.Views.{view}
use Rattle.order_cuts.specs.Cuts.{Follows, IsNext}
use Rattle.every_order.specs.Likes.{likes}

module _ {C M B : Type 0} (n : ℕ) (r : Rules C M B) (b : Beginning C M B) (t : List Entry) where
  -- An image's next step behind what follows t has the reply that it has in t.
  abbrev pub RepliesSame : Type 0
  RepliesSame =
      (g : List Entry) (x : Entry) (y : Stands t) → IsCoreRun r b (g ++ x ∷ []) → Follows (view n) (likes n) t g
      → IsNext (view n) (likes n) g y → y.event.image.0 ≡ x.image.0 → y.event.event.ask ≡ x.event.ask
      → x.event.reply ≡ y.event.event.reply

  -- An image that has said all that it says in t makes no further step.
  abbrev pub StaysAtEnd : Type 0
  StaysAtEnd =
      (g : List Entry) (x : Entry) → IsCoreRun r b (g ++ x ∷ []) → Follows (view n) (likes n) t g
      → said_by x.image.0 t ≡ said_by x.image.0 g → ⊥
