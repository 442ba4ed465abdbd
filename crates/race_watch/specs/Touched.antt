-- What an entry touches, as the code tells it.
use Rattle.std.specs.Prelude.{ℕ, ◌≡◌, ◌<◌, ◌≤◌, List, [], Option, Some, None}
use Rattle.caf_base.specs.Spans.{IsSpan}
use Rattle.caf_events.specs.declared.ask.Ask.{Ask}
use Rattle.caf_events.specs.declared.ask.Ask.TheVariants as asks
use Rattle.caf_events.specs.declared.event.Entry.{Entry}
use Rattle.order_theory.specs.Races.{Cell, Class}
use Rattle.order_axioms.specs.Touching.{made_last}
use Rattle.race_watch.specs.declared.touch.Touch.{Touch}
use Rattle.race_watch.specs.Classes.{as_class}
use Rattle.race_watch.specs.RowCells.{row_cells}

-- what is touched are these cells, in a memory of the run, and it is of this class
pub record IsTouch (n : ℕ) (class : Class) (cells : List Cell) (t : Touch) : Type 0 where
  pub class_is : as_class t.class ≡ class
  pub cells_are : cells ≡ row_cells t.owner.0 t.coarray t.cells.items
  pub first : 0 < t.owner.0
  pub last : t.owner.0 ≤ n

-- the same, where any cells are touched
abbrev pub TouchedBy : ℕ → Class → List Cell → Option Touch → Type 0
TouchedBy n class cells None = cells ≡ []
TouchedBy n class cells (Some t) = IsTouch n class cells t

-- the memory of an ask is one of the run, and its span is one
abbrev pub FitsMemory : ℕ → Ask → Type 0
FitsMemory n (asks.Read owner span) = (0 < owner.0) × (owner.0 ≤ n) × IsSpan span
FitsMemory n (asks.Write owner span values) = (0 < owner.0) × (owner.0 ≤ n) × IsSpan span
FitsMemory n (asks.Atomic owner op span x y) = (0 < owner.0) × (owner.0 ≤ n) × IsSpan span
FitsMemory n (asks.Lock owner span) = (0 < owner.0) × (owner.0 ≤ n) × IsSpan span
FitsMemory n (asks.TryLock owner span) = (0 < owner.0) × (owner.0 ≤ n) × IsSpan span
FitsMemory n (asks.Unlock owner span) = (0 < owner.0) × (owner.0 ≤ n) × IsSpan span
FitsMemory n (asks.Post owner span) = (0 < owner.0) × (owner.0 ≤ n) × IsSpan span
FitsMemory n (asks.Wait owner span threshold) = (0 < owner.0) × (owner.0 ≤ n) × IsSpan span
FitsMemory n (asks.Query owner span) = (0 < owner.0) × (owner.0 ≤ n) × IsSpan span
FitsMemory n (asks.Free owner span) = (0 < owner.0) × (owner.0 ≤ n) × IsSpan span
FitsMemory n (asks.Create owner coarray cells) = (0 < owner.0) × (owner.0 ≤ n)
FitsMemory n (asks.Delete owner coarray) = (0 < owner.0) × (owner.0 ≤ n)
FitsMemory n ask = Unit {0}

-- the coarray of a deallocation has so many cells
abbrev pub MadeIs : List Entry → Ask → ℕ → Type 0
MadeIs g (asks.Delete owner coarray) made = made ≡ made_last owner.0 coarray 0 g
MadeIs g ask made = Unit {0}
