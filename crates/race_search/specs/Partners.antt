-- Entries that are a race with a later one, and the first of them.
use Rattle.std.specs.Prelude.{ℕ, ◌<◌, ◌≤◌, ◌≡◌, ◌&&◌, min, nat_eq, Bool, true, List, Option, Some, None}
use Rattle.caf_events.specs.declared.event.Entry.{Entry}
use Rattle.order_theory.specs.Order.{Within, Precedes, segment_of}
use Rattle.order_theory.specs.Races.{Cell, meets, Stands, place}
use Rattle.order_theory.specs.Acts.{entries}
use Rattle.order_axioms.specs.Views.{view, edges}
use Rattle.order_axioms.specs.Touching.{class_of, cells_of}
use Rattle.race_watch.specs.declared.touch.Touch.{Touch}
use Rattle.race_watch.specs.Classes.{as_class}
use Rattle.race_watch.specs.Rows.{is_in}

-- x after the entries b, and e after the entries g: the segment of neither precedes that of the other
pub record Apart (n : ℕ) (b : List Entry) (x : Entry) (g : List Entry) (e : Entry) : Type 0 where
  pub not_before : Precedes (edges n) g (segment_of (entries (view n)) b x) (segment_of (entries (view n)) g e) → ⊥
  pub not_after : Precedes (edges n) g (segment_of (entries (view n)) g e) (segment_of (entries (view n)) b x) → ⊥

-- the two share a cell and their classes meet
pub record Meet (b : List Entry) (x : Entry) (g : List Entry) (e : Entry) : Type 0 where
  pub cell : Cell
  pub there : Within cell (cells_of b x)
  pub here : Within cell (cells_of g e)
  pub met : meets (class_of x) (class_of e) ≡ true

-- The two are a race: they are of different images, conflict, and their segments are unordered (ISO/IEC 1539-1:2018,
-- 11.6.2).
pub record RacesWith (n : ℕ) (b : List Entry) (x : Entry) (g : List Entry) (e : Entry) : Type 0 where
  pub images : x.image.0 ≡ e.image.0 → ⊥
  pub meeting : Meet b x g e
  pub apart : Apart n b x g e

-- this is the least cell that both touch
pub record LeastShared (b : List Entry) (x : Entry) (g : List Entry) (e : Entry) (least : Cell) : Type 0 where
  pub there : Within least (cells_of b x)
  pub here : Within least (cells_of g e)
  pub least_is : (c : Cell) → Within c (cells_of b x) → Within c (cells_of g e) → (c.owner ≡ least.owner) × (c.coarray ≡ least.coarray) × (least.offset ≤ c.offset)

-- none of the first m entries of g is a race with e
abbrev pub NoneBelow : ℕ → List Entry → Entry → ℕ → Type 0
NoneBelow n g e m = (x : Stands g) → place x < m → RacesWith n x.before x.event g e → ⊥

-- the entry at place p is the first one that is a race with e, and this is the least cell that both touch
pub record IsPartner (n : ℕ) (g : List Entry) (e : Entry) (p : ℕ) (least : Cell) : Type 0 where
  pub at : Stands g
  pub place_is : place at ≡ p
  pub races : RacesWith n at.before at.event g e
  pub shared : LeastShared at.before at.event g e least
  pub first : NoneBelow n g e p

-- the lesser of a number and one more
abbrev pub lesser_of : Option ℕ → ℕ → Option ℕ
lesser_of (Some k) x = Some (min k x)
lesser_of None x = Some x

-- the least number that is in both lists, where there is one
abbrev pub LeastIn : List ℕ → List ℕ → Option ℕ → Type 0
LeastIn xs ys (Some o) = (is_in o xs ≡ true) × (is_in o ys ≡ true) × ((k : ℕ) → is_in k xs ≡ true → is_in k ys ≡ true → o ≤ k)
LeastIn xs ys None = (k : ℕ) → is_in k xs ≡ true → is_in k ys ≡ true → ⊥

-- two touch cells of one coarray in one memory, and their classes meet
abbrev pub may_meet : Touch → Touch → Bool
may_meet o t = nat_eq o.owner.0 t.owner.0 && nat_eq o.coarray t.coarray && meets (as_class o.class) (as_class t.class)
