-- Cells and what is done to them; conflicts, races and justified reads of a trace (ISO/IEC 1539-1:2018, 11.6.2).
use Rattle.std.specs.Prelude.{ℕ, ◌<◌, ◌≤◌, ◌≡◌, ◌⊎◌, ◌&&◌, ◌||◌, not, Bool, true, false, nat_eq, cond, List, [], ◌∷◌, ◌++◌, length}
use Rattle.order_theory.specs.Order.{Segment, EdgeRules, Within, segment_of, Precedes}

-- One cell of a coarray: its owner's image index, the coarray's number, and the place in array element order from 0.
pub record Cell : Type 0 where
  pub owner : ℕ
  pub coarray : ℕ
  pub offset : ℕ

-- whether two cells are one
abbrev pub same_cell : Cell → Cell → Bool
same_cell c d = nat_eq c.owner d.owner && nat_eq c.coarray d.coarray && nat_eq c.offset d.offset

-- whether the cell is one of this owner's coarray
abbrev pub within_coarray : ℕ → ℕ → Cell → Bool
within_coarray o n c = nat_eq c.owner o && nat_eq c.coarray n

-- whether the cell is one of these
abbrev pub touches_cell : Cell → List Cell → Bool
touches_cell c [] = false
touches_cell c (d ∷ ds) = same_cell d c || touches_cell c ds

-- what an entry does to the cells that it touches
pub data Class : Type 0 where
  reads : Class  -- it references them
  writes : Class  -- it defines them
  looks : Class  -- it references one atomically (16.5)
  changes : Class  -- another atomic action on one
  makes : Class  -- it allocates or deallocates the coarray
  signals : Class  -- an action on a lock or event variable: no access

-- all but the actions on locks and events are accesses
abbrev pub is_access : Class → Bool
is_access signals = false
is_access c = true

-- the accesses of atomic subroutines
abbrev pub is_atomic : Class → Bool
is_atomic looks = true
is_atomic changes = true
is_atomic c = false

-- the accesses that define their cells
abbrev pub defines : Class → Bool
defines writes = true
defines changes = true
defines makes = true
defines c = false

-- an allocation or deallocation
abbrev pub is_making : Class → Bool
is_making makes = true
is_making c = false

-- two accesses of which one defines and which aren't both atomic, or an action on a lock or event and an allocation or
-- deallocation
abbrev pub meets : Class → Class → Bool
meets k m =
    cond (is_access k && is_access m) ((defines k || defines m) && not (is_atomic k && is_atomic m)) (is_making k || is_making m)

-- What is said of what entries do to cells: their class, and the cells that they touch after the entries before them.
pub record Touching (E : Type 0) : Type 0 where
  pub class_of : E → Class
  pub cells : List E → E → List Cell

-- The same with values: the value that a read gives and a write leaves at a cell, and the value that a cell has first.
pub record Accesses (E V : Type 0) : Type 0 where
  pub touching : Touching E
  pub gives : E → Cell → V
  pub leaves : List E → E → Cell → V
  pub first_value : Cell → V

-- An entry where it stands in the trace t.
pub record Stands {E : Type 0} (t : List E) : Type 0 where
  pub before : List E
  pub event : E
  pub rest : List E
  pub split : t ≡ before ++ event ∷ rest

-- how many entries stand before it
abbrev pub place : {E : Type 0} {t : List E} → Stands t → ℕ
place x = length x.before

module _ {E : Type 0} (r : EdgeRules E) (k : Touching E) (t : List E) where
  -- the segment in which it stands
  abbrev pub segment : Stands t → Segment
  segment x = segment_of r.entries x.before x.event

  -- it touches the cell
  abbrev pub Touches : Stands t → Cell → Type 0
  Touches x c = Within c (k.cells x.before x.event)

  -- both touch the cell
  abbrev pub SharedCell : Stands t → Stands t → Cell → Type 0
  SharedCell x y c = Touches x c × Touches y c

  -- Two entries of different images conflict where they share a cell and their classes meet.
  pub record Conflict (x y : Stands t) : Type 0 where
    pub images : r.entries.image_of x.event ≡ r.entries.image_of y.event → ⊥
    pub cell : Cell
    pub shared : SharedCell x y cell
    pub met : meets (k.class_of x.event) (k.class_of y.event) ≡ true

  -- A race is a conflict of two entries whose segments are unordered. The standard has no such word: a race is a use of
  -- cells that 11.6.2 forbids.
  pub record Race (x y : Stands t) : Type 0 where
    pub conflict : Conflict x y
    pub not_before : Precedes r t (segment x) (segment y) → ⊥
    pub not_after : Precedes r t (segment y) (segment x) → ⊥

  -- no two of the first m entries are a race
  abbrev pub NoRace : ℕ → Type 0
  NoRace m = (x y : Stands t) → place x < place y → place y < m → Race x y → ⊥

  -- x is ordered before y: earlier on the same image, or in a segment that precedes y's (11.6.2)
  abbrev pub OrderedBefore : Stands t → Stands t → Type 0
  OrderedBefore x y = ((r.entries.image_of x.event ≡ r.entries.image_of y.event) × (place x < place y)) ⊎ Precedes r t (segment x) (segment y)

  -- no entry before y stands in a segment that y's precedes
  abbrev pub Ahead : Stands t → Type 0
  Ahead y = (x : Stands t) → place x < place y → Precedes r t (segment y) (segment x) → ⊥

  -- it defines the cell
  abbrev pub Writes : Stands t → Cell → Type 0
  Writes x c = Touches x c × (defines (k.class_of x.event) ≡ true)

  -- an access in a segment that precedes another access's stands before it
  abbrev pub Forward : Type 0
  Forward =
      (x y : Stands t) (c d : Cell) → is_access (k.class_of x.event) ≡ true → is_access (k.class_of y.event) ≡ true → Touches x c → Touches y d
      → Precedes r t (segment x) (segment y) → place x < place y

module _ {E V : Type 0} (r : EdgeRules E) (a : Accesses E V) (t : List E) where
  -- The read x gives the value of the write w, which is ordered before x; each other write that is ordered before x is
  -- ordered before w, or is atomic as w is and was made before it.
  pub record IsLatest (x w : Stands t) (c : Cell) : Type 0 where
    pub wrote : Writes r a.touching t w c
    pub ordered : OrderedBefore r a.touching t w x
    pub value : a.gives x.event c ≡ a.leaves w.before w.event c
    pub latest :
        (v : Stands t) → Writes r a.touching t v c → OrderedBefore r a.touching t v x → (place v ≡ place w → ⊥)
        → OrderedBefore r a.touching t v w ⊎ ((is_atomic (a.touching.class_of v.event) ≡ true) × (is_atomic (a.touching.class_of w.event) ≡ true) × (place v < place w))

  -- at each cell the read gives the value of the latest write that is ordered before it, or the first value where none
  -- is
  abbrev pub Justified : Stands t → Type 0
  Justified x =
      (c : Cell) → Touches r a.touching t x c
      → ((w : Stands t) × IsLatest x w c) ⊎ (((w : Stands t) → Writes r a.touching t w c → OrderedBefore r a.touching t w x → ⊥) × (a.gives x.event c ≡ a.first_value c))

  -- The read x gives the value of the write w, which is the last one of the cell that stands before x in the trace.
  pub record IsLast (x w : Stands t) (c : Cell) : Type 0 where
    pub wrote : Writes r a.touching t w c
    pub sooner : place w < place x
    pub value : a.gives x.event c ≡ a.leaves w.before w.event c
    pub last : (v : Stands t) → Writes r a.touching t v c → place v < place x → place v ≤ place w

  -- the rule of memory: each read gives the last write, or the first value where none stands before it
  abbrev pub ReadsLast : Type 0
  ReadsLast =
      (x : Stands t) (c : Cell) → a.touching.class_of x.event ≡ reads → Touches r a.touching t x c
      → ((w : Stands t) × IsLast x w c) ⊎ (((w : Stands t) → Writes r a.touching t w c → place w < place x → ⊥) × (a.gives x.event c ≡ a.first_value c))
