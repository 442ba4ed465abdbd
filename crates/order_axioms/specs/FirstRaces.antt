-- The first race of a trace, and what is allowed before it (ISO/IEC 1539-1:2018, 11.6.2).
use Rattle.std.specs.Prelude.{ℕ, ◌<◌, ◌≤◌, ◌≡◌, List, length}
use Rattle.order_theory.specs.Order.{EdgeRules}
use Rattle.order_theory.specs.Races.{Cell, reads, Touching, Accesses, Stands, place, SharedCell, Race, NoRace, Justified}

module _ {E : Type 0} (r : EdgeRules E) (a : Touching E) (t : List E) where
  -- no entry of the trace races with another
  abbrev pub HasNoRace : Type 0
  HasNoRace = NoRace r a t (length t)

  -- The entries at places p and q, p first, are a race, and this cell is the least one that both touch. None of the
  -- entries before q has an earlier partner, and none before p is one of q's.
  pub record IsFirstRace (p q : ℕ) (least : Cell) : Type 0 where
    pub first : Stands t
    pub second : Stands t
    pub first_place : place first ≡ p
    pub second_place : place second ≡ q
    pub in_order : p < q
    pub race : Race r a t first second
    pub earliest_second : NoRace r a t q
    pub earliest_first : (z : Stands t) → place z < p → Race r a t z second → ⊥
    pub shared : SharedCell r a t first second least
    pub least_shared : (c : Cell) → SharedCell r a t first second c → (c.owner ≡ least.owner) × (c.coarray ≡ least.coarray) × (least.offset ≤ c.offset)

-- The trace is allowed as far as its first m entries go: no two of them are a race, and each reference among them that
-- isn't atomic is justified.
pub record Allowed {E V : Type 0} (r : EdgeRules E) (a : Accesses E V) (t : List E) (m : ℕ) : Type 0 where
  pub no_race : NoRace r a.touching t m
  pub justified : (x : Stands t) → a.touching.class_of x.event ≡ reads → place x < m → Justified r a t x
