-- The first race of a short trace, worked out from the definitions: for tries of them, and for nothing else.
use Rattle.std.specs.Prelude.{ℕ, suc, max, Bool, not, ◌&&◌, nat_eq, nat_lt, cond, List, [], ◌∷◌, ◌++◌, map, get_or, Option, Some, None}
use Rattle.core_runs.specs.Beginnings.{numbers_to}
use Rattle.caf_events.specs.declared.event.Entry.{Entry}
use Rattle.order_theory.specs.Order.{Segment, EdgeRules, segment_of, segment_after}
use Rattle.order_theory.specs.Races.{Cell, Class, touches_cell, meets}
use Rattle.order_axioms.specs.Touching.{cells_of, class_of}

-- a segment, and how many segments of each image precede it
pub record Known : Type 0 where
  pub segment : Segment
  pub counts : List ℕ

abbrev pub same_segment : Segment → Segment → Bool
same_segment a b = nat_eq a.image b.image && nat_eq a.number b.number

abbrev pub count_in : List Known → Segment → ℕ → ℕ
count_in [] b i = 0
count_in (k ∷ ks) b i = cond (same_segment k.segment b) (get_or k.counts i 0) (count_in ks b (i))

abbrev pub joined_at : List Known → List Segment → ℕ → ℕ
joined_at ks [] i = 0
joined_at ks (s ∷ ss) i = max (max (count_in ks s i) (cond (nat_eq s.image i) (suc s.number) 0)) (joined_at ks ss i)

module _ (n : ℕ) (r : EdgeRules Entry) where
  abbrev pub known_from : List Known → List Entry → List Entry → List Known
  known_from ks b [] = ks
  known_from ks b (e ∷ es) =
      known_from (cond (r.entries.completes e) (record { segment = segment_after r.entries b e; counts = map (joined_at ks (r.sources b e)) (0 ∷ numbers_to n) } ∷ ks) ks) (b ++ e ∷ []) es

-- an entry with its place, segment, class and cells
pub record Standing : Type 0 where
  pub at : ℕ
  pub segment : Segment
  pub class : Class
  pub cells : List Cell

abbrev pub standing_from : EdgeRules Entry → ℕ → List Entry → List Entry → List Standing
standing_from r p b [] = []
standing_from r p b (e ∷ es) = record { at = p; segment = segment_of r.entries b e; class = class_of e; cells = cells_of b e } ∷ standing_from r (suc p) (b ++ e ∷ []) es

abbrev pub precedes : List Known → Segment → Segment → Bool
precedes ks a b = nat_lt a.number (count_in ks b a.image)

abbrev pub shared_in : List Cell → List Cell → Option ℕ
shared_in [] ds = None
shared_in (c ∷ cs) ds = cond (touches_cell c ds) (Some c.offset) (shared_in cs ds)

abbrev pub is_race : List Known → Standing → Standing → Bool
is_race ks x y =
    not (nat_eq x.segment.image y.segment.image) && meets x.class y.class && not (precedes ks x.segment y.segment) && not (precedes ks y.segment x.segment)

abbrev pub found : List Known → Standing → Standing → Option ℕ → Option (ℕ × ℕ × ℕ) → Option (ℕ × ℕ × ℕ)
found ks x y None other = other
found ks x y (Some o) other = cond (is_race ks x y) (Some (x.at, y.at, o)) other

abbrev pub partner_in : List Known → Standing → List Standing → Option (ℕ × ℕ × ℕ)
partner_in ks y [] = None
partner_in ks y (x ∷ xs) = found ks x y (shared_in x.cells y.cells) (partner_in ks y xs)

abbrev pub or_later : Option (ℕ × ℕ × ℕ) → Option (ℕ × ℕ × ℕ) → Option (ℕ × ℕ × ℕ)
or_later None y = y
or_later (Some x) y = Some x

abbrev pub race_from : List Known → List Standing → List Standing → Option (ℕ × ℕ × ℕ)
race_from ks before [] = None
race_from ks before (y ∷ ys) = or_later (partner_in ks y before) (race_from ks (before ++ y ∷ []) ys)

-- the places of the first race and the offset of a cell that both touch
abbrev pub first_race : ℕ → EdgeRules Entry → List Entry → Option (ℕ × ℕ × ℕ)
first_race n r t = race_from (known_from n r [] [] t) [] (standing_from r 0 [] t)
