-- What a recorder keeps of one cell: a few marks of the entries so far that touched it.
use Rattle.std.specs.Prelude.{ℕ, ◌≤◌, ◌≡◌, ◌&&◌, ◌||◌, not, Bool, true, false, nat_eq, nat_lt, cond, List, [], ◌∷◌, ◌++◌}
use Rattle.std.specs.List.{filter}
use Rattle.order_theory.specs.Order.{Segment, Entries, EdgeRules, Within, Reaches, Begun, Precedes, segment_of}
use Rattle.order_theory.specs.Races.{Cell, touches_cell, Touching, Stands, Class, reads, writes, looks, changes, makes, signals, meets}

-- An entry that touched the cell: its segment and its class.
pub record Mark : Type 0 where
  pub segment : Segment
  pub class : Class

-- whether a mark of the first class may take the place of one of the second: then it meets each class that that one
-- meets
abbrev pub outranks : Class → Class → Bool
outranks makes m = true
outranks writes makes = false
outranks writes m = true
outranks reads reads = true
outranks reads m = false
outranks looks looks = true
outranks looks m = false
outranks changes changes = true
outranks changes m = false
outranks signals signals = true
outranks signals m = false

-- two marks of one image
abbrev pub same_image : Mark → Mark → Bool
same_image k q = nat_eq k.segment.image q.segment.image

-- k meets q, is of another image, and q's clock c doesn't cover it
abbrev pub clashes : (ℕ → ℕ) → Mark → Mark → Bool
clashes c q k = meets k.class q.class && not (same_image k q) && not (nat_lt k.segment.number (c k.segment.image))

-- one of these marks clashes with q
abbrev pub any_clash : (ℕ → ℕ) → Mark → List Mark → Bool
any_clash c q [] = false
any_clash c q (k ∷ ks) = clashes c q k || any_clash c q ks

-- k is kept beside q, unless q outranks it and either is of its image or meets it
abbrev pub stays : Mark → Mark → Bool
stays q k = not (outranks q.class k.class && (same_image k q || meets k.class q.class))

-- the marks that are kept once q is noted
abbrev pub noted : Mark → List Mark → List Mark
noted q ks = filter (stays q) ks ++ q ∷ []

-- m's segment is k's or precedes it, and k meets each class that m meets
abbrev pub Under : {E : Type 0} → EdgeRules E → List E → Mark → Mark → Type 0
Under r t m k = Reaches r t m.segment k.segment × ((x : Class) → meets m.class x ≡ true → meets k.class x ≡ true)

-- The marks that are kept tell as much as all that were seen.
pub record Keeps {E : Type 0} (r : EdgeRules E) (t : List E) (seen kept : List Mark) : Type 0 where
  pub were_seen : (k : Mark) → Within k kept → Within k seen
  pub enough : (m : Mark) → Within m seen → (k : Mark) × Within k kept × Under r t m k
  pub begun : (m : Mark) → Within m seen → Begun r.entries t m.segment

-- What is known where q is to be noted: q's segment has begun, the kept marks suffice, and those of q's image that were
-- seen are of its segment or of earlier ones.
pub record Noting {E : Type 0} (r : EdgeRules E) (t : List E) (q : Mark) (seen kept : List Mark) : Type 0 where
  pub here : Begun r.entries t q.segment
  pub keeps : Keeps r t seen kept
  pub own : (m : Mark) → Within m seen → m.segment.image ≡ q.segment.image → m.segment.number ≤ q.segment.number

-- some mark so far meets q, is of another image, and its segment doesn't precede q's
abbrev pub Unordered : {E : Type 0} → EdgeRules E → List E → List Mark → Mark → Type 0
Unordered r t seen q =
    (m : Mark) × Within m seen × (meets m.class q.class ≡ true) × (m.segment.image ≡ q.segment.image → ⊥)
    × (Precedes r t m.segment q.segment → ⊥)

module _ {E : Type 0} (k : Entries E) (a : Touching E) where
  -- the mark of an entry
  abbrev pub mark_of : List E → E → Mark
  mark_of b e = record { segment = segment_of k b e; class = a.class_of e }

  -- the marks of the entries es, after the entries b, that touch the cell
  abbrev pub seen_from : Cell → List E → List E → List Mark
  seen_from c b [] = []
  seen_from c b (e ∷ es) = cond (touches_cell c (a.cells b e)) (mark_of b e ∷ []) [] ++ seen_from c (b ++ e ∷ []) es

  -- the marks of the entries so far that touch the cell
  abbrev pub seen : Cell → List E → List Mark
  seen c g = seen_from c [] g

  -- The mark is that of an entry of t that touches the cell.
  pub record Marked (c : Cell) (t : List E) (m : Mark) : Type 0 where
    pub at : Stands t
    pub touches : Within c (a.cells at.before at.event)
    pub is : m ≡ mark_of at.before at.event
