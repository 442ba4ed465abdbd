-- Segments, and which of them precedes which, told by a trace: the list of all entries of a run, of any type.
use Rattle.std.specs.Prelude.{ℕ, suc, ◌+◌, ◌≤◌, ◌≡◌, ◌⊎◌, ◌&&◌, Bool, true, nat_eq, cond, List, [], ◌∷◌, ◌++◌}

-- What one image executes between two of its completing entries (ISO/IEC 1539-1:2018, 11.6.2); numbers count from 0.
pub record Segment : Type 0 where
  pub image : ℕ
  pub number : ℕ

-- What is needed of entries to tell segments: whose they are, and which complete a segment (11.6.1).
pub record Entries (E : Type 0) : Type 0 where
  pub image_of : E → ℕ
  pub completes : E → Bool

-- `sources g e`: the segments that the segment after e comes directly after, where g are the entries before e and e
-- completes a segment.
pub record EdgeRules (E : Type 0) : Type 0 where
  pub entries : Entries E
  pub sources : List E → E → List Segment

-- it is one of these
abbrev pub Within : {A : Type 0} → A → List A → Type 0
Within a [] = ⊥
Within a (x ∷ xs) = (a ≡ x) ⊎ Within a xs

-- how many segments of an image these entries complete
abbrev pub done : {E : Type 0} → Entries E → ℕ → List E → ℕ
done r i [] = 0
done r i (e ∷ es) = cond (nat_eq (r.image_of e) i && r.completes e) 1 0 + done r i es

-- the segment in which e stands, after the entries g
abbrev pub segment_of : {E : Type 0} → Entries E → List E → E → Segment
segment_of r g e = record { image = r.image_of e; number = done r (r.image_of e) g }

-- the segment that begins right after e
abbrev pub segment_after : {E : Type 0} → Entries E → List E → E → Segment
segment_after r g e = record { image = r.image_of e; number = suc (done r (r.image_of e) g) }

-- a segment that has begun by the end of these entries
abbrev pub Begun : {E : Type 0} → Entries E → List E → Segment → Type 0
Begun r g a = a.number ≤ done r a.image g

-- An edge from a to b in the trace t: b begins after an entry of t that has a among its sources.
pub record Edge {E : Type 0} (r : EdgeRules E) (t : List E) (a b : Segment) : Type 0 where
  pub before : List E
  pub event : E
  pub rest : List E
  pub split : t ≡ before ++ event ∷ rest
  pub completing : r.entries.completes event ≡ true
  pub source : Within a (r.sources before event)
  pub begins : b ≡ segment_after r.entries before event

-- a, ms and b are a list of at least two segments, each next pair an edge
abbrev pub Linked : (Segment → Segment → Type 0) → Segment → List Segment → Segment → Type 0
Linked edge a [] b = edge a b
Linked edge a (m ∷ ms) b = edge a m × Linked edge m ms b

-- segment a precedes segment b (11.6.2): some edges lead from a to b
abbrev pub Precedes : {E : Type 0} → EdgeRules E → List E → Segment → Segment → Type 0
Precedes r t a b = (ms : List Segment) × Linked (Edge r t) a ms b

-- a is b or precedes it
abbrev pub Reaches : {E : Type 0} → EdgeRules E → List E → Segment → Segment → Type 0
Reaches r t a b = (a ≡ b) ⊎ Precedes r t a b

-- What is asked of rules. Each source of an entry has begun before it, and the entry's own segment is a source.
pub record Sound {E : Type 0} (r : EdgeRules E) : Type 0 where
  pub known : (g : List E) (e : E) (a : Segment) → Within a (r.sources g e) → Begun r.entries g a
  pub own : (g : List E) (e : E) → Within (segment_of r.entries g e) (r.sources g e)
