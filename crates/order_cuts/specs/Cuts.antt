-- A cut of a trace: another list of entries, of which each image's are the first of its entries in the trace. So it is
-- with another run of the same images, as far as that one went. Segments are ISO/IEC 1539-1:2018, 11.6.2; the word is
-- this project's own.
use Rattle.std.specs.Prelude.{ℕ, ◌<◌, ◌≡◌, true, List, [], ◌++◌, length, map}
use Rattle.order_theory.specs.Order.{Segment, Within}
use Rattle.order_theory.specs.Races.{Stands, Touching, NoRace}
use Rattle.order_theory.specs.Acts.{Act, View, completing, edge_rules}
use Rattle.order_theory.specs.Facts.{AccessesCell, Pauses, own_list}

-- What two runs can have in common of an entry: all but where it stands among the entries of other images (its stamp).
-- The act is told by it.
pub record Likeness {E : Type 0} (v : View E) (S : Type 0) : Type 0 where
  pub mark : E → S
  pub act_by : S → Act
  pub tells : (e : E) → v.act e ≡ act_by (mark e)

module _ {E S : Type 0} (v : View E) (k : Likeness v S) where
  -- what an image's own entries are, as far as runs have it in common
  abbrev pub marks : ℕ → List E → List S
  marks i t = map k.mark (own_list v i t)

  -- f follows t: each image's entries in f are the first ones of its entries in t
  pub record Follows (t f : List E) : Type 0 where
    pub left : ℕ → List S
    pub splits : (i : ℕ) → marks i t ≡ marks i f ++ left i

  -- how many entries of its image stand before it
  abbrev pub own_place : {t : List E} → Stands t → ℕ
  own_place x = length (own_list v (v.image x.event) x.before)

  -- the entry x of t is one of those that f has
  abbrev pub IsInside : {t : List E} → (f : List E) → Stands t → Type 0
  IsInside f x = own_place x < length (own_list v (v.image x.event) f)

  -- x is the entry of t that its image makes next behind f
  abbrev pub IsNext : {t : List E} → (f : List E) → Stands t → Type 0
  IsNext f x = own_place x ≡ length (own_list v (v.image x.event) f)

  -- the entry y of f is the entry x of t: the same one of the same image
  pub record IsSame {t f : List E} (x : Stands t) (y : Stands f) : Type 0 where
    pub image : v.image x.event ≡ v.image y.event
    pub own : own_place x ≡ own_place y

  -- Each completing entry that both have has in f all the sources that it has in t: whoever waits for others has heard
  -- of the same ones, whatever the order was.
  abbrev pub KeepsSources : List E → List E → Type 0
  KeepsSources t f =
      (x : Stands t) (y : Stands f) (a : Segment) → IsSame x y → completing (v.act x.event) ≡ true
      → Within a ((edge_rules v).sources x.before x.event) → Within a ((edge_rules v).sources y.before y.event)

  -- no status of these entries speaks of a failed image (11.6.11)
  abbrev pub NoneSpeaks : List E → Type 0
  NoneSpeaks f = (y : Stands f) → v.speaks y.before y.event ≡ []

  -- What the laws ask of a trace t and a cut f of it: images that wait make no access, t has no race, f's completing
  -- entries have the sources that they have in t, and no status in f speaks of a failed image.
  pub record IsCut (touching : Touching E) (t f : List E) : Type 0 where
    pub follows : Follows t f
    pub keeps : KeepsSources t f
    pub silent : NoneSpeaks f
    pub quiet : Pauses v (AccessesCell touching) t
    pub clean : NoRace (edge_rules v) touching t (length t)
