-- How the elements of an array are found at once.
use Rattle.std.proofs.Common.{◌≡◌, ◌+◌, ◌<◌, ℕ, ℤ, pos, List, ◌∷◌, [], length, refl, sym, subst, arith, slice_set, slice_index_or}
use Rattle.std.specs.Prelude.{slice_get, Option, Some}
use Rattle.walk_theory.specs.Terms.{found}
use Rattle.image_acts.specs.Core.{Local}
use Rattle.image_acts.specs.Places.{Subscript, place_in, place_within}
use Rattle.array_places.specs.Sections.{numbers_of}
use Rattle.local_arrays.specs.declared.reach.Reach.{Reach}
use Rattle.local_arrays.specs.declared.row.Info.{Info}
use Rattle.local_arrays.specs.Arrays.{array_at, overwritten, HasNewElement, IsElement, StandsAt}
use Rattle.local_arrays.specs.Rows.{Rowed, Fit, IsCell, IsOffset, IsReach, Reaches, locals_of}
use Rattle.local_arrays.proofs.RowLaws.{element_there, over_fit, over_view, reach_at, same_rowed, spot_has, spot_within, spot_written, there_local, within}

-- what is noted of an array
pub reached : (cells : List ℤ) (is : List Info) (k : ℕ) (i : Info) (r : Reach) → Fit cells is → slice_get is k ≡ Some i → i.reach ≡ r → IsReach r i.bounds i.size
reached cells is k i r f e h = subst (λ (x : Reach). IsReach x i.bounds i.size) h (reach_at is k i f.well e)

-- the cell of an element
module _ (cells : List ℤ) (is : List Info) (k : ℕ) (i : Info) (ps : List (ℤ × ℤ)) (ss : List Subscript) (f : Fit cells is) (e : slice_get is k ≡ Some i) (r : Reaches ps i.bounds i.size) (o : ℕ) (w : IsOffset ps ss o) where
  pub cell_small : i.start + o < 4294967296
  cell_small =
      let a = within cells is k i f e in
      let b = f.small in
      let c = w.inside in
      let d = r.full in
      omega arith

  stands : StandsAt (array_at k (locals_of cells is)) ss (pos o)
  stands =
      let a = there_local cells is k i r.there f e r.is_there in
      let b = subst (λ qs. numbers_of (place_within qs ss) ≡ found (pos o ∷ [])) (sym r.pairs) w.stands in
      subst (λ (x : Option Local). StandsAt x ss (pos o)) (sym a) b

  pub cell_is : (at : ℕ) → at ≡ i.start + o → IsCell cells is k ss at
  cell_is at h = record {
    offset = pos o;
    stands = stands;
    spot = record { info = i; is_info = e; there = r.there; is_there = r.is_there; is_at = h; inside = (let c = w.inside in let d = r.full in omega arith) };
  }

pub cell_within : (cells : List ℤ) (is : List Info) (k : ℕ) (ss : List Subscript) (at : ℕ) → Fit cells is → IsCell cells is k ss at → at < length cells
cell_within cells is k ss at f c = spot_within cells is k c.offset at f c.spot

pub cell_element : (cells : List ℤ) (is : List Info) (k : ℕ) (ss : List Subscript) (at : ℕ) → Fit cells is → IsCell cells is k ss at → IsElement (array_at k (locals_of cells is)) ss (slice_index_or cells at (pos 0))
cell_element cells is k ss at f c = (c.offset, c.stands, element_there cells is k c.offset at f c.spot)

-- another value in it
module _ (cells cells' : List ℤ) (is : List Info) (k : ℕ) (ss : List Subscript) (at : ℕ) (v : ℤ) (f : Fit cells is) (c : IsCell cells is k ss at) (e : cells' ≡ slice_set cells at v) where
  pub cell_fit : Fit cells' is
  cell_fit = over_fit cells cells' is k c.spot.info (place_in (c.offset ∷ [])) (v ∷ []) f c.spot.is_info (spot_written cells cells' is k c.offset at v c.spot e)

  abbrev new_local : Option Local
  new_local = overwritten (place_in (c.offset ∷ [])) (v ∷ []) (array_at k (locals_of cells is))

  pub cell_put : (most size room : ℕ) (r : Rowed) → record { arrays = locals_of cells is; most = most; size = size } ≡ r → room ≡ size
      → (b : Option Local) × HasNewElement (array_at k r.arrays) ss v b × ◌≡◌ {A = Rowed} (record { arrays = locals_of cells' is; most = most; size = room }) (record { arrays = slice_set r.arrays k b; most = r.most; size = r.size })
  cell_put most size room r h g =
      let has : HasNewElement (array_at k (locals_of cells is)) ss v new_local = (c.offset, c.stands, spot_has cells is k c.offset at f c.spot, refl) in
      let view = over_view cells cells' is k c.spot.info (place_in (c.offset ∷ [])) (v ∷ []) f c.spot.is_info (spot_written cells cells' is k c.offset at v c.spot e) in
      subst (λ (x : Rowed). (b : Option Local) × HasNewElement (array_at k x.arrays) ss v b × ◌≡◌ {A = Rowed} (record { arrays = locals_of cells' is; most = most; size = room }) (record { arrays = slice_set x.arrays k b; most = x.most; size = x.size })) h
      (new_local, has, same_rowed _ _ _ _ _ _ view refl g)
