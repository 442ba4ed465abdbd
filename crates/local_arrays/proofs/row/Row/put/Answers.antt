use Rattle.std.proofs.Common.{◌≡◌, ◌∙◌, ◌<◌, ap, sym, subst, refl, ℕ, List}
use Rattle.std.specs.Prelude.{slice_get, slice_set, Some}
use Rattle.image_acts.specs.Places.{place_in}
use Rattle.local_arrays.specs.declared.row.Info.{Info}
use Rattle.local_arrays.specs.Arrays.{array_at, overwritten, HasCells}
use Rattle.local_arrays.specs.Rows.{Rowed}
use Rattle.local_arrays.proofs.RowLaws.{within, few_cells, over_fit, over_view, same_rowed}
use Rattle.local_arrays.proofs.row.Row.put.Goals as goal

pub put_part-requires-clause-within : goal.put_part-requires-clause-within
put_part-requires-clause-within c =
    let e : slice_get c.self.inside.infos.items c.args.k ≡ Some c.info_at-info.result = ap (λ (xs : List Info). slice_get xs c.args.k) (sym c.deref.ensures.value) ∙ c.info_at-info.ensures in
    within c.self.inside.cells.items c.self.inside.infos.items c.args.k c.info_at-info.result c.self.invariant.0 e

pub put_part-requires-clause-few : goal.put_part-requires-clause-few
put_part-requires-clause-few c =
    let e : slice_get c.self.inside.infos.items c.args.k ≡ Some c.info_at-info.result = ap (λ (xs : List Info). slice_get xs c.args.k) (sym c.deref.ensures.value) ∙ c.info_at-info.ensures in
    few_cells c.self.inside.cells.items c.self.inside.infos.items c.args.k c.info_at-info.result (place_in c.args.place.now) c.self.invariant.0 e
    (subst (λ (r : Rowed). HasCells (array_at c.args.k r.arrays) (place_in c.args.place.now)) (sym c.self.view_is) c.requires.there)

pub invariant_of-self : goal.invariant_of-self
invariant_of-self c =
    let e : slice_get c.self.inside.infos.items c.args.k ≡ Some c.info_at-info.result = ap (λ (xs : List Info). slice_get xs c.args.k) (sym c.deref.ensures.value) ∙ c.info_at-info.ensures in (
      over_fit c.self.inside.cells.items c.put_part.new.cells.items c.self.inside.infos.items c.args.k c.info_at-info.result (place_in c.args.place.now) c.args.values.now c.self.invariant.0 e c.put_part.ensures.items,
      subst (λ (n : ℕ). n < 4294967296) (sym c.put_part.ensures.capacity) c.self.invariant.1,
    )

pub returns : goal.returns
returns c =
    let e : slice_get c.self.inside.infos.items c.args.k ≡ Some c.info_at-info.result = ap (λ (xs : List Info). slice_get xs c.args.k) (sym c.deref.ensures.value) ∙ c.info_at-info.ensures in
    same_rowed _ _ _ _ _ _ (over_view c.self.inside.cells.items c.put_part.new.cells.items c.self.inside.infos.items c.args.k c.info_at-info.result (place_in c.args.place.now) c.args.values.now c.self.invariant.0 e c.put_part.ensures.items) refl c.put_part.ensures.capacity
    ∙ ap (λ (r : Rowed). record { arrays = slice_set r.arrays c.args.k (overwritten (place_in c.args.place.now) c.args.values.now (array_at c.args.k r.arrays)); most = r.most; size = r.size }) c.self.view_is
