use Rattle.std.proofs.Common.{◌∙◌, ◌<◌, ◌∷◌, [], ap, sym, subst, refl, ℕ, List}
use Rattle.std.specs.Prelude.{slice_set}
use Rattle.image_acts.specs.Places.{place_in}
use Rattle.local_arrays.specs.declared.row.Info.{Info}
use Rattle.local_arrays.specs.Arrays.{array_at, overwritten, HasCells}
use Rattle.local_arrays.specs.Rows.{Rowed, IsSpot}
use Rattle.local_arrays.proofs.RowLaws.{spot_within, spot_has, spot_written, over_fit, over_view, same_rowed}
use Rattle.local_arrays.proofs.row.Row.store.Goals as goal

pub write-requires : goal.write-requires
write-requires c =
    let s = subst (λ (xs : List Info). IsSpot xs c.args.k c.args.offset.now c.in_ok-at.at) c.deref-2.ensures.value c.in_ok-at.ensures.ok in
    spot_within c.self.inside.cells.items c.self.inside.infos.items c.args.k c.args.offset.now c.in_ok-at.at c.self.invariant.0 s

pub invariant_of-self : goal.invariant_of-self
invariant_of-self c =
    let s = subst (λ (xs : List Info). IsSpot xs c.args.k c.args.offset.now c.in_ok-at.at) c.deref-2.ensures.value c.in_ok-at.ensures.ok in (
      over_fit c.self.inside.cells.items c.write.new.cells.items c.self.inside.infos.items c.args.k s.info (place_in (c.args.offset.now ∷ [])) (c.args.value.now ∷ []) c.self.invariant.0 s.is_info
          (spot_written c.self.inside.cells.items c.write.new.cells.items c.self.inside.infos.items c.args.k c.args.offset.now c.in_ok-at.at c.args.value.now s c.write.ensures.items),
      subst (λ (n : ℕ). n < 4294967296) (sym c.write.ensures.capacity) c.self.invariant.1,
    )

pub returns-clause-there : goal.returns-clause-there
returns-clause-there c =
    let s = subst (λ (xs : List Info). IsSpot xs c.args.k c.args.offset.now c.in_ok-at.at) c.deref-2.ensures.value c.in_ok-at.ensures.ok in
    subst (λ (r : Rowed). HasCells (array_at c.args.k r.arrays) (place_in (c.args.offset.now ∷ []))) c.self.view_is
    (spot_has c.self.inside.cells.items c.self.inside.infos.items c.args.k c.args.offset.now c.in_ok-at.at c.self.invariant.0 s)

pub returns-clause-ok : goal.returns-clause-ok
returns-clause-ok c =
    let s = subst (λ (xs : List Info). IsSpot xs c.args.k c.args.offset.now c.in_ok-at.at) c.deref-2.ensures.value c.in_ok-at.ensures.ok in
    same_rowed _ _ _ _ _ _ (over_view c.self.inside.cells.items c.write.new.cells.items c.self.inside.infos.items c.args.k s.info (place_in (c.args.offset.now ∷ [])) (c.args.value.now ∷ []) c.self.invariant.0 s.is_info
    (spot_written c.self.inside.cells.items c.write.new.cells.items c.self.inside.infos.items c.args.k c.args.offset.now c.in_ok-at.at c.args.value.now s c.write.ensures.items)) refl c.write.ensures.capacity
    ∙ ap (λ (r : Rowed). record { arrays = slice_set r.arrays c.args.k (overwritten (place_in (c.args.offset.now ∷ [])) (c.args.value.now ∷ []) (array_at c.args.k r.arrays)); most = r.most; size = r.size }) c.self.view_is
