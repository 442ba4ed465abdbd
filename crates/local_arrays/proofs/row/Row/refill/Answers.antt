use Rattle.std.proofs.Common.{◌≡◌, ◌∙◌, ◌<◌, ap, sym, arith, subst, refl, ℕ, List}
use Rattle.std.specs.Prelude.{slice_get, slice_set, Some}
use Rattle.image_acts.specs.Frames.{local_size}
use Rattle.local_arrays.specs.declared.row.Info.{Info}
use Rattle.local_arrays.specs.Arrays.{array_at, refilled}
use Rattle.local_arrays.specs.Rows.{Rowed}
use Rattle.local_arrays.proofs.RowLaws.{within, same_size, refill_fit, refill_view, same_rowed}
use Rattle.local_arrays.proofs.row.Row.refill.Goals as goal

pub copy_part-requires : goal.copy_part-requires
copy_part-requires c =
    let e : slice_get c.self.inside.infos.items c.args.k ≡ Some c.info_at-info.result = ap (λ (xs : List Info). slice_get xs c.args.k) (sym c.deref.ensures.value) ∙ c.info_at-info.ensures in
    let w = within c.self.inside.cells.items c.self.inside.infos.items c.args.k c.info_at-info.result c.self.invariant.0 e in
    let s = same_size c.self.inside.cells.items c.self.inside.infos.items c.args.k c.info_at-info.result c.self.invariant.0 e in
    let m = ap (λ (r : Rowed). local_size (array_at c.args.k r.arrays)) c.self.view_is ∙ c.requires.as_many in
    record { within = omega arith }

pub invariant_of-self : goal.invariant_of-self
invariant_of-self c =
    let e : slice_get c.self.inside.infos.items c.args.k ≡ Some c.info_at-info.result = ap (λ (xs : List Info). slice_get xs c.args.k) (sym c.deref.ensures.value) ∙ c.info_at-info.ensures in
    let s = same_size c.self.inside.cells.items c.self.inside.infos.items c.args.k c.info_at-info.result c.self.invariant.0 e in
    let m = ap (λ (r : Rowed). local_size (array_at c.args.k r.arrays)) c.self.view_is ∙ c.requires.as_many in (
      refill_fit c.self.inside.cells.items c.copy_part.new.cells.items c.self.inside.infos.items c.args.k c.info_at-info.result c.args.values.now c.self.invariant.0 e (sym m ∙ s) c.copy_part.ensures.items,
      subst (λ (n : ℕ). n < 4294967296) (sym c.copy_part.ensures.capacity) c.self.invariant.1,
    )

pub returns : goal.returns
returns c =
    let e : slice_get c.self.inside.infos.items c.args.k ≡ Some c.info_at-info.result = ap (λ (xs : List Info). slice_get xs c.args.k) (sym c.deref.ensures.value) ∙ c.info_at-info.ensures in
    let s = same_size c.self.inside.cells.items c.self.inside.infos.items c.args.k c.info_at-info.result c.self.invariant.0 e in
    let m = ap (λ (r : Rowed). local_size (array_at c.args.k r.arrays)) c.self.view_is ∙ c.requires.as_many in
    same_rowed _ _ _ _ _ _ (refill_view c.self.inside.cells.items c.copy_part.new.cells.items c.self.inside.infos.items c.args.k c.info_at-info.result c.args.values.now c.self.invariant.0 e (sym m ∙ s) c.copy_part.ensures.items) refl c.copy_part.ensures.capacity
    ∙ ap (λ (r : Rowed). record { arrays = slice_set r.arrays c.args.k (refilled c.args.values.now (array_at c.args.k r.arrays)); most = r.most; size = r.size }) c.self.view_is
