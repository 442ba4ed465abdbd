use Rattle.std.proofs.Common.{◌≡◌, ◌∙◌, ap, sym, List, ℤ}
use Rattle.std.specs.Prelude.{slice_get, Some}
use Rattle.local_arrays.specs.declared.row.Info.{Info}
use Rattle.local_arrays.specs.Arrays.{array_at, bounds_in}
use Rattle.local_arrays.specs.Rows.{Rowed}
use Rattle.local_arrays.proofs.RowLaws.{bounds_there, missing_local, there_local}
use Rattle.local_arrays.proofs.row.Row.bounds.Goals as goal

pub as_slice-requires : goal.as_slice-requires
as_slice-requires c =
    let e : slice_get c.self.inside.infos.items c.args.k ≡ Some c.info_of.result.now = ap (λ (xs : List Info). slice_get xs c.args.k) (sym c.deref.ensures.value) ∙ c.info_of.ensures in
    bounds_there c.self.inside.infos.items c.args.k c.info_of.result.now c.in-Some.bounds c.self.invariant.0.well e c.in-Some.is

pub returns-in-None-clause-none : goal.returns-in-None-clause-none
returns-in-None-clause-none c =
    let e : slice_get c.self.inside.infos.items c.args.k ≡ Some c.info_of.result.now = ap (λ (xs : List Info). slice_get xs c.args.k) (sym c.deref.ensures.value) ∙ c.info_of.ensures in
    let v = ap (λ (r : Rowed). array_at c.args.k r.arrays) (sym c.self.view_is) in
    v ∙ missing_local c.self.inside.cells.items c.self.inside.infos.items c.args.k c.info_of.result.now c.self.invariant.0 e c.in-None.is

pub returns-in-Some-clause-some : goal.returns-in-Some-clause-some
returns-in-Some-clause-some c =
    let e : slice_get c.self.inside.infos.items c.args.k ≡ Some c.info_of.result.now = ap (λ (xs : List Info). slice_get xs c.args.k) (sym c.deref.ensures.value) ∙ c.info_of.ensures in
    let v = ap (λ (r : Rowed). array_at c.args.k r.arrays) (sym c.self.view_is) in
    let t = there_local c.self.inside.cells.items c.self.inside.infos.items c.args.k c.info_of.result.now c.in-Some.bounds c.self.invariant.0 e c.in-Some.is in
    ap bounds_in (v ∙ t) ∙ ap (λ (ps : List (ℤ × ℤ)). Some ps) (sym c.as_slice.ensures.pairs)
