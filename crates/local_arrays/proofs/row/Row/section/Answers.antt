use Rattle.std.proofs.Common.{◌≡◌, ◌∙◌, ap, sym, subst, List}
use Rattle.std.specs.Prelude.{slice_get, Option, Some, IfOk, IfErr}
use Rattle.walk_theory.specs.Terms.{found, at_fault}
use Rattle.image_acts.specs.Core.{Local}
use Rattle.image_acts.specs.Places.{subscripts_in, digits}
use Rattle.array_places.specs.Sections.{numbers_of}
use Rattle.local_arrays.specs.declared.row.Info.{Info}
use Rattle.local_arrays.specs.Arrays.{array_at, place_found}
use Rattle.local_arrays.specs.Rows.{Rowed}
use Rattle.local_arrays.proofs.RowLaws.{bounds_there, missing_local, there_local}
use Rattle.local_arrays.proofs.row.Row.section.Goals as goal

pub place-requires : goal.place-requires
place-requires c =
    let e : slice_get c.self.inside.infos.items c.args.k ≡ Some c.info_of.result.now = ap (λ (xs : List Info). slice_get xs c.args.k) (sym c.deref.ensures.value) ∙ c.info_of.ensures in
    bounds_there c.self.inside.infos.items c.args.k c.info_of.result.now c.in-Some.bounds c.self.invariant.0.well e c.in-Some.is

pub returns-in-None-clause-faults : goal.returns-in-None-clause-faults
returns-in-None-clause-faults c =
    let e : slice_get c.self.inside.infos.items c.args.k ≡ Some c.info_of.result.now = ap (λ (xs : List Info). slice_get xs c.args.k) (sym c.deref.ensures.value) ∙ c.info_of.ensures in
    let v = ap (λ (r : Rowed). array_at c.args.k r.arrays) (sym c.self.view_is) in
    ap (λ (o : Option Local). numbers_of (place_found o (subscripts_in (digits c.args.form) c.args.numbers.now))) (v ∙ missing_local c.self.inside.cells.items c.self.inside.infos.items c.args.k c.info_of.result.now c.self.invariant.0 e c.in-None.is)

pub returns-in-Some-clause-found : goal.returns-in-Some-clause-found
returns-in-Some-clause-found c =
    let e : slice_get c.self.inside.infos.items c.args.k ≡ Some c.info_of.result.now = ap (λ (xs : List Info). slice_get xs c.args.k) (sym c.deref.ensures.value) ∙ c.info_of.ensures in
    let v = ap (λ (r : Rowed). array_at c.args.k r.arrays) (sym c.self.view_is) in
    let t = there_local c.self.inside.cells.items c.self.inside.infos.items c.args.k c.info_of.result.now c.in-Some.bounds c.self.invariant.0 e c.in-Some.is in
    subst (λ (o : Option Local). IfOk c.place.result (λ p. numbers_of (place_found o (subscripts_in (digits c.args.form) c.args.numbers.now)) ≡ found p)) (sym (v ∙ t)) c.place.ensures.found

pub returns-in-Some-clause-faults : goal.returns-in-Some-clause-faults
returns-in-Some-clause-faults c =
    let e : slice_get c.self.inside.infos.items c.args.k ≡ Some c.info_of.result.now = ap (λ (xs : List Info). slice_get xs c.args.k) (sym c.deref.ensures.value) ∙ c.info_of.ensures in
    let v = ap (λ (r : Rowed). array_at c.args.k r.arrays) (sym c.self.view_is) in
    let t = there_local c.self.inside.cells.items c.self.inside.infos.items c.args.k c.info_of.result.now c.in-Some.bounds c.self.invariant.0 e c.in-Some.is in
    subst (λ (o : Option Local). IfErr c.place.result (λ n. numbers_of (place_found o (subscripts_in (digits c.args.form) c.args.numbers.now)) ≡ at_fault n)) (sym (v ∙ t)) c.place.ensures.faults
