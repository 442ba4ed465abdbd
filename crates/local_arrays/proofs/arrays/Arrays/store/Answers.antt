use Rattle.std.proofs.Common.{◌≡◌, ◌∷◌, [], ap, sym, subst, length, reverse, vec_capacity}
use Rattle.std.specs.Prelude.{Option, IfErr, OnOk}
use Rattle.walk_theory.specs.Terms.{at_fault}
use Rattle.image_acts.specs.Core.{Local}
use Rattle.image_acts.specs.Places.{place_in}
use Rattle.image_code.specs.Table.{scope_of}
use Rattle.local_arrays.specs.Arrays.{array_at, loaded, overwritten, HasCells}
use Rattle.local_arrays.specs.Frames.{Framed, array_of}
use Rattle.local_arrays.proofs.FrameLaws.{kept_get, kept_none, kept_within, kept_set, on_ok}
use Rattle.local_arrays.proofs.arrays.Arrays.store.Goals as goal

pub store-requires : goal.store-requires
store-requires c =
    kept_within (scope_of c.args.scope) c.args.x c.self.inside.main c.in-Some.k c.self.inside.base c.len.result (reverse c.self.inside.bases.items) (length c.self.inside.row.arrays) c.self.invariant.0 c.self.invariant.1 c.len.ensures c.in-Some.ensures.some

pub returns-in-None-clause-err : goal.returns-in-None-clause-err
returns-in-None-clause-err c =
    let f = ap (λ (a : Framed). a.frames) c.self.view_is in
    ap (λ (o : Option Local). loaded o (place_in (c.args.offset.now ∷ []))) (kept_none (scope_of c.args.scope) c.args.x c.self.inside.main c.self.inside.base c.len.result (reverse c.self.inside.bases.items) c.self.inside.row.arrays c.args.self.now.frames f c.self.invariant.0 c.self.invariant.1 c.len.ensures c.in-None.ensures.none)

pub returns-in-Some-clause-there : goal.returns-in-Some-clause-there
returns-in-Some-clause-there c =
    let f = ap (λ (a : Framed). a.frames) c.self.view_is in
    subst (λ (o : Option Local). OnOk c.store.result (HasCells o (place_in (c.args.offset.now ∷ [])))) (sym (kept_get (scope_of c.args.scope) c.args.x c.self.inside.main c.in-Some.k c.self.inside.base c.len.result (reverse c.self.inside.bases.items) c.self.inside.row.arrays c.args.self.now.frames f c.self.invariant.0 c.self.invariant.1 c.len.ensures c.in-Some.ensures.some)) c.store.ensures.there

pub returns-in-Some-clause-ok : goal.returns-in-Some-clause-ok
returns-in-Some-clause-ok c =
    let f = ap (λ (a : Framed). a.frames) c.self.view_is in
    on_ok c.store.result (λ e. kept_set (scope_of c.args.scope) c.args.x c.self.inside.main c.in-Some.k c.self.inside.base c.len.result (vec_capacity c.self.inside.bases) (reverse c.self.inside.bases.items) c.self.inside.row c.store.new.self (overwritten (place_in (c.args.offset.now ∷ [])) (c.args.value.now ∷ []) (array_at c.in-Some.k c.self.inside.row.arrays)) (overwritten (place_in (c.args.offset.now ∷ [])) (c.args.value.now ∷ []) (array_of (scope_of c.args.scope) c.args.x c.args.self.now.frames)) c.args.self.now c.self.view_is c.self.invariant.0 c.self.invariant.1 c.len.ensures c.in-Some.ensures.some e (ap (λ (o : Option Local). (overwritten (place_in (c.args.offset.now ∷ [])) (c.args.value.now ∷ []) o)) (sym (kept_get (scope_of c.args.scope) c.args.x c.self.inside.main c.in-Some.k c.self.inside.base c.len.result (reverse c.self.inside.bases.items) c.self.inside.row.arrays c.args.self.now.frames f c.self.invariant.0 c.self.invariant.1 c.len.ensures c.in-Some.ensures.some)))) c.store.ensures.ok

pub returns-in-Some-clause-err : goal.returns-in-Some-clause-err
returns-in-Some-clause-err c =
    let f = ap (λ (a : Framed). a.frames) c.self.view_is in
    subst (λ (o : Option Local). IfErr c.store.result (λ n. loaded o (place_in (c.args.offset.now ∷ [])) ≡ at_fault n)) (sym (kept_get (scope_of c.args.scope) c.args.x c.self.inside.main c.in-Some.k c.self.inside.base c.len.result (reverse c.self.inside.bases.items) c.self.inside.row.arrays c.args.self.now.frames f c.self.invariant.0 c.self.invariant.1 c.len.ensures c.in-Some.ensures.some)) c.store.ensures.err
