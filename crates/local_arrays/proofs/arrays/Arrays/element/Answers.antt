use Rattle.std.proofs.Common.{◌≡◌, ◌∷◌, [], ap, sym, subst, length, reverse}
use Rattle.std.specs.Prelude.{Option, IfOk, IfErr}
use Rattle.walk_theory.specs.Terms.{found, at_fault}
use Rattle.image_acts.specs.Core.{Local}
use Rattle.image_acts.specs.Places.{place_in}
use Rattle.image_code.specs.Table.{scope_of}
use Rattle.local_arrays.specs.Arrays.{loaded}
use Rattle.local_arrays.specs.Frames.{Framed}
use Rattle.local_arrays.proofs.FrameLaws.{kept_get, kept_none, kept_within}
use Rattle.local_arrays.proofs.arrays.Arrays.element.Goals as goal

pub element-requires : goal.element-requires
element-requires c =
    kept_within (scope_of c.args.scope) c.args.x c.self.inside.main c.in-Some.k c.self.inside.base c.len.result (reverse c.self.inside.bases.items) (length c.self.inside.row.arrays) c.self.invariant.0 c.self.invariant.1 c.len.ensures c.in-Some.ensures.some

pub returns-in-None-clause-err : goal.returns-in-None-clause-err
returns-in-None-clause-err c =
    let f = ap (λ (a : Framed). a.frames) c.self.view_is in
    ap (λ (o : Option Local). loaded o (place_in (c.args.offset.now ∷ []))) (kept_none (scope_of c.args.scope) c.args.x c.self.inside.main c.self.inside.base c.len.result (reverse c.self.inside.bases.items) c.self.inside.row.arrays c.args.self.now.frames f c.self.invariant.0 c.self.invariant.1 c.len.ensures c.in-None.ensures.none)

pub returns-in-Some-clause-ok : goal.returns-in-Some-clause-ok
returns-in-Some-clause-ok c =
    let f = ap (λ (a : Framed). a.frames) c.self.view_is in
    subst (λ (o : Option Local). IfOk c.element.result (λ v. loaded o (place_in (c.args.offset.now ∷ [])) ≡ found (v ∷ []))) (sym (kept_get (scope_of c.args.scope) c.args.x c.self.inside.main c.in-Some.k c.self.inside.base c.len.result (reverse c.self.inside.bases.items) c.self.inside.row.arrays c.args.self.now.frames f c.self.invariant.0 c.self.invariant.1 c.len.ensures c.in-Some.ensures.some)) c.element.ensures.ok

pub returns-in-Some-clause-err : goal.returns-in-Some-clause-err
returns-in-Some-clause-err c =
    let f = ap (λ (a : Framed). a.frames) c.self.view_is in
    subst (λ (o : Option Local). IfErr c.element.result (λ n. loaded o (place_in (c.args.offset.now ∷ [])) ≡ at_fault n)) (sym (kept_get (scope_of c.args.scope) c.args.x c.self.inside.main c.in-Some.k c.self.inside.base c.len.result (reverse c.self.inside.bases.items) c.self.inside.row.arrays c.args.self.now.frames f c.self.invariant.0 c.self.invariant.1 c.len.ensures c.in-Some.ensures.some)) c.element.ensures.err
