use Rattle.std.proofs.Common.{◌≡◌, ap, sym, subst, length, reverse}
use Rattle.std.specs.Prelude.{Option, Some, None, IfSome, IfNone}
use Rattle.image_acts.specs.Core.{Local}
use Rattle.image_code.specs.Table.{scope_of}
use Rattle.local_arrays.specs.Arrays.{elements_of}
use Rattle.local_arrays.specs.Frames.{Framed}
use Rattle.local_arrays.proofs.FrameLaws.{kept_get, kept_none, kept_within}
use Rattle.local_arrays.proofs.arrays.Arrays.elements.Goals as goal

pub elements-requires : goal.elements-requires
elements-requires c =
    kept_within (scope_of c.args.scope) c.args.x c.self.inside.main c.in-Some.k c.self.inside.base c.len.result (reverse c.self.inside.bases.items) (length c.self.inside.row.arrays) c.self.invariant.0 c.self.invariant.1 c.len.ensures c.in-Some.ensures.some

pub returns-in-None-clause-none : goal.returns-in-None-clause-none
returns-in-None-clause-none c =
    let f = ap (λ (a : Framed). a.frames) c.self.view_is in
    kept_none (scope_of c.args.scope) c.args.x c.self.inside.main c.self.inside.base c.len.result (reverse c.self.inside.bases.items) c.self.inside.row.arrays c.args.self.now.frames f c.self.invariant.0 c.self.invariant.1 c.len.ensures c.in-None.ensures.none

pub returns-in-Some-clause-some : goal.returns-in-Some-clause-some
returns-in-Some-clause-some c =
    let f = ap (λ (a : Framed). a.frames) c.self.view_is in
    subst (λ (o : Option Local). IfSome c.elements.result (λ xs. elements_of o ≡ Some xs.now)) (sym (kept_get (scope_of c.args.scope) c.args.x c.self.inside.main c.in-Some.k c.self.inside.base c.len.result (reverse c.self.inside.bases.items) c.self.inside.row.arrays c.args.self.now.frames f c.self.invariant.0 c.self.invariant.1 c.len.ensures c.in-Some.ensures.some)) c.elements.ensures.some

pub returns-in-Some-clause-none : goal.returns-in-Some-clause-none
returns-in-Some-clause-none c =
    let f = ap (λ (a : Framed). a.frames) c.self.view_is in
    subst (λ (o : Option Local). IfNone c.elements.result (o ≡ None)) (sym (kept_get (scope_of c.args.scope) c.args.x c.self.inside.main c.in-Some.k c.self.inside.base c.len.result (reverse c.self.inside.bases.items) c.self.inside.row.arrays c.args.self.now.frames f c.self.invariant.0 c.self.invariant.1 c.len.ensures c.in-Some.ensures.some)) c.elements.ensures.none
