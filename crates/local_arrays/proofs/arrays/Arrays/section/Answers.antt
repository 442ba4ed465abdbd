use Rattle.std.proofs.Common.{◌≡◌, ap, sym, subst, length, reverse}
use Rattle.std.specs.Prelude.{Option, IfOk, IfErr}
use Rattle.walk_theory.specs.Terms.{found, at_fault}
use Rattle.image_acts.specs.Core.{Local}
use Rattle.image_acts.specs.Places.{subscripts_in, digits}
use Rattle.array_places.specs.Sections.{numbers_of}
use Rattle.image_code.specs.Table.{scope_of}
use Rattle.local_arrays.specs.Arrays.{place_found}
use Rattle.local_arrays.specs.Frames.{Framed}
use Rattle.local_arrays.proofs.FrameLaws.{kept_get, kept_none, kept_within}
use Rattle.local_arrays.proofs.arrays.Arrays.section.Goals as goal

pub section-requires : goal.section-requires
section-requires c =
    kept_within (scope_of c.args.scope) c.args.x c.self.inside.main c.in-Some.k c.self.inside.base c.len.result (reverse c.self.inside.bases.items) (length c.self.inside.row.arrays) c.self.invariant.0 c.self.invariant.1 c.len.ensures c.in-Some.ensures.some

pub returns-in-None-clause-faults : goal.returns-in-None-clause-faults
returns-in-None-clause-faults c =
    let f = ap (λ (a : Framed). a.frames) c.self.view_is in
    ap (λ (o : Option Local). numbers_of (place_found o (subscripts_in (digits c.args.form) c.args.numbers.now))) (kept_none (scope_of c.args.scope) c.args.x c.self.inside.main c.self.inside.base c.len.result (reverse c.self.inside.bases.items) c.self.inside.row.arrays c.args.self.now.frames f c.self.invariant.0 c.self.invariant.1 c.len.ensures c.in-None.ensures.none)

pub returns-in-Some-clause-found : goal.returns-in-Some-clause-found
returns-in-Some-clause-found c =
    let f = ap (λ (a : Framed). a.frames) c.self.view_is in
    subst (λ (o : Option Local). IfOk c.section.result (λ p. numbers_of (place_found o (subscripts_in (digits c.args.form) c.args.numbers.now)) ≡ found p)) (sym (kept_get (scope_of c.args.scope) c.args.x c.self.inside.main c.in-Some.k c.self.inside.base c.len.result (reverse c.self.inside.bases.items) c.self.inside.row.arrays c.args.self.now.frames f c.self.invariant.0 c.self.invariant.1 c.len.ensures c.in-Some.ensures.some)) c.section.ensures.found

pub returns-in-Some-clause-faults : goal.returns-in-Some-clause-faults
returns-in-Some-clause-faults c =
    let f = ap (λ (a : Framed). a.frames) c.self.view_is in
    subst (λ (o : Option Local). IfErr c.section.result (λ n. numbers_of (place_found o (subscripts_in (digits c.args.form) c.args.numbers.now)) ≡ at_fault n)) (sym (kept_get (scope_of c.args.scope) c.args.x c.self.inside.main c.in-Some.k c.self.inside.base c.len.result (reverse c.self.inside.bases.items) c.self.inside.row.arrays c.args.self.now.frames f c.self.invariant.0 c.self.invariant.1 c.len.ensures c.in-Some.ensures.some)) c.section.ensures.faults
