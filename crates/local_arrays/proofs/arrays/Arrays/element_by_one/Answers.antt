use Rattle.std.proofs.Common.{rules, ◌∷◌, [], ap, sym, subst, length, reverse, ℤ}
use Rattle.std.specs.Prelude.{Option, IfSome}
use Rattle.image_acts.specs.Core.{Local}
use Rattle.image_acts.specs.Places.{single}
use Rattle.image_code.specs.Table.{scope_of}
use Rattle.local_arrays.specs.Arrays.{array_at, IsElement}
use Rattle.local_arrays.specs.Frames.{Framed}
use Rattle.local_arrays.proofs.OffsetLaws.{kept}
use Rattle.local_arrays.proofs.FrameLaws.{kept_get, kept_within}
use Rattle.local_arrays.proofs.arrays.Arrays.element_by_one.Goals as goal

pub element_by_one-requires : goal.element_by_one-requires
element_by_one-requires c =
    kept_within (scope_of c.args.scope) c.args.x c.self.inside.main c.in-Some.k c.self.inside.base c.len.result (reverse c.self.inside.bases.items) (length c.self.inside.row.arrays) c.self.invariant.0 c.self.invariant.1 c.len.ensures c.in-Some.ensures.some

pub returns-in-Some : goal.returns-in-Some
returns-in-Some c =
    let f = ap (λ (a : Framed). a.frames) c.self.view_is in
    subst (λ (o : Option Local). IfSome c.element_by_one.result (IsElement o (single c.args.subscript ∷ []))) (sym (kept_get (scope_of c.args.scope) c.args.x c.self.inside.main c.in-Some.k c.self.inside.base c.len.result (reverse c.self.inside.bases.items) c.self.inside.row.arrays c.args.self.now.frames f c.self.invariant.0 c.self.invariant.1 c.len.ensures c.in-Some.ensures.some))
    (subst (λ (z : ℤ). IfSome c.element_by_one.result (IsElement (array_at c.in-Some.k c.self.inside.row.arrays) (single z ∷ []))) (kept c.args.subscript (search rules)) (c.element_by_one.ensures))
