use Rattle.std.proofs.Common.{rules, ◌∷◌, [], ap, sym, subst, refl, length, reverse, vec_capacity, ℤ, w64, to_z, of_z}
use Rattle.std.specs.Prelude.{Option}
use Rattle.image_acts.specs.Core.{Local}
use Rattle.image_acts.specs.Places.{single}
use Rattle.image_code.specs.Table.{scope_of}
use Rattle.local_arrays.specs.Arrays.{array_at, HasNewElement}
use Rattle.local_arrays.specs.Frames.{Framed}
use Rattle.local_arrays.proofs.OffsetLaws.{kept}
use Rattle.local_arrays.proofs.FrameLaws.{kept_get, kept_within, kept_set}
use Rattle.local_arrays.proofs.arrays.Arrays.put_by_one.Goals as goal

pub put_by_one-requires : goal.put_by_one-requires
put_by_one-requires c =
    kept_within (scope_of c.args.scope) c.args.x c.self.inside.main c.in-Some.k c.self.inside.base c.len.result (reverse c.self.inside.bases.items) (length c.self.inside.row.arrays) c.self.invariant.0 c.self.invariant.1 c.len.ensures c.in-Some.ensures.some

pub returns-in-Some-clause-put : goal.returns-in-Some-clause-put
returns-in-Some-clause-put c = λ is.
    let f = ap (λ (a : Framed). a.frames) c.self.view_is in
    let p = c.put_by_one.ensures.put is in
    let there = subst (λ (o : Option Local). HasNewElement o (single c.args.subscript ∷ []) c.args.value p.0) (sym (kept_get (scope_of c.args.scope) c.args.x c.self.inside.main c.in-Some.k c.self.inside.base c.len.result (reverse c.self.inside.bases.items) c.self.inside.row.arrays c.args.self.now.frames f c.self.invariant.0 c.self.invariant.1 c.len.ensures c.in-Some.ensures.some))
    (subst (λ (z : ℤ). HasNewElement (array_at c.in-Some.k c.self.inside.row.arrays) (single c.args.subscript ∷ []) z p.0) (kept c.args.value (search rules)) (subst (λ (z : ℤ). HasNewElement (array_at c.in-Some.k c.self.inside.row.arrays) (single z ∷ []) (to_z w64 (of_z w64 c.args.value)) p.0) (kept c.args.subscript (search rules)) (p.1))) in
    let changed = kept_set (scope_of c.args.scope) c.args.x c.self.inside.main c.in-Some.k c.self.inside.base c.len.result (vec_capacity c.self.inside.bases) (reverse c.self.inside.bases.items) c.self.inside.row c.put_by_one.new.self p.0 p.0 c.args.self.now c.self.view_is c.self.invariant.0 c.self.invariant.1 c.len.ensures c.in-Some.ensures.some p.2 refl in
    (p.0, there, changed)
