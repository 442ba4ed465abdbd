use Rattle.std.proofs.Common.{rules, ◌∷◌, [], sym, subst, ℤ, w64, to_z, of_z}
use Rattle.std.specs.Prelude.{Option}
use Rattle.image_acts.specs.Core.{Local}
use Rattle.image_acts.specs.Places.{single}
use Rattle.image_code.specs.Table.{scope_of}
use Rattle.local_arrays.specs.Arrays.{HasNewElement}
use Rattle.local_arrays.specs.Frames.{array_of}
use Rattle.local_arrays.proofs.OffsetLaws.{kept}
use Rattle.image_state.proofs.KeptLaws.{array_is, invariant_told, put}
use Rattle.image_state.proofs.state.ImageState.put_by_one.Goals as goal

pub invariant_of-self : goal.invariant_of-self
invariant_of-self c = invariant_told c.self.inside c.args.self.now c.self.view_is c.self.invariant c.put_by_one.result (scope_of c.args.scope) c.args.x (λ b. HasNewElement (array_of (scope_of c.args.scope) c.args.x c.self.inside.locals.frames) (single (to_z w64 (of_z w64 c.args.subscript)) ∷ []) (to_z w64 (of_z w64 c.args.value)) b) c.put_by_one.new.self c.put_by_one.ensures.put c.put_by_one.ensures.kept

pub returns-clause-put : goal.returns-clause-put
returns-clause-put c = λ is.
    let p = c.put_by_one.ensures.put is in
    let there = subst (λ (o : Option Local). HasNewElement o (single c.args.subscript ∷ []) c.args.value p.0) (sym (array_is c.self.inside c.args.self.now c.self.view_is c.self.invariant (scope_of c.args.scope) c.args.x))
    (subst (λ (z : ℤ). HasNewElement (array_of (scope_of c.args.scope) c.args.x c.self.inside.locals.frames) (single c.args.subscript ∷ []) z p.0) (kept c.args.value (search rules)) (subst (λ (z : ℤ). HasNewElement (array_of (scope_of c.args.scope) c.args.x c.self.inside.locals.frames) (single z ∷ []) (to_z w64 (of_z w64 c.args.value)) p.0) (kept c.args.subscript (search rules)) (p.1))) in
    (p.0, there, put c.self.inside c.args.self.now c.self.view_is c.self.invariant (scope_of c.args.scope) c.args.x p.0 c.put_by_one.new.self p.2)
