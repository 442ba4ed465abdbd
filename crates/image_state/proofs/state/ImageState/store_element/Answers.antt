use Rattle.std.proofs.Common.{◌≡◌, ◌∷◌, [], sym, subst}
use Rattle.std.specs.Prelude.{Option, OnOk, IfErr}
use Rattle.walk_theory.specs.Terms.{at_fault}
use Rattle.image_acts.specs.Core.{Local}
use Rattle.image_acts.specs.Places.{place_in}
use Rattle.image_code.specs.Table.{scope_of}
use Rattle.local_arrays.specs.Arrays.{HasCells, loaded, overwritten}
use Rattle.local_arrays.specs.Frames.{array_of}
use Rattle.local_arrays.proofs.FrameLaws.{on_ok}
use Rattle.image_state.proofs.KeptLaws.{array_is, invariant_tried, put_by}
use Rattle.image_state.proofs.state.ImageState.store_element.Goals as goal

pub invariant_of-self : goal.invariant_of-self
invariant_of-self c = invariant_tried c.self.inside c.args.self.now c.self.view_is c.self.invariant c.store.result (scope_of c.args.scope) c.args.x (overwritten (place_in (c.args.offset.now ∷ [])) (c.args.value.now ∷ []) (array_of (scope_of c.args.scope) c.args.x c.self.inside.locals.frames)) c.store.new.self c.store.ensures.ok c.store.ensures.kept

pub returns-clause-there : goal.returns-clause-there
returns-clause-there c = subst (λ (o : Option Local). OnOk c.store.result (HasCells o (place_in (c.args.offset.now ∷ [])))) (sym (array_is c.self.inside c.args.self.now c.self.view_is c.self.invariant (scope_of c.args.scope) c.args.x)) c.store.ensures.there

pub returns-clause-ok : goal.returns-clause-ok
returns-clause-ok c = on_ok c.store.result (λ e. put_by c.self.inside c.args.self.now c.self.view_is c.self.invariant (scope_of c.args.scope) c.args.x (overwritten (place_in (c.args.offset.now ∷ [])) (c.args.value.now ∷ [])) c.store.new.self e) c.store.ensures.ok

pub returns-clause-err : goal.returns-clause-err
returns-clause-err c = subst (λ (o : Option Local). IfErr c.store.result (λ n. loaded o (place_in (c.args.offset.now ∷ [])) ≡ at_fault n)) (sym (array_is c.self.inside c.args.self.now c.self.view_is c.self.invariant (scope_of c.args.scope) c.args.x)) c.store.ensures.err
