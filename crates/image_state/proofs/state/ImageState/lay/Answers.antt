use Rattle.std.specs.Prelude.{Some}
use Rattle.image_acts.specs.Frames.{pairs_in, zeros_in}
use Rattle.image_code.specs.Table.{scope_of}
use Rattle.local_arrays.proofs.FrameLaws.{on_ok}
use Rattle.image_state.proofs.KeptLaws.{invariant_tried, put, fits, crowded}
use Rattle.image_state.proofs.state.ImageState.lay.Goals as goal

pub invariant_of-self : goal.invariant_of-self
invariant_of-self c = invariant_tried c.self.inside c.args.self.now c.self.view_is c.self.invariant c.lay.result (scope_of c.args.scope) c.args.x (Some (zeros_in (pairs_in c.args.numbers.now))) c.lay.new.self c.lay.ensures.ok c.lay.ensures.kept

pub returns-clause-ok : goal.returns-clause-ok
returns-clause-ok c = on_ok c.lay.result (λ e. put c.self.inside c.args.self.now c.self.view_is c.self.invariant (scope_of c.args.scope) c.args.x (Some (zeros_in (pairs_in c.args.numbers.now))) c.lay.new.self e) c.lay.ensures.ok

pub returns-clause-room : goal.returns-clause-room
returns-clause-room c = fits c.self.inside c.args.self.now c.self.view_is c.self.invariant c.lay.result (scope_of c.args.scope) c.args.x (Some (zeros_in (pairs_in c.args.numbers.now))) c.lay.ensures.room

pub returns-clause-full : goal.returns-clause-full
returns-clause-full c = crowded c.self.inside c.args.self.now c.self.view_is c.self.invariant c.lay.result (scope_of c.args.scope) c.args.x (Some (zeros_in (pairs_in c.args.numbers.now))) c.lay.ensures.full
