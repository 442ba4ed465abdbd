use Rattle.std.specs.Prelude.{None}
use Rattle.image_code.specs.Table.{scope_of}
use Rattle.image_state.proofs.KeptLaws.{invariant_put, put}
use Rattle.image_state.proofs.state.ImageState.take_away.Goals as goal

pub invariant_of-self : goal.invariant_of-self
invariant_of-self c = invariant_put c.self.inside c.args.self.now c.self.view_is c.self.invariant (scope_of c.args.scope) c.args.x None c.take_away.new.self c.take_away.ensures

pub returns : goal.returns
returns c = put c.self.inside c.args.self.now c.self.view_is c.self.invariant (scope_of c.args.scope) c.args.x None c.take_away.new.self c.take_away.ensures
