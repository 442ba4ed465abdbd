use Rattle.image_state.proofs.KeptLaws.{locals_are}
use Rattle.image_state.proofs.state.ImageState.locals.Goals as goal

pub returns : goal.returns
returns c = locals_are c.self.inside c.args.self.now c.self.view_is c.self.invariant
