use Rattle.std.specs.Prelude.{[]}
use Rattle.image_code.proofs.Paths.{shape_is}
use Rattle.image_code.proofs.finish.shape_at.Goals as goal

pub returns : goal.returns
returns c = shape_is c.args.code.now c.args.p c.step_at-step.result c.step_shape.result c.step_at-step.ensures (c.step_shape.ensures [])
