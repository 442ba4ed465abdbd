use Rattle.std.proofs.Common.{sym}
use Rattle.expr_code.specs.Environments.{environment}
use Rattle.control_code.proofs.Control.{allocatable_at}
use Rattle.control_code.proofs.image_control.is_allocatable.Goals as goal

pub returns : goal.returns
unfolding environment
returns c = rw (c.is_allocatable_in.ensures, c.as_slice.ensures.value) (sym (allocatable_at (environment c.args.env.now) c.args.env.now.checked.now.main.variables.items c.args.variable))
