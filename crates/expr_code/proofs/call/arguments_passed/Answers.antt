use Rattle.expr_code.proofs.Calls.{passed_all}
use Rattle.expr_code.proofs.call.arguments_passed.Goals as goal

pub returns : goal.returns
returns c = passed_all _ c.args.variables.now c.args.dummies.now c.loop-argument.n c.loop-argument.argument-index c.args.arguments.now _ c.loop-argument.invariant c.loop-argument-test.false
