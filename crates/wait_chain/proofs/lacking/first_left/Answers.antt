use Rattle.std.proofs.Common.{sym, ◌∙◌, arith}
use Rattle.wait_chain.specs.Counts.{is_left}
use Rattle.wait_chain.proofs.Least.{first_least, no_more, none_least}
use Rattle.wait_chain.proofs.lacking.first_left.Goals as goal

pub returns-then-is_left : goal.returns-then-is_left
returns-then-is_left c = first_least (is_left c.args.before.now) c.args.n c.loop-number.number c.loop-number-test.true c.loop-number.invariant (sym c.is_left.ensures ∙ c.if-is_left.true)

pub loop-number-preserved : goal.loop-number-preserved
loop-number-preserved c = no_more (is_left c.args.before.now) c.loop-number.number c.loop-number.invariant (sym c.is_left.ensures ∙ c.if-is_left.false)

pub returns : goal.returns
returns c = let end = c.loop-number-test.false in none_least (is_left c.args.before.now) c.args.n c.loop-number.number (omega arith) c.loop-number.invariant
