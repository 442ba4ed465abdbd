use Rattle.std.proofs.Common.{arith}
use Rattle.run_outlook.proofs.Bits.{none_here, lowest_here, lowest_there}
use Rattle.run_outlook.proofs.image_set.ImageSet.next.Goals as goal

pub returns-then-word-ne0 : goal.returns-then-word-ne0
returns-then-word-ne0 c = lowest_here c.args.self.now.words.items c.args.from c.index.result.now (omega arith) c.index.ensures (omega arith) (omega arith)

pub loop-at-init : goal.loop-at-init
loop-at-init c = none_here c.args.self.now.words.items c.args.from c.index.result.now (omega arith) c.index.ensures (omega arith) (omega arith)

pub returns-then-word-ne0-2 : goal.returns-then-word-ne0-2
returns-then-word-ne0-2 c = lowest_there c.args.self.now.words.items c.args.from c.loop-at.at c.index-word.result.now (omega arith) c.index-word.ensures (omega arith) (omega arith) (omega arith) c.loop-at.invariant
