use Rattle.std.proofs.Common.{arith}
use Rattle.run_outlook.proofs.Bits.{has_either}
use Rattle.run_outlook.proofs.image_set.ImageSet.insert_all.Goals as goal

pub returns-clause-both : goal.returns-clause-both
returns-clause-both c = has_either c.loop-k.self.words.items c.args.self.now.words.items c.args.more.now.words.items c.loop-k.invariant.length c.requires (λ k h. c.loop-k.invariant.done k (omega arith))
