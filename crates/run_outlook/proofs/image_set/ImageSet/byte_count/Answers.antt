use Rattle.std.proofs.Common.{arith}
use Rattle.run_outlook.proofs.Bytes.{byte_is}
use Rattle.run_outlook.proofs.image_set.ImageSet.byte_count.Goals as goal

pub returns : goal.returns
returns c = byte_is c.args.self.now.words.items c.args.from c.index.result.now (omega arith) c.index.ensures c.requires.whole
