use Rattle.std.proofs.Common.{arith}
use Rattle.run_outlook.specs.ImageSets.{has}
use Rattle.run_outlook.proofs.Bytes.{byte_more}
use Rattle.run_outlook.proofs.image_set.ImageSet.byte_of.Goals as goal

pub loop-from-preserved : goal.loop-from-preserved
loop-from-preserved c =
    let more = byte_more (has c.args.self.now.words.items) c.loop-from.from in
    let counted = c.loop-from.invariant.counted in
    let whole = c.loop-from.invariant.whole in
    let count = c.byte_count-count.ensures in
    record { whole = omega arith; counted = omega arith }
