use Rattle.std.proofs.Common.{sym, ◌∙◌, arith}
use Rattle.std.proofs.lemmas.Result.{IfOk-weaker}
use Rattle.trace_reader.proofs.Seconds.{second_is, not_second}
use Rattle.trace_reader.proofs.lines.says_second.Goals as goal

pub returns-then-images-lt1 : goal.returns-then-images-lt1
returns-then-images-lt1 c = sym (not_second c.args.line.now c.images_in-images.result c.images_in-images.ensures
    (λ least most. omega arith))

pub returns-then-images-gt256 : goal.returns-then-images-gt256
returns-then-images-gt256 c = sym (not_second c.args.line.now c.images_in-images.result c.images_in-images.ensures
    (λ least most. omega arith))

pub returns : goal.returns
returns c = IfOk-weaker c.says_images.result _ _ (λ yes e. e ∙ second_is c.args.line.now c.images_in-images.result
    c.images_in-images.ensures (omega arith) (omega arith)) c.says_images.ensures
