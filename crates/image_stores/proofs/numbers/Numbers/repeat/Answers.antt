use Rattle.std.proofs.Common.{◌∙◌, ap, arith}
use Rattle.image_stores.specs.Numbers.{Pile}
use Rattle.image_stores.proofs.NumberLaws.{repeated}
use Rattle.image_stores.proofs.numbers.Numbers.repeat.Goals as goal

pub loop-i-preserved : goal.loop-i-preserved
loop-i-preserved c = record {
  values = ap (λ (x : Pile). x.values) c.push_again.ensures ∙ repeated c.args.self.now.values c.args.depth c.args.n c.loop-i.i c.loop-i.self.values (omega arith) c.requires.there c.loop-i.invariant.values;
  size = ap (λ (x : Pile). x.size) c.push_again.ensures ∙ c.loop-i.invariant.size;
}
