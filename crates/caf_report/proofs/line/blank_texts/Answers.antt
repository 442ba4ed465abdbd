use Rattle.std.proofs.Common.{[], ◌∷◌, length, length-append, ap, sym, subst, arith}
use Rattle.caf_report.specs.Texts.{HavePrinted}
use Rattle.caf_report.proofs.Gathering.{blank_more}
use Rattle.caf_report.proofs.line.blank_texts.Goals as goal

pub loop-image-preserved : goal.loop-image-preserved
loop-image-preserved c =
    let items = ap length c.in_ok-push.ensures.items in
    let more = length-append c.loop-image.texts.items (c.new.result ∷ []) in
    let count = c.loop-image.invariant.count in
    record {
      count = omega arith;
      blank = subst (HavePrinted 1 []) (sym c.in_ok-push.ensures.items) (blank_more 1 c.loop-image.texts.items c.new.result c.loop-image.invariant.blank c.new.ensures.items);
    }
