use Rattle.std.proofs.Common.{◌≡◌, ◌-◌, length, take, drop, ap, ◌∙◌, arith, codes, decimal, take_all}
use Rattle.std.proofs.Common.{length-append}
use Rattle.trace_reader.proofs.Seconds.{text_is}
use Rattle.trace_reader.proofs.lines.images_in.Goals as goal

pub returns-then-text-lt15 : goal.returns-then-text-lt15
returns-then-text-lt15 c n h is =
    let e = text_is n h _ _ _ c.cut_at.ensures is in
    absurd (omega (arith, ap length e, length-append (codes "trace 2 images ") (decimal n)))

pub returns : goal.returns
returns c n h is =
    let text = c.cut_at.result.0.now in
    let e = text_is n h _ _ _ c.cut_at.ensures is in
    let number : take (length text - 15) (drop 15 text) ≡ decimal n = ap (λ z. take (length text - 15) (drop 15 z)) e
    ∙ take_all (length text - 15) (decimal n)
    (omega (arith, ap length e, length-append (codes "trace 2 images ") (decimal n))) in
    c.half_of.ensures n h number
