use Rattle.std.proofs.Common.{◌≡◌, Ok, ◌∙◌, arith, decimal}
use Rattle.std.proofs.lemmas.Grind.{common_steps}
use Rattle.std.proofs.lemmas.Fmt.{parse-decimal, IsAscii-decimal}
use Rattle.std.proofs.lemmas.Str.{IsUtf8-from_ascii}
use Rattle.trace_fields.proofs.numbers.number_of.Goals as goal

pub returns-in_default : goal.returns-in_default
returns-in_default c n small is = absurd (c.in_default.ensures.cases.0 (rw is (IsUtf8-from_ascii (decimal n)
    (IsAscii-decimal n small))))

pub returns : goal.returns
returns c n small is =
    let text : c.in-Ok.text.now ≡ decimal n = c.in-Ok.ensures.cases.0 ∙ is in
    let read : c.parse.result
    ≡ Ok n = parse-decimal 64 n c.in-Ok.text.now c.parse.result small small text c.parse.ensures.value.0 in
    grind (arith, common_steps, read, c.ok.ensures.value, c.ok.ensures.variant)
