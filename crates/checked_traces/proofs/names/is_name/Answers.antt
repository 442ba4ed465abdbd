use Rattle.std.proofs.Common.{◌≡◌, ◌<◌, length, arith, sym, ◌∙◌}
use Rattle.std.proofs.lemmas.Bool.Decides.{nat_tests}
use Rattle.checked_traces.proofs.names.is_name.Goals as goal

pub returns : goal.returns
returns c =
    let some = sym c.is_empty.ensures ∙ c.if-is_empty.false in
    let full : 0 < length c.args.text.now = grind (arith, nat_tests) in
    (λ yes. record { some = full; bytes = sym c.are_name_bytes.ensures ∙ yes }, λ is. c.are_name_bytes.ensures ∙ is.bytes)
