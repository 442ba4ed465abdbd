use Rattle.std.proofs.Common.{◌≡◌, ◌-◌, length, refl, ap, ◌∙◌, flat_map, codes}
use Rattle.caf_events.specs.declared.ask.Ask.TheVariants as asks
use Rattle.trace_text.specs.TraceText.{escaped}
use Rattle.trace_fields.proofs.Printing.{print_front, print_end}
use Rattle.trace_fields.proofs.escapes.print_ask.Goals as goal

pub returns : goal.returns
returns c text e =
    let all = c.args.rest.now.now in
    let end = c.saturating_sub-end.result in
    let at : end ≡ length all - 5 = c.saturating_sub-end.ensures in
    let before : c.saturating_sub.result ≡ end - 1 = c.saturating_sub.ensures in
    let front = print_front all (flat_map escaped text) (codes "> ok\n") c.saturating_sub.result end e refl at before in
    let last = print_end all (flat_map escaped text) (codes "> ok\n") end e refl at in
    (ap asks.Print (c.from_vec.ensures ∙ c.in_ok-text.ensures text front), last)
