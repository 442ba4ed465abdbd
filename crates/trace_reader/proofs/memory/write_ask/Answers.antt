use Rattle.std.proofs.Common.{◌∷◌, ◌++◌}
use Rattle.caf_events.specs.declared.ask.Ask.TheVariants as asks
use Rattle.trace_text.specs.TraceText.{values_text}
use Rattle.trace_reader.proofs.memory.write_ask.Goals as goal

pub returns : goal.returns
returns c span values behind has each e =
    let a = c.in_ok-span.ensures span (values_text values ++ (32 ∷ behind)) has e in
    let b = c.in_ok-values.ensures values behind each a.1 in
    (λ i. asks.Write c.args.owner (a.0 i) (b.0 i), b.1)
