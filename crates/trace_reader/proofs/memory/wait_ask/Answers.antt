use Rattle.std.proofs.Common.{◌∷◌, ◌++◌}
use Rattle.caf_events.specs.declared.ask.Ask.TheVariants as asks
use Rattle.trace_text.specs.TraceText.{number_text}
use Rattle.trace_reader.proofs.memory.wait_ask.Goals as goal

pub returns : goal.returns
returns c span threshold behind has long e =
    let a = c.in_ok-span.ensures span (number_text threshold ++ (32 ∷ behind)) has e in
    let b = c.next_long-threshold.ensures threshold behind long a.1 in
    (λ i. asks.Wait c.args.owner (a.0 i) (b.0 i), b.1)
