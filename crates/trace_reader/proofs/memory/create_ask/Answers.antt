use Rattle.std.proofs.Common.{◌∷◌, ◌++◌}
use Rattle.caf_events.specs.declared.ask.Ask.TheVariants as asks
use Rattle.trace_text.specs.TraceText.{number_text}
use Rattle.trace_reader.proofs.memory.create_ask.Goals as goal

pub returns : goal.returns
returns c coarray cells behind named half e =
    let a = c.next_coarray-coarray.ensures coarray (number_text cells ++ (32 ∷ behind)) named e in
    let b = c.next_half-cells.ensures cells behind half a.1 in
    (λ i. asks.Create c.args.owner (a.0 i) (b.0 i), b.1)
