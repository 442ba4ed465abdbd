use Rattle.std.proofs.Common.{ap, ◌∙◌}
use Rattle.trace_reader.specs.Reading.{span_ask}
use Rattle.trace_reader.proofs.memory.cells_ask.Goals as goal

pub returns : goal.returns
returns c span behind has e =
    let a = c.in_ok-span.ensures span behind has e in
    (c.ask_of_span.ensures ∙ ap (span_ask c.args.word c.args.owner) a.0, a.1)
