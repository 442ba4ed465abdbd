use Rattle.std.proofs.Common.{sym, ◌∙◌}
use Rattle.std.proofs.lemmas.Result.{IfOk-weaker}
use Rattle.trace_reader.proofs.trace.Reading.take_line.Goals as goal

pub returns-then-is_of_trace : goal.returns-then-is_of_trace
returns-then-is_of_trace c = IfOk-weaker c.take_step.result _ _ (λ yes h done read. h done (sym c.is_of_trace.ensures
    ∙ c.if-is_of_trace.true) read) c.take_step.ensures

pub returns : goal.returns
returns c done read = c.in_ok-take_other.ensures done c.args.names.now (sym c.is_of_trace.ensures
    ∙ c.if-is_of_trace.false) read
