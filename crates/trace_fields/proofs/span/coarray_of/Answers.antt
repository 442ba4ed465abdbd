use Rattle.std.proofs.Common.{Some, ap, sym, ◌∙◌}
use Rattle.trace_fields.proofs.Spans.{name_is}
use Rattle.trace_fields.proofs.span.coarray_of.Goals as goal

pub returns : goal.returns
returns c coarray h e = c.number_of.ensures coarray h.2 (h.1 ∙ ap Some (sym (e ∙ name_is c.args.names.now coarray h)))
