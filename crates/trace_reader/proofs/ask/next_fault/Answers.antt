use Rattle.std.proofs.Common.{ap, ◌∙◌}
use Rattle.caf_events.specs.declared.ask.Ask.TheVariants as asks
use Rattle.trace_text.specs.Words.{fault_word}
use Rattle.trace_forms.proofs.Words.{fault_field}
use Rattle.trace_fields.specs.Words.{fault_by}
use Rattle.trace_fields.proofs.Cut.{found}
use Rattle.trace_fields.proofs.Parts.{no_blank}
use Rattle.trace_reader.proofs.Boards.{fault_back}
use Rattle.trace_reader.proofs.ask.next_fault.Goals as goal

pub returns : goal.returns
returns c kind behind e =
    let at = found 32 _ _ _ (fault_word kind) behind c.next_field.ensures
    (no_blank (fault_word kind) (fault_field.inside kind tt)) e in
    (ap asks.Fault (c.fault_named-kind.ensures ∙ ap fault_by at.0 ∙ fault_back kind), at.1)
