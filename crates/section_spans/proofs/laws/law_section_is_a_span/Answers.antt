use Rattle.section_spans.proofs.Spans.{section_span}
use Rattle.section_spans.proofs.laws.law_section_is_a_span.Goals as goal

pub returns : goal.returns
returns c coarray bs ss p small e some few = section_span coarray bs ss p small e some few
