use Rattle.trace_forms.proofs.Once.{written_front, none_later}
use Rattle.trace_forms.proofs.laws.law_front_written.Goals as goal

pub returns : goal.returns
returns c = record {
  front = written_front;
  later = none_later;
}
