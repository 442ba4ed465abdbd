use Rattle.trace_forms.proofs.Once.{none_of_bad, one_bad}
use Rattle.trace_forms.proofs.laws.law_bad_line.Goals as goal

pub returns : goal.returns
returns c = record {
  none = none_of_bad;
  one = one_bad;
}
