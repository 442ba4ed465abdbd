use Rattle.trace_forms.proofs.Answering.{has_form}
use Rattle.trace_forms.proofs.laws.law_answer_has_form.Goals as goal

pub returns : goal.returns
returns c = has_form
