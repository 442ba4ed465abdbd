use Rattle.made_code.proofs.Made.{never_bad}
use Rattle.made_code.proofs.laws.law_ranked_code_is_never_bad.Goals as goal

pub returns : goal.returns
returns c = never_bad
