use Rattle.direct_laws.proofs.Values.{expression_law}
use Rattle.direct_laws.proofs.laws.law_expression_has_its_value.Goals as goal

pub returns : goal.returns
returns c = expression_law
