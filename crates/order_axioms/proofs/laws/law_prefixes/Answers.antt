use Rattle.order_axioms.proofs.AllLaws.{prefixes_of}
use Rattle.order_axioms.proofs.laws.law_prefixes.Goals as goal

pub returns : goal.returns
returns c = prefixes_of
