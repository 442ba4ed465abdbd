use Rattle.order_axioms.proofs.AllLaws.{forward_of}
use Rattle.order_axioms.proofs.Quiet.{lawful_quiet}
use Rattle.order_axioms.proofs.laws.law_forward.Goals as goal

pub returns : goal.returns
returns c s n t lawful = forward_of n t (lawful_quiet s n t lawful)
