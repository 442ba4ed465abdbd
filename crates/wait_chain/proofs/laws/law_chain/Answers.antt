use Rattle.wait_chain.proofs.Chaining.{chain_there}
use Rattle.wait_chain.proofs.OneChain.{one_chain}
use Rattle.wait_chain.proofs.laws.law_chain.Goals as goal

pub returns-clause-there : goal.returns-clause-there
returns-clause-there c n t waits stuck = chain_there n t waits stuck

pub returns-clause-one : goal.returns-clause-one
returns-clause-one c n t waits stuck links other close closing g h = one_chain n t waits stuck links other close closing g h
