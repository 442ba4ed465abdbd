use Rattle.wait_chain.proofs.Chaining.{told_there, told_chain}
use Rattle.wait_chain.proofs.OneTold.{one_told}
use Rattle.wait_chain.proofs.laws.law_told_chain.Goals as goal

pub returns-clause-there : goal.returns-clause-there
returns-clause-there c n t waits = told_there n t waits

pub returns-clause-one : goal.returns-clause-one
returns-clause-one c n t waits links other close closing g h = one_told n t waits links other close closing g h

pub returns-clause-stuck : goal.returns-clause-stuck
returns-clause-stuck c n t waits stuck links close told = told_chain n t waits stuck links close told
