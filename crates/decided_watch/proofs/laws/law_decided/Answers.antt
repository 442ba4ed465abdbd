use Rattle.decided_watch.proofs.Deciding.{decided, no_reason}
use Rattle.decided_watch.proofs.laws.law_decided.Goals as goal

pub returns-clause-decided : goal.returns-clause-decided
returns-clause-decided c n t race none = decided n t race none

pub returns-clause-back : goal.returns-clause-back
returns-clause-back c n t whole x = no_reason n t whole x
