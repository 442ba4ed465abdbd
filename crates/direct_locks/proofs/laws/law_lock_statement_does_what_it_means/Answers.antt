use Rattle.direct_locks.proofs.Locking.{lock_law}
use Rattle.direct_locks.proofs.laws.law_lock_statement_does_what_it_means.Goals as goal

pub returns : goal.returns
returns c = lock_law
