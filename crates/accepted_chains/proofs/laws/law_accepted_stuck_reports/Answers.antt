use Rattle.accepted_chains.proofs.Chains.{accepted_chain}
use Rattle.accepted_chains.proofs.laws.law_accepted_stuck_reports.Goals as goal

pub returns : goal.returns
returns c x p accepts limit n fails_at words order r waits few report is known links close told =
    accepted_chain x p accepts limit n fails_at words order r waits few report is known links close told
