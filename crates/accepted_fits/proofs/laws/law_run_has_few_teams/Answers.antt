use Rattle.accepted_fits.proofs.Teams.{run_few, shares_few}
use Rattle.accepted_fits.proofs.laws.law_run_has_few_teams.Goals as goal

pub returns-clause-few : goal.returns-clause-few
returns-clause-few c p limit coarrays n fails_at words t core few = run_few p limit coarrays n fails_at words t core few

pub returns-clause-shares : goal.returns-clause-shares
returns-clause-shares c n few = shares_few n few
