use Rattle.direct_teams.proofs.Teams.{team_law}
use Rattle.direct_teams.proofs.laws.law_team_construct_does_what_it_means.Goals as goal

pub returns : goal.returns
returns c = team_law
