use Rattle.team_laws.proofs.Teams.{teams_stay}
use Rattle.team_laws.proofs.laws.law_teams_stay.Goals as goal

pub returns : goal.returns
returns c n before after = teams_stay n before after
