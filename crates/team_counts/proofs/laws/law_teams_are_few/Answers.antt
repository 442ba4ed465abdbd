use Rattle.team_counts.proofs.Counts.{teams_few}
use Rattle.team_counts.proofs.laws.law_teams_are_few.Goals as goal

pub returns : goal.returns
returns c n h = teams_few n h
