use Rattle.image_acts.proofs.Teams.{left_again}
use Rattle.image_acts.proofs.laws.law_end_team_leaves_the_team.Goals as goal

pub returns : goal.returns
returns c = left_again
