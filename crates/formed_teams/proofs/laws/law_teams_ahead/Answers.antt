use Rattle.formed_teams.proofs.TeamsAhead.{new_teams, teams_front, made_same}
use Rattle.formed_teams.proofs.laws.law_teams_ahead.Goals as goal

pub returns-clause-teams : goal.returns-clause-teams
returns-clause-teams c s n t g run_t run ahead = (new_teams s n t g run_t run ahead, teams_front s n t g run_t run ahead)

pub returns-clause-made : goal.returns-clause-made
returns-clause-made c s n t g run_t run ahead team k done = made_same s n t g run_t run ahead team k done
