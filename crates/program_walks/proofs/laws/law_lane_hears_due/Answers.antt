use Rattle.program_walks.proofs.Hearing.{hears_due, hears_no_team}
use Rattle.program_walks.proofs.laws.law_lane_hears_due.Goals as goal

pub returns-clause-all : goal.returns-clause-all
returns-clause-all g c = hears_due g.M.Walker.step g.M.Walker.hears

pub returns-clause-no_team : goal.returns-clause-no_team
returns-clause-no_team g c = hears_no_team g.M.Walker.step g.M.Walker.hears
