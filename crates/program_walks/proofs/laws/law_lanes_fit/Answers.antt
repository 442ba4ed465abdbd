use Rattle.program_walks.proofs.Fits.{lanes_fit, lanes_fit_without}
use Rattle.program_walks.proofs.laws.law_lanes_fit.Goals as goal

pub returns-clause-all : goal.returns-clause-all
returns-clause-all g c coarrays n first fails_at words order all = lanes_fit g.M.Walker.step g.M.Walker.hears coarrays n first fails_at words order all

pub returns-clause-no_team : goal.returns-clause-no_team
returns-clause-no_team g c coarrays n first fails_at words order hear due = lanes_fit_without g.M.Walker.step g.M.Walker.hears coarrays n first fails_at words order hear due
