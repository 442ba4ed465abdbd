use Rattle.core_runs.proofs.Lawfuls.{core_run_lawful}
use Rattle.core_runs.proofs.laws.law_core_run_lawful.Goals as goal

pub returns : goal.returns
returns g c = core_run_lawful g.M.Walker.step g.M.Walker.hears
