use Rattle.core_runs.proofs.Lawfuls.{lawful_trace}
use Rattle.core_runs.proofs.laws.law_lawful.Goals as goal

pub returns : goal.returns
returns g c = lawful_trace g.M.Walker.step g.M.Walker.hears
