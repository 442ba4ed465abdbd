use Rattle.core_runs.specs.Moments.{rules}
use Rattle.stamp_limits.proofs.Bounds.{number_is_bound, others_low, all_low}
use Rattle.stamp_limits.proofs.laws.law_bound_is_kept.Goals as goal

pub returns-clause-numbers : goal.returns-clause-numbers
returns-clause-numbers g c b t before after x number run e is = number_is_bound (rules g.M.Walker g.O.Object g.B.Object) b t run before after x e number is

pub returns-clause-others : goal.returns-clause-others
returns-clause-others g c b t run = others_low (rules g.M.Walker g.O.Object g.B.Object) b t run

pub returns-clause-all : goal.returns-clause-all
returns-clause-all g c b t run = all_low (rules g.M.Walker g.O.Object g.B.Object) b t run
