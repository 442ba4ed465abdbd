use Rattle.core_runs.specs.Moments.{rules}
use Rattle.stamp_limits.proofs.Limits.{limited, limited_low, none_due_at, none_due_next}
use Rattle.stamp_limits.proofs.laws.law_no_stamp_limit_is_due.Goals as goal

pub returns-clause-few : goal.returns-clause-few
returns-clause-few g c b t fit core short = limited (rules g.M.Walker g.O.Object g.B.Object) b t fit core short

pub returns-clause-low : goal.returns-clause-low
returns-clause-low g c b t fit core low = limited_low (rules g.M.Walker g.O.Object g.B.Object) b t fit core low

pub returns-clause-entries : goal.returns-clause-entries
returns-clause-entries g c b t fit core short = none_due_at (rules g.M.Walker g.O.Object g.B.Object) b t fit core short

pub returns-clause-next : goal.returns-clause-next
returns-clause-next g c b t fit core short = none_due_next (rules g.M.Walker g.O.Object g.B.Object) b t fit core short
