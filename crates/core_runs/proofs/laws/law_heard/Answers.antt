use Rattle.std.proofs.Common.{refl}
use Rattle.caf_events.specs.Asks.{place_of}
use Rattle.core_runs.specs.Moments.{rules}
use Rattle.core_runs.proofs.Answered.{heard_there}
use Rattle.core_runs.proofs.laws.law_heard.Goals as goal

pub returns : goal.returns
returns g c b m i config ask kept at asked ready = heard_there (rules g.M.Walker g.O.Object g.B.Object) b m kept i ask config at asked (place_of ask) refl ready
