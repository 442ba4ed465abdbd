use Rattle.std.proofs.Common.{subst}
use Rattle.order_axioms.specs.FirstRaces.{HasNoRace}
use Rattle.order_axioms.specs.Touching.{touches}
use Rattle.order_axioms.specs.Views.{edges}
use Rattle.order_report.proofs.race.first_race.Goals as goal

pub returns-in-None-clause-race : goal.returns-in-None-clause-race
returns-in-None-clause-race c =
    let found = c.in_ok-watch.ensures in
    subst (λ es. HasNoRace (edges c.args.n) touches es) c.as_slice-entries.ensures (rw c.in-None.is at found)
