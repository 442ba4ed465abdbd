use Rattle.std.proofs.Common.{sym, subst}
use Rattle.std.specs.Prelude.{IfOk}
use Rattle.order_axioms.specs.Views.{edges}
use Rattle.order_axioms.specs.Touching.{touches}
use Rattle.order_axioms.specs.FirstRaces.{HasNoRace}
use Rattle.order_lines.specs.Bars.{IsBar}
use Rattle.order_lines.proofs.Exact.{race_told, no_race_told}
use Rattle.order_lines.proofs.bar.bar_of.Goals as goal

pub returns-in-Some : goal.returns-in-Some
returns-in-Some c told = race_told c.args.report.now.images c.args.report.now.trace.entries c.args.report.now.end c.in-Some.race told (rw c.in-Some.is at c.race_of.ensures)

pub returns-in-None : goal.returns-in-None
returns-in-None c told =
    let n = c.args.report.now.images in
    let none = no_race_told n c.args.report.now.trace.entries c.args.report.now.end told (rw c.in-None.is at c.race_of.ensures) in
    subst (λ es. IfOk c.bar_among.result (IsBar n es)) c.as_slice.ensures (c.bar_among.ensures n (subst (λ es. HasNoRace (edges n) touches es) (sym c.as_slice.ensures) none))
