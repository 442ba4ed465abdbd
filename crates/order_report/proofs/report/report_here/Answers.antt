use Rattle.std.proofs.Common.{◌≡◌, length, map, sym, subst, arith}
use Rattle.std.specs.Prelude.{MatchOption}
use Rattle.caf_events.specs.declared.event.Trace.{Trace}
use Rattle.core_runs.specs.Moments.{rules}
use Rattle.core_runs.specs.Traces.{IsTraceOf}
use Rattle.image_core.specs.Parts.{event_lists, moment}
use Rattle.run_outlook.proofs.Slices.{map_length}
use Rattle.order_axioms.specs.FirstRaces.{HasNoRace}
use Rattle.order_axioms.specs.Touching.{touches}
use Rattle.order_axioms.specs.Views.{edges}
use Rattle.order_report.specs.Reports.{AreHeld, IsRace}
use Rattle.order_report.proofs.Runs.{report_at}
use Rattle.order_report.proofs.report.report_here.Goals as goal

pub returns-clause-report : goal.returns-clause-report
returns-clause-report g c b coarrays kept enders lawful =
    let r = rules g.M.Walker g.O.Object g.B.Object in
    let parts = c.args.parts.now in
    let t = c.in_ok-trace.trace in
    let race = c.in_ok-race.race in
    let ws = c.in_ok-held.held in
    let core = c.in_ok-trace.ensures.core b kept in
    let sized = c.len-n.ensures in
    let counted = kept.count in
    let told = c.with_race.ensures.images in
    let many = map_length (λ x. g.M.Walker.config x.machine) parts.images.items in
    let same : c.len-n.result ≡ b.images = omega arith in
    let images : c.with_race.result.images ≡ b.images = omega arith in
    let held = subst (λ k. AreHeld g.M.Walker.step (map (λ x. g.M.Walker.config x.machine) parts.images.items) k ws) (sym many) c.in_ok-held.ensures in
    let found = subst (λ k. MatchOption race (HasNoRace (edges k) touches t.entries) (IsRace k t)) same c.in_ok-race.ensures.race in
    report_at r b coarrays (moment g.M.Walker g.O.Object g.B.Object parts) t ws race c.with_race.result
    enders c.requires.over kept c.in_ok-trace.ensures.trace core held (lawful t.entries core) found
    images c.with_race.ensures.trace c.with_race.ensures.raced c.with_race.ensures.plain c.with_race.ensures.end

pub returns-clause-at_end : goal.returns-clause-at_end
returns-clause-at_end g c b kept = record {
  kept = kept;
  trace = subst (λ (t : Trace). IsTraceOf (event_lists c.args.parts.now.images.items) t.entries) (sym c.with_race.ensures.trace) c.in_ok-trace.ensures.trace;
}
