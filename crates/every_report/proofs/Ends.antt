-- No step of a decided run ends it, so its end is that of the images that wait.
use Rattle.std.proofs.Common.{◌≡◌, ℕ, zero, suc, ◌<◌, true, List, [], ◌∷◌, length, ap, ◌∙◌, arith, length-append}
use Rattle.std.specs.Prelude.{slice_get, MatchOption}
use Rattle.caf_events.specs.declared.ask.Ask.{Ask}
use Rattle.caf_events.specs.declared.ask.Ask.TheVariants as asking
use Rattle.caf_events.specs.declared.reply.Reply.{Reply}
use Rattle.caf_events.specs.declared.reply.Reply.TheVariants as replies
use Rattle.caf_events.specs.declared.event.Entry.{Entry}
use Rattle.caf_events.specs.declared.event.Trace.{Trace}
use Rattle.caf_events.specs.Events.{EndsBy, EndsRun}
use Rattle.trace_theory.specs.Entries.{Each}
use Rattle.order_theory.specs.Races.{Stands, place}
use Rattle.order_axioms.specs.Views.{edges}
use Rattle.order_axioms.specs.Touching.{touches}
use Rattle.order_axioms.specs.FirstRaces.{HasNoRace}
use Rattle.every_order.specs.Decided.{is_free}
use Rattle.caf_report.specs.declared.report.End.{End}
use Rattle.caf_report.specs.declared.report.End.TheVariants as ends
use Rattle.caf_report.specs.declared.report.Race.{Race}
use Rattle.caf_report.specs.Ends.{HasNoEnding}
use Rattle.core_runs.specs.Beginnings.{Beginning}
use Rattle.core_runs.specs.Moments.{Rules}
use Rattle.order_report.specs.Reports.{IsRace, IsRunEnd, IsReportEnd}

abbrev pub AreFree : List Entry → Type 0
AreFree t = Each (λ x. is_free x.event.ask x.event.reply ≡ true) t

-- a free step doesn't end the run
free_goes_on : (a : Ask) (r : Reply) → is_free a r ≡ true → EndsBy a r → ⊥
free_goes_on (asking.ErrorStop code) r free ends = absurd (cc)
free_goes_on (asking.Fault kind) r free ends = absurd (cc)
free_goes_on (asking.LimitStatements number) r free ends = absurd (cc)
free_goes_on (asking.LimitWords number) r free ends = absurd (cc)
free_goes_on (asking.LimitStamp number) r free ends = absurd (cc)
free_goes_on (asking.Arrive team arriving) (replies.Clash image line) free ends = absurd (cc)
free_goes_on (asking.Arrive team arriving) r free ends = ends
free_goes_on (asking.Gather team op root kind values) (replies.Clash image line) free ends = absurd (cc)
free_goes_on (asking.Gather team op root kind values) r free ends = ends
free_goes_on a r free ends = ends

none_ends : (es : List Entry) (k : ℕ) → AreFree es → MatchOption (slice_get es k) ⊥ (λ e. EndsRun e.event) → ⊥
none_ends [] k free ends = ends
none_ends (x ∷ es) zero free ends = free_goes_on x.event.ask x.event.reply free.0 ends
none_ends (x ∷ es) (suc k) free ends = none_ends es k free.1 ends

pub no_ending : (t : Trace) → AreFree t.entries → HasNoEnding t
no_ending t free k at = none_ends t.entries k free at

-- the end of a report whose trace has no race is that of the run
within : (t : List Entry) (x : Stands t) → place x < length t
within t x = let a = ap length x.split ∙ length-append x.before (x.event ∷ x.rest) in omega arith

no_such_race : (n : ℕ) (t : Trace) (x : Race) → HasNoRace (edges n) touches t.entries → IsRace n t x → ⊥
no_such_race n t x clean first =
    let a = first.first_place in
    let b = first.second_place in
    let l = first.in_order in
    clean first.first first.second (omega arith) (within t.entries first.second) first.race

pub run_end : {C M B : Type 0} (n : ℕ) (r : Rules C M B) (b : Beginning C M B) (t : Trace) (end : End) → HasNoRace (edges n) touches t.entries → IsReportEnd n r b t end → IsRunEnd r b t end
run_end n r b t (ends.Raced x) clean h = absurd (no_such_race n t x clean h)
run_end n r b t ends.Finished clean h = h.1
run_end n r b t (ends.ErrorStop k) clean h = h.1
run_end n r b t (ends.RunFault k) clean h = h.1
run_end n r b t (ends.Clash k) clean h = h.1
run_end n r b t (ends.Limit k) clean h = h.1
run_end n r b t (ends.Stuck ws) clean h = h.1
