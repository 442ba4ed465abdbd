-- The end of a run is that of a run on the same images in which the same images wait.
use Rattle.std.proofs.Common.{ℕ, List, [], ◌∷◌}
use Rattle.caf_events.specs.declared.ask.Ask.{Ask}
use Rattle.caf_events.specs.declared.event.Trace.{Trace}
use Rattle.caf_report.specs.declared.report.End.{End}
use Rattle.caf_report.specs.declared.report.End.TheVariants as ends
use Rattle.caf_report.specs.declared.report.Waiting.{Waiting}
use Rattle.trace_theory.specs.Entries.{Each}
use Rattle.core_runs.specs.Beginnings.{Beginning, IsImage}
use Rattle.core_runs.specs.Moments.{Rules}
use Rattle.core_runs.specs.Waits.{IsWaiting}
use Rattle.order_report.specs.Reports.{AreWaiting, IsRunEnd, IsReportEnd}

module _ {C D M B : Type 0} (r : Rules C M B) (q : Rules D M B) (b : Beginning C M B) (a : Beginning D M B) (t : Trace) (images : (i : ℕ) → IsImage a i → IsImage b i)
    (waits : (i line : ℕ) (ask : Ask) → IsWaiting r b t.entries i line ask → IsWaiting q a t.entries i line ask) where
  each_too : (ws : List Waiting) → Each (λ w. IsWaiting r b t.entries w.image.0 w.line w.ask) ws → Each (λ w. IsWaiting q a t.entries w.image.0 w.line w.ask) ws
  each_too [] h = tt
  each_too (w ∷ ws) h = (waits w.image.0 w.line w.ask h.0, each_too ws h.1)

  waiting_too : (ws : List Waiting) → AreWaiting r b t ws → AreWaiting q a t ws
  waiting_too ws h = record { rises = h.rises; each = each_too ws h.each; all = λ i in_run. h.all i (images i in_run) }

  run_end_too : (end : End) → IsRunEnd r b t end → IsRunEnd q a t end
  run_end_too end h = record { ended = h.ended; open_end = λ none. (let x = h.open_end none in (x.0, waiting_too x.0 x.1, x.2)) }

  pub report_end_too : (n : ℕ) (end : End) → IsReportEnd n r b t end → IsReportEnd n q a t end
  report_end_too n (ends.Raced x) h = h
  report_end_too n ends.Finished h = (h.0, run_end_too ends.Finished h.1)
  report_end_too n (ends.ErrorStop k) h = (h.0, run_end_too (ends.ErrorStop k) h.1)
  report_end_too n (ends.RunFault k) h = (h.0, run_end_too (ends.RunFault k) h.1)
  report_end_too n (ends.Clash k) h = (h.0, run_end_too (ends.Clash k) h.1)
  report_end_too n (ends.Limit k) h = (h.0, run_end_too (ends.Limit k) h.1)
  report_end_too n (ends.Stuck ws) h = (h.0, run_end_too (ends.Stuck ws) h.1)
