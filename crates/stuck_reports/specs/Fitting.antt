-- What is asked of the images of a stuck run beside its report.
use Rattle.std.specs.Prelude.{ℕ, ◌≡◌, true, List}
use Rattle.caf_events.specs.declared.event.Entry.{Entry}
use Rattle.caf_report.specs.declared.report.Waiting.{Waiting}
use Rattle.trace_theory.specs.Entries.{Each}
use Rattle.object_rules.specs.Cells.{Declared}
use Rattle.wait_reason.specs.WaitsFor.{is_fit_after}
use Rattle.next_fits.specs.Known.{is_known}

-- the ask with which each of them waits fits after the trace of n images
abbrev pub AskWhatFits : List Declared → ℕ → List Entry → List Waiting → Type 0
AskWhatFits coarrays n t waits = Each (λ w. is_fit_after coarrays n t w.image.0 w.ask ≡ true) waits

-- none of them waits with an ask of which it isn't known that it fits, over these coarrays
abbrev pub AskWhatIsKnown : List Declared → List Waiting → Type 0
AskWhatIsKnown coarrays waits = Each (λ w. is_known coarrays w.ask ≡ true) waits
