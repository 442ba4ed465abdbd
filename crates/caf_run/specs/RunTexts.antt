-- What is written of a run: the text of its report, and behind it what the words ask for: why the run is stuck, which
-- are the lines of the chain of waits that its trace tells with the waits of its report; and the line that says whether
-- the run speaks for every order of the images.
use Rattle.std.specs.Prelude.{ℕ, ◌≡◌, Bool, true, false, List, [], ◌++◌}
use Rattle.caf_events.specs.declared.event.Entry.{Entry}
use Rattle.caf_report.specs.declared.report.End.{End}
use Rattle.caf_report.specs.declared.report.End.TheVariants as ends
use Rattle.caf_report.specs.declared.report.Report.{Report}
use Rattle.caf_report.specs.declared.report.Shown.{Shown}
use Rattle.caf_report.specs.declared.report.Waiting.{Waiting}
use Rattle.caf_report.specs.ReportText.{report_text}
use Rattle.caf_words.specs.declared.command.Options.{Options}
use Rattle.wait_reason.specs.Chains.{Close}
use Rattle.wait_chain.specs.Reports.{as_waits}
use Rattle.wait_chain.specs.ToldChains.{IsToldChain}
use Rattle.wait_lines.specs.ChainText.{chain_text}
use Rattle.order_lines.specs.Lines.{IsOrderLine}

-- what a run shows beside what was printed and the end: its final values, its trace and its summary where it is told to
abbrev pub shown_of : Options → Shown
shown_of o = record { vars = o.vars; trace = o.trace; summary = o.summary }

-- the lines of the chain of waits that the trace of n images tells, which wait with these asks
abbrev pub IsChainText : ℕ → List Entry → List Waiting → List ℕ → Type 0
IsChainText n t waits text = (links : List ℕ) × (close : Close) × IsToldChain n t (as_waits waits) links close × (text ≡ chain_text links close)

-- the lines behind the text of the report of a run of n images, where it is to be told why or not: those of the chain
-- where the run is stuck, else none
abbrev pub TellsWhy : Bool → ℕ → List Entry → End → List ℕ → Type 0
TellsWhy true n t (ends.Stuck waits) why = IsChainText n t waits why
TellsWhy is_asked n t end why = why ≡ []

-- the line behind these, where it is to be told whether the run of n images with this trace and end speaks for every
-- order, or not: `every order` exactly where it does (`law_exact` of order_lines), else what keeps it from that
abbrev pub TellsOrder : Bool → ℕ → List Entry → End → List ℕ → Type 0
TellsOrder true n t end line = IsOrderLine n t end line
TellsOrder false n t end line = line ≡ []

-- what is written of a run, as the words tell it
abbrev pub IsRunText : Options → Report → List ℕ → Type 0
IsRunText o r text =
    (why : List ℕ) × (line : List ℕ) × TellsWhy o.why r.images r.trace.entries r.end why × TellsOrder o.every r.images r.trace.entries r.end line × (text ≡ (report_text (shown_of o) r ++ why) ++ line)
