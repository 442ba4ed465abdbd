-- The line that says whether the run of a trace speaks for every order.
use Rattle.std.specs.Prelude.{ℕ, pos, ◌≡◌, List, [], ◌++◌, Option, None, Some, codes, slice_get}
use Rattle.caf_text.specs.Numbers.{decimal_text}
use Rattle.caf_events.specs.declared.ask.Ask.{Ask}
use Rattle.caf_events.specs.declared.ask.Ask.TheVariants as asks
use Rattle.caf_events.specs.declared.round.Arriving.{Arriving}
use Rattle.caf_events.specs.declared.round.Arriving.TheVariants as arrivings
use Rattle.caf_events.specs.declared.event.Entry.{Entry}
use Rattle.trace_text.specs.Words.{ask_word}
use Rattle.decided_watch.specs.declared.watch.Reason.TheVariants as reasons
use Rattle.order_lines.specs.declared.bar.Cause.{Cause}
use Rattle.order_lines.specs.declared.bar.Cause.TheVariants as causes
use Rattle.order_lines.specs.declared.bar.Bar.{Bar}
use Rattle.caf_report.specs.declared.report.End.{End}
use Rattle.order_lines.specs.Bars.{IsBar, TellsRace}

-- the word of a step by its ask: FORM TEAM has its own among the arrivals
abbrev pub arrival_word : Arriving → List ℕ
arrival_word (arrivings.Form number new_index) = codes "form"
arrival_word arriving = codes "arrive"

abbrev pub step_word : Ask → List ℕ
step_word (asks.Arrive team arriving) = arrival_word arriving
step_word ask = ask_word ask

-- the words of a cause, of an entry with this ask
abbrev pub cause_text : Ask → Cause → List ℕ
cause_text ask causes.Race = codes "race"
cause_text ask (causes.Undecided reasons.NotFree) = step_word ask
cause_text ask (causes.Undecided reasons.OtherPoster) = codes "other poster"
cause_text ask (causes.Undecided reasons.EventsRemade) = codes "events remade"

-- the line that this run alone is so, with the line of a statement and the cause
abbrev pub this_order_text : ℕ → List ℕ → List ℕ
this_order_text line cause = codes "this order: line " ++ decimal_text (pos line) ++ codes ", " ++ cause ++ codes "\n"

-- that of the entry at a place
abbrev pub cause_line : Option Entry → Cause → List ℕ
cause_line None cause = []
cause_line (Some e) cause = this_order_text e.event.line (cause_text e.event.ask cause)

-- the line that every order of the images ends so and says the same
abbrev pub every_order_text : List ℕ
every_order_text = codes "every order\n"

-- the line where this keeps the run from speaking for every order, or nothing does
abbrev pub order_line : List Entry → Option Bar → List ℕ
order_line t None = every_order_text
order_line t (Some b) = cause_line (slice_get t b.at) b.cause

-- the line of the run of n images with this trace and end: it tells what keeps the run from speaking for every order, if
-- the end tells the first race of the trace, as that of each run does (`IsReportEnd` of order_report)
abbrev pub IsOrderLine : ℕ → List Entry → End → List ℕ → Type 0
IsOrderLine n t end text = (o : Option Bar) × (TellsRace n t end → IsBar n t o) × (text ≡ order_line t o)
