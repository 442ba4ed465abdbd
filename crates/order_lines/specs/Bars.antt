-- Whether the run of a trace speaks for every order of the images, and what keeps it from that.
use Rattle.std.specs.Prelude.{ℕ, List, Option, Some, MatchOption}
use Rattle.caf_events.specs.declared.event.Entry.{Entry}
use Rattle.order_theory.specs.Races.{Cell}
use Rattle.order_axioms.specs.Views.{edges}
use Rattle.order_axioms.specs.Touching.{touches}
use Rattle.order_axioms.specs.FirstRaces.{HasNoRace, IsFirstRace}
use Rattle.every_order.specs.Decided.{IsDecided}
use Rattle.decided_watch.specs.Undecided.{IsFirstUndecided}
use Rattle.caf_report.specs.declared.report.End.{End}
use Rattle.caf_report.specs.declared.report.End.TheVariants as ends
use Rattle.order_lines.specs.declared.bar.Cause.{Cause}
use Rattle.order_lines.specs.declared.bar.Cause.TheVariants as causes
use Rattle.order_lines.specs.declared.bar.Bar.{Bar}

-- The entry at place k keeps the run of n images with this trace from being decided, of this cause: it is the second one
-- of the trace's first race (ISO/IEC 1539-1:2018, 11.6.2); or there is none, and it is the first that does otherwise.
abbrev pub IsCause : ℕ → List Entry → ℕ → Cause → Type 0
IsCause n t k causes.Race = (p : ℕ) × (c : Cell) × IsFirstRace (edges n) touches t p k c
IsCause n t k (causes.Undecided reason) = HasNoRace (edges n) touches t × IsFirstUndecided t (Some (record { at = k; reason = reason }))

-- what keeps the run from being decided, or that nothing does: a decided run speaks for every order of its images
-- (`law_every_order` of decided_runs)
abbrev pub IsBar : ℕ → List Entry → Option Bar → Type 0
IsBar n t o = MatchOption o (IsDecided n t) (λ b. IsCause n t b.at b.cause)

-- the end of a run of n images tells the first race of its trace, if that has one
abbrev pub TellsRace : ℕ → List Entry → End → Type 0
TellsRace n t (ends.Raced x) = (c : Cell) × IsFirstRace (edges n) touches t x.first x.second c
TellsRace n t end = HasNoRace (edges n) touches t
