-- The report of a run: its trace is a core run, and that of the ordered run where there is an order; its end is that of
-- the trace, a race first, and up to the race each reference that isn't atomic gives the last definition in segment
-- order.
use Rattle.std.specs.Prelude.{ℕ, zero, suc, ◌≡◌, ◌<◌, ◌≤◌, ◌⊎◌, List, [], ◌∷◌, ◌++◌, length, Option, Some, Ok}
use Rattle.caf_base.specs.declared.refusal.NoMemory.{NoMemory}
use Rattle.caf_events.specs.declared.ask.Ask.{Ask}
use Rattle.caf_events.specs.declared.reply.Reply.{Reply}
use Rattle.caf_events.specs.declared.event.Entry.{Entry}
use Rattle.caf_events.specs.declared.event.Trace.{Trace}
use Rattle.caf_events.specs.Walkers.{AsksNext, IsAtLine, IsOver}
use Rattle.trace_theory.specs.Entries.{Each, Rises, last_or}
use Rattle.trace_theory.specs.Machines.{Move}
use Rattle.object_rules.specs.Cells.{Declared}
use Rattle.core_runs.specs.Beginnings.{Beginning, IsImage}
use Rattle.core_runs.specs.CoreRuns.{IsCoreRun, of_image}
use Rattle.core_runs.specs.Kept.{IsKept}
use Rattle.core_runs.specs.Moments.{Rules, Moment, item_at}
use Rattle.core_runs.specs.Lawful.{IsLawfulTrace, made_memory}
use Rattle.core_runs.specs.Lists.{entries_of}
use Rattle.core_runs.specs.Orders.{IsOrderTrace, candidates}
use Rattle.core_runs.specs.Sequences.{EndsByItself}
use Rattle.core_runs.specs.Traces.{IsTraceOf}
use Rattle.core_runs.specs.Waits.{HasEndedIn, IsWaiting}
use Rattle.image_core.specs.declared.choices.Choices.{Choices}
use Rattle.image_core.specs.declared.choices.Choices.TheVariants.{Rotate, Seed}
use Rattle.image_core.specs.declared.choices.RunEnd.{RunEnd}
use Rattle.image_core.specs.Choosing.{choosing}
use Rattle.image_core.specs.Orders.{HasEnding, IsOrderRun}
use Rattle.order_theory.specs.Races.{Cell}
use Rattle.order_axioms.specs.FirstRaces.{HasNoRace, IsFirstRace, Allowed}
use Rattle.order_axioms.specs.Touching.{touches, accesses}
use Rattle.order_axioms.specs.Views.{edges}
use Rattle.caf_report.specs.declared.report.End.{End}
use Rattle.caf_report.specs.declared.report.End.TheVariants as ends
use Rattle.caf_report.specs.declared.report.Race.{Race}
use Rattle.caf_report.specs.declared.report.Report.{Report}
use Rattle.caf_report.specs.declared.report.Waiting.{Waiting}
use Rattle.caf_report.specs.Ends.{IsFirstEnding, HasNoEnding, ending_at, end_of_waits}

-- the choices of the order of a SEED: the rotation for 0, else those of the generator from this state on
abbrev pub choices_of : ℕ → Choices
choices_of zero = Rotate 0
choices_of (suc k) = Seed (suc k)

-- one of these is of the image with this number
abbrev pub WaitsAs : ℕ → List Waiting → Type 0
WaitsAs i [] = ⊥
WaitsAs i (w ∷ ws) = (w.image.0 ≡ i) ⊎ WaitsAs i ws

-- the images that wait after a trace, in rising order: each has come to its ask, which isn't ready, and every other
-- image has ended
pub record AreWaiting {C M B : Type 0} (r : Rules C M B) (b : Beginning C M B) (t : Trace) (ws : List Waiting) : Type 0 where
  pub rises : Rises (λ w. w.image.0) ws
  pub each : Each (λ w. IsWaiting r b t.entries w.image.0 w.line w.ask) ws
  pub all : (i : ℕ) → IsImage b i → HasEndedIn i t.entries ⊎ WaitsAs i ws

-- the end of a run with this trace: that of its first ending event; where there is none, Finished where every image has
-- ended, else Stuck
pub record IsRunEnd {C M B : Type 0} (r : Rules C M B) (b : Beginning C M B) (t : Trace) (end : End) : Type 0 where
  pub ended : (k : ℕ) → IsFirstEnding t k → end ≡ ending_at t k
  pub open_end : HasNoEnding t → (ws : List Waiting) × AreWaiting r b t ws × (end ≡ end_of_waits ws)

-- the cell of a race
abbrev pub cell_of : Race → Cell
cell_of x = record { owner = x.owner.0; coarray = x.coarray; offset = x.offset }

-- the first race of the trace of a run of n images (11.6.2), with the least cell that both of its entries touch
abbrev pub IsRace : ℕ → Trace → Race → Type 0
IsRace n t x = IsFirstRace (edges n) touches t.entries x.first x.second (cell_of x)

-- the end of a report: the first race where the trace has one, and where it has none that of the run
abbrev pub IsReportEnd : {C M B : Type 0} → ℕ → Rules C M B → Beginning C M B → Trace → End → Type 0
IsReportEnd n r b t (ends.Raced x) = IsRace n t x
IsReportEnd n r b t end = HasNoRace (edges n) touches t.entries × IsRunEnd r b t end

-- how many entries stand before the second one of the race; all of them, where there is none
abbrev pub before_race : Trace → End → ℕ
before_race t (ends.Raced x) = x.second
before_race t end = length t.entries

-- The report of a run that begins so, over these coarrays: its trace is a core run, and that of the order of a SEED
-- where there is one (that it is a core run follows from an order, by law_order_core; it is said for the reader); its
-- end is that of the trace, and up to the first race each reference that isn't atomic gives the last definition.
pub record IsRunReport {C M B : Type 0} (r : Rules C M B) (b : Beginning C M B) (coarrays : List Declared) (order : Option ℕ) (report : Report) : Type 0 where
  pub images : report.images ≡ b.images
  pub core : IsCoreRun r b report.trace.entries
  pub ordered : (seed : ℕ) → order ≡ Some seed → IsOrderTrace r b choosing (choices_of seed) report.trace.entries
  pub end : IsReportEnd b.images r b report.trace report.end
  pub allowed : Allowed (edges b.images) (accesses (made_memory coarrays)) report.trace.entries (before_race report.trace report.end)

-- the moment at which a run with this trace has come to its end: the trace has the images' events
pub record IsEndMoment {C M B : Type 0} (r : Rules C M B) (b : Beginning C M B) (t : List Entry) (m : Moment C M B) : Type 0 where
  pub kept : IsKept r b m
  pub trace : IsTraceOf m.events t

-- a run goes no further from a moment: a step ended it, or no image can step
abbrev pub GoesNoFurther : {C M B : Type 0} → Rules C M B → Moment C M B → Type 0
GoesNoFurther r m = HasEnding m.events ⊎ (candidates r m ≡ [])

-- an ordered run by these choices from one moment to another, at which it has come to its end: it has no step behind an
-- event that ended the run
pub record RunsOn {C M B : Type 0} (r : Rules C M B) (s : Choices) (m m' : Moment C M B) : Type 0 where
  pub last : Choices
  pub end : RunEnd
  pub run : IsOrderRun {E = NoMemory} r s m last m' (Ok end)

-- and the trace at that end: each image's entries are its events of the first moment, and then its steps of the ordered
-- run
pub record IsTraceOn {C M B : Type 0} (r : Rules C M B) (s : Choices) (m m' : Moment C M B) (t : List Entry) : Type 0 where
  pub on : RunsOn r s m m'
  pub images : (i : ℕ) → of_image i t ≡ entries_of m.events i ++ of_image i on.run.steps

-- every core run that begins so is a lawful trace over these coarrays
abbrev pub AreLawful : {C M B : Type 0} → Rules C M B → Beginning C M B → List Declared → Type 0
AreLawful r b coarrays = (t : List Entry) → IsCoreRun r b t → IsLawfulTrace coarrays b.images t

-- each image of the run is over only behind a step that ended it
abbrev pub EndByThemselves : {C M B : Type 0} → Rules C M B → Beginning C M B → Type 0
EndByThemselves r b = (i : ℕ) → IsImage b i → EndsByItself r.step (b.first i)

-- those of the first n images that haven't ended, each with the ask and the line at which it stands
pub record AreHeld {C : Type 0} (step : C → Move C Ask Reply) (configs : List C) (n : ℕ) (ws : List Waiting) : Type 0 where
  pub rises : Rises (λ w. w.image.0) ws
  pub low : last_or (λ w. w.image.0) 0 ws ≤ n
  pub each : Each (λ w. (c : C) × (item_at configs w.image.0 ≡ Some c) × AsksNext (step c) w.ask × IsAtLine (step c) w.line) ws
  pub all : (i : ℕ) → 0 < i → i ≤ n → ((c : C) × (item_at configs i ≡ Some c) × IsOver (step c)) ⊎ WaitsAs i ws
