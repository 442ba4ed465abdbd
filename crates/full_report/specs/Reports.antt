-- The report of a run of images, each a lane over a program's walk (ISO/IEC 1539-1:2018, 5.3.5).
use Rattle.std.specs.Prelude.{ℕ, ◌≡◌, List, Option, None, Some}
use Rattle.caf_events.specs.declared.ask.Ask.{Ask}
use Rattle.caf_events.specs.declared.reply.Reply.{Reply}
use Rattle.trace_theory.specs.Machines.{Move}
use Rattle.object_rules.specs.Cells.{Declared}
use Rattle.core_runs.specs.Beginnings.{Beginning, IsFirst}
use Rattle.core_runs.specs.CoreRuns.{IsFit}
use Rattle.core_runs.specs.Kept.{IsKept}
use Rattle.core_runs.specs.Moments.{Rules, Moment}
use Rattle.image_lanes.specs.LaneRuns.{lane_rules, lanes_begin}
use Rattle.caf_report.specs.declared.report.Report.{Report}
use Rattle.lane_parts.specs.FirstLanes.{HaveCome}
use Rattle.order_report.specs.Reports.{AreLawful, EndByThemselves, IsEndMoment, IsRunReport}
use Rattle.full_report.specs.declared.way.Way.{Way}
use Rattle.full_report.specs.declared.way.Way.TheVariants.{Order, Workers}

-- the SEED of the order, where the images take turns in one
abbrev pub order_of : Way → Option ℕ
order_of (Order seed) = Some seed
order_of (Workers workers) = None

-- the traces of some run of which this is a moment are lawful for some coarrays
abbrev pub SomeLawful : {C M B : Type 0} → Rules C M B → Moment C M B → Type 0
SomeLawful {C} {M} {B} r m = (b : Beginning C M B) × (coarrays : List Declared) × IsKept r b m × AreLawful r b coarrays

-- what a run from its first moment on comes to: its report, and the moment at its end
pub record IsRan {C M B : Type 0} (r : Rules C M B) (m : Moment C M B) (order : Option ℕ) (report : Report) (m' : Moment C M B) : Type 0 where
  pub report_is : (b : Beginning C M B) (coarrays : List Declared) → IsFirst r b m → IsKept r b m → EndByThemselves r b → AreLawful r b coarrays → IsRunReport r b coarrays order report
  pub at_end : (b : Beginning C M B) → IsKept r b m → IsEndMoment r b report.trace.entries m'

module _ {C : Type 0} (step : C → Move C Ask Reply) (hears : C → Reply → Type 0) (coarrays : List Declared) (n : ℕ) (first : ℕ → C) (fails_at : ℕ → ℕ) (words : ℕ) where
  -- n images run programs that begin there: they have come to these configurations, and their run is fit
  pub record RunsFrom (configs : List C) : Type 0 where
    pub come : HaveCome step first configs
    pub fit : IsFit (lane_rules step hears) (lanes_begin coarrays n first fails_at words)

  -- each of them is over only behind a step that ended it
  abbrev pub ImagesEnd : Type 0
  ImagesEnd = EndByThemselves (lane_rules step hears) (lanes_begin coarrays n first fails_at words)

  -- the report of their run, in the order of a SEED where there is one
  abbrev pub IsImagesReport : (order : Option ℕ) → Report → Type 0
  IsImagesReport order report = IsRunReport (lane_rules step hears) (lanes_begin coarrays n first fails_at words) coarrays order report
