-- The report of a run of machines whose code has the walks of a program is that of a run of the program.
use Rattle.std.proofs.Common.{◌≡◌, ℕ, List, length, refl, sym, subst}
use Rattle.std.specs.Prelude.{map, Option}
use Rattle.caf_events.specs.declared.event.Entry.{Entry}
use Rattle.object_rules.specs.Cells.{Declared, MadeMemory}
use Rattle.core_runs.specs.Moments.{Moment}
use Rattle.coarray_memory.specs.Memories.{MemoryState}
use Rattle.checked_tree.specs.Statements as checked
use Rattle.image_core.specs.Choosing.{choosing}
use Rattle.image_core.specs.Parts.{AreNumbered, EachAt}
use Rattle.image_core.specs.declared.run.ImageRun.{ImageRun}
use Rattle.image_core.specs.declared.choices.Choices.{Choices}
use Rattle.image_lanes.specs.declared.lane.Lane.{Lane}
use Rattle.image_lanes.specs.Lanes.{OnLane}
use Rattle.image_lanes.specs.LaneRuns.{lane_rules, lanes_begin}
use Rattle.image_code.specs.Code.{Whole}
use Rattle.image_state.specs.declared.state.Rooms.{Rooms}
use Rattle.image_machine.specs.Engine.{Engine, bare, start_of}
use Rattle.image_machine.specs.Walk.{machine_step}
use Rattle.caf_report.specs.declared.report.Final.{Final}
use Rattle.caf_report.specs.declared.report.Report.{Report}
use Rattle.final_values.specs.declared.listing.Listed.{Listed}
use Rattle.final_values.specs.Finals.{run_finals}
use Rattle.order_report.specs.Reports.{choices_of, IsEndMoment}
use Rattle.order_report.proofs.SameEnd.{report_end_too}
use Rattle.full_report.specs.Reports.{RunsFrom, ImagesEnd, IsImagesReport}
use Rattle.program_walks.specs.Runs.{program_rules, program_begins}
use Rattle.program_walks.proofs.Hearing.{hears_due}
use Rattle.machine_runs.specs.Runs.{HasWalksOn, machines_begin}
use Rattle.machine_runs.proofs.MachineRuns.{machine_ends, machine_fit, core_onward, order_onward, waits_onward}
use Rattle.program_run.specs.Finals.{AreProgramFinals}
use Rattle.program_run.specs.Machines.{hears, HasBegun}
use Rattle.program_run.specs.Reports.{IsProgramReport}
use Rattle.program_run.proofs.Begun.{rooms_of, have_come}
use Rattle.program_run.proofs.Ended.{lane_at, memories_count, program_finals}

module _ (p : checked.Program) (w : Whole) (limit : ℕ) (rooms : ℕ → Rooms) (coarrays : List Declared) (n : ℕ) (fails_at : ℕ → ℕ) (words : ℕ) (h : HasWalksOn p limit n w) where
  pub machines_end : ImagesEnd machine_step hears coarrays n (λ i. start_of w limit (rooms i) i n) fails_at words
  machines_end i in_run = machine_ends p w limit (rooms i) i n (h i in_run) (fails_at i) words

  pub program_report : (order : Option ℕ) (report : Report) → IsImagesReport machine_step hears coarrays n (λ i. start_of w limit (rooms i) i n) fails_at words order report → IsProgramReport p limit coarrays n fails_at words order report
  program_report order report is = record {
    images = is.images;
    core = core_onward hears p w limit rooms coarrays n fails_at words h report.trace.entries is.core;
    ordered = λ seed e. order_onward hears p w limit rooms coarrays n fails_at words h Choices choosing (choices_of seed) report.trace.entries (is.ordered seed e);
    end =
        report_end_too (lane_rules machine_step hears) (program_rules p limit) (machines_begin w limit rooms coarrays n fails_at words) (program_begins p coarrays n fails_at words) report.trace (λ i in_run. in_run)
        (λ i line ask waits. waits_onward hears p w limit rooms coarrays n fails_at words h report.trace.entries is.core i line ask waits) n report.end is.end;
    allowed = is.allowed;
  }

module _ (w : Whole) (limit n : ℕ) (xs : List Engine) (count : length xs ≡ n) (begun : EachAt (HasBegun w limit n) xs) (coarrays : List Declared) (fails_at : ℕ → ℕ) (words : ℕ) where
  -- where the machines begin, each with its room
  abbrev pub first : ℕ → Engine
  first i = start_of w limit (rooms_of w limit n xs begun i) i n

  -- they run the code, and their run is fit
  pub machines_run : (p : checked.Program) → HasWalksOn p limit n w → RunsFrom machine_step hears coarrays (length xs) first fails_at words (map bare xs)
  machines_run p h =
      subst (λ k. RunsFrom machine_step hears coarrays k first fails_at words (map bare xs)) (sym count)
      (record { come = have_come w limit n xs begun; fit = machine_fit hears p w limit (rooms_of w limit n xs begun) coarrays n fails_at words h (λ m is. hears_due machine_step hears (λ c a reply asked any. tt) m) })

  -- so the report of their run is that of the program
  pub run_report : (order : Option ℕ) (report : Report)
      → ((start : ℕ → Engine) → RunsFrom machine_step hears coarrays (length xs) start fails_at words (map bare xs) → ImagesEnd machine_step hears coarrays (length xs) start fails_at words
      → IsImagesReport machine_step hears coarrays (length xs) start fails_at words order report)
      → (p : checked.Program) → HasWalksOn p limit n w → IsProgramReport p limit coarrays n fails_at words order report
  run_report order report is p h =
      program_report p w limit (rooms_of w limit n xs begun) coarrays n fails_at words h order report
      (subst (λ k. IsImagesReport machine_step hears coarrays k first fails_at words order report) count
      (is first (machines_run p h) (subst (λ k. ImagesEnd machine_step hears coarrays k first fails_at words) (sym count) (machines_end p w limit (rooms_of w limit n xs begun) coarrays n fails_at words h))))

-- other final values change nothing of what a report is
pub with_finals : (p : checked.Program) (limit : ℕ) (coarrays : List Declared) (n : ℕ) (fails_at : ℕ → ℕ) (words : ℕ) (order : Option ℕ) (report : Report) (fs : List Final) → IsProgramReport p limit coarrays n fails_at words order report
    → IsProgramReport p limit coarrays n fails_at words order (record report { finals = fs })
with_finals p limit coarrays n fails_at words order report fs is = record { images = is.images; core = is.core; ordered = is.ordered; end = is.end; allowed = is.allowed }

-- the final values that are read of the parts at the end of such a run are the program's
module _ (w : Whole) (limit n : ℕ) (xs : List Engine) (count : length xs ≡ n) (begun : EachAt (HasBegun w limit n) xs) (coarrays : List Declared) (fails_at : ℕ → ℕ) (words : ℕ) (t : List Entry) (m : Moment (OnLane Engine) MadeMemory ℕ)
    (at_end : (start : ℕ → Engine) → RunsFrom machine_step hears coarrays (length xs) start fails_at words (map bare xs) → IsEndMoment (lane_rules machine_step hears) (lanes_begin coarrays (length xs) start fails_at words) t m) where
  pub end_moment : (p : checked.Program) → HasWalksOn p limit n w → IsEndMoment (lane_rules machine_step hears) (machines_begin w limit (rooms_of w limit n xs begun) coarrays n fails_at words) t m
  end_moment p h =
      subst (λ k. IsEndMoment (lane_rules machine_step hears) (lanes_begin coarrays k (first w limit n xs count begun coarrays fails_at words) fails_at words) t m) count
      (at_end (first w limit n xs count begun coarrays fails_at words) (machines_run w limit n xs count begun coarrays fails_at words p h))

  module _ (images : List (ImageRun (Lane Engine))) (memories : List MemoryState) (configs_are : m.configs ≡ map (λ r. lane_at r.machine) images) (events_are : m.events ≡ map (λ r. r.events.items) images)
      (memories_are : m.memories ≡ map (λ x. x.made) memories) (histories_are : m.histories ≡ map (λ x. x.history) memories) (numbered : AreNumbered images) (p : checked.Program) (h : HasWalksOn p limit n w) (listed : List Listed) where
    pub parts_finals : AreProgramFinals p limit coarrays n fails_at words listed t (run_finals listed images memories)
    parts_finals =
        program_finals p w limit (rooms_of w limit n xs begun) coarrays n fails_at words h listed t m (end_moment p h) lane_at (λ l. refl) images memories configs_are events_are memories_are histories_are numbered

    pub parts_count : length images ≡ length memories
    parts_count = memories_count p w limit (rooms_of w limit n xs begun) coarrays n fails_at words h listed t m (end_moment p h) lane_at (λ l. refl) images memories configs_are events_are memories_are histories_are numbered
