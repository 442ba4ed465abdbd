-- Two reports of one program, of which one is decided.
use Rattle.std.proofs.Common.{◌≡◌, ℕ, true, false, List, refl, ap, sym, ◌∙◌, subst}
use Rattle.std.specs.Prelude.{Option}
use Rattle.std.specs.List.{list_all}
use Rattle.caf_events.specs.declared.ask.Ask.{Ask}
use Rattle.caf_events.specs.declared.reply.Reply.{Reply}
use Rattle.caf_events.specs.declared.event.Entry.{Entry}
use Rattle.caf_events.specs.declared.event.Trace.{Trace}
use Rattle.trace_theory.proofs.Machines.{one_next_ask}
use Rattle.fortran_tree.specs.Units as units
use Rattle.checked_tree.specs.Statements.{Program}
use Rattle.rule_definitions.specs.Acceptance.{Accepts}
use Rattle.walk_theory.specs.Walks.{Config}
use Rattle.image_acts.specs.Acts.{Act}
use Rattle.image_acts.specs.Core.{Core}
use Rattle.image_lanes.specs.Lanes.{OnLane}
use Rattle.object_rules.specs.Cells.{Declared, MadeMemory, size_after}
use Rattle.object_rules.specs.MemoryRules.{has_first_values, value_there}
use Rattle.object_rules.specs.Happenings.{control, happened, has_ended}
use Rattle.std.proofs.lemmas.Bool.{both_ways}
use Rattle.core_runs.specs.Beginnings.{Beginning}
use Rattle.core_runs.specs.CoreRuns.{IsCoreRun, IsFit, at_board, of_memory, said_by}
use Rattle.core_runs.specs.Lawful.{made_memory}
use Rattle.core_runs.specs.Moments.{Rules}
use Rattle.core_runs.specs.Waits.{HasEndedIn, IsWaiting}
use Rattle.core_runs.proofs.Lawfuls.{core_run_lawful}
use Rattle.order_axioms.specs.Views.{edges}
use Rattle.order_axioms.specs.Touching.{touches}
use Rattle.order_axioms.specs.FirstRaces.{HasNoRace}
use Rattle.every_order.specs.Decided.{IsDecided}
use Rattle.every_order.specs.EveryOrder.{SpeaksFor}
use Rattle.free_replies.proofs.OwnSizes.{sizes_own, size_same}
use Rattle.decided_runs.proofs.Events.{events_speak}
use Rattle.caf_report.specs.declared.report.End.{End}
use Rattle.caf_report.specs.declared.report.End.TheVariants as ends
use Rattle.caf_report.specs.declared.report.Report.{Report}
use Rattle.caf_report.specs.declared.report.Waiting.{Waiting}
use Rattle.caf_report.specs.Ends.{HasNoEnding, end_of_waits}
use Rattle.caf_report.specs.ReportText.{report_text}
use Rattle.order_report.specs.Reports.{AreWaiting, IsRunEnd, IsReportEnd}
use Rattle.order_report.proofs.Runs as runs
use Rattle.order_lines.specs.Bars.{TellsRace}
use Rattle.order_lines.specs.Lines.{every_order_text, IsOrderLine}
use Rattle.order_lines.proofs.Exact.{exact}
use Rattle.program_walks.specs.Runs.{program_rules, program_begins}
use Rattle.program_walks.proofs.Fits.{program_fit}
use Rattle.program_run.specs.Reports.{IsProgramReport}
use Rattle.final_values.specs.Listings.{listed_of}
use Rattle.full_report.specs.declared.way.Way.{Way}
use Rattle.checked_run.specs.declared.running.Told.{Told}
use Rattle.checked_run.specs.Coarrays.{coarrays_of}
use Rattle.checked_run.specs.Reports.{IsRunOf}
use Rattle.accepted_runs.proofs.Programs.{can_run}
use Rattle.stuck_reports.proofs.Ended.{has_ended_of, waits_not_ended}
use Rattle.every_report.specs.SameReports.{in_way, without_steps, ShowTheSame}
use Rattle.every_report.proofs.Ends.{AreFree, no_ending, run_end}
use Rattle.every_report.proofs.Finals.{finals_same}
use Rattle.every_report.proofs.Printed.{same_text, no_finals, same_finals}
use Rattle.every_report.proofs.Waits.{at_end, same_waits}

-- ---- the waits of a decided run

-- an image that waits hasn't ended
apart : {C M B : Type 0} (r : Rules C M B) (b : Beginning C M B) (t : Trace) → IsFit r b → IsCoreRun r b t.entries → HasNoEnding t → (i line : ℕ) (ask : Ask) → IsWaiting r b t.entries i line ask → HasEndedIn i t.entries → ⊥
apart r b t fit core open_ i line ask waits ended =
    both_ways (has_ended i (happened control (at_board t.entries))) (waits_not_ended r b t.entries fit core i line ask waits) (has_ended_of i t.entries (runs.no_ending t open_) ended)

-- a run of which each step is free and which has no race ends with its waits
record Closes {C M B : Type 0} (r : Rules C M B) (b : Beginning C M B) (t : Trace) (end : End) : Type 0 where
  open_end : HasNoEnding t
  waits : List Waiting
  waiting : AreWaiting r b t waits
  end_is : end ≡ end_of_waits waits

closes : {C M B : Type 0} (n : ℕ) (r : Rules C M B) (b : Beginning C M B) (t : Trace) (end : End) → IsDecided n t.entries → IsReportEnd n r b t end → Closes r b t end
closes n r b t end decided h =
    let is = run_end n r b t end decided.no_race h in
    let open_ = no_ending t decided.free in
    let (ws, waiting, e) = is.open_end open_ in
    record { open_end = open_; waits = ws; waiting = waiting; end_is = e }

-- ---- two reports

-- what the two have in common
pub record AreAlike (coarrays : List Declared) (r s : Report) : Type 0 where
  pub waits : List Waiting
  pub end : r.end ≡ end_of_waits waits
  pub other_end : s.end ≡ end_of_waits waits
  pub images : s.images ≡ r.images
  pub said : (i : ℕ) → said_by i s.trace.entries ≡ said_by i r.trace.entries
  pub sizes : (i c : ℕ) → size_after (made_memory coarrays i) (of_memory i s.trace.entries) c ≡ size_after (made_memory coarrays i) (of_memory i r.trace.entries) c
  pub values : (i c o : ℕ) → value_there (made_memory coarrays i) (of_memory i s.trace.entries) c o ≡ value_there (made_memory coarrays i) (of_memory i r.trace.entries) c o

module _ (p : Program) (limit : ℕ) (coarrays : List Declared) (n : ℕ) (fails_at : ℕ → ℕ) (words : ℕ) (declared : list_all has_first_values coarrays ≡ true) where
  abbrev Images : Type 0
  Images = OnLane (Config Act Core)

  abbrev its_rules : Rules Images MadeMemory ℕ
  its_rules = program_rules p limit

  abbrev its_start : Beginning Images MadeMemory ℕ
  its_start = program_begins p coarrays n fails_at words

  fit : IsFit its_rules its_start
  fit = program_fit p limit coarrays n fails_at words

  sizes_of : (t u : List Entry) → IsCoreRun its_rules its_start t → IsCoreRun its_rules its_start u → ((i : ℕ) → said_by i u ≡ said_by i t)
      → (i c : ℕ) → size_after (made_memory coarrays i) (of_memory i u) c ≡ size_after (made_memory coarrays i) (of_memory i t) c
  sizes_of t u run_t run_u said i c =
      size_same (made_memory coarrays i) i c u t
      (sizes_own coarrays n u (core_run_lawful its_rules.step its_rules.hears coarrays n its_start.first u declared fit run_u))
      (sizes_own coarrays n t (core_run_lawful its_rules.step its_rules.hears coarrays n its_start.first t declared fit run_t)) (said i)

  pub alike : (order other : Option ℕ) (r s : Report) → IsProgramReport p limit coarrays n fails_at words order r → IsDecided n r.trace.entries → IsProgramReport p limit coarrays n fails_at words other s → AreAlike coarrays r s
  alike order other r s report decided second =
      let c = closes n its_rules its_start r.trace r.end decided report.end in
      let speaks = events_speak its_rules.step its_rules.hears (one_next_ask Images Ask Reply its_rules.step) coarrays n its_start.first r.trace.entries declared fit report.core (at_end its_rules its_start r.trace c.waits c.waiting) decided s.trace.entries second.core in
      let d = closes n its_rules its_start s.trace s.end speaks.decided second.end in
      let ends = at_end its_rules its_start s.trace d.waits d.waiting in
      let said = speaks.whole ends in
      let same = same_waits its_rules its_start r.trace s.trace c.waits d.waits c.waiting d.waiting said (apart its_rules its_start r.trace fit report.core c.open_end) (apart its_rules its_start s.trace fit second.core d.open_end) in
      record {
        waits = c.waits;
        end = c.end_is;
        other_end = d.end_is ∙ ap end_of_waits same;
        images = second.images ∙ sym report.images;
        said = said;
        sizes = sizes_of r.trace.entries s.trace.entries report.core second.core said;
        values = speaks.cells ends;
      }

  pub end_same : (order other : Option ℕ) (r s : Report) → IsProgramReport p limit coarrays n fails_at words order r → IsDecided n r.trace.entries → IsProgramReport p limit coarrays n fails_at words other s → s.end ≡ r.end
  end_same order other r s report decided second = let a = alike order other r s report decided second in a.other_end ∙ sym a.end

  pub printed_same : (order other : Option ℕ) (r s : Report) → IsProgramReport p limit coarrays n fails_at words order r → IsDecided n r.trace.entries → IsProgramReport p limit coarrays n fails_at words other s
      → report_text (without_steps false) s ≡ report_text (without_steps false) r
  printed_same order other r s report decided second = let a = alike order other r s report decided second in same_text false r s a.waits a.images a.said a.end a.other_end (no_finals r s)

-- ---- the line tells it

tells_race : {C M B : Type 0} (n : ℕ) (r : Rules C M B) (b : Beginning C M B) (t : Trace) (end : End) → IsReportEnd n r b t end → TellsRace n t.entries end
tells_race n r b t (ends.Raced x) h = (_, h)
tells_race n r b t ends.Finished h = h.0
tells_race n r b t (ends.ErrorStop k) h = h.0
tells_race n r b t (ends.RunFault k) h = h.0
tells_race n r b t (ends.Clash k) h = h.0
tells_race n r b t (ends.Limit k) h = h.0
tells_race n r b t (ends.Stuck ws) h = h.0

module _ (p : Program) (told : Told) (way : Way) (fails_at : ℕ → ℕ) (r s : Report) (declared : list_all has_first_values (coarrays_of p) ≡ true) (first : IsRunOf p told fails_at r) (second : IsRunOf p (in_way told way) fails_at s) where
  decided_by : IsOrderLine r.images r.trace.entries r.end every_order_text → IsDecided told.images r.trace.entries
  decided_by line =
      let here : IsOrderLine told.images r.trace.entries r.end every_order_text = subst (λ k. IsOrderLine k r.trace.entries r.end every_order_text) first.run.images line in
      let told_race = tells_race told.images (program_rules p told.limit) (program_begins p (coarrays_of p) told.images fails_at told.words) r.trace r.end first.run.end in
      (exact told.images r.trace.entries r.end every_order_text told_race here).0 refl

  pub show_the_same : IsOrderLine r.images r.trace.entries r.end every_order_text → ShowTheSame r s
  show_the_same line =
      let a = alike p told.limit (coarrays_of p) told.images fails_at told.words declared _ _ r s first.run (decided_by line) second.run in
      let finals = finals_same p told.limit (coarrays_of p) told.images fails_at told.words (listed_of p) r.trace.entries s.trace.entries a.said a.sizes a.values r.finals s.finals first.finals second.finals in
      record {
        end = a.other_end ∙ sym a.end;
        text = λ vars. same_text vars r s a.waits a.images a.said a.end a.other_end (same_finals vars r s finals);
      }

pub accepted_show : (x : units.Program) (p : Program) → Accepts x p → (told : Told) (way : Way) (fails_at : ℕ → ℕ) (r s : Report) → IsRunOf p told fails_at r → IsOrderLine r.images r.trace.entries r.end every_order_text
    → IsRunOf p (in_way told way) fails_at s → ShowTheSame r s
accepted_show x p accepts told way fails_at r s first line second = show_the_same p told way fails_at r s (can_run x p accepts).values first second line
