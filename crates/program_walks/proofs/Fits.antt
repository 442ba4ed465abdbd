-- A run of lanes over programs whose walks are in order is fit.
use Rattle.std.proofs.Common.{ℕ, List, []}
use Rattle.checked_tree.specs.Statements as checked
use Rattle.caf_events.specs.declared.ask.Ask.{Ask}
use Rattle.caf_events.specs.declared.reply.Reply.{Reply}
use Rattle.caf_events.specs.Answers.{Answers}
use Rattle.trace_theory.specs.Machines.{Move}
use Rattle.walk_theory.specs.Code.{Line, at_place, code_step}
use Rattle.walk_theory.specs.Programs.{HasWalksOf}
use Rattle.image_acts.specs.Acts.{Act, ask, end_program}
use Rattle.image_acts.specs.Meaning.{image_language}
use Rattle.tree_meaning.specs.Forms.{bodies}
use Rattle.tree_meaning.specs.Start.{first_core, start_of, walk_step}
use Rattle.object_rules.specs.Cells.{Declared, MadeMemory}
use Rattle.core_runs.specs.Moments.{Moment}
use Rattle.core_runs.specs.Lanes.{IsMoment, HearsDue}
use Rattle.image_lanes.specs.Lanes.{OnLane}
use Rattle.image_lanes.specs.LaneRuns.{lane_rules, lanes_begin}
use Rattle.core_runs.specs.Beginnings.{IsOneOf}
use Rattle.core_runs.specs.CoreRuns.{IsFit}
use Rattle.program_walks.specs.Dues.{GoesInOrder}
use Rattle.program_walks.specs.Hearing.{TellsNoTeam, HearsEach, DueToPrograms}
use Rattle.program_walks.specs.Runs.{program_rules, program_begins}
use Rattle.program_walks.proofs.BoardAnswers.{board_answers, memory_answers}
use Rattle.program_walks.proofs.Programs.{program_goes}
use Rattle.program_walks.proofs.LaneOrder.{lane_fails}
use Rattle.program_walks.proofs.LaneEnds.{lane_orderly}
use Rattle.program_walks.proofs.Hearing.{hears_due, hears_no_team}

module _ {C : Type 0} (step : C → Move C Ask Reply) (hears : C → Reply → Type 0) (coarrays : List Declared) (n : ℕ) (first : ℕ → C) (fails_at : ℕ → ℕ) (words : ℕ) (order : (i : ℕ) → IsOneOf n i → GoesInOrder step (first i)) where
  fit_where : ((m : Moment (OnLane C) MadeMemory ℕ) → IsMoment (lane_rules step hears) (lanes_begin coarrays n first fails_at words) m → HearsDue (lane_rules step hears) m) → IsFit (lane_rules step hears) (lanes_begin coarrays n first fails_at words)
  fit_where due = record {
    memory_answers = λ made h i a served ready. memory_answers made h i a ready;
    board_answers = λ made h i a served ready. board_answers made h i a ready;
    orderly = λ i in_run. lane_orderly step i (fails_at i) words (first i) (order i in_run);
    fails = λ i in_run es c answers w. lane_fails step (first i) (order i in_run) i (fails_at i) words es c answers w;
    hears = due;
  }

  pub lanes_fit : HearsEach step hears (λ reply. Unit {0}) → IsFit (lane_rules step hears) (lanes_begin coarrays n first fails_at words)
  lanes_fit all = fit_where (λ m moment. hears_due step hears all m)

  pub lanes_fit_without : HearsEach step hears TellsNoTeam
      → ((m : Moment (OnLane C) MadeMemory ℕ) → IsMoment (lane_rules step hears) (lanes_begin coarrays n first fails_at words) m → DueToPrograms step TellsNoTeam (lane_rules step hears) m)
      → IsFit (lane_rules step hears) (lanes_begin coarrays n first fails_at words)
  lanes_fit_without hear due = fit_where (λ m moment. hears_no_team step hears hear m (due m moment))

pub program_fit : (p : checked.Program) (limit : ℕ) (coarrays : List Declared) (n : ℕ) (fails_at : ℕ → ℕ) (words : ℕ) → IsFit (program_rules p limit) (program_begins p coarrays n fails_at words)
program_fit p limit coarrays n fails_at words = record {
  memory_answers = λ made h i a served ready. memory_answers made h i a ready;
  board_answers = λ made h i a served ready. board_answers made h i a ready;
  orderly = λ i in_run. lane_orderly (walk_step p limit) i (fails_at i) words (start_of p i n) (program_goes p limit i n);
  fails = λ i in_run es c answers w. lane_fails (walk_step p limit) (start_of p i n) (program_goes p limit i n) i (fails_at i) words es c answers w;
  hears = λ m moment i c a at next ready. tt;
}

-- what has the walks of a program goes in order as it does
pub code_goes : (p : checked.Program) (limit me n : ℕ) (code : List (Line Act)) → HasWalksOf image_language Answers (ask end_program) (bodies p) p.end_line limit (first_core p me n) code
    → GoesInOrder (code_step image_language code limit) (at_place 0 [] (first_core p me n) 0)
code_goes p limit me n code same es c answers w =
    let back = same.backward es c answers w in
    program_goes p limit me n es back.0 answers back.2
