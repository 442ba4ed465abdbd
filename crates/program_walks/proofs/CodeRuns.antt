-- The runs of a program's code are the runs of the program.
use Rattle.std.proofs.Common.{ℕ, List, []}
use Rattle.caf_events.specs.declared.event.Entry.{Entry}
use Rattle.caf_events.specs.Answers.{Answers}
use Rattle.walk_theory.specs.Code.{at_place, code_step}
use Rattle.walk_theory.specs.Made.{program_code}
use Rattle.walk_theory.specs.Programs.{HasWalksOf}
use Rattle.walk_theory.proofs.Programs.{has_walks}
use Rattle.checked_tree.specs.Statements as checked
use Rattle.image_acts.specs.Acts.{ask, end_program}
use Rattle.image_acts.specs.Meaning.{image_language}
use Rattle.tree_meaning.specs.Forms.{bodies}
use Rattle.tree_meaning.specs.Start.{first_core, start_of, walk_step}
use Rattle.object_rules.specs.Cells.{Declared}
use Rattle.core_runs.specs.CoreRuns.{IsCoreRun}
use Rattle.core_runs.proofs.SaysSame.{says_onward, says_backward}
use Rattle.program_walks.specs.Runs.{program_rules, program_begins, code_rules, code_begins}
use Rattle.program_walks.proofs.LaneSame.{lanes_core}

module _ (p : checked.Program) (limit : ℕ) (coarrays : List Declared) (n : ℕ) (fails_at : ℕ → ℕ) (words : ℕ) where
  same : (i : ℕ) → HasWalksOf image_language Answers (ask end_program) (bodies p) p.end_line limit (first_core p i n) (program_code (ask end_program) p.end_line (bodies p))
  same i = has_walks image_language Answers (ask end_program) (bodies p) p.end_line limit (first_core p i n)

  pub runs_onward : (t : List Entry) → IsCoreRun (program_rules p limit) (program_begins p coarrays n fails_at words) t → IsCoreRun (code_rules p limit) (code_begins p coarrays n fails_at words) t
  runs_onward t core =
      let step = code_step image_language (program_code (ask end_program) p.end_line (bodies p)) limit in
      lanes_core (walk_step p limit) step (λ l reply. Unit {0}) (λ l reply. Unit {0}) coarrays n (λ i. start_of p i n) (λ i. at_place 0 [] (first_core p i n) 0) fails_at words
      (λ i in_run. says_onward (walk_step p limit) step _ _ (start_of p i n) (at_place 0 [] (first_core p i n) 0) (same i)) t core

  pub runs_backward : (t : List Entry) → IsCoreRun (code_rules p limit) (code_begins p coarrays n fails_at words) t → IsCoreRun (program_rules p limit) (program_begins p coarrays n fails_at words) t
  runs_backward t core =
      let step = code_step image_language (program_code (ask end_program) p.end_line (bodies p)) limit in
      lanes_core step (walk_step p limit) (λ l reply. Unit {0}) (λ l reply. Unit {0}) coarrays n (λ i. at_place 0 [] (first_core p i n) 0) (λ i. start_of p i n) fails_at words
      (λ i in_run. says_backward (walk_step p limit) step _ _ (start_of p i n) (at_place 0 [] (first_core p i n) 0) (same i)) t core
