use Rattle.core_runs.proofs.CoreRuns.{core_run}
use Rattle.core_runs.proofs.Lawfuls.{core_run_lawful}
use Rattle.tree_meaning.specs.Start.{start_of, walk_step}
use Rattle.image_lanes.specs.Lanes.{lane_step, lane_start}
use Rattle.program_walks.specs.Runs.{program_rules, program_begins}
use Rattle.program_walks.proofs.Fits.{program_fit}
use Rattle.program_walks.proofs.laws.law_program_runs.Goals as goal

pub returns-clause-kept : goal.returns-clause-kept
returns-clause-kept c p limit coarrays n fails_at words m t kept trace = core_run (program_rules p limit) (program_begins p coarrays n fails_at words) m t kept trace

pub returns-clause-lawful : goal.returns-clause-lawful
returns-clause-lawful c p limit coarrays n fails_at words t declared core =
    core_run_lawful (lane_step (walk_step p limit)) (λ l reply. Unit {0}) coarrays n (λ i. lane_start i (fails_at i) words (start_of p i n)) t declared (program_fit p limit coarrays n fails_at words) core
