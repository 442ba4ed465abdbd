-- The machine can run each accepted program.
use Rattle.fortran_tree.specs.Units as units
use Rattle.checked_tree.specs.Statements.{Program}
use Rattle.image_acts.specs.Acts.{ask, end_program}
use Rattle.tree_meaning.specs.Forms.{bodies}
use Rattle.rule_definitions.specs.Acceptance.{Accepts}
use Rattle.accepted_ranks.proofs.Programs.{program_kinded}
use Rattle.checked_run.specs.Doing.{DoesAll}
use Rattle.checked_run.specs.Runnable.{CanRun, lines_of}
use Rattle.accepted_runs.proofs.Few.{program_fits}
use Rattle.accepted_runs.proofs.Firsts.{program_first}
use Rattle.accepted_runs.proofs.Statements.{bodies_do}
use Rattle.accepted_runs.proofs.Lines.{program_does}

pub acts_done : (x : units.Program) (p : Program) → Accepts x p → DoesAll (lines_of p)
acts_done x p a = program_does (ask end_program) p.end_line (bodies p) tt (bodies_do p ((program_kinded x).means a.unbroken p a.meaning))

pub can_run : (x : units.Program) (p : Program) → Accepts x p → CanRun p
can_run x p a = record { does = acts_done x p a; begins = (program_fits x).means a.unbroken p a.meaning; values = (program_first x).means a.unbroken p a.meaning }
