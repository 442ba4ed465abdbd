-- What other crates prove of accepted programs and of their code.
use Rattle.std.proofs.Common.{ℕ}
use Rattle.fortran_tree.specs.Units as units
use Rattle.checked_tree.specs.Statements.{Program}
use Rattle.rule_definitions.specs.Acceptance.{Accepts}
use Rattle.accepted_ranks.proofs.Programs.{program_means}
use Rattle.code_walks.proofs.Starts.{walks_alike}
use Rattle.image_code.specs.Code.{Whole}
use Rattle.made_code.specs.Ranks.{IsRankedProgram}
use Rattle.machine_runs.specs.Runs.{HasWalksOn}
use Rattle.checked_run.specs.Reports.{IsCodeOf}

-- an accepted program has its ranks
pub ranked : (p : Program) → (x : units.Program) × Accepts x p → IsRankedProgram p
ranked p a = (program_means a.0).means a.1.unbroken p a.1.meaning

-- its code has its walks, on any number of images
pub has_walks : (p : Program) (w : Whole) (limit n : ℕ) → IsCodeOf p w → HasWalksOn p limit n w
has_walks p w limit n is = λ i in_run. walks_alike p w is.code is.tables limit i n
