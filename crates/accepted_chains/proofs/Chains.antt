-- The chain that the trace of an accepted program's stuck run tells is that of its images' waits.
use Rattle.std.specs.Prelude.{◌≡◌, ◌<◌, ◌+◌, ◌*◌, ℕ, List, Option}
use Rattle.fortran_tree.specs.Units as u
use Rattle.caf_report.specs.declared.report.End.TheVariants as ends
use Rattle.caf_report.specs.declared.report.Report.{Report}
use Rattle.caf_report.specs.declared.report.Waiting.{Waiting}
use Rattle.checked_tree.specs.Statements as s
use Rattle.rule_definitions.specs.Acceptance.{Accepts}
use Rattle.told_walks.specs.Asked.{most_team}
use Rattle.program_run.specs.Reports.{IsProgramReport}
use Rattle.checked_run.specs.Coarrays.{coarrays_of}
use Rattle.wait_reason.specs.Chains.{Close, IsChain}
use Rattle.wait_chain.specs.Reports.{as_waits}
use Rattle.wait_chain.specs.ToldChains.{IsToldChain}
use Rattle.wait_chain.proofs.Chaining.{told_chain}
use Rattle.accepted_fits.proofs.Fitting.{own_sound}
use Rattle.accepted_fits.proofs.Teams.{run_few}
use Rattle.stuck_reports.specs.Fitting.{AskWhatIsKnown}
use Rattle.stuck_reports.proofs.Stuck.{stuck_report, known_fit}

pub accepted_chain : (x : u.Program) (p : s.Program) → Accepts x p → (limit n : ℕ) (fails_at : ℕ → ℕ) (words : ℕ) (order : Option ℕ) (r : Report) (waits : List Waiting) → n * (2 * words + 4) < most_team
    → IsProgramReport p limit (coarrays_of p) n fails_at words order r → r.end ≡ ends.Stuck waits → AskWhatIsKnown (coarrays_of p) waits
    → (links : List ℕ) (close : Close) → IsToldChain n r.trace.entries (as_waits waits) links close → IsChain n r.trace.entries (as_waits waits) links close
accepted_chain x p accepts limit n fails_at words order r waits few report is known links close told =
    let sound = own_sound x p accepts in
    let teams = run_few p limit (coarrays_of p) n fails_at words r.trace.entries report.core few in
    told_chain n r.trace.entries (as_waits waits)
    (stuck_report p limit (coarrays_of p) n fails_at words order r waits sound.values report is (known_fit p limit (coarrays_of p) n fails_at words order r waits sound report is teams known)) links close told
