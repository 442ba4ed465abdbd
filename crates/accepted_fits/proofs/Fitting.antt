-- Each next ask of an image fits in a run of an accepted program over its own coarrays.
use Rattle.std.proofs.Common.{◌≡◌, refl}
use Rattle.std.specs.Prelude.{◌<◌, ◌+◌, ◌*◌, ℕ, true, List}
use Rattle.fortran_tree.specs.Units as u
use Rattle.caf_events.specs.declared.ask.Ask.{Ask}
use Rattle.caf_events.specs.declared.event.Entry.{Entry}
use Rattle.checked_tree.specs.Statements as s
use Rattle.rule_definitions.specs.Acceptance.{Accepts}
use Rattle.core_runs.specs.CoreRuns.{IsCoreRun}
use Rattle.image_code.specs.declared.tables.CellType.{CellType}
use Rattle.image_code.specs.declared.tables.CellType.TheVariants as cells
use Rattle.program_walks.specs.Runs.{program_rules, program_begins}
use Rattle.wait_reason.specs.WaitsFor.{is_fit_after}
use Rattle.told_walks.specs.Asked.{most_team}
use Rattle.walk_laws.specs.Fits.{StandsAt}
use Rattle.fit_laws.proofs.Declaring.{tables_declare}
use Rattle.accepted_cells.specs.Contents
use Rattle.accepted_cells.proofs.OwnCells.{tables_held}
use Rattle.next_fits.specs.Known.{IsSound, is_known}
use Rattle.next_fits.proofs.NextFits.{next_fits}
use Rattle.accepted_asks.proofs.Sound.{accepted_sound}
use Rattle.checked_run.specs.Coarrays.{content_of, in_memory, coarrays_of}
use Rattle.accepted_runs.proofs.Programs.{can_run}
use Rattle.accepted_fits.proofs.Programs.{accepted_allocates}
use Rattle.accepted_fits.proofs.Teams.{run_few}

same_content : (y : CellType) → content_of y ≡ Contents.content_of y
same_content (cells.Value kind) = refl
same_content cells.Event = refl
same_content cells.Lock = refl

pub own_sound : (x : u.Program) (p : s.Program) → Accepts x p → IsSound (coarrays_of p) p
own_sound x p accepts =
    let run = can_run x p accepts in
    let declared = tables_declare in_memory (λ c. refl) (λ c. refl) p in
    accepted_sound x p accepts (coarrays_of p) (tables_held in_memory (λ c. same_content c.of_type) p) declared run.begins run.values
    (accepted_allocates x p accepts (coarrays_of p) declared)

pub next_ask : (x : u.Program) (p : s.Program) → Accepts x p
    → (limit n : ℕ) (fails_at : ℕ → ℕ) (words : ℕ) (t : List Entry) → n * (2 * words + 4) < most_team
    → IsCoreRun (program_rules p limit) (program_begins p (coarrays_of p) n fails_at words) t
    → (i : ℕ) (a : Ask) → StandsAt p limit (coarrays_of p) n fails_at words t i a → is_known (coarrays_of p) a ≡ true
    → is_fit_after (coarrays_of p) n t i a ≡ true
next_ask x p accepts limit n fails_at words t few core i a h e =
    next_fits p limit (coarrays_of p) n fails_at words t (own_sound x p accepts) core
    (run_few p limit (coarrays_of p) n fails_at words t core few) i a h e
