-- The next ask of an image fits: by what it was told, as its statement's cell is found, or as the section that it reads
-- is placed.
use Rattle.std.proofs.Common.{◌≡◌, ◌≤◌, ℕ, true, List, length}
use Rattle.caf_events.specs.declared.ask.Ask.{Ask}
use Rattle.caf_events.specs.declared.ask.Ask.TheVariants as asks
use Rattle.caf_events.specs.declared.event.Entry.{Entry}
use Rattle.checked_tree.specs.Statements as s
use Rattle.object_rules.specs.BoardTeams.{teams_after}
use Rattle.object_rules.specs.Cells.{Declared}
use Rattle.core_runs.specs.CoreRuns.{IsCoreRun, at_board}
use Rattle.wait_reason.specs.WaitsFor.{is_fit_after}
use Rattle.program_walks.specs.Runs.{program_rules, program_begins}
use Rattle.told_walks.specs.Asked.{most_team}
use Rattle.walk_laws.specs.Fits.{StandsAt}
use Rattle.fit_laws.proofs.Fitting.{told_fits, allocation_fits}
use Rattle.memory_fits.proofs.Fitting.{named_fits, own_fits, read_fits}
use Rattle.next_fits.specs.Known.{IsSound, is_known}

module _ (p : s.Program) (limit : ℕ) (coarrays : List Declared) (n : ℕ) (fails_at : ℕ → ℕ) (words : ℕ) (t : List Entry) (sound : IsSound coarrays p)
    (core : IsCoreRun (program_rules p limit) (program_begins p coarrays n fails_at words) t) (few : length (teams_after n (at_board t)) ≤ most_team) where
  abbrev Stands : ℕ → Ask → Type 0
  Stands i a = StandsAt p limit coarrays n fails_at words t i a

  abbrev Fits : ℕ → Ask → Type 0
  Fits i a = is_fit_after coarrays n t i a ≡ true

  pub next_fits : (i : ℕ) (a : Ask) → Stands i a → is_known coarrays a ≡ true → Fits i a
  next_fits i (asks.Create owner c cells) h e = allocation_fits p limit coarrays n fails_at words t sound.values core few sound.declared sound.allocates i (asks.Create owner c cells) h e
  next_fits i (asks.Delete owner c) h e = allocation_fits p limit coarrays n fails_at words t sound.values core few sound.declared sound.allocates i (asks.Delete owner c) h e
  next_fits i (asks.Lock owner span) h e = named_fits p limit coarrays n fails_at words t sound.values core sound.ranked sound.typed sound.small i (asks.Lock owner span) h e
  next_fits i (asks.TryLock owner span) h e = named_fits p limit coarrays n fails_at words t sound.values core sound.ranked sound.typed sound.small i (asks.TryLock owner span) h e
  next_fits i (asks.Unlock owner span) h e = named_fits p limit coarrays n fails_at words t sound.values core sound.ranked sound.typed sound.small i (asks.Unlock owner span) h e
  next_fits i (asks.Post owner span) h e = named_fits p limit coarrays n fails_at words t sound.values core sound.ranked sound.typed sound.small i (asks.Post owner span) h e
  next_fits i (asks.Wait owner span k) h e =
      own_fits p limit coarrays n fails_at words t sound.values core sound.ranked sound.typed sound.small sound.declared i (asks.Wait owner span k) h e
  next_fits i (asks.Query owner span) h e =
      own_fits p limit coarrays n fails_at words t sound.values core sound.ranked sound.typed sound.small sound.declared i (asks.Query owner span) h e
  next_fits i (asks.Read owner span) h e = read_fits p limit coarrays n fails_at words t sound.values core sound.ranked sound.typed sound.small i owner span h e
  next_fits i (asks.Write owner span vs) h e = absurd (cc)
  next_fits i (asks.Atomic owner op span x y) h e = named_fits p limit coarrays n fails_at words t sound.values core sound.ranked sound.typed sound.small i (asks.Atomic owner op span x y) h e
  next_fits i (asks.Gather team op root kind vs) h e = absurd (cc)
  next_fits i a h e = told_fits p limit coarrays n fails_at words t sound.values core few i a h e
