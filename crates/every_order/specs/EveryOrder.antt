-- What a decided run says of every other run of the same programs.
use Rattle.std.specs.Prelude.{ℕ, ◌≡◌, ◌⊎◌, true, List, ◌++◌}
use Rattle.std.specs.List.{list_all}
use Rattle.caf_events.specs.declared.ask.Ask.{Ask}
use Rattle.caf_events.specs.declared.reply.Reply.{Reply}
use Rattle.caf_events.specs.declared.event.Entry.{Entry}
use Rattle.object_rules.specs.Cells.{Declared, MadeMemory}
use Rattle.object_rules.specs.MemoryRules.{has_first_values, value_there}
use Rattle.trace_theory.specs.Machines.{Move, Said}
use Rattle.core_runs.specs.Moments.{Rules}
use Rattle.core_runs.specs.Beginnings.{Beginning, IsImage}
use Rattle.core_runs.specs.CoreRuns.{IsCoreRun, IsFit, said_by, of_memory}
use Rattle.core_runs.specs.Lawful.{full_rules, full_beginning, made_memory}
use Rattle.core_runs.specs.Waits.{HasEndedIn, IsWaiting}
use Rattle.order_axioms.specs.Views.{edges}
use Rattle.order_axioms.specs.Touching.{touches}
use Rattle.order_axioms.specs.FirstRaces.{HasNoRace}
use Rattle.every_order.specs.Decided.{IsDecided}

-- no image can step after the trace: each has ended, or waits for an ask that isn't ready
abbrev pub IsAtEnd : {C M B : Type 0} → Rules C M B → Beginning C M B → List Entry → Type 0
IsAtEnd r b t = (i : ℕ) → IsImage b i → HasEndedIn i t ⊎ ((line : ℕ) × (ask : Ask) × IsWaiting r b t i line ask)

-- the images of u said and heard what those of t did, as far as they came
pub record SaysNoMore (t u : List Entry) : Type 0 where
  pub left : ℕ → List (Said Ask Reply)
  pub splits : (i : ℕ) → said_by i t ≡ said_by i u ++ left i

-- What a run t that is at its end says of another one, u: u's images went the same ways; u has no race and is decided
-- too; and where u is at its end as well, each image made all of the steps, and every cell holds what it holds after t.
pub record SpeaksFor {C : Type 0} (r : Rules C MadeMemory ℕ) (b : Beginning C MadeMemory ℕ) (coarrays : List Declared) (n : ℕ) (t u : List Entry) : Type 0 where
  pub no_more : SaysNoMore t u
  pub no_race : HasNoRace (edges n) touches u
  pub decided : IsDecided n u
  pub whole : IsAtEnd r b u → (i : ℕ) → said_by i u ≡ said_by i t
  pub cells : IsAtEnd r b u → (owner coarray offset : ℕ) → value_there (made_memory coarrays owner) (of_memory owner u) coarray offset ≡ value_there (made_memory coarrays owner) (of_memory owner t) coarray offset

-- THE LAW OF EVERY ORDER, of machines with these steps.
abbrev pub EveryOrder : {C : Type 0} → (C → Move C Ask Reply) → (C → Reply → Type 0) → Type 0
EveryOrder {C} step hears =
    (coarrays : List Declared) (n : ℕ) (first : ℕ → C) (t u : List Entry) → list_all has_first_values coarrays ≡ true
    → IsFit (full_rules step hears) (full_beginning coarrays n first)
    → IsCoreRun (full_rules step hears) (full_beginning coarrays n first) t → IsAtEnd (full_rules step hears) (full_beginning coarrays n first) t → IsDecided n t
    → IsCoreRun (full_rules step hears) (full_beginning coarrays n first) u
    → SpeaksFor (full_rules step hears) (full_beginning coarrays n first) coarrays n t u
