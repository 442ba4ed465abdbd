-- The law of every order (`EveryOrder` of every_order), of the traces of n images that are so.
use Rattle.std.specs.Prelude.{ℕ, ◌≡◌, true, List}
use Rattle.std.specs.List.{list_all}
use Rattle.caf_events.specs.declared.ask.Ask.{Ask}
use Rattle.caf_events.specs.declared.reply.Reply.{Reply}
use Rattle.caf_events.specs.declared.event.Entry.{Entry}
use Rattle.object_rules.specs.Cells.{Declared}
use Rattle.object_rules.specs.MemoryRules.{has_first_values}
use Rattle.trace_theory.specs.Machines.{Move}
use Rattle.core_runs.specs.CoreRuns.{IsCoreRun, IsFit}
use Rattle.core_runs.specs.Lawful.{full_rules, full_beginning}
use Rattle.every_order.specs.Decided.{IsDecided}
use Rattle.every_order.specs.EveryOrder.{IsAtEnd, SpeaksFor}

abbrev pub EveryOrderOf : {C : Type 0} → (C → Move C Ask Reply) → (C → Reply → Type 0) → (ℕ → List Entry → Type 0) → Type 0
EveryOrderOf {C} step hears IsSo =
    (coarrays : List Declared) (n : ℕ) (first : ℕ → C) (t u : List Entry) → list_all has_first_values coarrays ≡ true
    → IsFit (full_rules step hears) (full_beginning coarrays n first)
    → IsCoreRun (full_rules step hears) (full_beginning coarrays n first) t → IsAtEnd (full_rules step hears) (full_beginning coarrays n first) t
    → IsDecided n t → IsSo n t
    → IsCoreRun (full_rules step hears) (full_beginning coarrays n first) u
    → SpeaksFor (full_rules step hears) (full_beginning coarrays n first) coarrays n t u
