-- The runs for which the law of every order is proved so far.
use Rattle.std.specs.Prelude.{ℕ, ◌≡◌, Bool, true, false, List}
use Rattle.trace_theory.specs.Entries.{Each}
use Rattle.caf_events.specs.declared.ask.Ask.{Ask}
use Rattle.caf_events.specs.declared.ask.Ask.TheVariants as asks
use Rattle.caf_events.specs.declared.event.Entry.{Entry}
use Rattle.core_runs.specs.Beginnings.{IsOneOf}
use Rattle.core_runs.specs.Waits.{HasEndedIn}

-- An access to the cells of a coarray of values: a reference or a definition, or its allocation or deallocation.
abbrev pub is_of_cells : Ask → Bool
is_of_cells (asks.Read owner span) = true
is_of_cells (asks.Write owner span values) = true
is_of_cells (asks.Create owner coarray cells) = true
is_of_cells (asks.Delete owner coarray) = true
is_of_cells ask = false

-- Such an access, or what an image does with no other one: it prints, completes a segment, or stops.
abbrev pub is_of_memories : Ask → Bool
is_of_memories (asks.Print text) = true
is_of_memories asks.Memory = true
is_of_memories (asks.Stop code) = true
is_of_memories ask = is_of_cells ask

-- A run of memories alone: each of its steps is such a one, and each of the n images has ended.
pub record IsOfMemories (n : ℕ) (t : List Entry) : Type 0 where
  pub steps : Each (λ x. is_of_memories x.event.ask ≡ true) t
  pub ended : (i : ℕ) → IsOneOf n i → HasEndedIn i t
