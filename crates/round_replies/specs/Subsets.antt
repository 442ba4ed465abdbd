-- The runs for which the law of every order is proved here: memories and rounds of teams.
use Rattle.std.specs.Prelude.{ℕ, ◌≡◌, Bool, true, List}
use Rattle.trace_theory.specs.Entries.{Each}
use Rattle.caf_events.specs.declared.ask.Ask.{Ask}
use Rattle.caf_events.specs.declared.ask.Ask.TheVariants as asks
use Rattle.caf_events.specs.declared.event.Entry.{Entry}
use Rattle.free_replies.specs.Subsets.{is_of_memories}

-- A step at a round of image control statements (ISO/IEC 1539-1:2018, 11.6) or of a collective subroutine (16.6),
-- FAILED_IMAGES, or a step of memories alone.
abbrev pub is_of_rounds : Ask → Bool
is_of_rounds (asks.Arrive team arriving) = true
is_of_rounds (asks.Leave team round) = true
is_of_rounds (asks.Gather team op root kind values) = true
is_of_rounds (asks.Take team round) = true
is_of_rounds (asks.Failed team) = true
is_of_rounds ask = is_of_memories ask

-- A run of n images of memories and rounds.
pub record IsOfRounds (n : ℕ) (t : List Entry) : Type 0 where
  pub steps : Each (λ x. is_of_rounds x.event.ask ≡ true) t
