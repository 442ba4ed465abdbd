-- What is known of each image's own list in a lawful trace, as far as segment order needs it (ISO/IEC 1539-1:2018,
-- 5.3.6, 11.6.2).
use Rattle.std.specs.Prelude.{ℕ, ◌≡◌, Bool, true, false, ◌||◌, List, [], ◌∷◌, ◌++◌}
use Rattle.trace_theory.specs.Entries.{Each}
use Rattle.trace_theory.specs.Machines.{Said}
use Rattle.caf_events.specs.declared.ask.Ask.{Ask}
use Rattle.caf_events.specs.declared.ask.Ask.TheVariants as asks
use Rattle.caf_events.specs.declared.reply.Reply.{Reply}
use Rattle.caf_events.specs.declared.event.Entry.{Entry}
use Rattle.order_theory.specs.Order.{Within}
use Rattle.core_runs.specs.Failures.{is_failure_step, is_limit}
use Rattle.core_runs.specs.Sequences.{Joins}
use Rattle.core_runs.specs.CoreRuns.{said_by}
use Rattle.order_axioms.specs.Views.{speaks_by}

-- the asks that may touch a cell, but for the release of a lock by a failing image
abbrev pub may_touch : Ask → Bool
may_touch (asks.Read owner span) = true
may_touch (asks.Write owner span values) = true
may_touch (asks.Atomic owner op span x y) = true
may_touch (asks.Create owner coarray cells) = true
may_touch (asks.Delete owner coarray) = true
may_touch (asks.Lock owner span) = true
may_touch (asks.TryLock owner span) = true
may_touch (asks.Unlock owner span) = true
may_touch (asks.Post owner span) = true
may_touch (asks.Wait owner span threshold) = true
may_touch (asks.Query owner span) = true
may_touch ask = false

-- after a step of a failure an image makes only such steps, or comes to a limit; and after a limit it makes none
pub record EndsQuietly (es : List (Said Ask Reply)) : Type 0 where
  pub after_failure : (b a : List (Said Ask Reply)) (e : Said Ask Reply) → es ≡ b ++ e ∷ a → is_failure_step e.ask ≡ true → Each (λ x. (is_failure_step x.ask || is_limit x.ask) ≡ true) a
  pub after_limit : (b a : List (Said Ask Reply)) (e : Said Ask Reply) → es ≡ b ++ e ∷ a → is_limit e.ask ≡ true → a ≡ []

-- What segment order needs of a lawful trace of n images: arrivals have their departures, an image that fails or comes
-- to a limit makes no other step, and each image of which a status speaks has begun to fail earlier.
pub record IsQuiet (n : ℕ) (t : List Entry) : Type 0 where
  pub joins : (i : ℕ) → Joins (said_by i t)
  pub ends : (i : ℕ) → EndsQuietly (said_by i t)
  pub spoken :
      (g h : List Entry) (x : Entry) (i : ℕ) → t ≡ g ++ x ∷ h → Within i (speaks_by n g x.image.0 x.event.ask x.event.reply)
      → (b : List Entry) × (f : Entry) × (r : List Entry) × (g ≡ b ++ f ∷ r) × (f.image.0 ≡ i) × (is_failure_step f.event.ask ≡ true)
