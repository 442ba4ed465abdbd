-- For which image another one waits with an ask, counted over the whole trace.
use Rattle.std.specs.Prelude.{ℕ, ◌≡◌, ◌≤◌, Bool, true, false, nat_eq, cond, List, [], ◌∷◌, Option, Some, None}
use Rattle.caf_events.specs.declared.ask.Ask.{Ask}
use Rattle.caf_events.specs.declared.ask.Ask.TheVariants as asks
use Rattle.caf_events.specs.declared.event.Entry.{Entry}
use Rattle.object_rules.specs.Happenings.{images, happened}
use Rattle.object_rules.specs.ImagePairs.{last_named}
use Rattle.core_runs.specs.Beginnings.{IsOneOf}
use Rattle.wait_reason.specs.Chains.{Wait}
use Rattle.wait_chain.specs.declared.lacking.Due.TheVariants as dues
use Rattle.wait_chain.specs.declared.awaited.Awaited.{Awaited}
use Rattle.wait_chain.specs.declared.awaited.Awaited.TheVariants as awaiteds
use Rattle.wait_chain.specs.Told.{members}
use Rattle.wait_chain.specs.Counts.{lacks}
use Rattle.wait_chain.specs.Holders.{lock_holder, inside}

-- what image i waits for with this ask
abbrev pub awaited_by : Ask → Awaited
awaited_by (asks.Leave team round) = awaiteds.Arrival team.0 round
awaited_by (asks.Take team round) = awaiteds.Gathering team.0 round
awaited_by asks.Unpair = awaiteds.Partner
awaited_by (asks.Lock owner span) = awaiteds.Unlock (record { owner = owner.0; coarray = span.coarray; offset = span.start })
awaited_by (asks.Enter construct) = awaiteds.Exit construct
awaited_by ask = awaiteds.NoImage

-- what it waits for with its ask in the list
abbrev pub awaited_in : List Wait → ℕ → Awaited
awaited_in [] i = awaiteds.NoImage
awaited_in (w ∷ ws) i = cond (nat_eq w.image i) (awaited_by w.ask) (awaited_in ws i)

-- this is the image
abbrev pub is_it : Option ℕ → ℕ → Bool
is_it None j = false
is_it (Some k) j = nat_eq k j

-- image i waits for image j, where it waits for this
abbrev pub awaits : ℕ → List Entry → ℕ → Awaited → ℕ → Bool
awaits n g i (awaiteds.Arrival team round) j = lacks (dues.Arrival team round) (members n team g) g j
awaits n g i (awaiteds.Gathering team round) j = lacks (dues.Gathering team round) (members n team g) g j
awaits n g i awaiteds.Partner j = lacks (dues.Partner i) (last_named i (happened images g)) g j
awaits n g i (awaiteds.Unlock cell) j = is_it (lock_holder cell None g) j
awaits n g i (awaiteds.Exit construct) j = is_it (inside construct None g) j
awaits n g i awaiteds.NoImage j = false

-- the least image of a run of n for which the test holds, None where there is none
abbrev pub IsLeast : (ℕ → Bool) → ℕ → Option ℕ → Type 0
IsLeast test n None = (k : ℕ) → IsOneOf n k → test k ≡ false
IsLeast test n (Some j) = IsOneOf n j × (test j ≡ true) × ((k : ℕ) → IsOneOf n k → test k ≡ true → j ≤ k)
