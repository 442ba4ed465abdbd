-- The rounds of a team come one after the other (ISO/IEC 1539-1:2018, 11.6.3).
use Rattle.std.specs.Prelude.{ℕ, suc, ◌-◌, ◌<◌, ◌≡◌, ◌⊎◌, Bool, true, false, List, ◌∷◌, ◌++◌}
use Rattle.caf_events.specs.declared.event.Entry.{Entry}
use Rattle.order_theory.specs.Acts.{arrives, leaves}
use Rattle.order_axioms.specs.Closes.{joined_by, is_over, has_come, round_closed}
use Rattle.order_axioms.specs.Views.{act_of}

-- the entry comes to round k of team u: it arrives there or departs from there
abbrev pub ComesTo : Entry → ℕ → ℕ → Type 0
ComesTo e u k = (act_of e ≡ arrives u k) ⊎ ((whole : Bool) × (act_of e ≡ leaves u k whole))

-- an image has arrived at round k of team u
abbrev pub HasArrived : List Entry → ℕ → ℕ → Type 0
HasArrived g u k = (b : List Entry) × (x : Entry) × (h : List Entry) × (g ≡ b ++ x ∷ h) × (act_of x ≡ arrives u k)

-- What a lawful trace of n images says of rounds: arrivals are numbered, an image that arrives at a round has left the
-- one before, a departure stands after the close, a round that has closed has waited for each image that comes to the
-- team's rounds, and an image that is over makes no step.
pub record InRounds (n : ℕ) (t : List Entry) : Type 0 where
  pub numbered : (g h : List Entry) (x : Entry) (u k : ℕ) → t ≡ g ++ x ∷ h → act_of x ≡ arrives u k → k ≡ suc (joined_by u x.image.0 g)
  pub left : (g h : List Entry) (x : Entry) (u k : ℕ) → t ≡ g ++ x ∷ h → act_of x ≡ arrives u k → 1 < k
      → (b : List Entry) × (y : Entry) × (r : List Entry) × (g ≡ b ++ y ∷ r) × ((whole : Bool) × (act_of y ≡ leaves u (k - 1) whole))
  pub departs : (g h : List Entry) (x : Entry) (u k : ℕ) (whole : Bool) → t ≡ g ++ x ∷ h → act_of x ≡ leaves u k whole → (joined_by u x.image.0 g ≡ k) × (round_closed n u k g ≡ true)
  pub waited : (g h : List Entry) (x : Entry) (u k m : ℕ) (b r : List Entry) → t ≡ g ++ x ∷ h → ComesTo x u k → g ≡ b ++ r → round_closed n u m b ≡ true → has_come u m b x.image.0 ≡ true
  pub goes_on : (g h : List Entry) (x : Entry) → t ≡ g ++ x ∷ h → is_over x.image.0 g ≡ false
