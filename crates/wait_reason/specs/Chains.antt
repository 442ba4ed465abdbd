-- The chain of images that wait for one another after a trace, each with its ask in a list. The word is this project's
-- own.
use Rattle.std.specs.Prelude.{ℕ, ◌≤◌, ◌≡◌, ◌⊎◌, true, false, List, [], ◌∷◌, ◌++◌}
use Rattle.caf_events.specs.declared.ask.Ask.{Ask}
use Rattle.caf_events.specs.declared.ask.Ask.TheVariants as asks
use Rattle.caf_events.specs.declared.event.Entry.{Entry}
use Rattle.object_rules.specs.Happenings.{control, happened, has_stopped, has_failed}
use Rattle.core_runs.specs.CoreRuns.{at_board}
use Rattle.core_runs.specs.Beginnings.{IsOneOf}
use Rattle.wait_reason.specs.WaitsFor.{waits_with}

-- an image and the ask with which it waits
pub record Wait : Type 0 where
  pub image : ℕ
  pub ask : Ask

-- how a chain closes
pub data Close : Type 0 where
  post : Close  -- its last image waits for a post
  stopped : ℕ → Close  -- its last image waits for this one, which has stopped
  cycle : ℕ → Close  -- its last image waits for this one, which is in the chain

abbrev pub IsAmong : ℕ → List ℕ → Type 0
IsAmong i [] = ⊥
IsAmong i (j ∷ js) = (i ≡ j) ⊎ IsAmong i js

-- the ask of image i in the list
abbrev pub AsksThere : List Wait → ℕ → Ask → Type 0
AsksThere [] i a = ⊥
AsksThere (w ∷ ws) i a = ((w.image ≡ i) × (w.ask ≡ a)) ⊎ AsksThere ws i a

-- the ask is EVENT WAIT
abbrev pub IsEventWait : Ask → Type 0
IsEventWait (asks.Wait owner span threshold) = Unit {0}
IsEventWait ask = ⊥

module _ (n : ℕ) (t : List Entry) (waits : List Wait) where
  -- image j initiated normal termination (5.3.7)
  abbrev pub Stopped : ℕ → Type 0
  Stopped j = has_stopped j (happened control (at_board t)) ≡ true

  -- it did neither that nor fail (5.3.6)
  abbrev pub IsLeft : ℕ → Type 0
  IsLeft j = (has_stopped j (happened control (at_board t)) ≡ false) × (has_failed j (happened control (at_board t)) ≡ false)

  -- j is the least image of the run for which i waits with its ask in the list
  pub record IsNext (i j : ℕ) : Type 0 where
    pub of_run : IsOneOf n j
    pub ask : Ask
    pub there : AsksThere waits i ask
    pub waiting : waits_with n t i ask j ≡ true
    pub least : (k : ℕ) → IsOneOf n k → waits_with n t i ask k ≡ true → j ≤ k

  -- i is the least image that neither stopped nor is gone
  pub record IsFirst (i : ℕ) : Type 0 where
    pub of_run : IsOneOf n i
    pub left : IsLeft i
    pub least : (k : ℕ) → IsOneOf n k → IsLeft k → i ≤ k

  -- the image waits for a post
  abbrev pub WaitsForPost : ℕ → Type 0
  WaitsForPost i = (a : Ask) × AsksThere waits i a × IsEventWait a

  -- from image i, with these images before it in the chain, the chain has these further links and closes so
  abbrev pub GoesOn : List ℕ → ℕ → List ℕ → Close → Type 0
  GoesOn before i [] post = WaitsForPost i
  GoesOn before i [] (stopped j) = IsNext i j × Stopped j
  GoesOn before i [] (cycle j) = IsNext i j × (has_stopped j (happened control (at_board t)) ≡ false) × IsAmong j (before ++ i ∷ [])
  GoesOn before i (j ∷ js) close = IsNext i j × (has_stopped j (happened control (at_board t)) ≡ false) × (IsAmong j (before ++ i ∷ []) → ⊥) × GoesOn (before ++ i ∷ []) j js close

  -- The chain has these links, the first of which is the least image that neither stopped nor is gone, and closes so.
  abbrev pub IsChain : List ℕ → Close → Type 0
  IsChain [] close = ⊥
  IsChain (i ∷ is) close = IsFirst i × GoesOn [] i is close
