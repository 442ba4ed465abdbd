-- The lanes of a run before the first step.
use Rattle.std.specs.Prelude.{ℕ, suc, ◌≡◌, ◌+◌, List, [], ◌∷◌, Some, slice_get, unwrap_or}
use Rattle.caf_events.specs.declared.ask.Ask.{Ask}
use Rattle.caf_events.specs.declared.reply.Reply.{Reply}
use Rattle.trace_theory.specs.Machines.{Move, go, goes, Rests}
use Rattle.core_runs.specs.Beginnings.{Beginning}
use Rattle.core_runs.specs.Moments.{item_at}
use Rattle.image_lanes.specs.Lanes.{OnLane, lane_start}

-- with which of its events the list lets image i fail, counted from 1; 0 where it lets it not fail
abbrev pub fails_at : List ℕ → ℕ → ℕ
fails_at fails i = unwrap_or (item_at fails i) 0

-- the lanes of the images from number i on, over these configurations, each with its limit at so many recorded words
abbrev pub first_lanes : {C : Type 0} → (ℕ → ℕ) → ℕ → ℕ → List C → List (OnLane C)
first_lanes fails words i [] = []
first_lanes fails words i (c ∷ cs) = lane_start i (fails i) words c ∷ first_lanes fails words (i + 1) cs

-- the beginning of a run of lanes over programs, on so many images, over these memories and this board
abbrev pub lanes_beginning : {C M B : Type 0} → ℕ → (ℕ → C) → (ℕ → ℕ) → ℕ → (ℕ → M) → B → Beginning (OnLane C) M B
lanes_beginning n first fails words memory board = record { images = n; first = λ i. lane_start i (fails i) words (first i); memory = memory; board = board }

-- each image has come from its program's beginning to its first ask, or its end
pub record HaveCome {C : Type 0} (step : C → Move C Ask Reply) (first : ℕ → C) (configs : List C) : Type 0 where
  pub starts : (k : ℕ) (c : C) → slice_get configs k ≡ Some c → (n : ℕ) × (go step n (first (suc k)) ≡ goes c)
  pub rests : (k : ℕ) (c : C) → slice_get configs k ≡ Some c → Rests (step c)
