-- The lanes before the first step.
use Rattle.std.proofs.Common.{◌≡◌, ℕ, zero, suc, ◌+◌, ◌*◌, ◌<◌, ◌≤◌, ◌^◌, List, [], ◌∷◌, ◌++◌, length, refl, ap, ◌∙◌, subst, arith, length-append}
use Rattle.std.specs.Prelude.{map, Some, slice_get}
use Rattle.caf_events.specs.declared.ask.Ask.{Ask}
use Rattle.caf_events.specs.declared.reply.Reply.{Reply}
use Rattle.trace_theory.specs.Machines.{Move}
use Rattle.image_core.specs.Parts.{total}
use Rattle.run_outlook.proofs.Slices.{map_length}
use Rattle.image_lanes.specs.Lanes.{OnLane, lane_start, lane_left}
use Rattle.image_lanes.proofs.LaneLaws.{few_at_first}
use Rattle.lane_parts.specs.FirstLanes.{first_lanes}

module _ {C : Type 0} (fails : ℕ → ℕ) (words : ℕ) where
  pub lanes_length : (i : ℕ) (cs : List C) → length (first_lanes fails words i cs) ≡ length cs
  lanes_length i [] = refl
  lanes_length i (c ∷ cs) = ap suc (lanes_length (i + 1) cs)

  -- the lane at a place is that of the image with this number
  pub lane_at : (i : ℕ) (cs : List C) (k j : ℕ) (l : OnLane C) → j ≡ i + k → slice_get (first_lanes fails words i cs) k ≡ Some l → (c : C) × (slice_get cs k ≡ Some c) × (l ≡ lane_start j (fails j) words c)
  lane_at i [] k j l e at = absurd (cc)
  lane_at i (c ∷ cs) zero j l e at =
      let here : i ≡ j = omega arith in
      (c, refl, subst (λ n. l ≡ lane_start n (fails n) words c) here (cc))
  lane_at i (c ∷ cs) (suc k) j l e at = lane_at (i + 1) cs k j l (omega arith) at

  -- so many asks are still to come at most
  pub few_asks : (step : C → Move C Ask Reply) (i : ℕ) (cs : List C) → words < 2 ^ 32 → total (lane_left step) (first_lanes fails words i cs) ≤ 2 ^ 34 * length cs
  few_asks step i [] small = omega arith
  few_asks step i (c ∷ cs) small =
      let a = few_at_first step i (fails i) words c in
      let b = few_asks step (i + 1) cs small in
      omega arith

  -- there are fewer lanes than machines, where one of these is left
  pub fewer_lanes : {A M : Type 0} (view : A → OnLane C) (config : M → C) (xs : List A) (m : M) (left rest machines : List M) (n : ℕ) → left ≡ m ∷ rest → map view xs ++ first_lanes fails words n (map config left) ≡ first_lanes fails words 1 (map config machines) → length xs < length machines
  fewer_lanes view config xs m left rest machines n next held =
      let both = length-append (map view xs) (first_lanes fails words n (map config left)) in
      let same = ap length held in
      let made = map_length view xs in
      let behind = lanes_length n (map config left) ∙ map_length config left in
      let all = lanes_length 1 (map config machines) ∙ map_length config machines in
      let more = ap length next in
      omega arith
