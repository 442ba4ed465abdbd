-- The first moment of a run of lanes.
use Rattle.std.proofs.Common.{◌≡◌, ℕ, zero, suc, ◌+◌, List, [], length, refl, ap, sym, ◌∙◌, subst, arith}
use Rattle.std.specs.Prelude.{map, replicate}
use Rattle.std.specs.List.{range_with_len}
use Rattle.trace_theory.specs.Machines.{go, goes, Rests}
use Rattle.core_runs.specs.Moments.{Rules}
use Rattle.core_runs.specs.Beginnings.{IsFirst, numbers_to}
use Rattle.image_core.specs.Parts.{first_moment}
use Rattle.run_outlook.proofs.Slices.{map_length}
use Rattle.caf_events.specs.declared.ask.Ask.{Ask}
use Rattle.caf_events.specs.declared.reply.Reply.{Reply}
use Rattle.trace_theory.specs.Machines.{Move}
use Rattle.image_lanes.specs.Lanes.{OnLane, lane_step, lane_start}
use Rattle.image_lanes.proofs.LaneLaws.{go_lane, rests_lane}
use Rattle.lane_parts.specs.FirstLanes.{first_lanes, lanes_beginning, HaveCome}
use Rattle.lane_parts.proofs.FirstLanes.{lanes_length, lane_at}

range_length : (a n : ℕ) → length (range_with_len a n) ≡ n
range_length a zero = refl
range_length a (suc n) = ap suc (range_length (a + 1) n)

module _ {C M B : Type 0} (step : C → Move C Ask Reply) (r : Rules (OnLane C) M B) (by : r.step ≡ lane_step step) (configs : List C) (first : ℕ → C) (fails : ℕ → ℕ) (words : ℕ) (memory : ℕ → M) (board : B) (come : HaveCome step first configs) where
  first_is : IsFirst r (lanes_beginning (length configs) first fails words memory board) (first_moment (first_lanes fails words 1 configs) (map memory (numbers_to (length configs))) board)
  first_is = record {
    count = lanes_length fails words 1 configs;
    starts = λ k l at.
        let x = lane_at fails words 1 configs k (suc k) l (omega arith) at in
        let s = come.starts k x.0 x.1 in
        let begin : OnLane C = lane_start (suc k) (fails (suc k)) words (first (suc k)) in
        (s.0, subst (λ f. go f s.0 begin ≡ goes l) (sym by) (subst (λ m. go (lane_step step) s.0 begin ≡ goes m) (sym x.2) (go_lane step s.0 begin (first (suc k)) x.0 s.1)));
    rests = λ k l at.
        let x = lane_at fails words 1 configs k (suc k) l (omega arith) at in
        subst (λ f. Rests (f l)) (sym by) (subst (λ m. Rests (lane_step step m)) (sym x.2) (rests_lane step (lane_start (suc k) (fails (suc k)) words x.0) (come.rests k x.0 x.1)));
    events = ap (λ n. replicate n []) (lanes_length fails words 1 configs);
    memories = refl;
    histories = ap (λ n. replicate n []) (map_length memory (numbers_to (length configs)) ∙ range_length 1 (length configs));
    board = refl;
    board_history = refl;
  }

  -- the same of a moment of those lanes and memories
  pub is_first : (n : ℕ) (lanes : List (OnLane C)) (memories : List M) → length configs ≡ n → lanes ≡ first_lanes fails words 1 configs → memories ≡ map memory (numbers_to n)
      → IsFirst r (lanes_beginning n first fails words memory board) (first_moment lanes memories board)
  is_first n lanes memories count same made =
      subst (λ ls. IsFirst r (lanes_beginning n first fails words memory board) (first_moment ls memories board)) (sym same)
      (subst (λ ms. IsFirst r (lanes_beginning n first fails words memory board) (first_moment (first_lanes fails words 1 configs) ms board)) (sym made)
      (subst (λ k. IsFirst r (lanes_beginning k first fails words memory board) (first_moment (first_lanes fails words 1 configs) (map memory (numbers_to k)) board)) count first_is))
