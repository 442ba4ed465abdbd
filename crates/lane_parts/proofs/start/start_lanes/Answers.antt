use Rattle.std.proofs.Common.{refl, ap, sym, subst, length, ◌∙◌, arith}
use Rattle.std.specs.Prelude.{map, IfOk, Result, Ok, Err}
use Rattle.core_runs.specs.Beginnings.{IsFirst}
use Rattle.core_runs.specs.Moments.{rules}
use Rattle.core_runs.proofs.Beginnings.{first_kept}
use Rattle.image_core.specs.Parts.{total, moment}
use Rattle.image_core.proofs.Readiness.{if_ok_map}
use Rattle.run_outlook.proofs.Slices.{map_length}
use Rattle.image_lanes.specs.Lanes.{lane_left}
use Rattle.image_lanes.specs.LaneStates.{lane_of}
use Rattle.image_lanes.specs.contracts.lane.LaneWalker.TheImpl as lane_walker
use Rattle.lane_parts.specs.FirstLanes.{fails_at, lanes_beginning}
use Rattle.lane_parts.proofs.FirstLanes.{lanes_length, few_asks}
use Rattle.lane_parts.proofs.Starts.{is_first}
use Rattle.lane_parts.proofs.start.start_lanes.Goals as goal

pub begin-requires-clause-images : goal.begin-requires-clause-images
begin-requires-clause-images g c =
    let same = sym (map_length (lane_of g.M.Walker) c.in_ok-lanes.lanes.items) ∙ ap length c.in_ok-lanes.ensures ∙ lanes_length (fails_at c.args.fails.now) c.args.words 1 (map g.M.Walker.config c.args.machines.items) ∙ map_length g.M.Walker.config c.args.machines.items in
    let few = c.requires.images in
    omega arith

pub begin-requires-clause-few : goal.begin-requires-clause-few
begin-requires-clause-few g c =
    let same = ap (total (lane_left g.M.Walker.step)) c.in_ok-lanes.ensures in
    let bound = few_asks (fails_at c.args.fails.now) c.args.words g.M.Walker.step 1 (map g.M.Walker.config c.args.machines.items) c.ranges.words.fits in
    let count = map_length g.M.Walker.config c.args.machines.items in
    let few = c.requires.images in
    omega arith

pub returns-clause-count : goal.returns-clause-count
returns-clause-count g c =
    let same = sym (map_length (lane_of g.M.Walker) c.in_ok-lanes.lanes.items) ∙ ap length c.in_ok-lanes.ensures ∙ lanes_length (fails_at c.args.fails.now) c.args.words 1 (map g.M.Walker.config c.args.machines.items) ∙ map_length g.M.Walker.config c.args.machines.items in
    if_ok_map c.begin.result _ _ (λ p count. count ∙ same) c.begin.ensures.count

pub returns-clause-first : goal.returns-clause-first
returns-clause-first g c =
    let walks = lane_walker.ghosts g.row.M g.M.Walker g.M.Walker-dict in
    let r = rules walks g.O.Object g.B.Object in
    let count = map_length g.M.Walker.config c.args.machines.items in
    if_ok_map c.begin.result _ _ (λ p stands first memory come made. (
    let b = lanes_beginning (length c.args.machines.items) first (fails_at c.args.fails.now) c.args.words memory (g.B.Object.made c.args.board) in
    subst (IsFirst r b) (sym stands)
    (is_first g.M.Walker.step r refl (map g.M.Walker.config c.args.machines.items) first (fails_at c.args.fails.now) c.args.words memory (g.B.Object.made c.args.board) come
    (length c.args.machines.items) (map (lane_of g.M.Walker) c.in_ok-lanes.lanes.items) (map g.O.Object.made c.args.memories.items) count c.in_ok-lanes.ensures made))) c.begin.ensures.stands

pub returns-clause-sound : goal.returns-clause-sound
returns-clause-sound g c =
    let walks = lane_walker.ghosts g.row.M g.M.Walker g.M.Walker-dict in
    let r = rules walks g.O.Object g.B.Object in
    if_ok_both c.begin.result _ _ _ (λ p is_first_ sound first memory come made fit. (
    let b = lanes_beginning (length c.args.machines.items) first (fails_at c.args.fails.now) c.args.words memory (g.B.Object.made c.args.board) in
    let kept = first_kept r b (moment walks g.O.Object g.B.Object p) fit (is_first_ first memory come made) in
    (kept, sound b kept))) (returns-clause-first g c) c.begin.ensures.sound
  where
    if_ok_both : {A E : Type 0} (v : Result A E) (P Q S : A → Type 0) → ((a : A) → P a → Q a → S a) → IfOk v P → IfOk v Q → IfOk v S
    if_ok_both (Ok a) P Q S f h k = f a h k
    if_ok_both (Err e) P Q S f h k = h
