use Rattle.std.proofs.Common.{◌≡◌, subst, length, map, arith}
use Rattle.core_runs.specs.Beginnings.{IsFirst}
use Rattle.core_runs.specs.CoreRuns.{IsFit}
use Rattle.core_runs.specs.Kept.{IsKept}
use Rattle.core_runs.specs.Lawful.{made_memory}
use Rattle.coarray_memory.specs.Memories.{declared_of}
use Rattle.coarray_memory.specs.contracts.memory.MemoryObject.TheImpl as memory_object
use Rattle.control_board.specs.contracts.board.BoardObject.TheImpl as board_object
use Rattle.image_core.proofs.Readiness.{if_ok_map}
use Rattle.image_core.specs.Parts.{moment, AreSound}
use Rattle.image_lanes.specs.LaneRuns.{lane_rules}
use Rattle.image_lanes.specs.contracts.lane.LaneWalker.TheImpl as lane_walker
use Rattle.lane_parts.specs.FirstLanes.{fails_at, lanes_beginning}
use Rattle.full_parts.proofs.Starts.{memories_made, memories_empty}
use Rattle.full_parts.proofs.start.start_full.Goals as goal

pub start_lanes-requires-clause-memories : goal.start_lanes-requires-clause-memories
start_lanes-requires-clause-memories g c = memories_empty (map declared_of c.args.coarrays.now) c.in_ok-memories.memories.items c.in_ok-memories.ensures.fresh

pub returns-clause-first : goal.returns-clause-first
returns-clause-first g c =
    let coarrays = map declared_of c.args.coarrays.now in
    let n = length c.args.machines.items in
    let walks = lane_walker.ghosts g.row.M g.M.Walker g.M.Walker-dict in
    let r = lane_rules g.M.Walker.step g.M.Walker.hears in
    let len = c.len-images.ensures in
    let ok = c.args.machines.ok in
    let counted = c.in_ok-memories.ensures.count in
    let on_board = c.in_ok-board.ensures.made in
    let count : length c.in_ok-memories.memories.items ≡ n = omega arith in
    let made = memories_made coarrays n c.in_ok-memories.memories.items count c.in_ok-memories.ensures.fresh in
    let board : c.in_ok-board.board.images ≡ n = omega arith in
    if_ok_map c.start_lanes.result _ _ (λ p is_first first come.
    subst (λ images. IsFirst r (lanes_beginning n first (fails_at c.args.fails.now) c.args.words (made_memory coarrays) images) (moment walks memory_object.ghosts board_object.ghosts p)) board
    (is_first first (made_memory coarrays) come made)) c.start_lanes.ensures.first

pub returns-clause-sound : goal.returns-clause-sound
returns-clause-sound g c =
    let coarrays = map declared_of c.args.coarrays.now in
    let n = length c.args.machines.items in
    let walks = lane_walker.ghosts g.row.M g.M.Walker g.M.Walker-dict in
    let r = lane_rules g.M.Walker.step g.M.Walker.hears in
    let len = c.len-images.ensures in
    let ok = c.args.machines.ok in
    let counted = c.in_ok-memories.ensures.count in
    let on_board = c.in_ok-board.ensures.made in
    let count : length c.in_ok-memories.memories.items ≡ n = omega arith in
    let made = memories_made coarrays n c.in_ok-memories.memories.items count c.in_ok-memories.ensures.fresh in
    let board : c.in_ok-board.board.images ≡ n = omega arith in
    if_ok_map c.start_lanes.result _ _ (λ p sound first come.
    subst (λ images. IsFit r (lanes_beginning n first (fails_at c.args.fails.now) c.args.words (made_memory coarrays) images)
    → IsKept r (lanes_beginning n first (fails_at c.args.fails.now) c.args.words (made_memory coarrays) images) (moment walks memory_object.ghosts board_object.ghosts p)
    × AreSound walks memory_object.ghosts board_object.ghosts p) board
    (sound first (made_memory coarrays) come made)) c.start_lanes.ensures.sound
