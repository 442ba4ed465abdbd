use Rattle.std.proofs.Common.{◌+◌, length, arith}
use Rattle.image_lanes.specs.LaneStates.{lane_of}
use Rattle.lane_parts.specs.FirstLanes.{fails_at}
use Rattle.lane_parts.proofs.FirstLanes.{fewer_lanes}
use Rattle.lane_parts.proofs.lanes.lanes.Goals as goal

pub overflow_cast-image : goal.overflow_cast-image
overflow_cast-image g c =
    let few = fewer_lanes (fails_at c.args.fails.now) c.args.words (lane_of g.M.Walker) g.M.Walker.config c.loop-machine.lanes.items c.in-Some.machine c.loop-machine.machine-iterator.rest.items c.next.new.self.rest.items c.args.machines.items (length c.loop-machine.lanes.items + 1) c.in-Some.ensures.steps.0 c.loop-machine.invariant in
    let place = c.len-place.ensures in
    let bound = c.requires in
    omega arith

pub overflow_add-image : goal.overflow_add-image
overflow_add-image g c =
    let few = fewer_lanes (fails_at c.args.fails.now) c.args.words (lane_of g.M.Walker) g.M.Walker.config c.loop-machine.lanes.items c.in-Some.machine c.loop-machine.machine-iterator.rest.items c.next.new.self.rest.items c.args.machines.items (length c.loop-machine.lanes.items + 1) c.in-Some.ensures.steps.0 c.loop-machine.invariant in
    let place = c.len-place.ensures in
    let bound = c.requires in
    omega arith
