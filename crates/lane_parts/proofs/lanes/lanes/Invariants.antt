use Rattle.std.proofs.Common.{◌≡◌, ◌+◌, ◌++◌, map, length}
use Rattle.image_lanes.specs.LaneStates.{lane_of}
use Rattle.lane_parts.specs.FirstLanes.{fails_at, first_lanes}
use Rattle.lane_parts.proofs.lanes.lanes.Given as goal

abbrev pub invariant-loop-machine : goal.invariant-loop-machine
invariant-loop-machine g l =
    map (lane_of g.M.Walker) l.lanes.items ++ first_lanes (fails_at l.fails) l.words (length l.lanes.items + 1) (map g.M.Walker.config l.machine-iterator.rest.items)
    ≡ first_lanes (fails_at l.fails) l.words 1 (map g.M.Walker.config l.fn.machines.items)
