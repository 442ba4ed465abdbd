-- Where a lane stands, of what it keeps.
use Rattle.std.specs.Prelude.{◌<◌}
use Rattle.caf_events.specs.declared.ask.Ask.{Ask}
use Rattle.caf_events.specs.declared.reply.Reply.{Reply}
use Rattle.caf_events.specs.Walkers.{Continues}
use Rattle.trace_theory.specs.Machines.{Move, Rests}
use Rattle.caf_events.specs.declared.walker.Walker as walker
use Rattle.image_lanes.specs.Lanes.{OnLane, lane_step, lane_left}
use Rattle.image_lanes.specs.Holds.{course_of}
use Rattle.image_lanes.specs.declared.lane.Lane.{Lane}

abbrev pub lane_of : {M : Type 0} (walks : walker.Ghosts M) → Lane M → OnLane walks.Config
lane_of walks l = record {
  image = l.image.0;
  fails_in = l.fails_in;
  limit = l.limit;
  program = walks.config l.machine;
  words = l.words;
  held = l.held.locks;
  course = course_of l.image.0 l.held.locks l.going;
}

-- a lane at l that hears this reply to its ask goes on to m
pub record Given {C : Type 0} (step : C → Move C Ask Reply) (l : OnLane C) (reply : Reply) (m : OnLane C) : Type 0 where
  pub goes : Continues (lane_step step) (lane_step step l) reply m
  pub rests : Rests (lane_step step m)
  pub spends : lane_left step m < lane_left step l
