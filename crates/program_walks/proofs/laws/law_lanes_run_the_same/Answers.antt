use Rattle.image_lanes.specs.Lanes.{lane_hears}
use Rattle.program_walks.proofs.LaneSame.{lanes_core, lanes_order, lanes_waits}
use Rattle.program_walks.proofs.laws.law_lanes_run_the_same.Goals as goal

pub returns-clause-core : goal.returns-clause-core
returns-clause-core g c coarrays n first first' fails_at words says t core =
    lanes_core g.M.Walker.step g.N.Walker.step (lane_hears g.M.Walker.step g.M.Walker.hears) (lane_hears g.N.Walker.step g.N.Walker.hears) coarrays n first first' fails_at words says t core

pub returns-clause-ordered : goal.returns-clause-ordered
returns-clause-ordered g c coarrays n first first' fails_at words says s t ordered =
    lanes_order g.M.Walker.step g.N.Walker.step (lane_hears g.M.Walker.step g.M.Walker.hears) (lane_hears g.N.Walker.step g.N.Walker.hears) coarrays n first first' fails_at words says t g.S.Choices.State g.S.Choices.chooser s ordered

pub returns-clause-waits : goal.returns-clause-waits
returns-clause-waits g c coarrays n first first' fails_at words says t core i line ask waits =
    lanes_waits g.M.Walker.step g.N.Walker.step (lane_hears g.M.Walker.step g.M.Walker.hears) (lane_hears g.N.Walker.step g.N.Walker.hears) coarrays n first first' fails_at words says t core i line ask waits
