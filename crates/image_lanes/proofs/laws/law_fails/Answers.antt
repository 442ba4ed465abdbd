use Rattle.image_lanes.specs.Lanes.{lane_start}
use Rattle.image_lanes.proofs.CourseLaws.{course_of}
use Rattle.image_lanes.proofs.FailureLaws.{course_fails}
use Rattle.image_lanes.proofs.laws.law_fails.Goals as goal

pub returns : goal.returns
returns g r image fails_at limit c es to none w =
    let course = course_of g.M.Walker.step es (lane_start image fails_at limit c) to c w in
    course_fails g.M.Walker.step (lane_start image fails_at limit c) es course (none course.walked course.to course.walks)
