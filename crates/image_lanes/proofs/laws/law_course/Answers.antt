use Rattle.image_lanes.specs.Lanes.{lane_start}
use Rattle.image_lanes.proofs.CourseLaws.{course_of}
use Rattle.image_lanes.proofs.laws.law_course.Goals as goal

pub returns : goal.returns
returns g r image fails_at limit c es to w = course_of g.M.Walker.step es (lane_start image fails_at limit c) to c w
