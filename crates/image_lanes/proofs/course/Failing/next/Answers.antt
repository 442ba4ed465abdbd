use Rattle.std.proofs.Common.{sym}
use Rattle.image_lanes.proofs.Releases.{release_place}
use Rattle.image_lanes.proofs.course.Failing.next.Goals as goal

pub returns-in-Some : goal.returns-in-Some
returns-in-Some c = rw c.in-Release.is (release_place c.in-Release.number c.args.held.now.locks c.in-Some.owner.0 (sym c.in-Some.ensures))
