use Rattle.std.proofs.Common.{sym}
use Rattle.image_lanes.proofs.Releases.{first_release, last_release}
use Rattle.image_lanes.proofs.course.Failing.ask.Goals as goal

pub returns-in-Some : goal.returns-in-Some
returns-in-Some c = rw c.in-Release.is (first_release c.in-Release.number c.args.held.now.locks c.in-Some.release (sym c.in-Some.ensures))

pub returns-in-None : goal.returns-in-None
returns-in-None c = rw c.in-Release.is (last_release c.in-Release.number c.args.held.now.locks (sym c.in-None.ensures))
