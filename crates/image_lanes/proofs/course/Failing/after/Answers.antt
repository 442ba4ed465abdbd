use Rattle.std.proofs.Common.{arith}
use Rattle.image_lanes.proofs.Releases.{rest_release, no_release}
use Rattle.image_lanes.proofs.course.Failing.after.Goals as goal

pub returns-in-Release : goal.returns-in-Release
returns-in-Release c = λ image. rw c.in-Release.is (rest_release c.in-Release.number c.args.held.now.locks (omega (arith, c.count.ensures, c.if-number-count.true)))

pub returns-in-Release-2 : goal.returns-in-Release-2
returns-in-Release-2 c = λ image. rw c.in-Release.is (no_release c.in-Release.number c.args.held.now.locks (λ h. omega (arith, c.count.ensures, c.if-number-count.false)))
