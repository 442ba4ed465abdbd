use Rattle.std.proofs.Common.{◌≡◌, take}
use Rattle.object_rules.specs.Happenings.{numbers_of}
use Rattle.object_rules.specs.ImagePairs.{names}
use Rattle.control_board.proofs.ready.has.Given as goal

abbrev pub invariant-loop-member : goal.invariant-loop-member
invariant-loop-member l = l.found ≡ names l.image.0 (numbers_of (take l.member-index l.set))
