use Rattle.std.proofs.Common.{◌≡◌, take}
use Rattle.std.specs.List.{list_any}
use Rattle.failure_status.specs.Endings.{flag_of, marked}
use Rattle.failure_status.proofs.endings.any_marked_with.Given as goal

abbrev pub invariant-loop-member : goal.invariant-loop-member
invariant-loop-member l = l.found ≡ list_any (λ m. flag_of (marked l.marks.items l.image.0) m.0) (take l.member-index l.members)
