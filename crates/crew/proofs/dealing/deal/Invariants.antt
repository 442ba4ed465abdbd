use Rattle.std.proofs.Common.{◌≡◌, ◌++◌}
use Rattle.crew.specs.Crews.{members_of}
use Rattle.crew.proofs.dealing.deal.Given as goal

abbrev pub invariant-loop-number : goal.invariant-loop-number
invariant-loop-number g l = members_of l.dealt.items ++ l.rest.items ≡ l.fn.members.items
