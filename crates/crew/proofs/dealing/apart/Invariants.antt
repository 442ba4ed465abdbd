use Rattle.std.proofs.Common.{◌≡◌, ◌++◌, map}
use Rattle.crew.specs.Dealt.{run_of, passes_of}
use Rattle.crew.proofs.dealing.apart.Given as goal

abbrev pub invariant-loop-member : goal.invariant-loop-member
invariant-loop-member g l =
    (l.images.items ++ map run_of l.member-iterator.rest.items ≡ map run_of l.fn.members.items)
    × (l.passes.items ++ map passes_of l.member-iterator.rest.items ≡ map passes_of l.fn.members.items)
