use Rattle.std.proofs.Common.{◌≡◌, ◌++◌, length, map}
use Rattle.crew.specs.Dealt.{run_of, passes_of}
use Rattle.crew.proofs.dealing.members.Given as goal

abbrev pub invariant-loop-run : goal.invariant-loop-run
invariant-loop-run g l =
    (map run_of l.members.items ++ l.run-iterator.rest.items ≡ l.fn.images.items)
    × (map passes_of l.members.items ++ l.passes.items ≡ l.fn.passes.items)
    × (length l.passes.items ≡ length l.run-iterator.rest.items)
