use Rattle.std.proofs.Common.{◌≡◌, ◌++◌, length}
use Rattle.crew.proofs.dealing.share.Given as goal

abbrev pub invariant-loop : goal.invariant-loop
invariant-loop g l = (l.taken.items ++ l.rest.items ≡ l.initial.rest.items) × (length l.taken.items ≡ l.counter)
