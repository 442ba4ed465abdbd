use Rattle.std.proofs.Common.{◌≡◌, ◌++◌}
use Rattle.crew.specs.Crews.{members_of}
use Rattle.crew.proofs.dealing.gather.Given as goal

abbrev pub invariant-loop-worker : goal.invariant-loop-worker
invariant-loop-worker g l = l.members.items ++ members_of l.worker-iterator.rest.items ≡ members_of l.fn.workers.items
