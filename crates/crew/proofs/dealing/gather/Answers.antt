use Rattle.crew.proofs.Shares.{back_more}
use Rattle.crew.proofs.dealing.gather.Goals as goal

pub loop-worker-preserved : goal.loop-worker-preserved
loop-worker-preserved g c =
    back_more c.loop-worker.members.items c.append.new.self.items c.in-Some.worker c.loop-worker.worker-iterator.rest.items c.next.new.self.rest.items _ c.in-Some.ensures.steps.0 c.in_ok-append.ensures.items c.loop-worker.invariant
