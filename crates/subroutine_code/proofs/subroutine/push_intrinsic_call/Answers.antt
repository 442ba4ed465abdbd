use Rattle.subroutine_code.proofs.subroutine.push_intrinsic_call.Goals as goal

pub returns-in-Broadcast : goal.returns-in-Broadcast
returns-in-Broadcast c = rw c.in-Broadcast.is c.push_spread.ensures
