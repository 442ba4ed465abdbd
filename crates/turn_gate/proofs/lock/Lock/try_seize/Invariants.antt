use Rattle.turn_gate.specs.Gates.{IsLike, IsRecorded}
use Rattle.turn_gate.proofs.lock.Lock.try_seize.Given as goal

abbrev pub ghosts-try_seize_as : goal.ghosts-try_seize_as
ghosts-try_seize_as g a = record { known = λ o. IsLike g.O.Object.made a.self.now.table.shared.key.value o × IsRecorded g.O.Object.ready_after g.O.Object.reply_after (g.O.Object.made a.self.now.table.shared.key.value) (g.O.Object.history o) }
