use Rattle.turn_gate.specs.Lists.{entry}
use Rattle.turn_gate.proofs.lock.Lock.record.Given as goal

abbrev pub ghosts-record_as : goal.ghosts-record_as
ghosts-record_as g a = record { noted = entry a.image.0 a.event.now }
