use Rattle.std.proofs.Common.{rules}
use Rattle.turn_gate.specs.Gates.{IsLike, IsRecorded}
use Rattle.turn_gate.proofs.Steps.{seizes}
use Rattle.turn_gate.proofs.lock.Lock.try_seize_as.Goals as goal

pub compare_exchange-found-requires : goal.compare_exchange-found-requires
compare_exchange-found-requires g c =
    let start = c.args.self.now.table.shared.key.value in (
      c.requires.seat,
      search rules,
      seizes g.O.Object.history (IsLike g.O.Object.made start) (IsRecorded g.O.Object.ready_after g.O.Object.reply_after (g.O.Object.made start)) g.J.Taken.known c.requires.known _ _ _ c.args.state c.requires.live c.requires.off.0 c.requires.off.1 c.requires.even,
    )
