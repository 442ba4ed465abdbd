use Rattle.std.proofs.Common.{rules}
use Rattle.turn_gate.specs.Gates.{IsLike, IsRecorded}
use Rattle.turn_gate.proofs.Firsts.{joins}
use Rattle.turn_gate.proofs.lock.Lock.give_back.Goals as goal

pub join_seat-requires : goal.join_seat-requires
join_seat-requires g c =
    let o = c.requires.other in
    let start = c.args.self.now.table.shared.key.value in (
      c.requires.seat.0,
      o.0,
      o.3,
      search rules,
      joins g.O.Object.history (IsLike g.O.Object.made start) (IsRecorded g.O.Object.ready_after g.O.Object.reply_after (g.O.Object.made start)) _ _ _ _ c.requires.seat.1 o.1 o.2,
    )
