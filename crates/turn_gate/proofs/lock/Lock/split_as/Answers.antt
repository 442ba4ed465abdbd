use Rattle.std.proofs.Common.{rules, subst}
use Rattle.turn_gate.specs.Gates.{IsLike, IsRecorded, NotIn}
use Rattle.turn_gate.proofs.Firsts.{splits}
use Rattle.turn_gate.proofs.lock.Lock.split_as.Goals as goal

pub split_seat-requires : goal.split_seat-requires
split_seat-requires g c =
    let i = c.requires.image in
    let start = c.args.self.now.table.shared.key.value in (
      c.requires.seat.0,
      search rules,
      splits g.O.Object.history (IsLike g.O.Object.made start) (IsRecorded g.O.Object.ready_after g.O.Object.reply_after (g.O.Object.made start)) _ _ g.J.Numbered.number c.requires.seat.1
          (subst (λ n. NotIn n c.args.first.now.me.0.images) i.0 i.1),
    )
