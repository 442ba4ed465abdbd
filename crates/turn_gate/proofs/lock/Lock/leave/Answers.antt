use Rattle.std.proofs.Common.{rules, sym, subst, ◌%◌, ◌+◌, ◌-◌, ◌^◌}
use mathlib.Core.Option as math
use Rattle.atomic_table.specs.Table.{Allows, step}
use Rattle.turn_gate.specs.Gates.{IsLike, IsRecorded, Keeps}
use Rattle.turn_gate.specs.Steps.{Leaves}
use Rattle.turn_gate.proofs.Steps.{leaves}
use Rattle.turn_gate.proofs.lock.Lock.leave.Goals as goal

pub fetch_sub-requires : goal.fetch_sub-requires
fetch_sub-requires g c =
    let h = c.requires.whole in
    let start = c.args.self.now.table.shared.key.value in
    let like = IsLike g.O.Object.made start in
    let recorded = IsRecorded g.O.Object.ready_after g.O.Object.reply_after (g.O.Object.made start) in
    let v = c.args.seat.now.me.0 in
    let slots = c.args.self.now.table.shared.table_id.slots in (
      c.requires.seat,
      search rules,
      subst (λ l. Allows (Keeps g.O.Object.history like recorded) slots c.args.seat.now.id (v, l) 0 (λ n. (n + (2 ^ 64 - 1)) % 2 ^ 64) (Leaves (step slots 0 1 0 math.none) (v, l))) (sym h.1)
          (leaves g.O.Object.history like recorded slots c.args.seat.now.id v h.0 c.requires.live.0 c.requires.live.1 h.2 h.3),
    )
