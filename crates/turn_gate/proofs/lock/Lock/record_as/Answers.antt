use Rattle.std.proofs.Common.{rules, ap, subst, sym, ◌<◌, ◌≡◌, ◌∙◌, ◌++◌, ◌%◌, ◌+◌, ◌^◌, [], ◌∷◌}
use mathlib.Core.Option as math
use Rattle.atomic_table.specs.Table.{Allows, step}
use Rattle.caf_events.specs.declared.event.Entry.{Entry}
use Rattle.turn_gate.specs.Gates.{IsLike, IsRecorded, Keeps}
use Rattle.turn_gate.specs.Lists.{entry, image_of}
use Rattle.turn_gate.specs.Steps.{Records}
use Rattle.turn_gate.proofs.Steps.{records}
use Rattle.turn_gate.proofs.lock.Lock.record_as.Goals as goal

pub fetch_add-requires : goal.fetch_add-requires
fetch_add-requires g c =
    let h = c.requires.whole in
    let start = c.args.self.now.table.shared.key.value in
    let like = IsLike g.O.Object.made start in
    let recorded = IsRecorded g.O.Object.ready_after g.O.Object.reply_after (g.O.Object.made start) in
    let v = c.args.seat.now.me.0 in
    let id = c.args.seat.now.id in
    let slots = c.args.self.now.table.shared.table_id.slots in
    let e : Entry = entry c.args.image.0 c.args.event.now in
    let l = c.requires.live in (
      c.requires.seat,
      search rules,
      subst (λ (x : Entry). Allows (Keeps g.O.Object.history like recorded) slots id c.args.seat.now.me 0 (λ n. (n + 1) % 2 ^ 64) (Records x (step slots 0 1 0 math.none) c.args.seat.now.me)) (sym c.requires.entry)
          (subst (λ xs. Allows (Keeps g.O.Object.history like recorded) slots id (v, xs) 0 (λ n. (n + 1) % 2 ^ 64) (Records e (step slots 0 1 0 math.none) (v, xs))) (sym h.1)
          (records g.O.Object.history like recorded slots id v e h.0 (subst (λ n. 0 < n) (sym l.1) l.0) l.2 (sym l.1) c.requires.short c.requires.recorded h.2 h.3)),
    )
