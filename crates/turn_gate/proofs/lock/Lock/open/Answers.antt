use Rattle.std.proofs.Common.{rules, ap, subst, sym, ◌≡◌, ◌∙◌, [], ◌∷◌, Some, refl}
use Rattle.atomic_table.specs.Table.{opening}
use Rattle.turn_gate.specs.Gates.{IsLike, IsRecorded, Keeps, first_view}
use Rattle.turn_gate.proofs.Firsts.{opens}
use Rattle.turn_gate.proofs.Turns.{recorded_first}
use Rattle.turn_gate.proofs.lock.Lock.open.Goals as goal

pub new-requires : goal.new-requires
new-requires g c =
    let start = c.of-start.result.value in
    let e : start ≡ c.args.object = c.of-start.ensures in
    let empty = ap g.O.Object.history e ∙ c.requires in
    let items : c.push.new.self.items ≡ Some start ∷ [] = search rules in
    let recorded = IsRecorded g.O.Object.ready_after g.O.Object.reply_after (g.O.Object.made start) in
    subst (λ l. Keeps g.O.Object.history (IsLike g.O.Object.made start) recorded (opening (0 ∷ []) l first_view)) (sym items)
    (opens g.O.Object.history (IsLike g.O.Object.made start) recorded start refl empty (recorded_first g.O.Object.ready_after g.O.Object.reply_after (g.O.Object.made start)))
