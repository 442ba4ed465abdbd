use Rattle.std.proofs.Common.{sym, subst, ◌∙◌}
use mathlib.Core.Option.{some-injective}
use Rattle.turn_gate.specs.Gates.{IsLike, IsRecorded}
use Rattle.turn_gate.specs.Closings.{Closes}
use Rattle.turn_gate.proofs.Firsts.{ends}
use Rattle.turn_gate.proofs.Turns.{same_some}
use Rattle.turn_gate.proofs.lock.Lock.finish.Goals as goal

pub out_of-object-requires : goal.out_of-object-requires
out_of-object-requires g c =
    let start = c.args.self.table.shared.key.value in
    let e = ends g.O.Object.history (IsLike g.O.Object.made start) (IsRecorded g.O.Object.ready_after g.O.Object.reply_after (g.O.Object.made start)) c.args.first.id c.args.first.me.0 _ _ c.requires.seat.1 c.requires.back c.close_with-closed.ensures.values.2 in
    (e.object, some-injective _ _ (sym c.take.ensures.value ∙ e.there))

pub returns : goal.returns
returns g c =
    let start = c.args.self.table.shared.key.value in
    let like = IsLike g.O.Object.made start in
    let recorded = IsRecorded g.O.Object.ready_after g.O.Object.reply_after (g.O.Object.made start) in
    let e = ends g.O.Object.history like recorded c.args.first.id c.args.first.me.0 _ _ c.requires.seat.1 c.requires.back c.close_with-closed.ensures.values.2 in
    let same = same_some e.object c.out_of-object.result (sym (some-injective _ _ (sym c.take.ensures.value ∙ e.there)) ∙ c.out_of-object.ensures) in
    subst (λ o. Closes g.O.Object.history like recorded c.args.first.me.0.images c.args.first.me.0.kept o) same
    (record { is_like = e.is_like; good = e.good; lists = e.kept; others = e.others })
