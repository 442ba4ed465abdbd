use Rattle.std.proofs.Common.{rules}
use Rattle.turn_gate.proofs.Turns.{may}
use Rattle.turn_gate.proofs.lock.Lock.round.Goals as goal

pub release-requires-clause-recorded : goal.release-requires-clause-recorded
release-requires-clause-recorded g c =
    may g.O.Object.made g.O.Object.history g.O.Object.ready_after g.O.Object.reply_after c.args.self.now.table.shared.key.value c.args.seat.now.me c.seize.new.seat.me
    c.take-object.result c.seize.ensures.holds c.take-object.ensures.object
    c.args.image.0 c.args.ask c.args.line c.args.after c.serve_at-turn.result c.serve_at-turn.ensures.answer c.put_back.new.seat.me.0 (search rules)
