use Rattle.std.proofs.Common.{true, refl}
use Rattle.caf_events.specs.declared.ask.Ask.TheVariants as asks
use Rattle.control_board.proofs.Bringing.{gather_member}
use Rattle.control_board.proofs.Keeping.{can_arrive, in_brought}
use Rattle.control_board.proofs.Members.{member_there, tables_there}
use Rattle.control_board.proofs.Steps.{ready_parts, no_round, gathered_steps}
use Rattle.control_board.proofs.step.gather.Goals as goal

pub arrive-arrival-requires-clause-team : goal.arrive-arrival-requires-clause-team
arrive-arrival-requires-clause-team c =
    let q = c.requires in
    let s = q.step in
    let r = ready_parts s.images s.history c.args.image.0 (asks.Gather c.args.team q.op q.root q.kind c.args.values) s.ready in
    let t = member_there s.images s.history c.args.parts.now s.board true c.args.team.0 c.args.image.0 (gather_member s.images s.history c.args.image.0 c.args.team q.op q.root q.kind c.args.values r.1) in
    (t.0, t.1)

pub arrive-arrival-requires-clause-state : goal.arrive-arrival-requires-clause-state
arrive-arrival-requires-clause-state c =
    let q = c.requires in
    let s = q.step in
    let r = ready_parts s.images s.history c.args.image.0 (asks.Gather c.args.team q.op q.root q.kind c.args.values) s.ready in
    can_arrive s.images s.history c.args.parts.now s.board c.args.image.0 r.0 true c.args.team.0 s.few s.room.rounds

pub keep_joined-requires-clause-team : goal.keep_joined-requires-clause-team
keep_joined-requires-clause-team c =
    let q = c.requires in
    let s = q.step in
    let r = ready_parts s.images s.history c.args.image.0 (asks.Gather c.args.team q.op q.root q.kind c.args.values) s.ready in
    let t = member_there s.images s.history c.args.parts.now s.board true c.args.team.0 c.args.image.0 (gather_member s.images s.history c.args.image.0 c.args.team q.op q.root q.kind c.args.values r.1) in
    (t.0, tables_there s.images s.history c.args.parts.now s.board c.args.team.0 t.0 t.2)

pub keep_joined-requires-clause-image : goal.keep_joined-requires-clause-image
keep_joined-requires-clause-image c =
    let q = c.requires in
    let s = q.step in
    let r = ready_parts s.images s.history c.args.image.0 (asks.Gather c.args.team q.op q.root q.kind c.args.values) s.ready in
    let t = member_there s.images s.history c.args.parts.now s.board true c.args.team.0 c.args.image.0 (gather_member s.images s.history c.args.image.0 c.args.team q.op q.root q.kind c.args.values r.1) in
    in_brought s.images s.history c.args.parts.now s.board c.args.image.0 r.0 c.args.team.0 t.0 (tables_there s.images s.history c.args.parts.now s.board c.args.team.0 t.0 t.2)

pub keep_joined-requires-clause-room : goal.keep_joined-requires-clause-room
keep_joined-requires-clause-room c = c.requires.step.room.values

pub returns : goal.returns
returns c op root kind is n h stamp b ready planned late =
    gathered_steps c.args.parts.now _ c.args.image c.args.team op root kind c.args.values c.args.what c.args.line c.arrive-arrival.result is c.arrive-arrival.ensures.arrival c.arrive-arrival.ensures.told c.keep_joined.ensures
    (no_round c.args.parts.now _ c.args.image (asks.Gather c.args.team op root kind c.args.values) c.args.line (λ r. refl) refl refl refl refl refl)
    c.arrive-arrival.ensures.images c.arrive-arrival.ensures.members refl refl refl n h stamp b ready planned late
