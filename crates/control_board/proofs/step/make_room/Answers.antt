use Rattle.std.proofs.Common.{refl, true, subst, IsTrue}
use Rattle.caf_events.specs.declared.ask.Ask.TheVariants as asks
use Rattle.object_rules.specs.BoardRules.{board_ready}
use Rattle.control_board.proofs.Bringing.{gather_member}
use Rattle.control_board.proofs.Keeping.{both, room_made, in_brought}
use Rattle.control_board.proofs.Members.{member_there, tables_there}
use Rattle.control_board.proofs.Steps.{ready_parts}
use Rattle.control_board.proofs.step.make_room.Goals as goal

pub make_room_to_gather-requires : goal.make_room_to_gather-requires
make_room_to_gather-requires c =
    let s = c.requires in
    let g = c.in-Gather in
    let ready = subst (λ a. IsTrue (board_ready c.requires.images c.requires.history c.args.image.0 a)) c.in-Gather.is c.requires.ready in
    let r = ready_parts s.images s.history c.args.image.0 (asks.Gather g.team g.op g.root g.kind g.values) ready in
    let t = member_there s.images s.history c.args.parts.now s.board true g.team.0 c.args.image.0 (gather_member s.images s.history c.args.image.0 g.team g.op g.root g.kind g.values r.1) in
    let u = tables_there s.images s.history c.args.parts.now s.board g.team.0 t.0 t.2 in
    ((t.0, t.1, u), in_brought s.images s.history c.args.parts.now s.board c.args.image.0 r.0 g.team.0 t.0 u)

pub returns-in-Arrive-clause-kept : goal.returns-in-Arrive-clause-kept
returns-in-Arrive-clause-kept c n h b = room_made n h c.args.parts.now _ b c.make_room_to_arrive.ensures.kept

pub returns-in-Gather-clause-kept : goal.returns-in-Gather-clause-kept
returns-in-Gather-clause-kept c n h b = room_made n h c.args.parts.now _ b c.make_room_to_gather.ensures.kept

pub returns-in-Gone-clause-kept : goal.returns-in-Gone-clause-kept
returns-in-Gone-clause-kept c n h b = room_made n h c.args.parts.now _ b c.make_room_to_end.ensures.kept

pub returns-in-Stop-clause-kept : goal.returns-in-Stop-clause-kept
returns-in-Stop-clause-kept c n h b = room_made n h c.args.parts.now _ b c.make_room_to_end-in-Stop.ensures.kept

pub returns-in-Enter-clause-kept : goal.returns-in-Enter-clause-kept
returns-in-Enter-clause-kept c n h b = room_made n h c.args.parts.now _ b (record {
  images = refl;
  teams = refl;
  births = refl;
  runs = both _ refl refl;
  members = both _ refl refl;
  rounds = both _ (λ m hs t. t) (λ m hs t. t);
  tables = refl;
  forms = refl;
  bad = refl;
  pairs = refl;
  criticals = c.reserve.ensures.same;
})
