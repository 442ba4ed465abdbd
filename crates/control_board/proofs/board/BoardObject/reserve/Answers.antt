use Rattle.std.proofs.Common.{sym, subst, arith, IsTrue}
use Rattle.object_rules.specs.BoardRules.{board_ready}
use Rattle.control_board.specs.Boards.{BoardState, IsPlanned}
use Rattle.control_board.proofs.Growing.{on_any}
use Rattle.control_board.proofs.board.BoardObject.reserve.Goals as goal

pub make_room-requires : goal.make_room-requires
make_room-requires c =
    let steps = c.self.invariant.0.steps in
    let last = c.self.invariant.1 in
    record {
      images = c.self.inside.parts.images;
      history = c.self.inside.history;
      board = c.self.invariant.0;
      ready = subst (λ (s : BoardState). IsTrue (board_ready s.images s.history c.args.image.0 c.args.ask.now)) (sym c.self.view_is) c.requires;
      few = omega arith;
    }

pub returns-clause-room : goal.returns-clause-room
returns-clause-room c =
    let n = c.self.inside.parts.images in
    let h = c.self.inside.history in
    let ready = subst (λ (s : BoardState). IsTrue (board_ready s.images s.history c.args.image.0 c.args.ask.now)) (sym c.self.view_is) c.requires in
    let planned = c.in_ok-make_room.ensures.planned n h c.self.invariant.0 ready in
    let run = (c.make_room.ensures.kept n h c.self.invariant.0).run in
    on_any c.with_reply.result (
      c.in_ok-make_room.ensures.room,
      subst (λ k. IsPlanned k h c.make_room.new.parts.plan c.args.image c.args.ask.now) (sym run) planned,
    )
