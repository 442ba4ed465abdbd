use Rattle.std.proofs.Common.{◌≡◌, ◌<◌, ◌^◌, ◌+◌, [], ◌∷◌, ◌++◌, max, sym, ap, ◌∙◌, subst, arith, IsTrue}
use Rattle.caf_events.specs.EventParts.{EventParts}
use Rattle.caf_events.specs.Histories.{last_stamp_of}
use Rattle.caf_events.specs.declared.exchange.Whole.{Whole}
use Rattle.caf_events.proofs.Serving.{last_stamp_more}
use Rattle.object_rules.specs.BoardRules.{board_ready, board_reply}
use Rattle.control_board.specs.Boards.{BoardState, HasRoom, IsBoard, due}
use Rattle.control_board.proofs.board.BoardObject.apply.Goals as goal

pub invariant_of-self : goal.invariant_of-self
invariant_of-self c =
    let n = c.self.inside.parts.images in
    let h = c.self.inside.history in
    let i = c.args.image in
    let ask = c.args.ask in
    let last : last_stamp_of h < 2 ^ 62 = subst (λ (s : BoardState). last_stamp_of s.history < 2 ^ 62) (sym c.self.view_is) c.requires.last in
    let after = c.requires.after in
    let ready = subst (λ (s : BoardState). IsTrue (board_ready s.images s.history i.0 ask)) (sym c.self.view_is) c.requires.ready in
    let room = subst (λ (s : BoardState). HasRoom s i.0 ask) (sym c.self.view_is) c.requires.room in
    let stamp = max c.args.after (last_stamp_of h) + 1 in
    let told = c.requires.told ∙ ap (λ (s : BoardState). record { ask = ask; reply = board_reply s.images s.history i.0 ask }) (sym c.self.view_is) in
    let event = c.append.ensures.event ∙ ap (λ (w : Whole). record { ask = w.ask; reply = w.reply; stamp = stamp; line = c.args.line }) told in
    let grown : c.append.new.self ≡ h ++ due n h i ask stamp c.args.line ∷ [] =
    c.append.ensures.entries ∙ ap (λ (e : EventParts). h ++ record { image = i; event = e } ∷ []) event in
    let board = c.step.ensures n h stamp c.self.invariant.0 ready room.1 (omega arith) in
    let is : last_stamp_of c.append.new.self ≡ stamp = ap last_stamp_of grown ∙ last_stamp_more 0 h (due n h i ask stamp c.args.line) in (
      subst (λ k. IsBoard k c.append.new.self c.step.new.parts) (sym board.run) (subst (λ es. IsBoard n es c.step.new.parts) (sym grown) board),
      rw is (omega arith),
    )
