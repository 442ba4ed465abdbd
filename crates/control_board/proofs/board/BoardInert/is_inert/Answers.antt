use Rattle.std.proofs.Common.{◌≡◌, true, [], ◌∷◌, ◌++◌, ap, sym, ◌∙◌, subst}
use Rattle.caf_events.specs.declared.event.Entry.{Entry}
use Rattle.inert_laws.specs.InertSteps.{is_inert_step}
use Rattle.inert_laws.proofs.Steps.{inert_step}
use Rattle.control_board.specs.Boards.{BoardState}
use Rattle.control_board.proofs.board.BoardInert.is_inert.Goals as goal

pub returns : goal.returns
returns c holds h is ready due j ask other =
    let n = c.args.self.now.images in
    let i = c.args.image.0 in
    let said = c.args.event.now in
    let e : Entry = record { image = c.args.image; event = c.args.event.now } in
    let told : c.is_inert.result ≡ is_inert_step n c.args.self.now.history i said.ask said.reply =
    subst (λ (s : BoardState). c.is_inert.result ≡ is_inert_step s.images s.history i said.ask said.reply) c.self.view_is (c.is_inert.ensures c.self.inside.parts.images c.self.inside.history c.self.invariant.0) in
    let inert : is_inert_step n (h ++ e ∷ []) i said.ask said.reply ≡ true = sym (told ∙ ap (λ g. is_inert_step n g i said.ask said.reply) is) ∙ holds in
    inert_step n h e ready due inert j ask other
