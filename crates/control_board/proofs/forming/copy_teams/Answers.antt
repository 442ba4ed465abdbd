use Rattle.std.proofs.Common.{◌+◌, ap, sym, ◌∙◌, subst, take}
use Rattle.team_tree.specs.declared.arg.Members.{Members as MadeMembers}
use Rattle.control_board.specs.Boards.{IsCopied}
use Rattle.control_board.proofs.Formations.{copied_more}
use Rattle.control_board.proofs.forming.copy_teams.Goals as goal

pub loop-team-preserved : goal.loop-team-preserved
loop-team-preserved c =
    let ms = c.deref-team-items.result.now in
    let was = subst (λ l. IsCopied c.args.copies.now.items (take c.loop-team.team-index l) c.loop-team.copies.items) (sym c.deref-team-items.ensures.value) c.loop-team.invariant in
    subst (λ l. IsCopied c.args.copies.now.items (take (c.loop-team.team-index + 1) l) c.push.new.self.items) c.deref-team-items.ensures.value
    (copied_more c.args.copies.now.items c.loop-team.copies.items c.push.new.self.items c.in_ok-from_slice.field-0 ms c.loop-team.team-index c.team-item.result c.loop-team-test.true was c.in_ok-push.ensures.items
    (c.in_ok-from_slice.ensures.items ∙ c.as_slice.ensures.value ∙ ap (λ (m : MadeMembers). m.images.items) c.team-item.is))
