use Rattle.std.proofs.Common.{◌+◌, ap, sym, ◌∙◌, subst, take}
use Rattle.control_board.specs.declared.forming.Formation.{Formation}
use Rattle.control_board.specs.Boards.{IsCopied, images_of_teams, all_made}
use Rattle.control_board.proofs.Formations.{members_more}
use Rattle.control_board.proofs.forming.copy_members.Goals as goal

pub loop-formation-preserved : goal.loop-formation-preserved
loop-formation-preserved c =
    let fs = c.deref-formation-items.result.now in
    let was = c.loop-formation.invariant ∙ ap (λ l. images_of_teams (all_made (take c.loop-formation.formation-index l))) (sym c.deref-formation-items.ensures.value) in
    members_more c.loop-formation.copies.items c.copy_teams.new.copies.items fs c.loop-formation.formation-index c.formation-item.result c.loop-formation-test.true was
    (subst (λ (f : Formation). IsCopied c.loop-formation.copies.items f.plan.teams.items c.copy_teams.new.copies.items) c.formation-item.is c.in_ok-copy_teams.ensures)
    ∙ ap (λ l. images_of_teams (all_made (take (c.loop-formation.formation-index + 1) l))) c.deref-formation-items.ensures.value
