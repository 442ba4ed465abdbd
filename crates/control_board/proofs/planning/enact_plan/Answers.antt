use Rattle.std.proofs.Common.{refl, sym, ◌∙◌, ap, subst}
use Rattle.std.specs.Prelude.{slice_get}
use Rattle.control_board.specs.declared.forming.Plan.{Plan}
use Rattle.control_board.specs.Boards.{PlanFits, IsEnacted}
use Rattle.control_board.proofs.Enacting.{fits_with, nothing_in, none_enacted, without, taken_enacted}
use Rattle.control_board.proofs.planning.enact_plan.Goals as goal

pub enact-requires-clause-fits : goal.enact-requires-clause-fits
enact-requires-clause-fits c =
    subst (PlanFits _) (sym c.replace-plan.ensures.value)
    (fits_with c.args.parts.now _ c.args.parts.now.plan refl refl refl refl refl refl refl refl c.requires.fits)

pub enact-requires-clause-control : goal.enact-requires-clause-control
enact-requires-clause-control c k x at = c.requires.control k x (ap (λ (q : Plan). slice_get q.control.items k) (sym c.replace-plan.ensures.value) ∙ at)

pub enact-requires-clause-collective : goal.enact-requires-clause-collective
enact-requires-clause-collective c k x at = c.requires.collective k x (ap (λ (q : Plan). slice_get q.collective.items k) (sym c.replace-plan.ensures.value) ∙ at)

pub returns-then-not-is_empty : goal.returns-then-not-is_empty
returns-then-not-is_empty c =
    taken_enacted c.args.parts.now c.replace-plan.new.dest c.args.parts.now.plan c.enact.new.parts
    (subst (λ (q : Plan). IsEnacted (without c.args.parts.now c.replace-plan.new.dest) q c.enact.new.parts) c.replace-plan.ensures.value c.enact.ensures)

pub returns-else-not-is_empty : goal.returns-else-not-is_empty
returns-else-not-is_empty c =
    none_enacted c.args.parts.now c.requires.fits.stock (nothing_in c.args.parts.now.plan.formations c.is_empty.result c.is_empty.ensures c.if-not-is_empty.false)
