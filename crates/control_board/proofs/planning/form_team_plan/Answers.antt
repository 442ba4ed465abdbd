use Rattle.std.proofs.Common.{◌++◌, ap, ◌∙◌}
use Rattle.caf_events.specs.declared.round.Arriving.TheVariants as arrivings
use Rattle.control_board.specs.declared.forming.Formation.{Formation}
use Rattle.std.specs.Global.{Vec}
use Rattle.control_board.specs.Boards.{all_made, made_by_one}
use Rattle.control_board.proofs.Growing.{if_two, planned_arrival}
use Rattle.control_board.proofs.planning.form_team_plan.Goals as goal

pub returns-clause-planned : goal.returns-clause-planned
returns-clause-planned c =
    if_two c.plan_with.result (λ p formations bad n h b ready.
    planned_arrival n h c.args.arg.image c.args.team (arrivings.Form c.args.arg.number c.args.arg.new_index) c.in_ok-made.made p (c.in_ok-made.ensures.made n h b ready)
    (ap (λ (v : Vec Formation). all_made v.items) formations ∙ c.in_ok-add_made.ensures.made ∙ ap (λ l. all_made l ++ made_by_one c.in_ok-made.made) c.new-formations.ensures.items)
    (bad ∙ c.is_bad_one-bad.ensures))
    c.plan_with.ensures.formations c.plan_with.ensures.bad
