use Rattle.std.proofs.Common.{false, ◌∙◌}
use Rattle.object_rules.specs.Happenings.{control, happened}
use Rattle.object_rules.specs.TeamRounds.{opening_of}
use Rattle.control_board.proofs.Plans.{form_some, form_none}
use Rattle.control_board.proofs.planning.is_form_round.Goals as goal

pub returns-in-Some : goal.returns-in-Some
returns-in-Some c n h b = c.is_form_kind.ensures ∙ form_some (opening_of c.args.team.0 c.args.round (happened control h)) c.in-Some.kind.now (c.in-Some.ensures n (happened control h) (b.rounds false))

pub returns-in-None : goal.returns-in-None
returns-in-None c n h b = form_none (opening_of c.args.team.0 c.args.round (happened control h)) (c.in-None.ensures n (happened control h) (b.rounds false))
