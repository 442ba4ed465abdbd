use Rattle.std.proofs.Common.{sym, ◌∙◌}
use Rattle.control_board.proofs.Unmade.{not_made}
use Rattle.control_board.proofs.leaving.teams_made.Goals as goal

pub returns-else-is_form_round : goal.returns-else-is_form_round
returns-else-is_form_round c n h b =
    c.new.ensures ∙ not_made c.args.team.0 c.args.round n h c.requires.team.0 (sym (c.is_form_round.ensures n h b) ∙ c.if-is_form_round.false)
