use Rattle.std.proofs.Common.{sym, ◌∙◌}
use Rattle.object_rules.specs.BoardTeams.{teams_after, members_at}
use Rattle.control_board.proofs.Unmade.{not_bad}
use Rattle.control_board.proofs.leaving.has_bad_argument.Goals as goal

pub returns-else-is_form_round : goal.returns-else-is_form_round
returns-else-is_form_round c =
    let k = c.requires.kept in
    c.if-is_form_round.false
    ∙ sym (not_bad c.args.team.0 c.args.round (members_at (teams_after k.images k.history) c.args.team.0) k.history (sym (c.is_form_round.ensures k.images k.history k.board) ∙ c.if-is_form_round.false))
    ∙ sym (k.board.bad c.args.team.0 c.args.round c.requires.round)
