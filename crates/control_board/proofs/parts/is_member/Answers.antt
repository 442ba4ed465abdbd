use Rattle.std.proofs.Common.{◌&&◌, ap, sym, ◌∙◌}
use Rattle.object_rules.specs.Happenings.{numbers_of}
use Rattle.object_rules.specs.ImagePairs.{names}
use Rattle.team_tree.specs.KnownTeams.{team_of}
use Rattle.control_board.proofs.Members.{is_member_law}
use Rattle.control_board.proofs.parts.is_member.Goals as goal

pub returns-then-has_team : goal.returns-then-has_team
returns-then-has_team c n h b =
    c.member.ensures
    ∙ ap (λ z. z && names c.args.image.0 (numbers_of (team_of c.args.parts.now.teams.teams c.args.team.0).members)) (sym c.if-has_team.true ∙ c.has_team.ensures)
    ∙ is_member_law n h c.args.parts.now b c.args.team.0 c.args.image.0

pub returns-else-has_team : goal.returns-else-has_team
returns-else-has_team c n h b =
    c.if-has_team.false
    ∙ ap (λ z. z && names c.args.image.0 (numbers_of (team_of c.args.parts.now.teams.teams c.args.team.0).members)) (sym c.if-has_team.false ∙ c.has_team.ensures)
    ∙ is_member_law n h c.args.parts.now b c.args.team.0 c.args.image.0
