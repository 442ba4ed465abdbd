use Rattle.std.proofs.Common.{◌≡◌, ◌-◌, ◌&&◌, false, nat_le, ◌<◌, ◌≤◌, length, ap, sym, subst, ◌∙◌, arith}
use Rattle.std.specs.Prelude.{slice_get}
use Rattle.object_rules.specs.BoardRules.{is_image}
use Rattle.object_rules.specs.BoardTeams.{teams_after, members_at}
use Rattle.object_rules.specs.Happenings.{happened, numbers_of}
use Rattle.object_rules.specs.ImagePairs.{names}
use Rattle.object_rules.specs.TeamRounds.{arrivals}
use Rattle.team_round.specs.TeamStates.{RoundsState, TellsAll}
use Rattle.team_tree.specs.KnownTeams.{team_of}
use Rattle.control_board.specs.Boards.{class_of, rounds_in}
use Rattle.control_board.proofs.Departures.{joined_law}
use Rattle.control_board.proofs.Keeping.{in_rounds}
use Rattle.control_board.proofs.Members.{image_within, is_member_law, rounds_count, teams_count}
use Rattle.control_board.proofs.leaving.has_joined.Goals as goal

pub has_come-requires-clause-team : goal.has_come-requires-clause-team
has_come-requires-clause-team c =
    let k = c.requires.rounds.1 in
    let t = image_within (length c.args.parts.now.teams.teams) c.args.team.0 (sym c.has_team.ensures ∙ c.if-has_team.true) in
    let a = rounds_count k.images k.history c.args.parts.now k.board c.requires.rounds.0 in
    let d = teams_count k.images k.history c.args.parts.now k.board in
    let high : c.args.team.0 ≤ length c.args.parts.now.teams.teams = t.1 in
    subst (λ (s : RoundsState). (0 < c.args.team.0) × (c.args.team.0 ≤ length s.teams)) (sym k.same) (t.0, (let low : c.args.team.0 ≤ length (rounds_in c.args.parts.now c.requires.rounds.0).teams = omega arith in low))

pub has_come-requires-clause-image : goal.has_come-requires-clause-image
has_come-requires-clause-image c x at =
    let k = c.requires.rounds.1 in
    in_rounds k.images k.history c.args.parts.now k.board c.args.image.0 (ap (λ m. is_image m c.args.image.0) (sym k.board.run) ∙ c.requires.image) c.requires.rounds.0 c.args.team.0 x
    (ap (λ (s : RoundsState). slice_get s.teams (c.args.team.0 - 1)) (sym k.same) ∙ at)

pub returns-then-has_team : goal.returns-then-has_team
returns-then-has_team c n h d b same =
    c.has_come.ensures n (happened (class_of d) h) (subst (λ (s : RoundsState). TellsAll n s (happened (class_of d) h)) (sym same) (b.rounds d))
    ∙ joined_law (names c.args.image.0 (members_at (teams_after n h) c.args.team.0)) c.args.round (arrivals c.args.team.0 c.args.image.0 (happened (class_of d) h)) (b.joined d c.args.team.0 c.args.image.0)

pub returns-else-has_team : goal.returns-else-has_team
returns-else-has_team c n h d b same =
    let out : false ≡ names c.args.image.0 (members_at (teams_after n h) c.args.team.0) =
    ap (λ z. z && names c.args.image.0 (numbers_of (team_of c.args.parts.now.teams.teams c.args.team.0).members)) (sym c.if-has_team.false ∙ c.has_team.ensures) ∙ is_member_law n h c.args.parts.now b c.args.team.0 c.args.image.0 in
    c.if-has_team.false ∙ ap (λ z. z && nat_le 1 c.args.round && nat_le c.args.round (arrivals c.args.team.0 c.args.image.0 (happened (class_of d) h))) out
