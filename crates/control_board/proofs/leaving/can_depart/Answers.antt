use Rattle.std.proofs.Common.{◌-◌, ◌<◌, ◌≤◌, length, ap, sym, subst, ◌∙◌}
use Rattle.std.specs.Prelude.{slice_get}
use Rattle.object_rules.specs.Happenings.{happened}
use Rattle.team_round.specs.TeamStates.{RoundsState, TellsAll}
use Rattle.control_board.specs.Boards.{class_of}
use Rattle.control_board.proofs.Departures.{joined_is, can_depart_law}
use Rattle.control_board.proofs.Members.{member_there}
use Rattle.control_board.proofs.leaving.can_depart.Goals as goal

pub closed-requires-clause-team : goal.closed-requires-clause-team
closed-requires-clause-team c =
    let k = c.requires.rounds.1 in
    let j = joined_is (class_of c.requires.rounds.0) k.images k.history c.args.image.0 c.args.team.0 c.args.round (sym (c.has_joined.ensures k.images k.history c.requires.rounds.0 k.board k.same) ∙ c.if-has_joined.true) in
    let t = member_there k.images k.history c.args.parts.now k.board c.requires.rounds.0 c.args.team.0 c.args.image.0 j.0 in
    subst (λ (s : RoundsState). (0 < c.args.team.0) × (c.args.team.0 ≤ length s.teams)) (sym k.same) (t.0, t.1)

pub closed-requires-clause-round : goal.closed-requires-clause-round
closed-requires-clause-round c =
    let k = c.requires.rounds.1 in
    (joined_is (class_of c.requires.rounds.0) k.images k.history c.args.image.0 c.args.team.0 c.args.round (sym (c.has_joined.ensures k.images k.history c.requires.rounds.0 k.board k.same) ∙ c.if-has_joined.true)).1

pub returns-then-has_joined : goal.returns-then-has_joined
returns-then-has_joined c n h d b same =
    can_depart_law d n h c.args.parts.now b c.args.image.0 c.args.team.0 c.args.round c.closed.result (sym (c.has_joined.ensures n h d b same) ∙ c.if-has_joined.true)
    (λ x at. c.closed.ensures n (happened (class_of d) h) x (subst (λ (s : RoundsState). TellsAll n s (happened (class_of d) h)) (sym same) (b.rounds d)) (ap (λ (s : RoundsState). slice_get s.teams (c.args.team.0 - 1)) same ∙ at))
