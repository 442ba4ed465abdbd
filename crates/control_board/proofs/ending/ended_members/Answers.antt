use Rattle.std.proofs.Common.{false}
use Rattle.std.proofs.Common.{ap, sym, subst, ◌∙◌, length}
use Rattle.caf_events.specs.declared.reply.Reply.TheVariants as replies
use Rattle.object_rules.specs.Happenings.{control, happened}
use Rattle.object_rules.specs.BoardRules.{indices_from}
use Rattle.failure_status.specs.Endings.{AreWithin, marked_from}
use Rattle.team_tree.specs.KnownTeams.{team_of}
use Rattle.control_board.specs.Boards.{marks_of, ended_as}
use Rattle.control_board.proofs.Members.{known_within, known_there}
use Rattle.control_board.proofs.Replying.{marks_count, marked_law}
use Rattle.control_board.proofs.ending.ended_members.Goals as goal

pub indices_of-requires-clause-within : goal.indices_of-requires-clause-within
indices_of-requires-clause-within c =
    let k = c.requires.kept in
    let within = known_within k.images k.history c.args.parts.now k.board c.args.team.0 c.requires.low c.requires.high in
    let count = marks_count k.images c.args.parts.now.control.ended (happened control k.history) (k.board.rounds false).ended_told c.args.failed in
    subst (λ e. AreWithin (length (marks_of e c.args.failed)) c.members-members.result.now) (sym c.endings.ensures)
    (subst (λ m. AreWithin m c.members-members.result.now) (sym count) (subst (AreWithin k.images) (sym c.members-members.ensures.members) within))

pub returns : goal.returns
returns c n h b =
    ap replies.Indices (
    c.in_ok-indices.ensures
    ∙ ap (λ e. marked_from 1 (marks_of e c.args.failed) c.members-members.result.now) c.endings.ensures
    ∙ ap (marked_from 1 (marks_of c.args.parts.now.control.ended c.args.failed)) c.members-members.ensures.members
    ∙ marked_law n c.args.parts.now.control.ended (happened control h) (b.rounds false).ended_told c.args.failed 1 (team_of c.args.parts.now.teams.teams c.args.team.0).members
    (known_within n h c.args.parts.now b c.args.team.0 c.requires.low c.requires.high)
    ∙ ap (indices_from 1 (λ m. ended_as c.args.failed m (happened control h))) (known_there n h c.args.parts.now b c.args.team.0 c.requires.low c.requires.high))
