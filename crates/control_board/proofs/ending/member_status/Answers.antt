use Rattle.std.proofs.Common.{false}
use Rattle.std.proofs.Common.{rules, ◌≡◌, ◌-◌, ◌≤◌, length, ap, sym, subst, ◌∙◌, arith, to_z, of_z, w32}
use Rattle.std.specs.Prelude.{slice_get}
use Rattle.std.proofs.lemmas.List.{length-map}
use Rattle.caf_base.specs.declared.place.ImageNo.{ImageNo}
use Rattle.caf_events.specs.declared.reply.Reply.TheVariants as replies
use Rattle.object_rules.specs.Happenings.{control, happened, numbers_of}
use Rattle.object_rules.specs.BoardRules.{image_status}
use Rattle.object_rules.specs.BoardTeams.{teams_after, members_at}
use Rattle.failure_status.specs.Endings.{AreWithin, TellsEnded}
use Rattle.team_tree.specs.KnownTeams.{team_of}
use Rattle.control_board.proofs.Members.{known_within, known_there}
use Rattle.control_board.proofs.ending.member_status.Goals as goal

pub status_at-requires-clause-at : goal.status_at-requires-clause-at
status_at-requires-clause-at c =
    let k = c.requires.team.kept in
    let low = c.requires.index.0 in
    let high : c.args.index ≤ length (members_at (teams_after k.images k.history) c.args.team.0) = c.requires.index.1 k.images k.history k.board in
    let count : length (team_of c.args.parts.now.teams.teams c.args.team.0).members ≡ length (members_at (teams_after k.images k.history) c.args.team.0) =
    sym (length-map (team_of c.args.parts.now.teams.teams c.args.team.0).members (λ (i : ImageNo). i.0))
    ∙ ap length (known_there k.images k.history c.args.parts.now k.board c.args.team.0 c.requires.team.low c.requires.team.high) in
    let same : length c.members-members.result.now ≡ length (team_of c.args.parts.now.teams.teams c.args.team.0).members = ap length c.members-members.ensures.members in
    omega (arith, low, high, count, same)

pub status_at-requires-clause-stopped : goal.status_at-requires-clause-stopped
status_at-requires-clause-stopped c =
    let k = c.requires.team.kept in
    let within = known_within k.images k.history c.args.parts.now k.board c.args.team.0 c.requires.team.low c.requires.team.high in
    subst (λ e. AreWithin (length e.stopped) c.members-members.result.now) (sym c.endings.ensures)
    (subst (λ m. AreWithin m c.members-members.result.now) (sym (k.board.rounds false).ended_told.stopped_count) (subst (AreWithin k.images) (sym c.members-members.ensures.members) within))

pub status_at-requires-clause-failed : goal.status_at-requires-clause-failed
status_at-requires-clause-failed c =
    let k = c.requires.team.kept in
    let within = known_within k.images k.history c.args.parts.now k.board c.args.team.0 c.requires.team.low c.requires.team.high in
    subst (λ e. AreWithin (length e.failed) c.members-members.result.now) (sym c.endings.ensures)
    (subst (λ m. AreWithin m c.members-members.result.now) (sym (k.board.rounds false).ended_told.failed_count) (subst (AreWithin k.images) (sym c.members-members.ensures.members) within))

pub returns : goal.returns
returns c n h b =
    let e : to_z w32 (of_z w32 c.status_at.result) ≡ c.status_at.result = search rules in
    let told = subst (λ e. TellsEnded n e (happened control h)) (sym c.endings.ensures) (b.rounds false).ended_told in
    let within = subst (AreWithin n) (sym c.members-members.ensures.members) (known_within n h c.args.parts.now b c.args.team.0 c.requires.team.low c.requires.team.high) in
    ap replies.Number (
    e ∙ c.status_at.ensures n (happened control h) told within
    ∙ ap (λ ms. image_status (happened control h) (slice_get ms (c.args.index - 1)))
    (ap numbers_of c.members-members.ensures.members ∙ known_there n h c.args.parts.now b c.args.team.0 c.requires.team.low c.requires.team.high))
