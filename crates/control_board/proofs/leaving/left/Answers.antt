use Rattle.std.proofs.Common.{rules, ◌≡◌, ◌-◌, ◌<◌, ◌≤◌, false, length, ap, ◌∙◌, arith, to_z, of_z, w32}
use Rattle.caf_events.specs.declared.reply.Reply.TheVariants as replies
use Rattle.object_rules.specs.Happenings.{control, happened}
use Rattle.object_rules.specs.TeamRounds.{at_close, missed_by, result_of}
use Rattle.control_board.proofs.Members.{member_there, get_there, rounds_members}
use Rattle.control_board.proofs.Replying.{closed_there, left_law}
use Rattle.control_board.proofs.Departures.{joined_parts}
use Rattle.control_board.proofs.leaving.left.Goals as goal

pub teams_made-requires-clause-team : goal.teams_made-requires-clause-team
teams_made-requires-clause-team c =
    let j = joined_parts c.requires.images c.requires.history c.args.image.0 c.args.team c.args.round c.requires.ready in
    let t = member_there c.requires.images c.requires.history c.args.parts.now c.requires.board false c.args.team.0 c.args.image.0 j.0 in
    (t.0, t.1)

pub teams_made-requires-clause-round : goal.teams_made-requires-clause-round
teams_made-requires-clause-round c = (joined_parts c.requires.images c.requires.history c.args.image.0 c.args.team c.args.round c.requires.ready).1

pub has_bad_argument-requires-clause-kept : goal.has_bad_argument-requires-clause-kept
has_bad_argument-requires-clause-kept c = record { images = c.requires.images; history = c.requires.history; board = c.requires.board }

pub has_bad_argument-requires-clause-team : goal.has_bad_argument-requires-clause-team
has_bad_argument-requires-clause-team c =
    let j = joined_parts c.requires.images c.requires.history c.args.image.0 c.args.team c.args.round c.requires.ready in
    let t = member_there c.requires.images c.requires.history c.args.parts.now c.requires.board false c.args.team.0 c.args.image.0 j.0 in
    (t.0, t.1)

pub has_bad_argument-requires-clause-round : goal.has_bad_argument-requires-clause-round
has_bad_argument-requires-clause-round c = (joined_parts c.requires.images c.requires.history c.args.image.0 c.args.team c.args.round c.requires.ready).1

pub result-requires-clause-team : goal.result-requires-clause-team
result-requires-clause-team c =
    let j = joined_parts c.requires.images c.requires.history c.args.image.0 c.args.team c.args.round c.requires.ready in
    let t = member_there c.requires.images c.requires.history c.args.parts.now c.requires.board false c.args.team.0 c.args.image.0 j.0 in
    (t.0, t.1)

pub result-requires-clause-round : goal.result-requires-clause-round
result-requires-clause-round c = (joined_parts c.requires.images c.requires.history c.args.image.0 c.args.team c.args.round c.requires.ready).1

pub result-requires-clause-closed : goal.result-requires-clause-closed
result-requires-clause-closed c =
    let j = joined_parts c.requires.images c.requires.history c.args.image.0 c.args.team c.args.round c.requires.ready in
    let t = member_there c.requires.images c.requires.history c.args.parts.now c.requires.board false c.args.team.0 c.args.image.0 j.0 in
    closed_there c.requires.images c.requires.history c.args.parts.now c.requires.board c.args.team.0 c.args.round t.0 j.1 false j.2

pub returns : goal.returns
returns c n h b ready =
    let j = joined_parts n h c.args.image.0 c.args.team c.args.round ready in
    let there = member_there n h c.args.parts.now b false c.args.team.0 c.args.image.0 j.0 in
    let low : 0 < c.args.team.0 = there.0 in
    let high : c.args.team.0 ≤ length c.args.parts.now.control.teams = there.1 in
    let x = get_there c.args.parts.now.control.teams (c.args.team.0 - 1) (omega arith) in
    let m = rounds_members n h c.args.parts.now b false c.args.team.0 x.0 low x.1 in
    let e : to_z w32 (of_z w32 c.result.result) ≡ c.result.result = search rules in
    ap (λ s. replies.Left s c.in_ok-teams.teams) e
    ∙ left_law n h c.args.parts.now b c.args.team.0 c.args.round low j.1 c.result.result c.has_bad_argument.result c.in_ok-teams.teams j.2
    (λ f close. c.result.ensures n (happened control h) f x.0 (b.rounds false) x.1 (ap (λ ms. at_close ms c.args.team.0 c.args.round (happened control h)) m ∙ close) ∙ ap (λ ms. result_of (missed_by ms f) c.has_bad_argument.result) m)
    c.has_bad_argument.ensures (c.in_ok-teams.ensures n h b)
