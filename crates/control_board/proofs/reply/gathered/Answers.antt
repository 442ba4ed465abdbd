use Rattle.std.proofs.Common.{true, ◌∙◌}
use Rattle.object_rules.specs.Happenings.{collective, happened}
use Rattle.control_board.proofs.Arrivals.{told_is}
use Rattle.control_board.proofs.Keeping.{can_expect}
use Rattle.control_board.proofs.Members.{member_there}
use Rattle.control_board.proofs.reply.gathered.Goals as goal

pub expected-requires-clause-team : goal.expected-requires-clause-team
expected-requires-clause-team c =
    let t = member_there c.requires.images c.requires.history c.args.parts.now c.requires.board true c.args.team.0 c.args.image.0 c.requires.member in
    (t.0, t.1)

pub expected-requires-clause-state : goal.expected-requires-clause-state
expected-requires-clause-state c = can_expect c.requires.images c.requires.history c.args.parts.now c.requires.board c.args.image.0 c.requires.image true c.args.team.0 c.requires.few

pub returns : goal.returns
returns c n h b = c.told.ensures ∙ told_is collective h c.args.image.0 c.args.team.0 c.args.what.now c.expected.result (c.expected.ensures n (happened collective h) (b.rounds true))
