use Rattle.std.proofs.Common.{false, ◌∙◌}
use Rattle.object_rules.specs.Happenings.{control, happened}
use Rattle.control_board.proofs.Arrivals.{told_is}
use Rattle.control_board.proofs.reply.joined_by.Goals as goal

pub returns : goal.returns
returns c n h b = c.told.ensures ∙ told_is control h c.args.image.0 c.args.team.0 c.args.kind.now c.expected.result (c.expected.ensures n (happened control h) (b.rounds false))
