use Rattle.control_board.specs.Boards.{table_of}
use Rattle.control_board.proofs.Collecting.{parts_more}
use Rattle.control_board.proofs.taking.parts_of.Goals as goal

pub loop-member-preserved : goal.loop-member-preserved
loop-member-preserved c =
    parts_more (table_of c.args.tables.now.items c.args.team.0) c.args.call c.args.members.now c.loop-member.member-index _ c.loop-member.parts.items c.push.new.self.items c.in_ok-values.values c.brought_at.result.now
    c.loop-member-test.true c.loop-member.invariant c.in_ok-push.ensures.items c.in_ok-values.ensures.items c.brought_at.ensures
