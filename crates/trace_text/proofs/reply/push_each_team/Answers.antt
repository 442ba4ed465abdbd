use Rattle.trace_text.specs.TraceText.{team_text}
use Rattle.trace_text.proofs.Turns.{item_turn}
use Rattle.trace_text.proofs.reply.push_each_team.Goals as goal

pub loop-team-preserved : goal.loop-team-preserved
loop-team-preserved c =
    item_turn team_text c.args.out.now.items c.loop-team.out.items _ c.args.teams.now c.loop-team.team-index c.team-item.result c.loop-team-test.true c.team-item.is c.loop-team.invariant c.in_ok-push_team.ensures
