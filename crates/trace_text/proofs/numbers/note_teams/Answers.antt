use Rattle.trace_text.proofs.Tables.{gains_nothing, team_turn}
use Rattle.trace_text.proofs.numbers.note_teams.Goals as goal

pub loop-team-init : goal.loop-team-init
loop-team-init c = gains_nothing c.args.numbers.now

pub loop-team-preserved : goal.loop-team-preserved
loop-team-preserved c =
    team_turn c.args.numbers.now c.loop-team.numbers c.note_team.new.numbers c.args.teams.now
    c.loop-team.team-index c.team-item.result
    c.loop-team-test.true c.team-item.is c.loop-team.invariant c.in_ok-note_team.ensures
