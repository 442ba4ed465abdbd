use Rattle.std.proofs.Common.{◌≡◌, ◌++◌, flat_map, take}
use Rattle.trace_text.specs.TraceText.{team_text}
use Rattle.trace_text.proofs.reply.push_each_team.Given as goal

abbrev pub invariant-loop-team : goal.invariant-loop-team
invariant-loop-team l = l.out.items ≡ l.initial.out.items ++ flat_map team_text (take l.team-index l.teams)
