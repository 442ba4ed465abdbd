use Rattle.std.proofs.Common.{arith}
use Rattle.team_round.proofs.team.closes_now.Goals as goal

pub returns-then-is_none : goal.returns-then-is_none
returns-then-is_none c = grind arith

pub returns-else-is_none : goal.returns-else-is_none
returns-else-is_none c = grind arith
