use Rattle.std.proofs.Common.{◌≡◌, take}
use Rattle.control_board.specs.Boards.{is_listed}
use Rattle.control_board.proofs.forming.is_bad.Given as goal

abbrev pub invariant-loop-bad : goal.invariant-loop-bad
invariant-loop-bad l = l.found ≡ is_listed (take l.bad-index l.rounds.items) l.team.0 l.round
