use Rattle.std.proofs.Common.{take}
use Rattle.control_board.specs.Boards.{IsCopied}
use Rattle.control_board.proofs.forming.copy_teams.Given as goal

abbrev pub invariant-loop-team : goal.invariant-loop-team
invariant-loop-team l = IsCopied l.initial.copies.items (take l.team-index l.teams.items) l.copies.items
