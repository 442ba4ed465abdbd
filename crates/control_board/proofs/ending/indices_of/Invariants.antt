use Rattle.std.proofs.Common.{◌≡◌, ◌+◌, ◌++◌, drop}
use Rattle.failure_status.specs.Endings.{marked_from}
use Rattle.control_board.specs.Boards.{marks_of}
use Rattle.control_board.proofs.ending.indices_of.Given as goal

abbrev pub invariant-loop-at : goal.invariant-loop-at
invariant-loop-at l = l.indices ++ marked_from (1 + l.at) (marks_of l.endings l.failed) (drop l.at l.members) ≡ marked_from 1 (marks_of l.endings l.failed) l.members
