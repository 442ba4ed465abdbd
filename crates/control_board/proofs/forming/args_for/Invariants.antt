use Rattle.std.proofs.Common.{◌≡◌, take}
use Rattle.control_board.specs.Boards.{args_in}
use Rattle.control_board.proofs.forming.args_for.Given as goal

abbrev pub invariant-loop-given : goal.invariant-loop-given
invariant-loop-given l = l.args.items ≡ args_in (take l.given-index l.forms.items) l.team.0 l.round
