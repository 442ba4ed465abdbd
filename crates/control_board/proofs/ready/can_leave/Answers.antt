use Rattle.std.proofs.Common.{false, refl}
use Rattle.control_board.proofs.ready.can_leave.Goals as goal

pub can_depart-requires-clause-rounds : goal.can_depart-requires-clause-rounds
can_depart-requires-clause-rounds c = (false, record { images = c.requires.kept.images; history = c.requires.kept.history; board = c.requires.kept.board; same = refl })

pub returns : goal.returns
returns c n h b = c.can_depart.ensures n h false b refl
