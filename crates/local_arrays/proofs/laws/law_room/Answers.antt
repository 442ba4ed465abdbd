use Rattle.local_arrays.proofs.CoreLaws.{room_agrees}
use Rattle.local_arrays.proofs.laws.law_room.Goals as goal

pub returns : goal.returns
returns c = room_agrees
