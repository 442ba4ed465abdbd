use Rattle.kind_statements.proofs.Programs.{bodies_suit}
use Rattle.kind_statements.proofs.laws.law_bodies_suit.Goals as goal

pub returns : goal.returns
returns c p coarrays n few h k d b z i = bodies_suit p coarrays n few h k d b z i
