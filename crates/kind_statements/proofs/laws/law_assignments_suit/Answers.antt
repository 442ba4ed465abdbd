use Rattle.kind_statements.proofs.Bodies.{assignments_suit}
use Rattle.kind_statements.proofs.laws.law_assignments_suit.Goals as goal

pub returns : goal.returns
returns c p coarrays n few k z i d y r x h g l = assignments_suit p coarrays n few k z i d y r x h g l
