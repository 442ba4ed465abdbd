use Rattle.kind_expressions.proofs.Bodies.{expressions_lead}
use Rattle.kind_expressions.proofs.laws.law_expressions_are_of_their_kinds.Goals as goal

pub returns : goal.returns
returns c p coarrays n few k s i x h d = expressions_lead p coarrays n few k s i x h d
