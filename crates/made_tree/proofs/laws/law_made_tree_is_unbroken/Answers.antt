use Rattle.made_tree.proofs.Whole.{unbroken}
use Rattle.made_tree.proofs.laws.law_made_tree_is_unbroken.Goals as goal

pub returns : goal.returns
returns c = unbroken
