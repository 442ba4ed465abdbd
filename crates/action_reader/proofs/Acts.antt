-- Actions in memory.
use Rattle.fortran_tree.specs.ActionViews.{action_forms}
use Rattle.action_reader.proofs.Specifiers.{specifier_laws}

pub ruleset act_laws = (specifier_laws, action_forms)
