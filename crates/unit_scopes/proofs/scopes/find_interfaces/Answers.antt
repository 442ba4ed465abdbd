use Rattle.std.proofs.Common.{[]}
use Rattle.fortran_tree.specs.UnitViews.{program}
use Rattle.unit_scopes.specs.Openings.{closing}
use Rattle.unit_scopes.specs.Scopes.{main_scope}
use Rattle.unit_scopes.proofs.Wholes.{interfaces_found}
use Rattle.unit_scopes.proofs.scopes.find_interfaces.Goals as goal

pub returns : goal.returns
returns c =
    interfaces_found (program c.args.program.now) (closing (main_scope c.args.outside.now [] []) c.in_ok-scopes.scopes.own) c.in_ok-scopes.scopes.procedures c.in_ok-scopes.ensures.procedures
