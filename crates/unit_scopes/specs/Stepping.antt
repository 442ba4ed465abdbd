-- One procedure behind others.
use Rattle.std.specs.Prelude.{List, [], ◌∷◌, ◌++◌}
use Rattle.fortran_tree.specs.Units as u
use Rattle.rule_definitions.specs.Judgements.{first_of}
use Rattle.rule_definitions.specs.Names.{Scope}
use Rattle.rule_definitions.specs.Units.{Opened, headed, interface_of, opened_procedure}
use Rattle.unit_scopes.specs.Scopes.{Passed, scope_of_opened}

abbrev pub with_opened : Opened → Passed → Passed
with_opened o k = record { first = first_of k.first o.breaks; constants = o.scope.constants; scopes = k.scopes ++ scope_of_opened o ∷ []; interfaces = k.interfaces ++ interface_of o ∷ [] }

-- with the next procedure, whose host has the array constants so far
unfoldable pub step : Scope → u.Procedure → Passed → Passed
step s x k = with_opened (opened_procedure (record s { constants = k.constants }) (headed x.heading) x) k
