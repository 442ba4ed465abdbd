use Rattle.std.proofs.Common.{◌≡◌, [], drop, map}
use Rattle.fortran_tree.specs.UnitViews.{procedure}
use Rattle.unit_scopes.proofs.Steps.{steps}
use Rattle.unit_scopes.specs.Openings.{closing, host_scope}
use Rattle.unit_scopes.specs.Scopes.{passed}
use Rattle.unit_scopes.proofs.program.open_all.Given as goal

abbrev pub invariant-loop-next : goal.invariant-loop-next
invariant-loop-next l =
    (steps (host_scope l.setting l.host []) (map procedure (drop l.next-index l.procedures)) (passed (closing l.setting l.host) l.all) ≡ steps (host_scope l.setting l.host []) (map procedure l.procedures) (passed (closing l.setting l.host) l.initial.all))
    × (l.all.grown.own ≡ [])
