use Rattle.std.proofs.Common.{◌≡◌, [], drop, map}
use Rattle.fortran_tree.specs.UnitViews.{procedure}
use Rattle.scope_table.specs.Symbols.{interface}
use Rattle.unit_scopes.specs.Openings.{closing}
use Rattle.unit_scopes.specs.Scopes.{main_scope, owning}
use Rattle.rule_checker.specs.Units.{all_further, units}
use Rattle.rule_checker.proofs.procedure.judge_each.Given as goal

abbrev pub invariant-loop-index : goal.invariant-loop-index
invariant-loop-index l =
    all_further (map interface l.common.interfaces.now) l.common.constants.now (map procedure (drop l.index l.procedures)) (map (owning (closing (main_scope l.common.outside.now [] []) l.host)) (drop l.index l.tables)) (map interface (drop l.index l.common.interfaces.now)) (units l.all)
    ≡ all_further (map interface l.common.interfaces.now) l.common.constants.now (map procedure l.procedures) (map (owning (closing (main_scope l.common.outside.now [] []) l.host)) l.tables) (map interface l.common.interfaces.now) (units l.initial.all)
