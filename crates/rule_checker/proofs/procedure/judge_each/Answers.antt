use Rattle.std.proofs.Common.{◌∙◌, ℕ, ◌<◌, ◌≤◌, [], ap, arith, length, map, sym}
use Rattle.fortran_tree.specs.UnitViews.{procedure}
use Rattle.scope_table.specs.Symbols.{interface}
use Rattle.scope_table.proofs.Orders.{item_drop}
use Rattle.unit_scopes.proofs.Turns.{finish}
use Rattle.unit_scopes.specs.Openings.{closing}
use Rattle.unit_scopes.specs.Scopes.{main_scope, owning}
use Rattle.std.proofs.Common.{drop}
use Rattle.rule_checker.specs.Units.{all_further, one_further, units}
use Rattle.rule_checker.proofs.Units.{further_none, turn_further}
use Rattle.rule_checker.proofs.procedure.judge_each.Goals as goal

pub loop-index-preserved : goal.loop-index-preserved
loop-index-preserved c =
    let t = c.loop-index-test.true in
    let r = c.requires.tables in
    let q = c.requires.interfaces in
    let n : c.loop-index.index < length c.args.procedures.now = omega (arith, t) in
    let m : c.loop-index.index < length c.args.tables.now = omega (arith, t, r) in
    let k : c.loop-index.index < length c.args.common.interfaces.now = omega (arith, t, q) in
    turn_further (map interface c.args.common.interfaces.now) c.args.common.constants.now (closing (main_scope c.args.common.outside.now [] []) c.args.host.now) c.args.procedures.now c.args.tables.now c.args.common.interfaces.now c.loop-index.index
    c.index-procedures-index.result c.index-tables-index.result c.index-common-index.result (units c.loop-index.all) (units c.judge_next.new.all) _
    (item_drop c.args.procedures.now c.loop-index.index c.index-procedures-index.result c.index-procedures-index.is n)
    (item_drop c.args.tables.now c.loop-index.index c.index-tables-index.result c.index-tables-index.is m)
    (item_drop c.args.common.interfaces.now c.loop-index.index c.index-common-index.result c.index-common-index.is k)
    (c.in_ok-judge_next.ensures ∙ ap (λ j. one_further (map interface c.args.common.interfaces.now) c.args.common.constants.now (procedure c.index-procedures-index.result) (owning (closing (main_scope c.args.common.outside.now [] []) c.args.host.now) c.index-tables-index.result) (interface j) (units c.loop-index.all)) (sym c.index-common-index.is)) c.loop-index.invariant

pub returns : goal.returns
returns c =
    let t = c.loop-index-test.false in
    let h : length c.args.procedures.now ≤ c.loop-index.index = omega (arith, t) in
    let ss = map (owning (closing (main_scope c.args.common.outside.now [] []) c.args.host.now)) (drop c.loop-index.index c.args.tables.now) in
    let js = map interface (drop c.loop-index.index c.args.common.interfaces.now) in
    finish (λ xs k. all_further (map interface c.args.common.interfaces.now) c.args.common.constants.now (map procedure xs) ss js k) (further_none (map interface c.args.common.interfaces.now) c.args.common.constants.now ss js) c.args.procedures.now c.loop-index.index (units c.loop-index.all) _ h c.loop-index.invariant
