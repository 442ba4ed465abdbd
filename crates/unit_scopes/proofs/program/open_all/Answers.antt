use Rattle.std.proofs.Common.{◌∙◌, ◌+◌, ◌≤◌, [], ap, arith, drop, length, map, refl}
use Rattle.fortran_tree.specs.UnitViews.{procedure}
use Rattle.scope_table.proofs.Orders.{item_drop}
use Rattle.unit_scopes.proofs.Steps.{steps, steps_are, steps_none, turn_steps}
use Rattle.unit_scopes.proofs.Turns.{finish}
use Rattle.unit_scopes.specs.Openings.{closing, host_scope}
use Rattle.unit_scopes.specs.Scopes.{passed}
use Rattle.unit_scopes.proofs.program.open_all.Goals as goal

pub loop-next-preserved : goal.loop-next-preserved
loop-next-preserved c = (
  turn_steps (host_scope c.args.setting.now c.args.host.now []) (procedure c.next-item.result) (map procedure (drop (c.loop-next.next-index + 1) c.args.procedures.now)) (map procedure (drop c.loop-next.next-index c.args.procedures.now))
      (passed (closing c.args.setting.now c.args.host.now) c.loop-next.all) (passed (closing c.args.setting.now c.args.host.now) c.open_next.new.all) _
      (ap (map procedure) (item_drop c.args.procedures.now c.loop-next.next-index c.next-item.result c.next-item.is c.loop-next-test.true))
      c.in_ok-open_next.ensures.passed c.loop-next.invariant.0,
  c.in_ok-open_next.ensures.own,
)

pub returns : goal.returns
returns c =
    let h : length c.args.procedures.now ≤ c.loop-next.next-index = omega arith in
    finish (λ xs k. steps (host_scope c.args.setting.now c.args.host.now []) (map procedure xs) k) (steps_none (host_scope c.args.setting.now c.args.host.now []))
    c.args.procedures.now c.loop-next.next-index (passed (closing c.args.setting.now c.args.host.now) c.loop-next.all) _ h c.loop-next.invariant.0
    ∙ steps_are c.args.setting.now c.args.host.now (map procedure c.args.procedures.now)
    (record { grown = record { first = c.args.first; own = c.new.result; constants = c.args.constants }; tables = c.new-2.result; interfaces = c.new-3.result })
    c.args.constants.items c.args.first refl refl c.new-2.ensures.items c.new-3.ensures.items
