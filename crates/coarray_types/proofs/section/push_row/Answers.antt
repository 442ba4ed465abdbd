use Rattle.std.proofs.Common.{◌≡◌, ◌+◌, ◌-◌, ℤ, ◌+ℤ◌, arith, to_z, of_z, w32, w64, subst, sym}
use Rattle.std.proofs.lemmas.Int.{ints}
use Rattle.caf_base.specs.Spans.{row_of}
use Rattle.coarray_types.specs.Cells.{AreCells}
use Rattle.coarray_types.proofs.CellLemmas.{cell_at, row_step}
use Rattle.coarray_types.proofs.section.push_row.Goals as goal

pub overflow_cast-at : goal.overflow_cast-at
overflow_cast-at c =
    let cell = cell_at c.args.count c.loop-i.i (to_z w32 (of_z w32 c.args.step)) (to_z w64 c.loop-i.at-bits) c.loop-i-test.true c.loop-i.invariant.to_come in
    let low = cell.0.0 in
    let high = cell.0.1 in
    (grind (arith, ints), omega (arith, ints))

pub overflow_add-at : goal.overflow_add-at
overflow_add-at c =
    let cell = cell_at c.args.count c.loop-i.i (to_z w32 (of_z w32 c.args.step)) (to_z w64 c.loop-i.at-bits) c.loop-i-test.true c.loop-i.invariant.to_come in
    let low = cell.0.0 in
    let high = cell.0.1 in
    omega (arith, ints)

pub loop-i-preserved : goal.loop-i-preserved
loop-i-preserved c =
    let step : ℤ = to_z w32 (of_z w32 c.args.step) in
    let at : ℤ = to_z w64 c.loop-i.at-bits in
    let cell = cell_at c.args.count c.loop-i.i step at c.loop-i-test.true c.loop-i.invariant.to_come in
    let low = cell.0.0 in
    let high = cell.0.1 in
    let next : to_z w64 (of_z w64 (to_z w64 c.loop-i.at-bits +ℤ to_z w64 (of_z w64 c.from-at-in-loop-i.result))) ≡ at +ℤ step = omega (arith, ints) in
    record {
      so_far = row_step _ _ c.args.count c.loop-i.i _ step at _ _ c.loop-i-test.true (omega (arith, ints)) next c.in_ok-push.ensures.items c.loop-i.invariant.so_far;
      to_come = subst (λ z. AreCells (row_of (c.args.count - (c.loop-i.i + 1)) step z)) (sym next) cell.1;
    }
