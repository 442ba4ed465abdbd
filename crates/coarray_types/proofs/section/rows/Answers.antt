use Rattle.std.proofs.Common.{◌≡◌, ℤ, arith, length, get_or, to_z, of_z, w32, sym}
use Rattle.std.proofs.lemmas.Int.{ints}
use Rattle.std.proofs.lemmas.Grind.{get_or_default_zero}
use Rattle.coarray_types.proofs.CellLemmas.{rows_step, rows_to_come, rows_done}
use Rattle.coarray_types.proofs.section.rows.Goals as goal

pub loop-first-preserved : goal.loop-first-preserved
loop-first-preserved c =
    let os = c.args.firsts.now in
    let i = c.loop-first.first-index in
    let x = get_or os i 0 in
    let step : ℤ = to_z w32 (of_z w32 c.args.step) in
    let is = sym (get_or_default_zero os i x c.loop-first-test.true) in
    record {
      so_far = rows_step c.loop-first.cells.items c.push_row.new.cells.items os c.args.count i x step _ c.loop-first-test.true is c.in_ok-push_row.ensures c.loop-first.invariant.so_far;
      to_come = (rows_to_come os c.args.count i x step c.loop-first-test.true is c.loop-first.invariant.to_come).1;
    }

pub returns : goal.returns
returns c =
    let end : c.loop-first.first-index ≡ length c.args.firsts.now = omega arith in
    let same : to_z w32 (of_z w32 c.args.step) ≡ c.args.step = omega (arith, ints) in
    rows_done c.loop-first.cells.items c.args.firsts.now c.args.count c.loop-first.first-index (to_z w32 (of_z w32 c.args.step)) c.args.step end same c.loop-first.invariant.so_far
