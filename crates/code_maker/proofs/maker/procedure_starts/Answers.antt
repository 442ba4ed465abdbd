use Rattle.checked_tree.specs.StatementViews as view
use Rattle.code_maker.proofs.Programs.{end_moved, place_added}
use Rattle.code_maker.proofs.maker.procedure_starts.Goals as goal

pub loop-procedure-preserved : goal.loop-procedure-preserved
loop-procedure-preserved c =
    let p = view.program c.args.checked.now in
    let qs = c.as_slice-procedures.result.now in
    let i = c.loop-procedure.procedure-index in
    let q = c.procedure-item.result in
    let at = c.loop-procedure.end in
    let next = c.in_ok-end-2.end in
    record {
      places = place_added p qs i q c.loop-procedure.places.items c.push_place-in-loop-procedure.new.places.items _ at next c.procedure-item.is c.loop-procedure-test.true c.in_ok-end-2.ensures c.in_ok-push_place-2.ensures c.loop-procedure.invariant.places;
      end = end_moved p qs i q at next _ c.procedure-item.is c.loop-procedure-test.true c.in_ok-end-2.ensures c.loop-procedure.invariant.end;
    }
