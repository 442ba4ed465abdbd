use Rattle.std.proofs.Common.{◌-◌, arith, sym, subst}
use Rattle.std.proofs.lemmas.List.{get_or_read}
use Rattle.std.proofs.lemmas.Result.{IfOk-weaker}
use Rattle.race_watch.specs.Marked.{Marked}
use Rattle.race_watch.proofs.Marking.{made_mark, recorded}
use Rattle.race_watch.proofs.marks.Marks.put.Goals as goal

pub returns : goal.returns
returns c =
    let o = c.requires.order in
    let a = c.requires.image.0 in
    let b = c.requires.image.1 in
    let many = o.completed_count in
    let count = get_or_read c.args.order.now.completed.items (c.args.e.now.image.0 - 1) c.index.result.now (omega arith) c.index.ensures 0 in
    IfOk-weaker c.note.result _ _ (λ x h.
    recorded c.args.n c.args._before.now c.args.order.now o c.args.e.now a b c.self.inside.rows.items (subst (Marked c.args.n c.args._before.now) (sym c.self.view_is) c.requires.marks) c.args.touch.now c.requires.touch c.requires.none _ c.line_of-line.result
    (made_mark c.args.n c.args._before.now c.args.order.now o c.args.e.now a b _ c.requires.marks c.args.touch.now c.requires.touch c.index.result.now count) c.line_of-line.ensures _ (λ l k. let z = h l k in (rw c.as_slice.ensures.value at z))) c.note.ensures
