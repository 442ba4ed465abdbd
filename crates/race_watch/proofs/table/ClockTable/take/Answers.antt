use Rattle.std.proofs.Common.{◌∙◌, get_or, [], None, arith, ap, sym}
use Rattle.std.proofs.lemmas.List.{get_or_past}
use Rattle.segment_clock.specs.Counts.{joined}
use Rattle.race_watch.specs.Tables.{counts_of}
use Rattle.race_watch.proofs.Joined.{joined_nothing}
use Rattle.race_watch.proofs.table.ClockTable.take.Goals as goal

pub returns-else-line-len : goal.returns-else-line-len
returns-else-line-len c =
    let past = ap (λ z. get_or z c.args.line []) (sym c.self.view_is) ∙ get_or_past c.self.inside.rows.items c.args.line [] (omega (arith, c.if-line-len.false, c.len.ensures)) in
    sym (joined_nothing c.args.clock.now) ∙ ap (λ z. joined c.args.clock.now (counts_of (get_or z c.args.place None))) (sym past)
