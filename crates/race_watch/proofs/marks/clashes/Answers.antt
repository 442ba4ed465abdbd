use Rattle.std.proofs.Common.{◌∙◌, [], length, arith, ap, sym, subst}
use Rattle.std.proofs.lemmas.List.{get_or_read, get_or_past}
use Rattle.segment_clock.specs.Counts.{count_of}
use Rattle.race_watch.specs.Classes.{as_mark}
use Rattle.race_watch.specs.Rows.{RowOf, any_of}
use Rattle.race_watch.proofs.Noting.{any_of_nothing}
use Rattle.race_watch.proofs.marks.clashes.Goals as goal

pub clashes_at-requires : goal.clashes_at-requires
clashes_at-requires c = subst (RowOf (length c.args.clock.now)) (sym (get_or_read c.args.rows.now.items c.args.line c.index.result.now (omega (arith, c.if-line-len.true, c.len.ensures)) c.index.ensures [])) (c.requires c.args.line)

pub returns-else-line-len : goal.returns-else-line-len
returns-else-line-len c =
    sym (ap (λ z. any_of (count_of c.args.clock.now) (as_mark c.args.q.now) z c.args.offsets.now) (get_or_past c.args.rows.now.items c.args.line [] (omega (arith, c.if-line-len.false, c.len.ensures)))
    ∙ any_of_nothing (count_of c.args.clock.now) (as_mark c.args.q.now) c.args.offsets.now)
