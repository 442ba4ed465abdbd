use Rattle.std.proofs.Common.{◌+◌, drop, arith}
use Rattle.race_watch.specs.ActParts.{as_cell}
use Rattle.race_search.proofs.Scan.{split_at, fit_at, note_at, watched_next, found, none_more}
use Rattle.race_search.proofs.partner.scan.Goals as goal

pub cell_at-requires-clause-there : goal.cell_at-requires-clause-there
cell_at-requires-clause-there c = (fit_at c.args.n c.args.before.now c.requires.all.0 c.loop-at.at c.index-before-at.result (omega arith) c.index-before-at.is, c.loop-at.invariant.watched)

pub cell_at-requires-clause-within : goal.cell_at-requires-clause-within
cell_at-requires-clause-within c = (drop (c.loop-at.at + 1) c.args.before.now, split_at c.args.before.now c.loop-at.at c.index-before-at.result (omega arith) c.index-before-at.is)

pub returns-in-Some : goal.returns-in-Some
returns-in-Some c =
    let z = c.in_ok-cell.ensures in
    let both = (rw c.in-Some.is at z) in
    found c.args.n c.args.before.now c.args.e.now c.loop-at.at c.index-before-at.result (omega arith) c.index-before-at.is (as_cell c.in-Some.cell) both.0 both.1 c.loop-at.invariant.none

pub cell_at-requires-clause-note : goal.cell_at-requires-clause-note
cell_at-requires-clause-note c = note_at c.args.n c.args.before.now c.requires.all.1 c.loop-at.at c.index-before-at.result (omega arith) c.index-before-at.is

pub loop-at-preserved : goal.loop-at-preserved
loop-at-preserved c =
    let z = c.in_ok-cell.ensures in
    let both = (rw c.in_default.is at z) in record {
      watched = watched_next c.args.n c.args.before.now c.loop-at.at c.index-before-at.result c.cell_at.new.again (omega arith) c.index-before-at.is both.1;
      none = none_more c.args.n c.args.before.now c.args.e.now c.loop-at.at c.index-before-at.result (omega arith) c.index-before-at.is both.0 c.loop-at.invariant.none;
    }
