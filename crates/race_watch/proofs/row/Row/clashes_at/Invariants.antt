use Rattle.std.proofs.Common.{◌≡◌, drop}
use Rattle.race_watch.specs.Classes.{as_mark}
use Rattle.race_watch.specs.Rows.{any_of}
use Rattle.segment_clock.specs.Counts.{count_of}
use Rattle.race_watch.proofs.row.Row.clashes_at.Given as goal

abbrev pub invariant-loop-offset : goal.invariant-loop-offset
invariant-loop-offset l = any_of (count_of l.clock) (as_mark l.q) l.self (drop l.offset-index l.offsets) ≡ any_of (count_of l.clock) (as_mark l.q) l.self l.offsets
