use Rattle.std.proofs.Common.{◌≡◌, map, drop}
use Rattle.race_watch.specs.Classes.{as_mark}
use Rattle.order_theory.specs.Marks.{any_clash}
use Rattle.segment_clock.specs.Counts.{count_of}
use Rattle.race_watch.proofs.kept.any.Given as goal

abbrev pub invariant-loop-k : goal.invariant-loop-k
invariant-loop-k l = any_clash (count_of l.clock) (as_mark l.q) (map as_mark (drop l.k-index l.kept.items)) ≡ any_clash (count_of l.clock) (as_mark l.q) (map as_mark l.kept.items)
