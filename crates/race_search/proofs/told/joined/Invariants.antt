use Rattle.std.proofs.Common.{◌≡◌, length, map, take}
use Rattle.order_theory.specs.Clocks.{Covers}
use Rattle.order_theory.specs.Stored.{present}
use Rattle.segment_clock.specs.Counts.{count_of}
use Rattle.order_axioms.specs.Views.{view, edges}
use Rattle.race_search.proofs.told.joined.Given as goal

abbrev pub invariant-loop-image : goal.invariant-loop-image
invariant-loop-image l = record {
  size : length l.clock ≡ l.n;
  covers : Covers (edges l.n) l.before (map (present (view l.n) l.before) (take l.image-index l.images)) (count_of l.clock);
}
