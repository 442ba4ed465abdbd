use Rattle.std.proofs.Common.{◌≡◌, ◌+◌, length}
use Rattle.object_rules.specs.Happenings.{numbers_of}
use Rattle.wait_chain.specs.Links.{last_of, IsOpen}
use Rattle.wait_chain.specs.Reports.{as_waits}
use Rattle.wait_chain.proofs.chain.why_from.Given as goal

abbrev pub invariant-loop-count : goal.invariant-loop-count
invariant-loop-count l = record {
  open_ : IsOpen l.n l.before (as_waits l.waits) (numbers_of l.links);
  last : last_of (numbers_of l.links) ≡ l.last.0;
  size : length l.links ≡ l.count + 1;
}
