use Rattle.std.proofs.Common.{take}
use Rattle.race_search.specs.Failures.{IsWatched}
use Rattle.race_search.specs.Partners.{NoneBelow}
use Rattle.race_search.proofs.partner.scan.Given as goal

abbrev pub invariant-loop-at : goal.invariant-loop-at
invariant-loop-at l = record {
  watched : IsWatched l.n (take l.at l.before) l.again;
  none : NoneBelow l.n l.before l.e l.at;
}
