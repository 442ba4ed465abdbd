use Rattle.std.proofs.Common.{◌<◌, take}
use Rattle.order_theory.specs.Races.{Stands, place, NoRace}
use Rattle.order_axioms.specs.Views.{edges}
use Rattle.order_axioms.specs.Touching.{touches}
use Rattle.race_watch.specs.Marked.{MayNote}
use Rattle.race_search.specs.Failures.{IsWatched}
use Rattle.race_search.proofs.watch.watch.Given as goal

abbrev pub invariant-loop-at : goal.invariant-loop-at
invariant-loop-at l = record {
  watched : IsWatched l.n (take l.at l.trace) l.watcher;
  noted : (y : Stands l.trace) → place y < l.at → MayNote l.n y.before y.event;
  none : NoRace (edges l.n) touches l.trace l.at;
}
