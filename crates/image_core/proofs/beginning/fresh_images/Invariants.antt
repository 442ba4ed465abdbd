use Rattle.std.proofs.Common.{◌≡◌, [], ◌++◌, map}
use Rattle.image_core.specs.Parts.{EachAt, AreNumbered}
use Rattle.image_core.proofs.beginning.fresh_images.Given as goal

abbrev pub invariant-loop-machine : goal.invariant-loop-machine
invariant-loop-machine g l = record {
  machines : map (λ r. r.machine) l.images.items ++ l.machine-iterator.rest.items ≡ l.fn.machines.items;
  numbered : AreNumbered l.images.items;
  events : EachAt (λ k r. r.events.items ≡ []) l.images.items;
}
