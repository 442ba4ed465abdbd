use Rattle.std.proofs.Common.{◌<◌, ℕ}
use Rattle.image_core.specs.Parts.{event_lists}
use Rattle.image_core.proofs.Endings.{IsOpenAt}
use Rattle.image_core.proofs.parts.PartsOf.ending.Given as goal

abbrev pub invariant-loop-run : goal.invariant-loop-run
invariant-loop-run g l = (j : ℕ) → j < l.run-index → IsOpenAt (event_lists l.self.images.items) j
