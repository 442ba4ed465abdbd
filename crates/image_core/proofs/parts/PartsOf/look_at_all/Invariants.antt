use Rattle.std.proofs.Common.{◌≡◌, ◌+◌, ◌-◌, ◌<◌, ℕ, false}
use Rattle.core_runs.specs.Moments.{rules}
use Rattle.run_outlook.specs.ImageSets.{has}
use Rattle.image_core.specs.Outlooks.{Knows}
use Rattle.image_core.specs.Parts.{moment}
use Rattle.image_core.proofs.parts.PartsOf.look_at_all.Given as goal

abbrev pub invariant-loop-image : goal.invariant-loop-image
invariant-loop-image g l = record {
  knows : Knows (rules g.M.Walker g.O.Object g.B.Object) (moment g.M.Walker g.O.Object g.B.Object l.self) l.outlook;
  done : (j : ℕ) → j < l.from → has l.outlook.stale.words.items j ≡ false;
}

abbrev pub decreases-loop-image : goal.decreases-loop-image
decreases-loop-image g l = l.outlook.images + 1 - l.from
