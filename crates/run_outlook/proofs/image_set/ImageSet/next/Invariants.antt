use Rattle.std.proofs.Common.{◌≡◌, ◌<◌, ◌≤◌, ◌*◌, ℕ, false}
use Rattle.run_outlook.specs.ImageSets.{has}
use Rattle.run_outlook.proofs.image_set.ImageSet.next.Given as goal

abbrev pub invariant-loop-at : goal.invariant-loop-at
invariant-loop-at l = (j : ℕ) → l.from ≤ j → j < l.at * 64 → has l.self.words.items j ≡ false
