use Rattle.std.proofs.Common.{◌≡◌, ◌+◌, ◌/◌, ◌<◌, ℕ, true, length}
use Rattle.run_outlook.specs.ImageSets.{has}
use Rattle.run_outlook.proofs.outlook.all_images.Given as goal

abbrev pub invariant-loop-image : goal.invariant-loop-image
invariant-loop-image l = record {
  room : length l.all.words.items ≡ l.images / 64 + 1;
  all : (i : ℕ) → 0 < i → i < l.image → has l.all.words.items i ≡ true;
  no_others : (i : ℕ) → has l.all.words.items i ≡ true → (0 < i) × (i < l.image);
}
