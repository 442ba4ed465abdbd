use Rattle.std.proofs.Common.{◌≡◌, ◌+◌, ◌/◌, ◌<◌, ℕ, false, length}
use Rattle.run_outlook.specs.ImageSets.{has}
use Rattle.run_outlook.specs.Outlooks.{filed_at}
use Rattle.run_outlook.proofs.outlook.empty_sets.Given as goal

abbrev pub invariant-loop : goal.invariant-loop
invariant-loop l = record {
  count : length l.sets.items ≡ l.counter;
  room : (k : ℕ) → k < l.counter → length (filed_at l.sets.items k) ≡ l.images / 64 + 1;
  none : (k : ℕ) → k < l.counter → (i : ℕ) → has (filed_at l.sets.items k) i ≡ false;
}
