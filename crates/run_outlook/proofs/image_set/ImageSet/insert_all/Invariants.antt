use Rattle.std.proofs.Common.{◌≡◌, ◌<◌, ◌≤◌, ℕ, length}
use Rattle.std.specs.Prelude.{slice_index_or, bit_or}
use Rattle.run_outlook.proofs.image_set.ImageSet.insert_all.Given as goal

abbrev pub invariant-loop-k : goal.invariant-loop-k
invariant-loop-k l = record {
  length : length l.self.words.items ≡ length l.initial.self.words.items;
  done : (j : ℕ) → j < l.k → slice_index_or l.self.words.items j 0 ≡ bit_or (slice_index_or l.initial.self.words.items j 0) (slice_index_or l.more.words.items j 0);
  left : (j : ℕ) → l.k ≤ j → slice_index_or l.self.words.items j 0 ≡ slice_index_or l.initial.self.words.items j 0;
}
