use Rattle.std.proofs.Common.{◌≡◌, ◌*◌, ◌%◌, ◌+◌, ◌-◌, length}
use Rattle.std.specs.List.{filter, range_with_len}
use Rattle.run_outlook.specs.ImageSets.{has}
use Rattle.run_outlook.proofs.image_set.ImageSet.byte_of.Given as goal

abbrev pub invariant-loop-from : goal.invariant-loop-from
invariant-loop-from l = record {
  whole : l.from % 8 ≡ 0;
  counted : l.left + length (filter (has l.self.words.items) (range_with_len 0 l.from)) ≡ l.place;
}

abbrev pub decreases-loop-from : goal.decreases-loop-from
decreases-loop-from l = 64 * length l.self.words.items - l.from
