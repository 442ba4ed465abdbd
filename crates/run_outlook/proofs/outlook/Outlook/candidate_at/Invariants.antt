use Rattle.std.proofs.Common.{◌≡◌, ◌+◌, ◌-◌, ◌<◌, length}
use Rattle.std.specs.List.{filter, range_with_len}
use Rattle.run_outlook.specs.ImageSets.{has}
use Rattle.run_outlook.proofs.outlook.Outlook.candidate_at.Given as goal

abbrev pub invariant-loop-image : goal.invariant-loop-image
invariant-loop-image l = record {
  low : 0 < l.from;
  counted : l.left + length (filter (has l.self.can.words.items) (range_with_len 1 (l.from - 1))) ≡ l.place;
}

abbrev pub decreases-loop-image : goal.decreases-loop-image
decreases-loop-image l = l.left
