use Rattle.std.proofs.Common.{◌≡◌, ◌+◌, ◌≤◌, length}
use Rattle.image_acts.specs.Taking.{put_down}
use Rattle.image_state.proofs.numbers.put_all.Given as goal

-- what is left is put down onto what stands there
abbrev pub invariant-loop-number : goal.invariant-loop-number
invariant-loop-number l = record {
  same : put_down l.left l.values.values ≡ put_down l.numbers l.fn.values.values;
  size : l.values.size ≡ l.fn.values.size;
  room : length l.values.values + length l.left ≤ l.fn.values.size;
}

abbrev pub decreases-loop-number : goal.decreases-loop-number
decreases-loop-number l = length l.left
