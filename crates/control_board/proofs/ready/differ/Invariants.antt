use Rattle.std.proofs.Common.{◌≡◌, ◌≤◌, drop, length}
use Rattle.object_rules.specs.Happenings.{numbers_of}
use Rattle.object_rules.specs.BoardRules.{all_differ}
use Rattle.control_board.proofs.ready.differ.Given as goal

abbrev pub invariant-loop-at : goal.invariant-loop-at
invariant-loop-at l = (l.at ≤ length l.set) × (l.all ≡ all_differ (numbers_of (drop l.at l.set)))

abbrev pub decreases-loop-at : goal.decreases-loop-at
decreases-loop-at l = l.at
