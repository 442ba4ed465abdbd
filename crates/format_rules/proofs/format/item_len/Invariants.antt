use Rattle.std.proofs.Common.{◌≡◌, ◌+◌, length, map}
use Rattle.format_rules.specs.Views.{seen, first_len}
use Rattle.format_rules.proofs.format.item_len.Given as goal

-- the pieces so far, and those that are left
abbrev pub invariant-loop-first : goal.invariant-loop-first
invariant-loop-first l = record {
  value : l.len + first_len (map seen l.left) ≡ first_len (map seen l.pieces);
  within : l.len + length l.left ≡ length l.pieces;
}

abbrev pub decreases-loop-first : goal.decreases-loop-first
decreases-loop-first l = length l.left
