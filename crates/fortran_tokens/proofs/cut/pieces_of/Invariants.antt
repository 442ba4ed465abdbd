use Rattle.std.proofs.Common.{length, ◌-◌, ◌≤◌}
use Rattle.fortran_tokens.specs.Cuts.{IsCut}
use Rattle.fortran_tokens.proofs.cut.pieces_of.Given as goal

-- the text is cut so far
abbrev pub invariant-loop-at : goal.invariant-loop-at
invariant-loop-at l = record {
  cut : IsCut l.text 0 l.pieces.items l.at;
  within : l.at ≤ length l.text;
}

abbrev pub decreases-loop-at : goal.decreases-loop-at
decreases-loop-at l = length l.text - l.at
