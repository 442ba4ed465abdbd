use Rattle.std.proofs.Common.{◌≡◌, ℕ, List, drop}
use Rattle.unit_names.specs.Found.{under, joined}
use Rattle.unit_names.specs.Levels.{reached}
use Rattle.unit_names.proofs.levels.add_levels.Given as goal

abbrev pub invariant-loop-level : goal.invariant-loop-level
invariant-loop-level l = (n : List ℕ) → joined (under l.into n) (reached l.blocks (drop l.level-index l.levels) n) ≡ joined (under l.initial.into n) (reached l.blocks l.levels n)
