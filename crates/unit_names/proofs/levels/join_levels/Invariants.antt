use Rattle.std.proofs.Common.{◌≡◌, ℕ, List, drop}
use Rattle.unit_names.specs.Found.{Row, joined}
use Rattle.unit_names.specs.Levels.{reached, AreWithin}
use Rattle.unit_names.proofs.levels.join_levels.Given as goal

abbrev pub invariant-loop-level : goal.invariant-loop-level
invariant-loop-level l =
    ((bs : List (List Row)) (n : List ℕ) → joined (reached bs l.all.items n) (reached bs (drop l.level-index l.more) n) ≡ joined (reached bs l.initial.all.items n) (reached bs l.more n))
    × ((k : ℕ) → AreWithin k l.initial.all.items → AreWithin k l.more → AreWithin k l.all.items × AreWithin k (drop l.level-index l.more))
