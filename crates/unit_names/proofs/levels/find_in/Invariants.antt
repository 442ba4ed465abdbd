use Rattle.std.proofs.Common.{◌≡◌, drop}
use Rattle.unit_names.specs.Found.{found, joined}
use Rattle.unit_names.specs.Levels.{reached}
use Rattle.unit_names.proofs.levels.find_in.Given as goal

abbrev pub invariant-loop-level : goal.invariant-loop-level
invariant-loop-level l = joined (found l.all) (reached l.blocks (drop l.level-index l.levels) l.name) ≡ reached l.blocks l.levels l.name
