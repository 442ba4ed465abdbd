use Rattle.std.proofs.Common.{◌≡◌, drop}
use Rattle.unit_names.specs.Levels.{is_level}
use Rattle.unit_names.proofs.levels.has_level.Given as goal

abbrev pub invariant-loop-here : goal.invariant-loop-here
invariant-loop-here l = is_level (drop l.here-index l.levels) l.level ≡ is_level l.levels l.level
