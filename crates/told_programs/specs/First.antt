-- What an image knows before its program begins (ISO/IEC 1539-1:2018, 5.3.4, 5.3.5).
use Rattle.std.specs.Prelude.{ℕ, map}
use Rattle.checked_tree.specs.Statements as checked
use Rattle.tree_meaning.specs.Start.{own_coarrays}
use Rattle.told_walks.specs.Asked.{Told, at_first, own_cells}

-- its number, the initial team of n images, and its coarrays that aren't allocatable
abbrev pub told_first : checked.Program → (me n : ℕ) → Told
told_first p me n = at_first me n (map own_cells (own_coarrays p))
