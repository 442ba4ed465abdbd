-- A reply may have a form that answers and yet no value to go on with, which no run of lanes brings: then the image
-- comes to the run fault Bounds, and isn't over without a step that ends it.
use Rattle.std.proofs.Common.{◌≡◌, refl, pos, [], ◌∷◌}
use Rattle.caf_events.specs.declared.fault.FaultKind.TheVariants as faulty
use Rattle.checked_tree.specs.Statements as s
use Rattle.tree_meaning.proofs.SmallTrees.{int, coscalar, num, at_image, one, print, program}
use Rattle.tree_meaning.proofs.SmallAsks.{ints, at, reads, faults, found}
use Rattle.tree_meaning.proofs.Trying.{said}

-- `integer :: x[*]`, `print *, x[1]`: a read without a value
read_of_nothing : said (program (coscalar int ∷ []) (0 ∷ []) 0 ((2, print (s.value (at_image 0 (one (num (pos 1)))) ∷ [])) ∷ []) 3) 100 1 1 (found (ints []) ∷ []) ≡ (reads 1 (at 0 0), 2) ∷ (faults faulty.Bounds, 2) ∷ []
read_of_nothing = refl
