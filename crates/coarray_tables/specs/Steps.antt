-- What steps on coarrays do to a core.
use Rattle.std.specs.Prelude.{ℕ, ℤ, Bool, ◌&&◌, List, [], ◌∷◌, Option, Some, None}
use Rattle.caf_base.specs.Arithmetic.{truth, is_true}
use Rattle.walk_theory.specs.Language.{goes_to, stuck}
use Rattle.image_acts.specs.Core.{Core, Own, with_values}
use Rattle.image_acts.specs.Taking.{Acted, put_down}
use Rattle.coarray_tables.specs.Owns.{Owned, sum_of_cells}

abbrev pub owned_by : Core → Owned
owned_by c = record { coarrays = c.coarrays; cells = c.coarray_cells }

abbrev pub with_owned : Owned → Core → Core
with_owned n c = record c { coarrays = n.coarrays; coarray_cells = n.cells }

-- the team in which a coarray was allocated; of one that isn't allocated here any number serves
abbrev pub made_team : Option Own → ℕ
made_team None = 0
made_team (Some o) = o.team

-- a plan with a coarray of so many cells: whether all is well so far, and the cells that would be in use
abbrev pub planned : Bool → ℕ → List ℤ → Core → Acted
planned well cells (w ∷ m ∷ n ∷ []) c = goes_to (with_values c (put_down (truth (is_true w && well) ∷ sum_of_cells m cells ∷ sum_of_cells n 0 ∷ []) c.values))
planned well cells vs c = stuck
