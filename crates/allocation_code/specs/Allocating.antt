-- Parts of ALLOCATE and DEALLOCATE that stand together.
use Rattle.std.specs.Prelude.{ℕ, pos, List, [], ◌∷◌}
use Rattle.walk_theory.specs.Syntax.{Parts}
use Rattle.checked_tree.specs.declared.data.Object.{Object}
use Rattle.checked_tree.specs.Expressions as t
use Rattle.checked_tree.specs.Statements as s
use Rattle.image_acts.specs.Statuses.{bad_argument}
use Rattle.image_acts.specs.Acts as a
use Rattle.image_acts.specs.Acts.{Act, allocation}
use Rattle.tree_meaning.specs.Environment.{Environment}
use Rattle.tree_meaning.specs.Allocation.{bounds, making, planning, allocate_round, deallocate_round, coarrays_in, objects_of, named_once, freeing}
use Rattle.tree_meaning.specs.ImageControl.{or_number}
use Rattle.tree_meaning.specs.Sequences.{◌▸◌, doing, pushing, choosing}

-- the bounds and cobounds of a coarray
abbrev pub coarray_bounds : Environment → List s.AllocatedBounds → List s.AllocatedBounds → t.OptionalExpression → Parts Act
coarray_bounds e bs cs l = bounds e bs ▸ bounds e cs ▸ or_number e l (pushing (pos 1))

-- all is made, and the coarrays among these objects have their round
abbrev pub made : List s.Allocation → List Object → ℕ → Parts Act
made xs os above = making xs above ▸ allocate_round (coarrays_in os)

abbrev pub chosen : List s.Allocation → List Object → ℕ → Parts Act
chosen xs os above = choosing (made xs os above) (pushing bad_argument)

-- the tests, and what is chosen by them
abbrev pub planned : List s.Allocation → ℕ → Parts Act
planned xs above =
    doing (allocation a.begin_plan ∷ []) ▸ planning xs above ▸ doing (allocation a.end_plan ∷ []) ▸ named_once (objects_of xs) ▸ chosen xs (objects_of xs) above

-- the coarrays among the objects have their round, and all is freed
abbrev pub freed : List Object → Parts Act
freed os = deallocate_round (coarrays_in os) ▸ freeing os

abbrev pub freed_or_not : List Object → Parts Act
freed_or_not os = choosing (freed os) (pushing bad_argument)
