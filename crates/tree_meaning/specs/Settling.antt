-- What becomes of a statement's status (ISO/IEC 1539-1:2018, 11.6.11): STAT= gets it, last of all; without STAT= a
-- status other than 0 starts error termination.
use Rattle.std.specs.Prelude.{ℕ, ℤ, pos, Bool, false, ◌||◌, List, [], ◌∷◌}
use Rattle.std.specs.Ordering.{int_eq}
use Rattle.walk_theory.specs.Syntax.{Parts}
use Rattle.checked_tree.specs.Expressions as t
use Rattle.image_acts.specs.Acts.{Act, constant, operator, equal}
use Rattle.image_acts.specs.Statuses.{failed_image}
use Rattle.tree_meaning.specs.Sequences.{◌▸◌, doing, nothing, pushing, copying, choosing, requiring}
use Rattle.tree_meaning.specs.Expressions.{storing}

-- whether a status is 0 or one of these, with which a statement goes on also without STAT=
abbrev pub is_among : ℤ → List ℤ → Bool
is_among s [] = false
is_among s (a ∷ as') = int_eq s a || is_among s as'

abbrev pub is_accepted : List ℤ → ℤ → Bool
is_accepted accepted s = int_eq s (pos 0) || is_among s accepted

-- the place of the STAT= variable stands beneath so many numbers, of which the status is the top one
abbrev pub settling : t.OptionalResult → ℕ → List ℤ → Parts Act
settling t.no_result depth accepted = requiring accepted
settling (t.result r) depth accepted = storing depth r

-- STAT= of an image selector in a statement that has its own status: 6001 or 0; the status stays
abbrev pub settling_selector : t.OptionalResult → ℕ → Parts Act
settling_selector t.no_result depth = nothing
settling_selector (t.result r) depth = copying 0 1 ▸ doing (constant failed_image ∷ operator equal ∷ []) ▸ choosing (pushing failed_image) (pushing (pos 0)) ▸ storing depth r
