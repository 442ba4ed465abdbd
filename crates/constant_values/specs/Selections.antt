-- The elements of a section of a constant array, by their places in array element order (9.5.3.2).
use Rattle.std.specs.Prelude.{ℕ, ◌+◌, ◌*◌, ℤ, false, List, [], ◌∷◌, ◌++◌, Option, Some, None, map, length, get_or}
use Rattle.caf_base.specs.declared.value.Value.{Value}
use Rattle.caf_base.specs.declared.value.Value.TheVariants.{Bool as Truth}
use Rattle.coarray_types.specs.Distances.{distance}
use Rattle.coarray_types.specs.Places.{extent_of, subscript_order}
use Rattle.rule_definitions.specs.Constants as k
use Rattle.constant_values.specs.declared.chosen.Chosen.{Chosen}
use Rattle.constant_values.specs.declared.chosen.Chosen.TheVariants as choices
use Rattle.constant_values.specs.declared.selection.Selection.{Selection}

abbrev pub chosen : Chosen → k.Chosen
chosen (choices.One n) = k.one n
chosen (choices.Several ns) = k.several ns.items
chosen choices.Never = k.no_choice

-- the places of the elements of a section, and its extents
pub record Places : Type 0 where
  pub extents : List ℕ
  pub places : List ℕ

abbrev pub seen : Selection → Places
seen r = record { extents = r.extents.items; places = r.places.items }

abbrev pub places_of : List (ℤ × ℤ) → k.Selection → Places
places_of ds r = record { extents = r.extents; places = map (subscript_order ds) r.lists }

-- the place of a subscript before a place in the further dimensions
abbrev pub place_in : ℤ × ℤ → ℕ → ℤ → ℕ
place_in d o n = distance d.0 n + extent_of d * o

abbrev pub places_before : ℤ × ℤ → List ℤ → List ℕ → List ℕ
places_before d ns [] = []
places_before d ns (o ∷ os) = map (place_in d o) ns ++ places_before d ns os

abbrev pub with_choice : ℤ × ℤ → k.Chosen → Places → Option Places
with_choice d (k.one n) r = Some (record { extents = r.extents; places = places_before d (n ∷ []) r.places })
with_choice d (k.several ns) r = Some (record { extents = length ns ∷ r.extents; places = places_before d ns r.places })
with_choice d k.no_choice r = None

abbrev pub value_at : List Value → ℕ → Value
value_at vs n = get_or vs n (Truth false)

abbrev pub taken_at : List Value → Places → k.Constancy
taken_at vs r = elim r.extents [ [] ↦ k.first_value (map (value_at vs) r.places) | n ∷ ns ↦ k.values r.extents (map (value_at vs) r.places) ]

abbrev pub with_choice_of : ℤ × ℤ → k.Chosen → Option Places → Option Places
with_choice_of d c None = None
with_choice_of d c (Some r) = with_choice d c r
