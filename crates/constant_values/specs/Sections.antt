-- The dimensions of a section (9.5.3.3).
use Rattle.std.specs.Prelude.{List, [], ◌∷◌, pos}
use Rattle.rule_definitions.specs.Names.{KnownBounds}
use Rattle.rule_definitions.specs.Constants as k

-- none of a subscript, one of a triplet
abbrev pub section_dimension : KnownBounds → k.KnownSubscript → List KnownBounds
section_dimension d (k.known_element c) = []
section_dimension d (k.known_triplet a b c) = k.triplet_bounds (k.end_or a (k.lower_of d)) (k.end_or b (k.upper_of d)) (k.part_or c (pos 1)) ∷ []
