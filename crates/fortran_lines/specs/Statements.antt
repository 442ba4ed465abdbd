-- A statement's bytes with their places.
use Rattle.std.specs.Prelude.{ℕ, List, [], ◌∷◌}
use Rattle.caf_base.specs.declared.place.Pos.{Pos}
use Rattle.fortran_lines.specs.declared.placed_byte.PlacedByte.{PlacedByte}
use Rattle.fortran_lines.specs.declared.stmt.Stmt.{Stmt}

-- bytes with places, one for each
abbrev pub with_places : List ℕ → List Pos → List PlacedByte
with_places [] ps = []
with_places (b ∷ bs) [] = []
with_places (b ∷ bs) (p ∷ ps) = record { code = b; at = p } ∷ with_places bs ps

-- a statement's bytes with their places
abbrev pub placed_bytes : Stmt → List PlacedByte
placed_bytes s = with_places s.text s.at
