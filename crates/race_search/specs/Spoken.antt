-- Images as a list of one or none.
use Rattle.std.specs.Prelude.{ℕ, List, [], ◌∷◌, Option, Some, None}

abbrev pub only : Option ℕ → List ℕ
only None = []
only (Some i) = i ∷ []
