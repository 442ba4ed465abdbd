-- The names that are written in a procedure as declared there.
use Rattle.std.specs.Prelude.{ℕ, Bool, false, bytes_eq, List, [], ◌∷◌, Some, None}
use Rattle.fortran_tree.specs.Units as u
use Rattle.fortran_tree.specs.Units.{Heading}
use Rattle.fortran_tree.specs.declared.declaration.Declaration.{Declaration}
use Rattle.rule_definitions.specs.Units.{headed}
use Rattle.scope_table.specs.Pending.{pending_names}

-- the name behind RESULT
abbrev pub result_names : Heading → List (List ℕ)
result_names (u.function ps n ds (Some r)) = r.text ∷ []
result_names h = []

abbrev pub written_names : Heading → List Declaration → List (List ℕ)
written_names h ds = pending_names ds (headed h).dummies (result_names h)

-- the name of a function that is also that of its result
abbrev pub is_own_name : Heading → List ℕ → Bool
is_own_name (u.function ps f ds None) n = bytes_eq f.text n
is_own_name h n = false
