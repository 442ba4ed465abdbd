-- The names that the declarations of a unit declare.
use Rattle.std.specs.Prelude.{ℕ, List, [], ◌∷◌, ◌++◌, ◌||◌, ◌≡◌, Option, Some, None, map}
use Rattle.std.specs.Borrow.{Bor}
use Rattle.fortran_tree.specs.DeclarationViews.{declaration, entity}
use Rattle.fortran_tree.specs.declared.declaration.Declaration.{Declaration}
use Rattle.fortran_tree.specs.declared.declaration.Entity.{Entity}
use Rattle.fortran_tree.specs.declared.name.Name.{Name}
use Rattle.rule_definitions.specs.Names.{is_among}
use Rattle.rule_definitions.specs.Declarations.{names_of, names_declared}
use Rattle.rule_definitions.specs.Units.{text_of}

abbrev pub entity_names : List Entity → List (List ℕ)
entity_names es = names_of (map entity es)

abbrev pub declared_names : List Declaration → List (List ℕ)
declared_names ds = names_declared (map declaration ds)

abbrev pub name_texts : List Name → List (List ℕ)
name_texts ns = map text_of ns

-- a name that may be missing
abbrev pub maybe_name : Option (Bor Name) → List (List ℕ)
maybe_name None = []
maybe_name (Some n) = n.now.text ∷ []

abbrev pub pending_names : List Declaration → List Name → List (List ℕ) → List (List ℕ)
pending_names ds ns r = declared_names ds ++ (name_texts ns ++ r)

-- the names that were there, and these
abbrev pub Adds : List (List ℕ) → List (List ℕ) → List (List ℕ) → Type 0
Adds new old xs = (n : List ℕ) → is_among new n ≡ (is_among old n || is_among xs n)
