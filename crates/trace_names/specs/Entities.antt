-- Declarations whose entities have names that the text of a trace can show.
use Rattle.std.specs.Prelude.{ℕ, List, map}
use Rattle.fortran_tree.specs.Statements.{Declaration, Entity}
use Rattle.checked_tree.specs.declared.data.Variable.{Variable}
use Rattle.checked_tree.specs.Statements.{Program}
use Rattle.trace_theory.specs.Entries.{Each}
use Rattle.trace_forms.specs.Names.{IsName}

-- each entity of a declaration (ISO/IEC 1539-1:2018, 8.2) has a name
abbrev pub AreNamed : List Entity → Type 0
AreNamed es = Each (λ e. IsName e.name.text) es

-- and so have those of each of these declarations
abbrev pub DeclareNames : List Declaration → Type 0
DeclareNames ds = Each (λ d. AreNamed d.entities) ds

abbrev pub name_of : Variable → List ℕ
name_of v = v.name

-- the names of the variables of the main program, coarrays among them
abbrev pub variable_names : Program → List (List ℕ)
variable_names p = map name_of p.main.variables
