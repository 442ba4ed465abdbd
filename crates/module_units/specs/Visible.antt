-- What a name denotes in a scope of a file: in a program unit, or in a procedure of one (14.2.2, 19.3, 19.5.1.4).
use Rattle.std.specs.Prelude.{ℕ, Bool, true, false, cond, bytes_eq, List, [], ◌∷◌, ◌++◌, ◌&&◌, ◌≡◌, Option, Some, None, map}
use Rattle.fortran_tree.specs.declared.name.Name.{Name}
use Rattle.fortran_tree.specs.Statements as t
use Rattle.fortran_tree.specs.Statements.{Declaration, Statements}
use Rattle.fortran_tree.specs.Units.{Procedure}
use Rattle.unit_tree.specs.Files as f
use Rattle.unit_tree.specs.Files.{Rename, OnlyItem, UseList, Use, Module, MainProgram, UnitFile}
use Rattle.rule_definitions.specs.Judgements.{is_there}
use Rattle.rule_definitions.specs.Names.{Named, denoted_in, is_among, intrinsic_procedures, module_names}
use Rattle.rule_definitions.specs.Units.{Headed, headed, is_module, text_of}

-- an entity, by where it is declared and by its name there
pub data Entity : Type 0 where
  -- of the module with this name
  of_module : List ℕ → List ℕ → Entity
  of_main : List ℕ → Entity
  -- of the procedure that the scope is
  of_procedure : List ℕ → Entity
  -- of ISO_FORTRAN_ENV (16.10.2)
  of_environment : List ℕ → Entity
  -- an intrinsic procedure (16.9)
  intrinsic : List ℕ → Entity

-- what a name denotes: several entities where USE gives it more than one
pub data Denoted : Type 0 where
  nothing : Denoted
  one : Entity → Denoted
  several : Denoted

-- an entity that USE makes accessible, under this name
pub record Given : Type 0 where
  pub name : List ℕ
  pub entity : Entity

abbrev pub given : List ℕ → Entity → Given
given n e = record { name = n; entity = e }

-- a program unit: a module with its name, or the main program
pub record ProgramUnit : Type 0 where
  pub own : Option (List ℕ)
  pub uses : List Use
  pub declarations : List Declaration
  pub statements : Statements
  pub procedures : List Procedure

abbrev pub procedures_in : Option (List Procedure) → List Procedure
procedures_in None = []
procedures_in (Some xs) = xs

abbrev pub module_unit : Module → ProgramUnit
module_unit m = record {
  own = Some m.name.text;
  uses = m.uses;
  declarations = m.declarations;
  statements = t.no_statements;
  procedures = procedures_in m.procedures;
}

abbrev pub main_unit : MainProgram → ProgramUnit
main_unit p = record {
  own = None;
  uses = p.uses;
  declarations = p.body.declarations;
  statements = p.body.statements;
  procedures = procedures_in p.procedures;
}

-- the names that declarations declare, and those that a unit does: its procedures' behind them
abbrev pub names_of_entities : List t.Entity → List Name
names_of_entities [] = []
names_of_entities (e ∷ es) = e.name ∷ names_of_entities es

abbrev pub declared_by : List Declaration → List Name
declared_by [] = []
declared_by (d ∷ ds) = names_of_entities d.entities ++ declared_by ds

abbrev pub heading_of : Procedure → Headed
heading_of x = headed x.heading

abbrev pub name_of_procedure : Procedure → Name
name_of_procedure x = (heading_of x).name

abbrev pub declared : ProgramUnit → List Name
declared u = declared_by u.declarations ++ map name_of_procedure u.procedures

-- an entity that a unit declares
abbrev pub own_entity : Option (List ℕ) → List ℕ → Entity
own_entity None x = of_main x
own_entity (Some m) x = of_module m x

abbrev pub owned : Option (List ℕ) → List Name → List Given
owned o [] = []
owned o (n ∷ ns) = given n.text (own_entity o n.text) ∷ owned o ns

-- A module as another unit sees it: the entities that it declares, and those that it has by USE.
pub record Known : Type 0 where
  pub name : List ℕ
  pub has : List Given

abbrev pub module_in : List Known → List ℕ → Option (List Given)
module_in [] n = None
module_in (k ∷ ks) n = cond (bytes_eq k.name n) (Some k.has) (module_in ks n)

abbrev pub environment : List Named → List Given
environment [] = []
environment (x ∷ xs) = given x.name (of_environment x.name) ∷ environment xs

-- the module with this name, of those that stand before
abbrev pub found_module : List Known → List ℕ → Option (List Given)
found_module ks n = cond (is_module n) (Some (environment module_names)) (module_in ks n)

abbrev pub has_name : List Given → List ℕ → Bool
has_name [] n = false
has_name (g ∷ gs) n = cond (bytes_eq g.name n) true (has_name gs n)

-- the entities with this name, under another
abbrev pub given_as : List ℕ → List Given → List ℕ → List Given
given_as new [] n = []
given_as new (g ∷ gs) n = cond (bytes_eq g.name n) (given new g.entity ∷ given_as new gs n) (given_as new gs n)

abbrev pub item_given : List Given → OnlyItem → List Given
item_given gs (f.named n) = given_as n.text gs n.text
item_given gs (f.renamed r) = given_as r.local.text gs r.entity.text

abbrev pub items_given : List Given → List OnlyItem → List Given
items_given gs [] = []
items_given gs (x ∷ xs) = item_given gs x ++ items_given gs xs

-- the new names of a name
abbrev pub new_names : List Rename → List ℕ → List (List ℕ)
new_names [] n = []
new_names (r ∷ rs) n = cond (bytes_eq r.entity.text n) (r.local.text ∷ new_names rs n) (new_names rs n)

abbrev pub under_each : Entity → List (List ℕ) → List Given
under_each e [] = []
under_each e (n ∷ ns) = given n e ∷ under_each e ns

-- an entity under its new names, where it has some, else under its own
abbrev pub renamed_given : Given → List (List ℕ) → List Given
renamed_given g [] = g ∷ []
renamed_given g (n ∷ ns) = under_each g.entity (n ∷ ns)

abbrev pub all_given : List Rename → List Given → List Given
all_given rs [] = []
all_given rs (g ∷ gs) = renamed_given g (new_names rs g.name) ++ all_given rs gs

abbrev pub list_given : List Given → UseList → List Given
list_given gs (f.all_but rs) = all_given rs gs
list_given gs (f.only xs) = items_given gs xs

abbrev pub found_given : Option (List Given) → UseList → List Given
found_given None l = []
found_given (Some gs) l = list_given gs l

-- what USE statements make accessible, behind these modules
abbrev pub uses_given : List Known → List Use → List Given
uses_given ks [] = []
uses_given ks (x ∷ xs) = found_given (found_module ks x.module_name.text) x.list ++ uses_given ks xs

-- Scopes.

-- a scope: its unit, what that declares and what USE gives it; and what the procedure declares that the scope is, where
-- it is one
pub record Scope : Type 0 where
  pub unit : Option (List ℕ)
  pub own : List (List ℕ)
  pub given : List Given
  pub locals : List (List ℕ)

abbrev pub same_entity : Entity → Entity → Bool
same_entity (of_module m x) (of_module n y) = bytes_eq m n && bytes_eq x y
same_entity (of_main x) (of_main y) = bytes_eq x y
same_entity (of_procedure x) (of_procedure y) = bytes_eq x y
same_entity (of_environment x) (of_environment y) = bytes_eq x y
same_entity (intrinsic x) (intrinsic y) = bytes_eq x y
same_entity a b = false

-- the entities that USE gives under a name: none, one, or several
abbrev pub agreed : Denoted → Entity → Denoted
agreed nothing e = one e
agreed (one d) e = cond (same_entity d e) (one d) several
agreed several e = several

abbrev pub given_under : Denoted → List Given → List ℕ → Denoted
given_under d [] n = d
given_under d (g ∷ gs) n = given_under (cond (bytes_eq g.name n) (agreed d g.entity) d) gs n

abbrev pub denoted_by_default : List ℕ → Denoted
denoted_by_default n = cond (is_there (denoted_in intrinsic_procedures n)) (one (intrinsic n)) nothing

abbrev pub or_by_default : Denoted → List ℕ → Denoted
or_by_default nothing n = denoted_by_default n
or_by_default d n = d

-- what a name denotes: what its procedure declares comes first, then what its unit declares, then what USE gives that,
-- then intrinsic procedures
abbrev pub denoted : Scope → List ℕ → Denoted
denoted s n = cond (is_among s.locals n) (one (of_procedure n))
    (cond (is_among s.own n) (one (own_entity s.unit n)) (or_by_default (given_under nothing s.given n) n))

-- the name x denotes the entity e in the scope s
abbrev pub Denotes : Scope → List ℕ → Entity → Type 0
Denotes s x e = denoted s x ≡ one e

abbrev pub unit_scope : List Known → ProgramUnit → Scope
unit_scope ks u = record { unit = u.own; own = map text_of (declared u); given = uses_given ks u.uses; locals = [] }

abbrev pub without : List ℕ → List (List ℕ) → List (List ℕ)
without n [] = []
without n (x ∷ xs) = cond (bytes_eq n x) (without n xs) (x ∷ without n xs)

abbrev pub answer_names : Option Name → List (List ℕ)
answer_names None = []
answer_names (Some n) = n.text ∷ []

-- What a procedure declares: its dummies, its declarations, and the result that RESULT names. The result of a function
-- without RESULT has the name of the function, which its unit declares.
abbrev pub locals_of : Headed → List Declaration → List (List ℕ)
locals_of h ds = cond h.names_itself (without h.name.text (map text_of h.dummies ++ map text_of (declared_by ds)))
    (answer_names h.answer ++ (map text_of h.dummies ++ map text_of (declared_by ds)))

abbrev pub procedure_scope : Scope → Procedure → Scope
procedure_scope s x = record s { locals = locals_of (heading_of x) x.body.declarations }

-- The units of a file in order, each with the modules before it.
pub record Placed : Type 0 where
  pub known : List Known
  pub unit : ProgramUnit

abbrev pub placed : List Known → ProgramUnit → Placed
placed ks u = record { known = ks; unit = u }

abbrev pub scope_of : Placed → Scope
scope_of x = unit_scope x.known x.unit

abbrev pub known_module : List Known → Module → Known
known_module ks m = record { name = m.name.text; has = owned (Some m.name.text) (declared (module_unit m)) ++ uses_given ks m.uses }

abbrev pub and_known : List Known → Module → List Known
and_known ks m = ks ++ known_module ks m ∷ []

abbrev pub placed_modules : List Known → List Module → List Placed
placed_modules ks [] = []
placed_modules ks (m ∷ ms) = placed ks (module_unit m) ∷ placed_modules (and_known ks m) ms

abbrev pub all_known : List Known → List Module → List Known
all_known ks [] = ks
all_known ks (m ∷ ms) = all_known (and_known ks m) ms

abbrev pub main_placed : UnitFile → Placed
main_placed x = placed (all_known [] x.modules) (main_unit x.main)
