-- Which rules the units of a file break, before they are one program: 20, 41, 60, 61 and 62 (docs/use/REFUSALS.md).
use Rattle.std.specs.Prelude.{ℕ, not, bytes_eq, codes, List, [], ◌∷◌, ◌++◌, ◌||◌, Option, Some, None, map}
use Rattle.fortran_tree.specs.declared.name.Name.{Name}
use Rattle.fortran_tree.specs.Units as u
use Rattle.fortran_tree.specs.Units.{Procedure}
use Rattle.unit_tree.specs.Files as f
use Rattle.unit_tree.specs.Files.{Rename, OnlyItem, UseList, Use, Module, UnitFile}
use Rattle.rule_definitions.specs.declared.broken.Broken.{Broken}
use Rattle.rule_definitions.specs.Judgements.{breaks, unless}
use Rattle.rule_definitions.specs.Names.{is_among}
use Rattle.rule_definitions.specs.Statements.{end_breaks}
use Rattle.rule_definitions.specs.Units.{text_of}
use Rattle.unit_references.specs.References as r
use Rattle.module_units.specs.Visible.{Entity, Denoted, nothing, one, several, of_environment, intrinsic, Given, ProgramUnit, declared, Known, found_module, has_name, Scope, denoted, procedure_scope, Placed, scope_of, placed_modules, main_placed}

-- Rule 20 (14.2.2): a module that is neither ISO_FORTRAN_ENV nor earlier in the file; a name in ONLY or behind `=>`
-- that the module hasn't
abbrev pub name_breaks : List Given → Name → List Broken
name_breaks gs n = unless (has_name gs n.text) 20 n.at

abbrev pub item_breaks : List Given → OnlyItem → List Broken
item_breaks gs (f.named n) = name_breaks gs n
item_breaks gs (f.renamed x) = name_breaks gs x.entity

abbrev pub items_breaks : List Given → List OnlyItem → List Broken
items_breaks gs [] = []
items_breaks gs (x ∷ xs) = item_breaks gs x ++ items_breaks gs xs

abbrev pub renames_breaks : List Given → List Rename → List Broken
renames_breaks gs [] = []
renames_breaks gs (x ∷ xs) = name_breaks gs x.entity ++ renames_breaks gs xs

abbrev pub list_breaks : List Given → UseList → List Broken
list_breaks gs (f.all_but xs) = renames_breaks gs xs
list_breaks gs (f.only xs) = items_breaks gs xs

abbrev pub module_breaks : Option (List Given) → Use → List Broken
module_breaks None x = breaks 20 x.module_name.at
module_breaks (Some gs) x = list_breaks gs x.list

abbrev pub uses_breaks : List Known → List Use → List Broken
uses_breaks ks [] = []
uses_breaks ks (x ∷ xs) = module_breaks (found_module ks x.module_name.text) x ++ uses_breaks ks xs

-- Rule 61 (14.2.2): a declared name of a unit that its USE statements also make accessible
abbrev pub given_breaks : List Given → List Name → List Broken
given_breaks gs [] = []
given_breaks gs (n ∷ ns) = unless (not (has_name gs n.text)) 61 n.at ++ given_breaks gs ns

-- Rule 61 (19.2): a name of a unit that is used for a second one; ISO_FORTRAN_ENV is one
abbrev pub maybe_second : List (List ℕ) → Option Name → List Broken
maybe_second before None = []
maybe_second before (Some n) = unless (not (is_among before n.text)) 61 n.at

abbrev pub second_breaks : List (List ℕ) → List Module → Option Name → List Broken
second_breaks before [] p = maybe_second before p
second_breaks before (m ∷ ms) p = unless (not (is_among before m.name.text)) 61 m.name.at ++ second_breaks (m.name.text ∷ before) ms p

-- Rule 41 (14.2.1): another name behind END MODULE than that of the module
abbrev pub ends_breaks : List Module → List Broken
ends_breaks [] = []
ends_breaks (m ∷ ms) = end_breaks (Some m.name) m.end.name ++ ends_breaks ms

-- Names in a scope.
pub record Referring : Type 0 where
  pub scope : Scope
  pub names : List Name

abbrev pub referring : Scope → List Name → Referring
referring s ns = record { scope = s; names = ns }

abbrev pub prefixes_of : u.Heading → List Name
prefixes_of (u.subroutine x n ds) = []
prefixes_of (u.function ps n ds a) = r.each r.prefix_spec ps

-- the types before FUNCTION are the unit's, what stands in the procedure is its own
abbrev pub procedures_referring : Scope → List Procedure → List Referring
procedures_referring s [] = []
procedures_referring s (x ∷ xs) =
    referring s (prefixes_of x.heading) ∷ referring (procedure_scope s x) (r.body x.body) ∷ procedures_referring s xs

abbrev pub unit_referring : Scope → ProgramUnit → List Referring
unit_referring s x = referring s (r.each r.declaration x.declarations ++ r.statements x.statements) ∷ procedures_referring s x.procedures

abbrev pub all_referring : List Placed → List Referring
all_referring [] = []
all_referring (x ∷ xs) = unit_referring (scope_of x) x.unit ++ all_referring xs

-- Rule 20 (8.7): a name that denotes nothing. Rule 60 (14.2.2): a referenced name that USE gives two entities. Rule 62:
-- a name of ISO_FORTRAN_ENV that is referred to under a new name, where the main program or the procedure of that
-- reference declares a name spelled like its own one
abbrev pub hidden_breaks : List (List ℕ) → Scope → Name → List ℕ → List Broken
hidden_breaks mains s n x = unless (bytes_eq x n.text || not (is_among mains x || is_among s.locals x)) 62 n.at

abbrev pub entity_breaks : List (List ℕ) → Scope → Name → Entity → List Broken
entity_breaks mains s n (of_environment x) = hidden_breaks mains s n x
entity_breaks mains s n e = []

abbrev pub denoted_breaks : List (List ℕ) → Scope → Name → Denoted → List Broken
denoted_breaks mains s n nothing = breaks 20 n.at
denoted_breaks mains s n several = breaks 60 n.at
denoted_breaks mains s n (one e) = entity_breaks mains s n e

abbrev pub names_breaks : List (List ℕ) → Scope → List Name → List Broken
names_breaks mains s [] = []
names_breaks mains s (n ∷ ns) = denoted_breaks mains s n (denoted s n.text) ++ names_breaks mains s ns

abbrev pub referring_breaks : List (List ℕ) → List Referring → List Broken
referring_breaks mains [] = []
referring_breaks mains (x ∷ xs) = names_breaks mains x.scope x.names ++ referring_breaks mains xs

-- the names under which intrinsic procedures and names of ISO_FORTRAN_ENV stand in one program
abbrev pub entity_taken : Entity → List (List ℕ)
entity_taken (of_environment x) = x ∷ []
entity_taken (intrinsic x) = x ∷ []
entity_taken e = []

abbrev pub denoted_taken : Denoted → List (List ℕ)
denoted_taken (one e) = entity_taken e
denoted_taken d = []

abbrev pub names_taken : Scope → List Name → List (List ℕ)
names_taken s [] = []
names_taken s (n ∷ ns) = denoted_taken (denoted s n.text) ++ names_taken s ns

abbrev pub taken : List Referring → List (List ℕ)
taken [] = []
taken (x ∷ xs) = names_taken x.scope x.names ++ taken xs

-- Rule 62: a name declared in the main program that a module refers to as an intrinsic procedure or as a name of
-- ISO_FORTRAN_ENV
abbrev pub taken_breaks : List (List ℕ) → List Name → List Broken
taken_breaks ts [] = []
taken_breaks ts (n ∷ ns) = unless (not (is_among ts n.text)) 62 n.at ++ taken_breaks ts ns

-- what a unit breaks by its USE statements and its declarations
abbrev pub unit_breaks : Placed → List Broken
unit_breaks x = uses_breaks x.known x.unit.uses ++ given_breaks (scope_of x).given (declared x.unit)

abbrev pub units_breaks : List Placed → List Broken
units_breaks [] = []
units_breaks (x ∷ xs) = unit_breaks x ++ units_breaks xs

-- with the modules and the main program in their places
abbrev pub breaks_in : UnitFile → List Placed → Placed → List Broken
breaks_in file ms p =
    second_breaks (codes "iso_fortran_env" ∷ []) file.modules file.main.name
    ++ (ends_breaks file.modules
    ++ (units_breaks ms ++ (unit_breaks p
    ++ (referring_breaks (map text_of (declared p.unit)) (all_referring ms ++ unit_referring (scope_of p) p.unit)
    ++ taken_breaks (taken (all_referring ms)) (declared p.unit)))))

-- all that the units of a file break
abbrev pub file_breaks : UnitFile → List Broken
file_breaks file = breaks_in file (placed_modules [] file.modules) (main_placed file)
