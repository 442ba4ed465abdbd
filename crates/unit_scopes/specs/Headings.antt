-- Headings of procedures, part by part (15.6.2.2, 15.6.2.3).
use Rattle.std.specs.Prelude.{ℕ, Bool, true, false, List, [], ◌∷◌, ◌++◌, Option, Some, None}
use Rattle.std.specs.Option.{option_map}
use Rattle.std.specs.Borrow.{Bor}
use Rattle.caf_base.specs.declared.place.Pos.{Pos}
use Rattle.fortran_tree.specs.Statements as d
use Rattle.fortran_tree.specs.Units as u
use Rattle.fortran_tree.specs.DeclarationViews.{declaration_type_spec}
use Rattle.fortran_tree.specs.declared.name.Name.{Name}
use Rattle.fortran_tree.specs.declared.declaration.TypeSpec.{TypeSpec}
use Rattle.rule_definitions.specs.declared.broken.Broken.{Broken}
use Rattle.rule_definitions.specs.Judgements.{said_of}
use Rattle.rule_definitions.specs.Names.{Scope}
use Rattle.rule_definitions.specs.Declarations.{special_type_breaks, type_judged}
use Rattle.rule_definitions.specs.Units.{Headed, answer_breaks, dummy_breaks, first_type, own_name, place_of_answer, second_type_breaks, type_breaks}

abbrev pub lent_name : Option (Bor Name) → Option Name
lent_name None = None
lent_name (Some n) = Some n.now

abbrev pub lent_type : Option (Bor TypeSpec) → Option d.DeclarationTypeSpec
lent_type None = None
lent_type (Some t) = Some (declaration_type_spec t.now)

abbrev pub first_written : List d.DeclarationTypeSpec → Option d.DeclarationTypeSpec
first_written [] = None
first_written (x ∷ xs) = Some x

-- whether a second type is among these, where there may be one before
abbrev pub is_second : Bool → List d.DeclarationTypeSpec → Bool
is_second b [] = false
is_second false (x ∷ xs) = is_second true xs
is_second true (x ∷ xs) = true

abbrev pub prefix_breaks : Scope → u.PrefixSpec → List Broken
prefix_breaks s u.recursive = []
prefix_breaks s (u.result_type x) = (type_judged s x).breaks

-- the rules on the names of a heading, and those on its types
abbrev pub name_rules : Headed → List Broken
name_rules h = dummy_breaks (own_name h) h.dummies ++ said_of (answer_breaks h) h.answer

abbrev pub type_rules : Scope → List d.DeclarationTypeSpec → Pos → List Broken
type_rules s ts p = second_type_breaks ts p ++ (type_breaks s ts ++ special_type_breaks (first_type s ts).meaning 0 0 p)
