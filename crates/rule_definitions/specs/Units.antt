-- What breaks in a program (5.2, 14.1, 15.6.2), and the checked program that it stands for: all scopes first, then the
-- statements of each unit in order.
use Rattle.std.specs.Prelude.{ℕ, Bool, true, false, not, cond, nat_eq, length, List, [], ◌∷◌, ◌++◌, ◌+◌, ◌||◌, ◌&&◌, bytes_eq, codes, Option, Some, None, map}
use Rattle.caf_base.specs.declared.place.Pos.{Pos}
use Rattle.fortran_tree.specs.Statements as fs
use Rattle.fortran_tree.specs.Units as u
use Rattle.fortran_tree.specs.declared.name.Name.{Name}
use Rattle.checked_tree.specs.Statements as ts
use Rattle.checked_tree.specs.declared.data.DataType.{DataType}
use Rattle.checked_tree.specs.declared.data.Home.TheVariants.{Own, Host}
use Rattle.checked_tree.specs.declared.data.Object.{Object}
use Rattle.checked_tree.specs.declared.data.Object.TheVariants as objects
use Rattle.checked_tree.specs.declared.data.Dimensions.{Dimensions}
use Rattle.checked_tree.specs.declared.data.Dimensions.TheVariants as shapes
use Rattle.checked_tree.specs.declared.data.Codimensions.TheVariants as coshapes
use Rattle.checked_tree.specs.declared.data.Initial.TheVariants as initials
use Rattle.checked_tree.specs.declared.data.Variable.{Variable}
use Rattle.checked_tree.specs.declared.data.Constant.{Constant}
use Rattle.checked_tree.specs.declared.program.Dummy.{Dummy}
use Rattle.rule_definitions.specs.declared.broken.Broken.{Broken}
use Rattle.rule_definitions.specs.Judgements.{breaks, unless, Judgement, fine, unknown, ruled, made_of, made_of_both, said_of, all_made, or_else, is_there}
use Rattle.rule_definitions.specs.Names
use Rattle.rule_definitions.specs.Names.{Scope, Symbol, Interface, Meaning, Named, named, denoted_in, is_among, variables_of, intent_is_in, module_names, KnownBounds, Role}
use Rattle.rule_definitions.specs.Constants.{all_bounds}
use Rattle.rule_definitions.specs.Declarations.{Unit', Declared, declared_all, names_declared, type_judged, special_type_breaks, limit_breaks, is_declared, and_then}
use Rattle.rule_definitions.specs.Statements.{Counted, counted_statements, behind, Position, judged_statements, end_breaks, most_hidden_of}

-- USE (14.2.2)

abbrev pub is_module : List ℕ → Bool
is_module n = bytes_eq n (codes "iso_fortran_env")

-- Rule 20: a module other than ISO_FORTRAN_ENV; a name in ONLY that it hasn't
abbrev pub only_breaks : List Name → List Broken
only_breaks [] = []
only_breaks (n ∷ ns) = unless (is_there (denoted_in module_names n.text)) 20 n.at ++ only_breaks ns

abbrev pub names_breaks : Option (List Name) → List Broken
names_breaks None = []
names_breaks (Some ns) = only_breaks ns

abbrev pub use_breaks : u.Use → List Broken
use_breaks x = cond (is_module x.module_name.text) (names_breaks x.only) (breaks 20 x.module_name.at)

abbrev pub uses_breaks : List u.Use → List Broken
uses_breaks [] = []
uses_breaks (x ∷ xs) = use_breaks x ++ uses_breaks xs

abbrev pub accessible_name : List ℕ → List Named
accessible_name n = elim (denoted_in module_names n) [ None ↦ [] | Some m ↦ named n m ∷ [] ]

abbrev pub accessible_names : List Name → List Named
accessible_names [] = []
accessible_names (n ∷ ns) = accessible_name n.text ++ accessible_names ns

abbrev pub accessible_by : u.Use → List Named
accessible_by x = cond (is_module x.module_name.text) (elim x.only [ None ↦ module_names | Some ns ↦ accessible_names ns ]) []

abbrev pub accessible_of : List u.Use → List Named
accessible_of [] = []
accessible_of (x ∷ xs) = accessible_by x ++ accessible_of xs

-- Headings (15.6.2.2, 15.6.2.3)

-- a heading: the result of a function, by the name that it has in it
pub record Headed : Type 0 where
  pub name : Name
  pub dummies : List Name
  pub answer : Option Name
  pub types : List fs.DeclarationTypeSpec
  -- whether the function's own name is that of its result
  pub names_itself : Bool

abbrev pub types_of : List u.PrefixSpec → List fs.DeclarationTypeSpec
types_of [] = []
types_of (u.recursive ∷ rest) = types_of rest
types_of (u.result_type x ∷ rest) = x ∷ types_of rest

abbrev pub dummies_of : Option (List Name) → List Name
dummies_of None = []
dummies_of (Some ns) = ns

abbrev pub headed : u.Heading → Headed
headed (u.subroutine r n ds) = record { name = n; dummies = dummies_of ds; answer = None; types = []; names_itself = false }
headed (u.function ps n ds r) = record { name = n; dummies = ds; answer = or_else r (Some n); types = types_of ps; names_itself = not (is_there r) }

abbrev pub text_of : Name → List ℕ
text_of n = n.text

abbrev pub place_of_answer : Headed → Pos
place_of_answer h = elim h.answer [ None ↦ h.name.at | Some n ↦ n.at ]

abbrev pub meaning_of_heading : ℕ → Headed → Meaning
meaning_of_heading n h = elim h.answer [ None ↦ Names.subroutine n | Some r ↦ Names.function n ]

-- the names of the procedures, numbered in source order
abbrev pub procedure_names : ℕ → List Headed → List Named
procedure_names n [] = []
procedure_names n (h ∷ rest) = named h.name.text (meaning_of_heading n h) ∷ procedure_names (n + 1) rest

-- Rule 21 (19.3.1): a procedure with the name of an earlier one, or of a name of the main program
abbrev pub twice_breaks : List (List ℕ) → List Headed → List Broken
twice_breaks before [] = []
twice_breaks before (h ∷ rest) = unless (not (is_among before h.name.text)) 21 h.name.at ++ twice_breaks (h.name.text ∷ before) rest

-- Rule 21 (19.3.1): a dummy argument that stands twice, or has the result's name
abbrev pub dummy_breaks : List (List ℕ) → List Name → List Broken
dummy_breaks before [] = []
dummy_breaks before (n ∷ ns) = unless (not (is_among before n.text)) 21 n.at ++ dummy_breaks (n.text ∷ before) ns

abbrev pub own_name : Headed → List (List ℕ)
own_name h = cond h.names_itself (h.name.text ∷ []) []

abbrev pub answer_breaks : Headed → Name → List Broken
answer_breaks h n = unless (h.names_itself || not (is_among (map text_of h.dummies) n.text)) 21 n.at

-- Rule 21 (15.6.2.2): a second type before FUNCTION
abbrev pub second_type_breaks : List fs.DeclarationTypeSpec → Pos → List Broken
second_type_breaks (a ∷ b ∷ rest) p = breaks 21 p
second_type_breaks xs p = []

-- the type that stands before FUNCTION
abbrev pub first_type : Scope → List fs.DeclarationTypeSpec → Judgement DataType
first_type s [] = unknown
first_type s (x ∷ xs) = type_judged s x

abbrev pub type_breaks : Scope → List fs.DeclarationTypeSpec → List Broken
type_breaks s [] = []
type_breaks s (x ∷ xs) = (type_judged s x).breaks ++ type_breaks s xs

abbrev pub is_typed : Headed → Bool
is_typed h = elim h.types [ [] ↦ false | x ∷ xs ↦ true ]

-- the rules of a heading; its types are those of the host (19.5.1.4)
abbrev pub heading_breaks : Scope → Headed → List Broken
heading_breaks s h =
    dummy_breaks (own_name h) h.dummies
    ++ (said_of (answer_breaks h) h.answer
    ++ (second_type_breaks h.types (place_of_answer h)
    ++ (type_breaks s h.types
    ++ special_type_breaks (first_type s h.types).meaning 0 0 (place_of_answer h))))

-- Scopes of procedures

-- a name of the main program, seen from a procedure
abbrev pub hosted_object : Object → Object
hosted_object (objects.Local l) = objects.Local (record { home = Host; variable = l.variable })
hosted_object o = o

abbrev pub hosted_meaning : Meaning → Meaning
hosted_meaning (Names.variable x) = Names.variable (record x { object = hosted_object x.object; role = Names.plain })
hosted_meaning m = m

abbrev pub hosted : Named → Named
hosted x = named x.name (hosted_meaning x.meaning)

-- a scalar without more: a result that its prefix types, a dummy that nothing types
abbrev pub bare : Name → Option DataType → Role → ℕ → Named
bare n y r k = named n.text (Names.variable (record
    { name = n.text; at = n.at; object = objects.Local (record { home = Own; variable = k }); of_type = y; bounds = []; coshape = coshapes.Absent; corank = 0; is_allocatable = false; role = r; initial = initials.Unstated }))

abbrev pub typed_answer : Scope → Headed → ℕ → List Named
typed_answer s h k = cond (is_typed h) (elim h.answer [ None ↦ [] | Some n ↦ bare n (first_type s h.types).meaning Names.function_result k ∷ [] ]) []

abbrev pub untyped_names : Headed → List (List ℕ)
untyped_names h = elim h.answer [ None ↦ [] | Some n ↦ cond (is_typed h) [] (n.text ∷ []) ]

abbrev pub unit_of : Headed → Unit'
unit_of h = record { is_procedure = true; dummies = map text_of h.dummies; answer = elim h.answer [ None ↦ None | Some n ↦ Some n.text ]; is_answer_typed = is_typed h }

-- the scope in which a procedure's declarations are read
abbrev pub opened : Scope → Headed → List fs.Declaration → Scope
opened s h ds = record s {
  own = [];
  pending = names_declared ds ++ (map text_of h.dummies ++ untyped_names h);
  host = typed_answer s h (length (names_declared ds)) ++ map hosted s.own;
}

-- Rule 29 (8.5.10): a dummy without a type, at its name in the list
abbrev pub with_dummy : Unit' → Scope → Name → Declared
with_dummy u' s n = cond (is_declared u' s n.text) (record { breaks = []; scope = s })
    (record { breaks = breaks 29 n.at; scope = record s { own = s.own ++ bare n None Names.undeclared_dummy (length (variables_of s.own)) ∷ [] } })

abbrev pub with_dummies : Unit' → List Name → Scope → Declared
with_dummies u' [] s = record { breaks = []; scope = s }
with_dummies u' (n ∷ ns) s = and_then (with_dummy u' s n) (with_dummies u' ns)

-- Rule 20 (15.6.2.2): a result without a type
abbrev pub with_untyped : Scope → Name → Declared
with_untyped s n = cond (is_there (denoted_in s.own n.text)) (record { breaks = []; scope = s })
    (record { breaks = breaks 20 n.at; scope = record s { own = s.own ++ bare n None Names.function_result (length (variables_of s.own)) ∷ [] } })

-- the result: one that the prefix types stands last
abbrev pub with_answer : Scope → Headed → Scope → Declared
with_answer host h s = cond (is_typed h)
    (record { breaks = []; scope = record s { own = s.own ++ typed_answer host h (length (variables_of s.own)) } })
    (elim h.answer [ None ↦ record { breaks = []; scope = s } | Some n ↦ with_untyped s n ])

-- behind its declarations a procedure's names are all there
abbrev pub closed : Scope → Scope → Scope
closed host s = record s { pending = []; host = map hosted host.own }

-- a procedure with its scope
pub record Opened : Type 0 where
  pub breaks : List Broken
  pub headed : Headed
  pub scope : Scope
  pub body : u.Body
  pub end : Option Name

abbrev pub opened_behind : Scope → Headed → u.Procedure → Declared → Declared → Declared → Opened
opened_behind host h x a b c = record { breaks = heading_breaks host h ++ (a.breaks ++ (b.breaks ++ c.breaks)); headed = h; scope = closed host c.scope; body = x.body; end = x.end.name }

abbrev pub opened_with : Scope → Headed → u.Procedure → Declared → Declared → Opened
opened_with host h x a b = opened_behind host h x a b (with_answer host h b.scope)

abbrev pub opened_from : Scope → Headed → u.Procedure → Declared → Opened
opened_from host h x a = opened_with host h x a (with_dummies (unit_of h) h.dummies a.scope)

abbrev pub opened_procedure : Scope → Headed → u.Procedure → Opened
opened_procedure host h x = opened_from host h x (declared_all (unit_of h) x.body.declarations (opened host h x.body.declarations))

-- the procedures in order; the array constants of each follow those of the units before it
abbrev pub opened_procedures : Scope → List u.Procedure → List Opened
opened_procedures s [] = []
opened_procedures s (x ∷ xs) = opened_procedure s (headed x.heading) x ∷ opened_procedures (record s { constants = (opened_procedure s (headed x.heading) x).scope.constants }) xs

abbrev pub constants_behind : Scope → List Opened → List Constant
constants_behind s [] = s.constants
constants_behind s (x ∷ xs) = constants_behind x.scope xs

-- Interfaces (15.4)

abbrev pub symbol_named : List Symbol → List ℕ → Option Symbol
symbol_named [] n = None
symbol_named (x ∷ xs) n = cond (bytes_eq x.name n) (Some x) (symbol_named xs n)

abbrev pub symbols_named : List Symbol → List Name → List Symbol
symbols_named xs [] = []
symbols_named xs (n ∷ ns) = elim (symbol_named xs n.text) [ None ↦ symbols_named xs ns | Some x ↦ x ∷ symbols_named xs ns ]

abbrev pub interface_of : Opened → Interface
interface_of x = record {
  name = x.headed.name.text;
  dummies = symbols_named (variables_of x.scope.own) x.headed.dummies;
  result = elim x.headed.answer [ None ↦ None | Some n ↦ symbol_named (variables_of x.scope.own) n.text ];
}

-- Typed units

abbrev pub dimensions_of : Symbol → Judgement Dimensions
dimensions_of x = cond (x.is_allocatable && not (nat_eq (length x.bounds) 0)) (fine (shapes.Deferred (length x.bounds))) (elim (all_bounds x.bounds) [ None ↦ unknown | Some ds ↦ fine (shapes.Explicit (record { dims = ds })) ])

abbrev pub type_known : Option DataType → Judgement DataType
type_known None = unknown
type_known (Some y) = fine y

abbrev pub variable_of : Symbol → Judgement Variable
variable_of x = made_of_both (λ y ds. record { name = x.name; of_type = y; dimensions = ds; codimensions = x.coshape; is_allocatable = x.is_allocatable; initial = x.initial }) (type_known x.of_type) (dimensions_of x)

abbrev pub unit_judged : List Symbol → fs.Statements → Judgement ts.Statements → Judgement ts.Unit'
unit_judged xs ss j = made_of_both (λ vs body. record { variables = vs; hidden = most_hidden_of ss; statements = body }) (all_made (map variable_of xs)) j

abbrev pub number_of : Symbol → ℕ
number_of x = elim x.object [ objects.Local l ↦ l.variable | objects.Coarray n ↦ n | objects.Constant n ↦ n ]

abbrev pub dummy_typed : Symbol → Dummy
dummy_typed x = record { variable = number_of x; is_copied_out = not (intent_is_in x.role) }

abbrev pub procedure_form : Interface → ts.Unit' → ts.Procedure
procedure_form i x = record { name = i.name; dummies = map dummy_typed i.dummies; answer = elim i.result [ None ↦ None | Some y ↦ Some (number_of y) ]; unit = x }

-- all interfaces and constants are there when statements are read
abbrev pub completed : List Interface → List Constant → Scope → Scope
completed is cs s = record s { interfaces = is; constants = cs }

abbrev pub position_of : Scope → Counted → Position
position_of s c = record { scope = s; around = []; criticals = c.criticals; literals = length c.literals }

-- Rule 41: another name behind END than that of the procedure
abbrev pub procedure_judged : List Interface → List Constant → Counted → Opened → Judgement ts.Procedure
procedure_judged is cs c x = ruled
    (made_of (procedure_form (interface_of x)) (unit_judged (variables_of x.scope.own) x.body.statements (judged_statements (position_of (completed is cs x.scope) c) x.body.statements)))
    (end_breaks (Some x.headed.name) x.end)

abbrev pub procedures_judged : List Interface → List Constant → Counted → List Opened → Judgement (List ts.Procedure)
procedures_judged is cs c [] = fine []
procedures_judged is cs c (x ∷ xs) = made_of_both (λ p ps. p ∷ ps) (procedure_judged is cs c x) (procedures_judged is cs (behind c (counted_statements x.body.statements)) xs)

-- what stands in the statements of the procedures
abbrev pub counted_all : List Opened → Counted
counted_all [] = record { criticals = 0; literals = [] }
counted_all (x ∷ xs) = behind (counted_statements x.body.statements) (counted_all xs)

-- the coarrays: the number of each among the variables
abbrev pub coarray_numbers : ℕ → List Symbol → List ℕ
coarray_numbers n [] = []
coarray_numbers n (x ∷ xs) = cond (nat_eq x.corank 0) (coarray_numbers (n + 1) xs) (n ∷ coarray_numbers (n + 1) xs)

abbrev pub procedures_of : u.Program → List u.Procedure
procedures_of p = elim p.procedures [ None ↦ [] | Some xs ↦ xs ]

abbrev pub main_unit : Unit'
main_unit = record { is_procedure = false; dummies = []; answer = None; is_answer_typed = false }

abbrev pub headings_of : u.Program → List Headed
headings_of p = map (λ x. headed x.heading) (procedures_of p)

-- the scope in which the main program's declarations are read
abbrev pub first_scope : u.Program → Scope
first_scope p = record {
  own = [];
  pending = names_declared p.body.declarations;
  host = [];
  procedures = procedure_names 0 (headings_of p);
  accessible = accessible_of p.uses;
  interfaces = [];
  constants = [];
}

abbrev pub opened_breaks : List Opened → List Broken
opened_breaks [] = []
opened_breaks (x ∷ xs) = x.breaks ++ opened_breaks xs

abbrev pub name_of : Named → List ℕ
name_of x = x.name

abbrev pub program_form : u.Program → List Symbol → List Constant → Counted → ts.Unit' → List ts.Procedure → ts.Program
program_form p xs cs c x ps = record
    { main = x; end_line = p.end.at.line; procedures = ps; coarrays = coarray_numbers 0 xs; constants = cs; literals = c.literals; criticals = c.criticals }

-- the statements of all units, where the scopes stand
abbrev pub program_with : u.Program → Scope → List Opened → List Interface → List Constant → Judgement ts.Program
program_with p s os is cs = made_of_both (program_form p (variables_of s.own) cs (behind (counted_statements p.body.statements) (counted_all os)))
    (unit_judged (variables_of s.own) p.body.statements (judged_statements (position_of (completed is cs s) (record { criticals = 0; literals = [] })) p.body.statements))
    (procedures_judged is cs (counted_statements p.body.statements) os)

abbrev pub program_in : u.Program → Scope → List Opened → Judgement ts.Program
program_in p s os = ruled (program_with p s os (map interface_of os) (constants_behind s os))
    (uses_breaks p.uses
    ++ (twice_breaks (map name_of s.own) (headings_of p)
    ++ (opened_breaks os
    ++ (limit_breaks (variables_of s.own)
    ++ end_breaks p.name p.end.name))))

abbrev pub program_opened : u.Program → Scope → Judgement ts.Program
program_opened p s = program_in p s (opened_procedures s (procedures_of p))

abbrev pub program_declared : u.Program → Declared → Judgement ts.Program
program_declared p d = ruled (program_opened p (record d.scope { pending = [] })) d.breaks

-- what the declarations of the main program say, with these interfaces
abbrev pub main_declared : u.Program → List Interface → Declared
main_declared p is = declared_all main_unit p.body.declarations (record (first_scope p) { interfaces = is })

-- the interfaces of the procedures. References to functions give declarations no values, so these are found without
-- them
abbrev pub interfaces_of : u.Program → List Interface
interfaces_of p = map interface_of (opened_procedures (record (main_declared p []).scope { pending = [] }) (procedures_of p))

-- the rules that a program breaks, and the checked program that it stands for
abbrev pub program_judged : u.Program → Judgement ts.Program
program_judged p = program_declared p (main_declared p (interfaces_of p))
