-- Procedures with their scopes, part by part (15.6.2, 19.5.1.4, 15.4).
use Rattle.std.specs.Prelude.{ℕ, List, [], ◌∷◌, ◌++◌, Option, Some, None, map}
use Rattle.checked_tree.specs.declared.data.Constant.{Constant}
use Rattle.fortran_tree.specs.Units as u
use Rattle.fortran_tree.specs.declared.name.Name.{Name}
use Rattle.rule_definitions.specs.declared.broken.Broken.{Broken}
use Rattle.rule_definitions.specs.Judgements.{first_of}
use Rattle.rule_definitions.specs.Names as n
use Rattle.rule_definitions.specs.Names.{Interface, Named, Scope, Symbol, named, variables_of}
use Rattle.rule_definitions.specs.Declarations.{Declared, Unit'}
use Rattle.rule_definitions.specs.Units.{Headed, headed, hosted, opened, opened_procedure, symbol_named, symbols_named, with_answer, with_dummies, with_untyped}
use Rattle.scope_table.specs.Symbols.{symbol}
use Rattle.scope_table.specs.declared.symbol.Symbol.{Symbol as SymbolInMemory}
use Rattle.unit_scopes.specs.Telling.{Told}

-- the variable with a name, where it is there
abbrev pub maybe_named : List Symbol → Name → List Symbol
maybe_named xs x = elim (symbol_named xs x.text) [ None ↦ [] | Some y ↦ y ∷ [] ]

abbrev pub result_in : List Symbol → Option Name → Option Symbol
result_in xs None = None
result_in xs (Some x) = symbol_named xs x.text

-- the interface of a procedure with this heading and these names of its own
abbrev pub interface_in : Headed → List Named → Interface
interface_in h own = record { name = h.name.text; dummies = symbols_named (variables_of own) h.dummies; result = result_in (variables_of own) h.answer }

-- a result that its heading types
abbrev pub answer_list : Option SymbolInMemory → List Named
answer_list None = []
answer_list (Some x) = named x.name (n.variable (symbol x)) ∷ []

-- the host of a procedure, and the scope in which it closes: without names of its own, and with those of its host
abbrev pub host_scope : Scope → List Named → List Constant → Scope
host_scope s own cs = record s { own = own; constants = cs }

abbrev pub closing : Scope → List Named → Scope
closing s host = record s { pending = []; host = map hosted host }

-- the scope in which a procedure's declarations are read
unfoldable pub opening : Scope → u.Procedure → Scope
opening s x = opened s (headed x.heading) x.body.declarations

-- what is known behind a procedure's declarations
unfoldable pub opened_told : Scope → u.Procedure → Option Broken → Told
opened_told s x o = record { first = first_of o (opened_procedure s (headed x.heading) x).breaks; scope = (opened_procedure s (headed x.heading) x).scope }

-- the dummy arguments, and the result
unfoldable pub of_dummies : Unit' → List Name → Scope → Declared
of_dummies u ns s = with_dummies u ns s

unfoldable pub of_answer : Scope → Headed → Scope → Declared
of_answer host h s = with_answer host h s

abbrev pub maybe_untyped : Option Name → Scope → Declared
maybe_untyped None s = record { breaks = []; scope = s }
maybe_untyped (Some x) s = with_untyped s x
