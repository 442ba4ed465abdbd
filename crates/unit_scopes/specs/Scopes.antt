-- What is known behind the declarations of all procedures of a program, and of the main program.
use Rattle.std.specs.Prelude.{ℕ, List, [], ◌++◌, Option, map}
use Rattle.checked_tree.specs.declared.data.Constant.{Constant}
use Rattle.fortran_tree.specs.Statements as d
use Rattle.fortran_tree.specs.Units as u
use Rattle.rule_definitions.specs.declared.broken.Broken.{Broken}
use Rattle.rule_definitions.specs.Judgements.{first_of}
use Rattle.rule_definitions.specs.Names.{Interface, Named, Scope}
use Rattle.rule_definitions.specs.Declarations.{names_declared}
use Rattle.rule_definitions.specs.Units.{Opened, completed, constants_behind, interface_of, main_declared, opened_breaks, opened_procedures}
use Rattle.scope_table.specs.Outside.{Outer}
use Rattle.scope_table.specs.Symbols.{interface}
use Rattle.unit_scopes.specs.declared.program.Procedures.{Procedures}
use Rattle.scope_table.specs.declared.table.Table.{Table}

-- the first of the rules that procedures break, the array constants behind them, their scopes without interfaces and
-- constants, their interfaces
pub record Passed : Type 0 where
  pub first : Option Broken
  pub constants : List Constant
  pub scopes : List Scope
  pub interfaces : List Interface

abbrev pub bare_scope : Scope → Scope
bare_scope s = completed [] [] s

abbrev pub scope_of_opened : Opened → Scope
scope_of_opened x = bare_scope x.scope

-- the scope with these names of its own
abbrev pub owning : Scope → List Named → Scope
owning s own = bare_scope (record s { own = own })

-- what is known of procedures, where what their scopes have besides is this one's
unfoldable pub passed : Scope → Procedures → Passed
passed s q = record { first = q.grown.first; constants = q.grown.constants.items; scopes = map (owning s) q.tables.items; interfaces = map interface q.interfaces.items }

-- what the definitions say of procedures
unfoldable pub passed_of : Scope → List Opened → Option Broken → Passed
passed_of s os o = record { first = first_of o (opened_breaks os); constants = constants_behind s os; scopes = map scope_of_opened os; interfaces = map interface_of os }

unfoldable pub passed_through : Scope → List u.Procedure → Option Broken → Passed
passed_through s xs o = passed_of s (opened_procedures s xs) o

-- the scope of a main program, without names of its own and array constants
abbrev pub main_scope : Outer → List Interface → List (List ℕ) → Scope
main_scope o is ps = record { own = []; pending = ps; host = []; procedures = o.procedures; accessible = o.accessible; interfaces = is; constants = [] }

-- the scope of a main program behind its declarations
abbrev pub main_behind : u.Program → List Interface → Scope
main_behind p is = record (main_declared p is).scope { pending = [] }
