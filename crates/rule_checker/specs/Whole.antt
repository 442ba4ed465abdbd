-- The judgement of a whole program, part by part.
use Rattle.std.specs.Prelude.{ℕ, List, [], ◌∷◌, ◌++◌, Option, Some, None, map}
use Rattle.std.specs.Option.{option_map}
use Rattle.checked_tree.specs.Statements as ts
use Rattle.checked_tree.specs.StatementViews as typed
use Rattle.checked_tree.specs.declared.data.Constant.{Constant}
use Rattle.fortran_tree.specs.Units as u
use Rattle.rule_definitions.specs.Judgements.{Judgement, first_of}
use Rattle.rule_definitions.specs.Names.{Interface, Named, Scope, variables_of}
use Rattle.rule_definitions.specs.Declarations.{limit_breaks}
use Rattle.rule_definitions.specs.declared.broken.Broken.{Broken}
use Rattle.scope_table.specs.Outside.{Outer}
use Rattle.scope_table.specs.Symbols.{interface}
use Rattle.unit_scopes.specs.Openings.{closing}
use Rattle.unit_scopes.specs.Scopes.{main_scope, owning}
use Rattle.unit_scopes.specs.declared.scopes.Scopes.{Scopes}
use Rattle.rule_definitions.specs.Statements.{Counted, behind, counted_statements, end_breaks, no_count}
use Rattle.rule_definitions.specs.Units.{completed, headings_of, name_of, position_of, procedures_of, twice_breaks, uses_breaks}
use Rattle.rule_checker.specs.Noted.{noted}
use Rattle.rule_checker.specs.Units.{Units, all_further, unit_here, units}
use Rattle.rule_checker.specs.declared.program.Judged.{Judged}

-- what the statements of a program give: the main program, and what it and the procedures give besides
pub record All : Type 0 where
  pub main : Option ts.Unit'
  pub units : Units

unfoldable pub seen : Judged → All
seen j = record { main = option_map typed.unit j.main; units = units j.units }

abbrev pub begun_with : u.Program → Judgement ts.Unit' → All
begun_with p j = record { main = j.meaning; units = record { first = first_of None j.breaks; counted = behind no_count (counted_statements p.body.statements); procedures = Some [] } }

-- the main program's, in this scope
unfoldable pub begun : List Interface → List Constant → Scope → u.Program → All
begun is cs s p = begun_with p (unit_here s.own (position_of (completed is cs s) no_count) p.body.statements)

-- and those of the procedures, in these scopes
unfoldable pub with_procedures : List Interface → List Constant → List u.Procedure → List Scope → All → All
with_procedures is cs ps ss a = record { main = a.main; units = all_further is cs ps ss is a.units }

-- a program of these parts
abbrev pub formed : u.Program → List ℕ → List Constant → Counted → ts.Unit' → List ts.Procedure → ts.Program
formed p ns cs c x ps = record { main = x; end_line = p.end.at.line; procedures = ps; coarrays = ns; constants = cs; literals = c.literals; criticals = c.criticals }

-- the first of the rules that a program breaks besides, behind those of its statements
abbrev pub rest_first : u.Program → List Named → Option Broken → Option Broken → Option Broken → Option Broken
rest_first p own opened declared o =
    first_of (first_of (first_of (first_of (first_of (first_of o (uses_breaks p.uses)) (twice_breaks (map name_of own) (headings_of p))) (noted opened)) (limit_breaks (variables_of own))) (end_breaks p.name p.end.name)) (noted declared)

abbrev pub with_rest : u.Program → List Named → Option Broken → Option Broken → All → All
with_rest p own opened declared a = record { main = a.main; units = record a.units { first = rest_first p own opened declared a.units.first } }

abbrev pub statements_in : Outer → List Named → List (List Named) → List Interface → List Constant → u.Program → All
statements_in o own ts is cs p = with_procedures is cs (procedures_of p) (map (owning (closing (main_scope o [] []) own)) ts) (begun is cs (record (main_scope o [] []) { own = own }) p)

-- all of a program with these scopes
unfoldable pub whole : Outer → Scopes → u.Program → All
whole o x p = with_rest p x.own x.procedures.grown.first x.first (statements_in o x.own x.procedures.tables.items (map interface x.procedures.interfaces.items) x.procedures.grown.constants.items p)
