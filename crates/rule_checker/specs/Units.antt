-- The judgement of a program's units, one behind the other.
use Rattle.std.specs.Prelude.{ℕ, Bool, cond, List, [], ◌∷◌, ◌++◌, Option, Some, None, map}
use Rattle.std.specs.Option.{option_map}
use Rattle.std.specs.Borrow.{Bor}
use Rattle.checked_tree.specs.Statements as ts
use Rattle.checked_tree.specs.StatementViews as typed
use Rattle.checked_tree.specs.declared.data.Constant.{Constant}
use Rattle.fortran_tree.specs.Statements as fs
use Rattle.fortran_tree.specs.Units as u
use Rattle.part_rules.specs.Views.{list_of, one_more}
use Rattle.rule_definitions.specs.declared.broken.Broken.{Broken}
use Rattle.rule_definitions.specs.Judgements.{Judgement, both, first_of, made_of, ruled}
use Rattle.rule_definitions.specs.Names.{Interface, Named, Scope, variables_of}
use Rattle.rule_definitions.specs.Statements.{Counted, Position, behind, counted_statements, end_breaks, judged_statements}
use Rattle.rule_definitions.specs.Units.{completed, headed, position_of, procedure_form, unit_judged}
use Rattle.rule_checker.specs.declared.unit.Counts.{Counts}
use Rattle.rule_checker.specs.declared.procedure.Gone.{Gone}

abbrev pub counted : Counts → Counted
counted c = record { criticals = c.criticals; literals = c.literals.items }

-- a unit with these names and statements, where these stand
unfoldable pub unit_here : List Named → Position → fs.Statements → Judgement ts.Unit'
unit_here own x ss = unit_judged (variables_of own) ss (judged_statements x ss)

-- a procedure with this interface
unfoldable pub procedure_here : List Named → Position → Interface → u.Procedure → Judgement ts.Procedure
procedure_here own x i p = ruled (made_of (procedure_form i) (unit_here own x p.body.statements)) (end_breaks (Some (headed p.heading).name) p.end.name)

-- what is known behind units: the first of the rules that their statements break, what stands in these, the procedures
pub record Units : Type 0 where
  pub first : Option Broken
  pub counted : Counted
  pub procedures : Option (List ts.Procedure)

unfoldable pub units : Gone → Units
units g = record { first = g.first; counted = counted g.counts; procedures = option_map (map typed.procedure) (option_map list_of g.procedures) }

abbrev pub with_procedure : Judgement ts.Procedure → u.Procedure → Units → Units
with_procedure j p k = record { first = first_of k.first j.breaks; counted = behind k.counted (counted_statements p.body.statements); procedures = both one_more k.procedures j.meaning }

-- with the next procedure, which has this scope and this interface
unfoldable pub one_further : List Interface → List Constant → u.Procedure → Scope → Interface → Units → Units
one_further is cs p s i k = with_procedure (procedure_here s.own (position_of (completed is cs s) k.counted) i p) p k

-- with all of these
unfoldable pub all_further : List Interface → List Constant → List u.Procedure → List Scope → List Interface → Units → Units
all_further is cs [] ss js k = k
all_further is cs (p ∷ ps) [] js k = k
all_further is cs (p ∷ ps) (s ∷ ss) [] k = k
all_further is cs (p ∷ ps) (s ∷ ss) (j ∷ js) k = all_further is cs ps ss js (one_further is cs p s j k)
