-- Image control statements, part by part.
use Rattle.std.specs.Prelude.{false, Option, Some, None}
use Rattle.fortran_tree.specs.Expressions as f
use Rattle.checked_tree.specs.Expressions as t
use Rattle.checked_tree.specs.Statements as ts
use Rattle.checked_tree.specs.declared.data.Local.{Local}
use Rattle.checked_tree.specs.declared.data.Object.{Object}
use Rattle.checked_tree.specs.declared.data.Object.TheVariants as objects
use Rattle.rule_definitions.specs.Actions.{image_set_breaks}
use Rattle.rule_definitions.specs.Expressions.{judged_designator}
use Rattle.rule_definitions.specs.Judgements.{Judgement, under}
use Rattle.rule_definitions.specs.Names.{Scope}
use Rattle.rule_definitions.specs.Parts.{Placed, place_of, plain}
use Rattle.specifier_rules.specs.Meanings.{AcquiredAndStat, NumberAndStat}

-- the images of a set
abbrev pub image_part : Placed → Judgement t.Expression
image_part e = under (plain e) (image_set_breaks e.at)

abbrev pub local_in : Object → Option Local
local_in (objects.Local l) = Some l
local_in (objects.Coarray n) = None
local_in (objects.Constant n) = None

abbrev pub form_team_with : t.Expression → Local → NumberAndStat → ts.StatementForm
form_team_with e l x = ts.form_team e l x.number x.stat x.order

abbrev pub lock_with : t.Designator → AcquiredAndStat → ts.StatementForm
lock_with d x = ts.lock d x.acquired x.stat x.order

abbrev pub event_wait_with : t.Designator → NumberAndStat → ts.StatementForm
event_wait_with d x = ts.event_wait d x.number x.stat x.order

-- the variable of a statement, at its name
abbrev pub part_of : Scope → f.Designator → Placed
part_of s d = record { judged = judged_designator s d; at = place_of (f.designator d); is_procedure = false }
