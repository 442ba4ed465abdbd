-- Names as they stand in memory.
use Rattle.std.specs.Prelude.{List, [], map}
use Rattle.fortran_tree.specs.ExpressionViews.{expression}
use Rattle.fortran_tree.specs.Statements as t
use Rattle.fortran_tree.specs.Statements.{ActionStatement}
use Rattle.fortran_tree.specs.declared.expr.Link.{Link}
use Rattle.fortran_tree.specs.declared.name.Name.{Name}
use Rattle.unit_references.specs.References as names
use Rattle.unit_references.specs.declared.references.Reference.{Reference}

abbrev pub reference : Reference → Name
reference r = record { text = r.text.now; at = r.at }

abbrev pub written : List Reference → List Name
written rs = map reference rs

-- the names in a further operand, and in all of them
abbrev pub link_name : Link → List Name
link_name k = names.expression (expression k.operand)

abbrev pub link_names : List Link → List Name
link_names ks = names.each link_name ks

-- the names in a statement of a lock or an event, and none of another statement
abbrev pub event_names : ActionStatement → List Name
event_names (t.lock x ps) = names.action_statement (t.lock x ps)
event_names (t.unlock x ps) = names.action_statement (t.unlock x ps)
event_names (t.event_post x ps) = names.action_statement (t.event_post x ps)
event_names (t.event_wait x ps) = names.action_statement (t.event_wait x ps)
event_names a = []

-- the names in an image control statement, and none of another statement
abbrev pub control_names : ActionStatement → List Name
control_names (t.sync_all ps) = names.action_statement (t.sync_all ps)
control_names (t.sync_memory ps) = names.action_statement (t.sync_memory ps)
control_names (t.sync_images i ps) = names.action_statement (t.sync_images i ps)
control_names (t.sync_team e ps) = names.action_statement (t.sync_team e ps)
control_names (t.form_team e n ps) = names.action_statement (t.form_team e n ps)
control_names a = event_names a
