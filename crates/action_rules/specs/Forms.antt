-- Action statements by groups of forms.
use Rattle.std.specs.Prelude.{ℕ, Option}
use Rattle.std.specs.declared.alloc.Global.{Global}
use Rattle.std.specs.declared.vec.Vec.{Vec}
use Rattle.caf_base.specs.declared.place.Pos.{Pos}
use Rattle.fortran_tree.specs.Statements as fs
use Rattle.checked_tree.specs.Expressions as t
use Rattle.checked_tree.specs.Statements as ts
use Rattle.checked_tree.specs.StatementViews.{statements}
use Rattle.checked_tree.specs.declared.statement.TypedStatement.{TypedStatement}
use Rattle.rule_definitions.specs.Actions as a
use Rattle.rule_definitions.specs.Expressions.{judged_specifiers, placed}
use Rattle.rule_definitions.specs.IntrinsicSubroutines.{an_event}
use Rattle.rule_definitions.specs.Judgements.{Judgement, made_of, made_of_both, unknown}
use Rattle.rule_definitions.specs.Names.{Scope}
use Rattle.rule_definitions.specs.Parts.{team}

abbrev pub block : Vec TypedStatement Global → ts.Statements
block v = statements v.items

-- a one-line IF around its action as a block
abbrev pub if_around : t.Expression → ts.Statements → ts.StatementForm
if_around c b = ts.if c b ts.no_else_ifs ts.no_statements

-- the same around an action at this place
abbrev pub if_on : Pos → t.Expression → ts.StatementForm → ts.StatementForm
if_on p c b = ts.if c (a.alone b p.line) ts.no_else_ifs ts.no_statements

-- a statement about a lock or an event (11.6.7, 11.6.8, 11.6.10), but for rule 43
abbrev pub lock_or_event : Scope → fs.ActionStatement → Judgement ts.StatementForm
lock_or_event s (fs.lock d ps) = a.lock_judged s d (judged_specifiers s ps)
lock_or_event s (fs.unlock d ps) = made_of_both ts.unlock (a.a_lock (a.placed_designator s d)) (a.with_stat (judged_specifiers s ps))
lock_or_event s (fs.event_post d ps) = made_of_both ts.event_post (an_event (a.placed_designator s d)) (a.with_stat (judged_specifiers s ps))
lock_or_event s (fs.event_wait d ps) = a.wait_judged s d (judged_specifiers s ps)
lock_or_event s x = unknown

-- an image control statement (11.6.1) that allocates nothing, but for rule 43
abbrev pub image_control : Scope → fs.ActionStatement → Judgement ts.StatementForm
image_control s (fs.sync_all ps) = made_of ts.sync_all (a.with_stat (a.written_if s ps))
image_control s (fs.sync_memory ps) = made_of ts.sync_memory (a.with_stat (a.written_if s ps))
image_control s (fs.sync_images i ps) = made_of_both ts.sync_images (a.image_set s i) (a.with_stat (judged_specifiers s ps))
image_control s (fs.sync_team e ps) = made_of_both ts.sync_team (team (placed s e)) (a.with_stat (judged_specifiers s ps))
image_control s (fs.form_team e n ps) = a.form_team s e n (judged_specifiers s ps)
image_control s x = lock_or_event s x
