-- Blocks that were judged: what the lists of ELSE IFs and CASEs stand for, and what is made of the CASEs so far with
-- those that follow.
use Rattle.std.specs.Prelude.{List, [], ◌∷◌, ◌++◌, Option, Some, None}
use Rattle.std.specs.Option.{option_map}
use Rattle.std.specs.declared.alloc.Global.{Global}
use Rattle.std.specs.declared.vec.Vec.{Vec}
use Rattle.checked_tree.specs.Expressions as t
use Rattle.checked_tree.specs.ExpressionViews.{expression}
use Rattle.checked_tree.specs.Statements as ts
use Rattle.checked_tree.specs.StatementViews.{statements, else_ifs, cases}
use Rattle.checked_tree.specs.declared.statement.Case.{Case, out-Case}
use Rattle.checked_tree.specs.declared.statement.ElseIf.{ElseIf, out-ElseIf}
use Rattle.checked_tree.specs.declared.statement.TypedStatement.{TypedStatement}
use Rattle.rule_definitions.specs.declared.broken.Broken.{Broken}
use Rattle.rule_definitions.specs.Judgements.{Judgement, both, is_there, made}
use Rattle.rule_definitions.specs.Statements as s
use Rattle.case_rules.specs.declared.selection.Selection.{Selection}
use Rattle.case_rules.specs.declared.selection.CaseList.{CaseList}

abbrev pub block : Vec TypedStatement Global → ts.Statements
block v = statements v.items

abbrev pub else_if_list : Vec ElseIf Global → ts.ElseIfs
else_if_list v = else_ifs v.items

-- an ELSE IF before those that follow
abbrev pub else_if_parts : ElseIf → ts.ElseIfs → ts.ElseIfs
else_if_parts x rest = ts.more_else_ifs (expression (out-ElseIf x).condition) (statements (out-ElseIf x).body.items) (out-ElseIf x).line rest

abbrev pub selection : Selection → s.Selected
selection x = record { cases = cases x.cases.items; otherwise = block x.otherwise }

-- these CASEs before those that follow
abbrev pub cases_before : List Case → ts.Cases → ts.Cases
cases_before [] r = r
cases_before (c ∷ cs) r = ts.more_cases (out-Case c).ranges.items (statements (out-Case c).body.items) (out-Case c).line (cases_before cs r)

abbrev pub with_cases : List Case → s.Selected → s.Selected
with_cases cs x = record x { cases = cases_before cs x.cases }

-- no CASE DEFAULT so far, one without a meaning, or one with this block
abbrev pub with_otherwise : Option (Option (Vec TypedStatement Global)) → Option s.Selected → Option s.Selected
with_otherwise None r = r
with_otherwise (Some m) r = both s.with_default (option_map block m) r

abbrev pub joined_cases : Option (Vec Case Global) → Option s.Selected → Option s.Selected
joined_cases None r = None
joined_cases (Some v) r = made (with_cases v.items) r

abbrev pub backwards : List Broken → List Broken
backwards [] = []
backwards (b ∷ bs) = backwards bs ++ b ∷ []

-- the blocks so far with those that follow: what is said of a second CASE DEFAULT stands behind all that follows it
abbrev pub whole : CaseList → Judgement s.Selected → Judgement s.Selected
whole x r = record { breaks = (x.breaks.items ++ r.breaks) ++ backwards x.repeated.items; meaning = joined_cases x.cases (with_otherwise x.otherwise r.meaning) }

-- what the CASE statements that follow know
abbrev pub known : Option t.Expression → CaseList → s.Cases
known e x = record { selector = e; ranges = x.ranges; has_default = is_there x.otherwise }
