-- What is made of the parts of a construct that were judged two by two.
use Rattle.std.proofs.Common.{◌≡◌, ℕ}
use Rattle.std.specs.Prelude.{Option}
use Rattle.std.specs.Option.{option_map}
use Rattle.std.specs.declared.alloc.Global.{Global}
use Rattle.std.specs.declared.vec.Vec.{Vec}
use Rattle.checked_tree.specs.Expressions as t
use Rattle.checked_tree.specs.Statements as ts
use Rattle.checked_tree.specs.ExpressionViews.{expression, maybe_expression, maybe_result}
use Rattle.checked_tree.specs.declared.expr.ResultVariable.{ResultVariable}
use Rattle.checked_tree.specs.declared.expr.TypedExpr.{TypedExpr}
use Rattle.checked_tree.specs.declared.statement.ElseIf.{ElseIf}
use Rattle.checked_tree.specs.declared.statement.TypedStatement.{TypedStatement}
use Rattle.rule_definitions.specs.Judgements.{both, three}
use Rattle.rule_definitions.specs.Statements as s
use Rattle.case_rules.specs.Blocks.{block, else_if_list, selection}
use Rattle.statement_rules.specs.Controls.{control, counter}
use Rattle.statement_rules.specs.declared.control.Control.{Control}
use Rattle.statement_rules.specs.declared.control.Counter.{Counter}
use Rattle.case_rules.specs.declared.selection.Selection.{Selection}
use Rattle.statement_rules.proofs.Pairs.{two_seen, four_seen}

pub counted_seen : (x : Option Counter) (y z : Option TypedExpr) (w : Option (Option TypedExpr))
    → option_map (λ (p : (Counter × (TypedExpr × TypedExpr)) × Option TypedExpr). s.counted p.0.0.variable p.0.0.kind (expression p.0.1.0) (expression p.0.1.1) (maybe_expression p.1)) (both (λ a b. (a, b)) (both (λ a b. (a, b)) x (both (λ a b. (a, b)) y z)) w)
    ≡ both (λ (g : t.OptionalExpression → s.Control) v. g v) (three (λ v l u k. s.counted v.variable v.kind l u k) (option_map counter x) (option_map expression y) (option_map expression z)) (option_map maybe_expression w)
counted_seen x y z w = four_seen (λ v l u k. s.counted v.variable v.kind l u k) counter expression expression maybe_expression x y z w

pub loop_seen : (h : ℕ) (x : Option Control) (y : Option (Vec TypedStatement Global))
    → option_map (λ (p : Control × Vec TypedStatement Global). s.loop_form h (control p.0) (block p.1)) (both (λ a b. (a, b)) x y) ≡ both (s.loop_form h) (option_map control x) (option_map block y)
loop_seen h x y = two_seen (s.loop_form h) control block x y

pub if_seen : (x : Option TypedExpr) (y : Option (Vec TypedStatement Global)) (z : Option (Vec ElseIf Global)) (w : Option (Vec TypedStatement Global))
    → option_map (λ (p : (TypedExpr × (Vec TypedStatement Global × Vec ElseIf Global)) × Vec TypedStatement Global). s.if_form (expression p.0.0) (block p.0.1.0) (else_if_list p.0.1.1) (block p.1)) (both (λ a b. (a, b)) (both (λ a b. (a, b)) x (both (λ a b. (a, b)) y z)) w)
    ≡ both (λ (g : ts.Statements → ts.StatementForm) v. g v) (three s.if_form (option_map expression x) (option_map block y) (option_map else_if_list z)) (option_map block w)
if_seen x y z w = four_seen s.if_form expression block else_if_list block x y z w

pub else_if_seen : (l : ℕ) (x : Option TypedExpr) (y : Option (Vec TypedStatement Global))
    → option_map (λ (p : TypedExpr × Vec TypedStatement Global). s.more_else_ifs l (expression p.0) (block p.1)) (both (λ a b. (a, b)) x y) ≡ both (s.more_else_ifs l) (option_map expression x) (option_map block y)
else_if_seen l x y = two_seen (s.more_else_ifs l) expression block x y

pub critical_seen : (n l : ℕ) (x : Option (Option ResultVariable)) (y : Option (Vec TypedStatement Global))
    → option_map (λ (p : Option ResultVariable × Vec TypedStatement Global). s.critical_form n l (maybe_result p.0) (block p.1)) (both (λ a b. (a, b)) x y) ≡ both (s.critical_form n l) (option_map maybe_result x) (option_map block y)
critical_seen n l x y = two_seen (s.critical_form n l) maybe_result block x y

pub team_seen : (n : ℕ) (x : Option TypedExpr) (y : Option (Option ResultVariable)) (z : Option (Vec TypedStatement Global)) (w : Option (Option ResultVariable))
    → option_map (λ (p : (TypedExpr × (Option ResultVariable × Vec TypedStatement Global)) × Option ResultVariable). s.team_form n (expression p.0.0) (maybe_result p.0.1.0) (block p.0.1.1) (maybe_result p.1)) (both (λ a b. (a, b)) (both (λ a b. (a, b)) x (both (λ a b. (a, b)) y z)) w)
    ≡ both (λ (g : t.OptionalResult → ts.StatementForm) v. g v) (three (s.team_form n) (option_map expression x) (option_map maybe_result y) (option_map block z)) (option_map maybe_result w)
team_seen n x y z w = four_seen (s.team_form n) expression maybe_result block maybe_result x y z w

pub select_seen : (h : ℕ) (x : Option TypedExpr) (y : Option Selection)
    → option_map (λ (p : TypedExpr × Selection). s.select_form h (expression p.0) (selection p.1)) (both (λ a b. (a, b)) x y) ≡ both (s.select_form h) (option_map expression x) (option_map selection y)
select_seen h x y = two_seen (s.select_form h) expression selection x y

pub ruleset part_laws = (counted_seen, loop_seen, if_seen, else_if_seen, critical_seen, team_seen, select_seen)
