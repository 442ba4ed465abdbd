-- What is found of a construct and of its parts is what the definitions say of it.
use Rattle.std.proofs.Common.{◌≡◌, ◌∙◌, ℕ, ◌+◌, List, [], ◌∷◌, ◌++◌, length, refl, sym, ap, arith}
use Rattle.std.specs.Prelude.{Option, Some, None, IfOk, Result, Ok, Err}
use Rattle.std.specs.Option.{option_map}
use Rattle.std.specs.declared.alloc.Global.{Global}
use Rattle.std.specs.declared.vec.Vec.{Vec}
use Rattle.caf_base.specs.declared.place.Pos.{Pos}
use Rattle.checked_tree.specs.Expressions as t
use Rattle.checked_tree.specs.StatementViews.{statements as typed_statements}
use Rattle.checked_tree.specs.Statements as ts
use Rattle.checked_tree.specs.declared.statement.TypedStatement.{TypedStatement}
use Rattle.fortran_tree.specs.ActionViews.{action_statement}
use Rattle.fortran_tree.specs.ExpressionViews.{expression, specifiers}
use Rattle.fortran_tree.specs.Expressions as f
use Rattle.fortran_tree.specs.StatementViews.{statement_list, else_ifs, else_block, case_blocks, loop_control, bracketed_specifier, statement_action, statement_if, statement_do, statement_select, statement_critical, statement_change_team}
use Rattle.fortran_tree.specs.Statements as fs
use Rattle.fortran_tree.specs.declared.action.Action.{Action}
use Rattle.fortran_tree.specs.declared.expr.Expr.{Expr}
use Rattle.fortran_tree.specs.declared.expr.Specifier.{Specifier}
use Rattle.fortran_tree.specs.declared.name.Name.{Name}
use Rattle.fortran_tree.specs.declared.statement.BracketedSpecifier.{BracketedSpecifier}
use Rattle.fortran_tree.specs.declared.statement.CaseBlock.{CaseBlock}
use Rattle.fortran_tree.specs.declared.statement.ElseIf.{ElseIf}
use Rattle.fortran_tree.specs.declared.statement.End.{End}
use Rattle.fortran_tree.specs.declared.statement.LoopControl.{LoopControl}
use Rattle.fortran_tree.specs.declared.statement.Otherwise.{Otherwise}
use Rattle.fortran_tree.specs.declared.statement.Statement.{Statement}
use Rattle.fortran_tree.specs.declared.statement.Statement.TheVariants as statements
use Rattle.part_rules.specs.Views.{judgement, list_of}
use Rattle.part_rules.specs.declared.judged.Judged.{Judged}
use Rattle.rule_definitions.specs.Actions.{Around, loop, selection, critical, team_change, judged_action, controlled, with_stat}
use Rattle.rule_definitions.specs.Expressions.{placed, judged_specifiers}
use Rattle.rule_definitions.specs.IntrinsicSubroutines.{four}
use Rattle.rule_definitions.specs.Judgements.{Judgement, fine, made_of_both, ruled}
use Rattle.rule_definitions.specs.Parts.{condition, team}
use Rattle.rule_definitions.specs.Statements.{Position, Counted, Selected, past, behind, within, site_of, on_line, action_literals, counted_statement, counted_statements, counted_else_ifs, counted_else, counted_cases, judged_statement, judged_statements, judged_else_ifs, judged_else, judged_cases, selecting, judged_control, loop_variable, hidden_of, end_breaks, bracketed, loop_form, if_form, select_form, critical_form, team_form}
use Rattle.case_rules.specs.Blocks.{block}
use Rattle.statement_rules.specs.Parts.{statement_judged, statement_counted, critical_counted, no_cases_known, select_judged}
use Rattle.statement_rules.specs.Positions.{numbered, numbers, numbers_past}
use Rattle.statement_rules.specs.declared.position.Numbers.{Numbers}
use Rattle.statement_rules.specs.declared.position.Passed.{Passed}
use Rattle.case_rules.proofs.Blocks.{alike}
use Rattle.statement_rules.proofs.Laws.{action_judged, if_judged, do_judged, case_judged, critical_judged, team_judged, else_judged, no_else_judged}
use Rattle.statement_rules.proofs.Sequences.{past_both, past_nothing, same_numbers}

-- Actions

pub action_found : (x : Position) (y : Statement) (a : Action) → y ≡ statements.Action a → on_line a.at (judged_action (site_of x) (action_statement a.form) a.at) ≡ statement_judged x y
action_found x y a e = sym (ap (statement_judged x) e ∙ ap (judged_statement x) (statement_action a) ∙ action_judged x (action_statement a.form) a.at)

pub action_behind : {A E : Type 0} (r : Result (Passed A) E) (x : Position) (y : Statement) (a : Action) → y ≡ statements.Action a
    → IfOk r (λ p. p.behind.criticals ≡ x.criticals) → IfOk r (λ p. p.behind.literals ≡ x.literals + length (action_literals (action_statement a.form)))
    → IfOk r (λ p. p.behind ≡ numbers_past x (statement_counted y))
action_behind (Ok p) x y a e c l =
    let alone : x.criticals ≡ x.criticals + 0 = omega arith in
    same_numbers _ _ _ _ (c ∙ alone) l ∙ ap (numbers_past x) (sym (ap statement_counted e ∙ ap counted_statement (statement_action a)))
action_behind (Err n) x y a e c l = tt

-- IF

pub if_found : (x y z : Position) (s : Statement) (e : Expr) (body : Vec Statement Global) (others : Vec ElseIf Global) (o : Option Otherwise) (at end : Pos)
    (b : Judgement ts.Statements) (ei : Judgement ts.ElseIfs) (el : Judgement ts.Statements) (nb ne : Numbers)
    → s ≡ statements.If e body others o at end
    → b ≡ judged_statements x (statement_list body.items) → nb ≡ numbers_past x (counted_statements (statement_list body.items))
    → y ≡ numbered x nb → ei ≡ judged_else_ifs y (else_ifs others.items) → ne ≡ numbers_past y (counted_else_ifs (else_ifs others.items))
    → z ≡ numbered x ne → el ≡ judged_else z (else_block o)
    → on_line at (four if_form (condition (placed x.scope (expression e))) b ei el) ≡ statement_judged x s
if_found x y z s e body others o at end b ei el nb ne is first after at_y second further at_z last =
    let cb = counted_statements (statement_list body.items) in
    let ce = counted_else_ifs (else_ifs others.items) in
    let c = condition (placed x.scope (expression e)) in
    let y_is : y ≡ past x cb = at_y ∙ ap (numbered x) after in
    let z_is : z ≡ past x (behind cb ce) = at_z ∙ ap (numbered x) (further ∙ ap (λ p. numbers_past p ce) y_is ∙ past_both x cb ce) in
    ap (λ j. on_line at (four if_form c j ei el)) first
    ∙ ap (λ j. on_line at (four if_form c (judged_statements x (statement_list body.items)) j el)) (second ∙ ap (λ p. judged_else_ifs p (else_ifs others.items)) y_is)
    ∙ ap (λ j. on_line at (four if_form c (judged_statements x (statement_list body.items)) (judged_else_ifs (past x cb) (else_ifs others.items)) j)) (last ∙ ap (λ p. judged_else p (else_block o)) z_is)
    ∙ sym (ap (statement_judged x) is ∙ ap (judged_statement x) (statement_if e body others o at end) ∙ if_judged x (expression e) (statement_list body.items) (else_ifs others.items) (else_block o) at end)

pub if_behind : (x y z : Position) (s : Statement) (e : Expr) (body : Vec Statement Global) (others : Vec ElseIf Global) (o : Option Otherwise) (at end : Pos) (nb ne nl : Numbers)
    → s ≡ statements.If e body others o at end
    → nb ≡ numbers_past x (counted_statements (statement_list body.items))
    → y ≡ numbered x nb → ne ≡ numbers_past y (counted_else_ifs (else_ifs others.items))
    → z ≡ numbered x ne → nl ≡ numbers_past z (counted_else (else_block o))
    → nl ≡ numbers_past x (statement_counted s)
if_behind x y z s e body others o at end nb ne nl is after at_y further at_z last =
    let cb = counted_statements (statement_list body.items) in
    let ce = counted_else_ifs (else_ifs others.items) in
    let co = counted_else (else_block o) in
    let y_is : y ≡ past x cb = at_y ∙ ap (numbered x) after in
    let z_is : z ≡ past (past x cb) ce = at_z ∙ ap (numbered x) (further ∙ ap (λ p. numbers_past p ce) y_is) in
    last ∙ ap (λ p. numbers_past p co) z_is ∙ past_both (past x cb) ce co ∙ past_both x cb (behind ce co)
    ∙ ap (numbers_past x) (sym (ap statement_counted is ∙ ap counted_statement (statement_if e body others o at end)))

-- ELSE

block_is : (o : Option (Vec TypedStatement Global)) → option_map block o ≡ option_map typed_statements (option_map list_of o)
block_is None = refl
block_is (Some v) = refl

-- a block of no statements
pub nothing_seen : (j : Judged (Vec TypedStatement Global)) → judgement list_of j ≡ fine [] → judgement block j ≡ fine ts.no_statements
nothing_seen j e = alike _ _ _ _ (ap (λ k. k.breaks) e) (block_is j.meaning ∙ ap (λ k. option_map typed_statements k.meaning) e)

pub else_found : (x : Position) (o : Option Otherwise) (b : Otherwise) → o ≡ Some b → judged_statements x (statement_list b.body.items) ≡ judged_else x (else_block o)
else_found x o b e = sym (ap (λ p. judged_else x (else_block p)) e ∙ else_judged x (statement_list b.body.items) b.at)

pub else_counted : (o : Option Otherwise) (b : Otherwise) → o ≡ Some b → counted_statements (statement_list b.body.items) ≡ counted_else (else_block o)
else_counted o b e = sym (ap (λ p. counted_else (else_block p)) e)

pub no_else_found : (x : Position) (o : Option Otherwise) → o ≡ None → fine ts.no_statements ≡ judged_else x (else_block o)
no_else_found x o e = sym (ap (λ p. judged_else x (else_block p)) e ∙ no_else_judged x)

pub no_else_behind : (x : Position) (o : Option Otherwise) (n : Numbers) → o ≡ None → n ≡ numbers x → n ≡ numbers_past x (counted_else (else_block o))
no_else_behind x o n e f = f ∙ sym (past_nothing x) ∙ sym (ap (λ p. numbers_past x (counted_else (else_block p))) e)

-- A block within a construct

pub within_found : (x y : Position) (all : List Around) (a : Around) → y ≡ record { scope = x.scope; around = all; criticals = x.criticals; literals = x.literals } → all ≡ x.around ++ a ∷ [] → y ≡ within x a
within_found x y all a e h = e ∙ ap (λ bs. record { scope = x.scope; around = bs; criticals = x.criticals; literals = x.literals }) h

-- the same where it was moved within
pub moved_within : (x y : Position) (a : Around) (c : Counted) (n : Numbers) → n ≡ numbers_past y c → y ≡ within x a → n ≡ numbers_past x c
moved_within x y a c n e h = e ∙ ap (λ p. numbers_past p c) h

-- DO

pub do_found : (x : Position) (n : Option Name) (k : fs.LoopControl) (body : fs.Statements) (at : Pos) (end : End) (a : Around) (b : Judgement ts.Statements)
    → a ≡ loop n (loop_variable x k) → b ≡ judged_statements (within x a) body
    → on_line at (ruled (made_of_both (loop_form (hidden_of x.around)) (judged_control x k) b) (end_breaks n end.name)) ≡ judged_statement x (fs.do_construct n k body at end)
do_found x n k body at end a b is judged =
    ap (λ j. on_line at (ruled (made_of_both (loop_form (hidden_of x.around)) (judged_control x k) j) (end_breaks n end.name))) (judged ∙ ap (λ c. judged_statements (within x c) body) is)
    ∙ sym (do_judged x n k body at end)

pub do_seen : (x : Position) (s : Statement) (n : Option Name) (k : LoopControl) (body : Vec Statement Global) (at : Pos) (end : End) → s ≡ statements.Do n k body at end
    → judged_statement x (fs.do_construct n (loop_control k) (statement_list body.items) at end) ≡ statement_judged x s
do_seen x s n k body at end e = sym (ap (statement_judged x) e ∙ ap (judged_statement x) (statement_do n k body at end))

pub do_counted : (s : Statement) (n : Option Name) (k : LoopControl) (body : Vec Statement Global) (at : Pos) (end : End) → s ≡ statements.Do n k body at end
    → counted_statements (statement_list body.items) ≡ statement_counted s
do_counted s n k body at end e = sym (ap statement_counted e ∙ ap counted_statement (statement_do n k body at end))

-- CRITICAL

pub critical_found : (x y : Position) (n : ℕ) (bs : fs.BracketedSpecifier) (body : fs.Statements) (at end : Pos) (b : Judgement ts.Statements)
    → n ≡ x.criticals + 1 → y ≡ numbered x (record { criticals = n; literals = x.literals }) → b ≡ judged_statements (within y critical) body
    → on_line at (controlled (site_of x) at (made_of_both (critical_form n end.line) (with_stat (bracketed x.scope bs)) b)) ≡ judged_statement x (fs.critical_construct bs body at end)
critical_found x y n bs body at end b one at_y judged =
    ap (λ m. on_line at (controlled (site_of x) at (made_of_both (critical_form m end.line) (with_stat (bracketed x.scope bs)) b))) one
    ∙ ap (λ j. on_line at (controlled (site_of x) at (made_of_both (critical_form (x.criticals + 1) end.line) (with_stat (bracketed x.scope bs)) j)))
    (judged ∙ ap (λ p. judged_statements (within p critical) body) (at_y ∙ ap (λ m. numbered x (record { criticals = m; literals = x.literals })) one))
    ∙ sym (critical_judged x bs body at end)

pub critical_behind : (x y : Position) (n : ℕ) (body : fs.Statements) (m : Numbers)
    → n ≡ x.criticals + 1 → y ≡ numbered x (record { criticals = n; literals = x.literals }) → m ≡ numbers_past y (counted_statements body) → m ≡ numbers_past x (critical_counted body)
critical_behind x y n body m one at_y e =
    let sum : (x.criticals + 1) + (counted_statements body).criticals ≡ x.criticals + (1 + (counted_statements body).criticals) = omega arith in
    e ∙ ap (λ p. numbers_past p (counted_statements body)) (at_y ∙ ap (λ k. numbered x (record { criticals = k; literals = x.literals })) one)
    ∙ same_numbers _ _ _ _ sum refl

pub critical_seen : (x : Position) (s : Statement) (p : BracketedSpecifier) (body : Vec Statement Global) (at end : Pos) → s ≡ statements.Critical p body at end
    → judged_statement x (fs.critical_construct (bracketed_specifier p) (statement_list body.items) at end) ≡ statement_judged x s
critical_seen x s p body at end e = sym (ap (statement_judged x) e ∙ ap (judged_statement x) (statement_critical p body at end))

pub critical_counts : (s : Statement) (p : BracketedSpecifier) (body : Vec Statement Global) (at end : Pos) → s ≡ statements.Critical p body at end
    → critical_counted (statement_list body.items) ≡ statement_counted s
critical_counts s p body at end e = sym (ap statement_counted e ∙ ap counted_statement (statement_critical p body at end))

-- CHANGE TEAM

pub team_found : (x : Position) (e : f.Expression) (ps : f.Specifiers) (body : fs.Statements) (bs : fs.BracketedSpecifier) (at end : Pos) (b : Judgement ts.Statements)
    → b ≡ judged_statements (within x team_change) body
    → on_line at (controlled (site_of x) at (four (team_form end.line) (team (placed x.scope e)) (with_stat (judged_specifiers x.scope ps)) b (with_stat (bracketed x.scope bs)))) ≡ judged_statement x (fs.change_team_construct e ps body bs at end)
team_found x e ps body bs at end b judged =
    ap (λ j. on_line at (controlled (site_of x) at (four (team_form end.line) (team (placed x.scope e)) (with_stat (judged_specifiers x.scope ps)) j (with_stat (bracketed x.scope bs))))) judged
    ∙ sym (team_judged x e ps body bs at end)

pub team_seen : (x : Position) (s : Statement) (e : Expr) (ps : Vec Specifier Global) (body : Vec Statement Global) (q : BracketedSpecifier) (at end : Pos) → s ≡ statements.ChangeTeam e ps body q at end
    → judged_statement x (fs.change_team_construct (expression e) (specifiers ps.items) (statement_list body.items) (bracketed_specifier q) at end) ≡ statement_judged x s
team_seen x s e ps body q at end is = sym (ap (statement_judged x) is ∙ ap (judged_statement x) (statement_change_team e ps body q at end))

pub team_counted : (s : Statement) (e : Expr) (ps : Vec Specifier Global) (body : Vec Statement Global) (q : BracketedSpecifier) (at end : Pos) → s ≡ statements.ChangeTeam e ps body q at end
    → counted_statements (statement_list body.items) ≡ statement_counted s
team_counted s e ps body q at end is = sym (ap statement_counted is ∙ ap counted_statement (statement_change_team e ps body q at end))

-- SELECT CASE

pub select_found : (x y : Position) (e : f.Expression) (cs : fs.CaseBlocks) (at : Pos) (value : Judgement t.Expression) (blocks : Judgement Selected)
    → value.breaks ≡ (selecting (placed x.scope e)).breaks → value.meaning ≡ (selecting (placed x.scope e)).meaning
    → y ≡ within x selection → blocks ≡ judged_cases y (no_cases_known value.meaning) cs
    → on_line at (made_of_both (select_form (hidden_of x.around)) value blocks) ≡ select_judged x e cs at
select_found x y e cs at value blocks bs m at_y judged =
    ap (λ j. on_line at (made_of_both (select_form (hidden_of x.around)) j blocks)) (alike _ _ _ _ bs m)
    ∙ ap (λ j. on_line at (made_of_both (select_form (hidden_of x.around)) (selecting (placed x.scope e)) j))
    (judged ∙ ap (λ p. judged_cases p (no_cases_known value.meaning) cs) at_y ∙ ap (λ o. judged_cases (within x selection) (no_cases_known o) cs) m)

pub select_seen : (x : Position) (s : Statement) (e : Expr) (blocks : Vec CaseBlock Global) (at end : Pos) → s ≡ statements.SelectCase e blocks at end
    → select_judged x (expression e) (case_blocks blocks.items) at ≡ statement_judged x s
select_seen x s e blocks at end is =
    sym (ap (statement_judged x) is ∙ ap (judged_statement x) (statement_select e blocks at end) ∙ case_judged x (expression e) (case_blocks blocks.items) at end)

pub select_counted : (s : Statement) (e : Expr) (blocks : Vec CaseBlock Global) (at end : Pos) → s ≡ statements.SelectCase e blocks at end
    → counted_cases (case_blocks blocks.items) ≡ statement_counted s
select_counted s e blocks at end is = sym (ap statement_counted is ∙ ap counted_statement (statement_select e blocks at end))
