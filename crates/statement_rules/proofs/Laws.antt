-- What the recursion over statements says, one law for each form.
use Rattle.std.proofs.Common.{◌≡◌, ◌+◌, [], refl}
use Rattle.std.specs.Prelude.{false}
use Rattle.fortran_tree.specs.Statements as fs
use Rattle.checked_tree.specs.Statements as ts
use Rattle.rule_definitions.specs.Judgements.{fine, ruled, made_of_both, made_of_three}
use Rattle.rule_definitions.specs.Expressions.{placed, judged_specifiers}
use Rattle.rule_definitions.specs.IntrinsicSubroutines.{four}
use Rattle.rule_definitions.specs.Parts.{condition, team}
use Rattle.rule_definitions.specs.Actions.{loop, selection, critical, team_change, judged_action, controlled, with_stat}
use Rattle.rule_definitions.specs.Statements as s
use Rattle.rule_definitions.specs.Statements.{Position, Cases, past, within, behind, site_of, on_line, counted_statement, counted_statements, counted_else_ifs, judged_statement, judged_statements, judged_else_ifs, judged_else, judged_cases, case_joined, behind_case, selecting, judged_control, loop_variable, hidden_of, end_breaks, bracketed, loop_form, if_form, select_form, critical_form, team_form, more_else_ifs, no_selected}

pub action_judged : (x : Position) (a p : _) → judged_statement x (fs.action a p) ≡ on_line p (judged_action (site_of x) a p)
unfolding judged_statement
action_judged x a p = refl

pub if_judged : (x : Position) (e body eis o p q : _) → judged_statement x (fs.if_construct e body eis o p q)
    ≡ on_line p (four if_form (condition (placed x.scope e)) (judged_statements x body) (judged_else_ifs (past x (counted_statements body)) eis) (judged_else (past x (behind (counted_statements body) (counted_else_ifs eis))) o))
unfolding judged_statement
if_judged x e body eis o p q = refl

pub do_judged : (x : Position) (n k body p : _) (end : _) → judged_statement x (fs.do_construct n k body p end)
    ≡ on_line p (ruled (made_of_both (loop_form (hidden_of x.around)) (judged_control x k) (judged_statements (within x (loop n (loop_variable x k))) body)) (end_breaks n end.name))
unfolding judged_statement
do_judged x n k body p end = refl

pub case_judged : (x : Position) (e cs p q : _) → judged_statement x (fs.case_construct e cs p q)
    ≡ on_line p (made_of_both (select_form (hidden_of x.around)) (selecting (placed x.scope e)) (judged_cases (within x selection) (record { selector = (selecting (placed x.scope e)).meaning; ranges = []; has_default = false }) cs))
unfolding judged_statement
case_judged x e cs p q = refl

pub critical_judged : (x : Position) (y body p : _) (q : _) → judged_statement x (fs.critical_construct y body p q)
    ≡ on_line p (controlled (site_of x) p (made_of_both (critical_form (x.criticals + 1) q.line) (with_stat (bracketed x.scope y)) (judged_statements (within (record x { criticals = x.criticals + 1 }) critical) body)))
unfolding judged_statement
critical_judged x y body p q = refl

pub team_judged : (x : Position) (e ps body y p : _) (q : _) → judged_statement x (fs.change_team_construct e ps body y p q)
    ≡ on_line p (controlled (site_of x) p (four (team_form q.line) (team (placed x.scope e)) (with_stat (judged_specifiers x.scope ps)) (judged_statements (within x team_change) body) (with_stat (bracketed x.scope y))))
unfolding judged_statement
team_judged x e ps body y p q = refl

pub none_judged : (x : Position) → judged_statements x fs.no_statements ≡ fine ts.no_statements
unfolding judged_statement
none_judged x = refl

pub more_judged : (x : Position) (y rest : _) → judged_statements x (fs.more_statements y rest) ≡ made_of_both ts.more_statements (judged_statement x y) (judged_statements (past x (counted_statement y)) rest)
unfolding judged_statement
more_judged x y rest = refl

pub no_else_ifs_judged : (x : Position) → judged_else_ifs x fs.no_else_ifs ≡ fine ts.no_else_ifs
unfolding judged_statement
no_else_ifs_judged x = refl

pub more_else_ifs_judged : (x : Position) (e body : _) (p : _) (rest : _) → judged_else_ifs x (fs.more_else_ifs e body p rest)
    ≡ made_of_three (more_else_ifs p.line) (condition (placed x.scope e)) (judged_statements x body) (judged_else_ifs (past x (counted_statements body)) rest)
unfolding judged_statement
more_else_ifs_judged x e body p rest = refl

pub no_else_judged : (x : Position) → judged_else x fs.no_else_block ≡ fine ts.no_statements
unfolding judged_statement
no_else_judged x = refl

pub else_judged : (x : Position) (body p : _) → judged_else x (fs.else_block body p) ≡ judged_statements x body
unfolding judged_statement
else_judged x body p = refl

pub no_cases_judged : (x : Position) (k : Cases) → judged_cases x k fs.no_case_blocks ≡ fine no_selected
unfolding judged_statement
no_cases_judged x k = refl

pub more_cases_judged : (x : Position) (k : Cases) (y body p rest : _) → judged_cases x k (fs.more_case_blocks y body p rest)
    ≡ case_joined x.scope k y p (judged_statements x body) (judged_cases (past x (counted_statements body)) (behind_case x.scope k y) rest)
unfolding judged_statement
more_cases_judged x k y body p rest = refl
