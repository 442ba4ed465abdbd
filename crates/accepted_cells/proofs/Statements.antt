-- Each statement of a block on a lock, an event or an atom that breaks no rule names a declared one.
use Rattle.std.proofs.Common.{ℕ, ◌+◌, List, []}
use Rattle.std.specs.Prelude.{not, false}
use Rattle.caf_base.specs.declared.place.Pos.{Pos}
use Rattle.fortran_tree.specs.Statements as fs
use Rattle.checked_tree.specs.Statements as ts
use Rattle.rule_definitions.specs.Judgements.{unless, Judgement}
use Rattle.rule_definitions.specs.Names.{Scope}
use Rattle.rule_definitions.specs.Parts.{condition, team}
use Rattle.rule_definitions.specs.Expressions.{judged_specifiers, placed}
use Rattle.rule_definitions.specs.Actions.{loop, selection, critical, team_change, with_stat}
use Rattle.rule_definitions.specs.Statements
use Rattle.rule_definitions.specs.Statements.{counted_statement, counted_statements, counted_else_ifs, behind, Position, site_of, past, within, Control, judged_control, loop_variable, end_breaks, hidden_of, loop_form, selecting, judged_ranges, Cases, Selected, no_selected, with_case, with_default, select_form, bracketed, critical_form, team_form, if_form, more_else_ifs, behind_case, case_joined, on_line, judged_statement, judged_statements, judged_else_ifs, judged_else, judged_cases}
use Rattle.accepted_ranks.proofs.Means.{Means, fine_means, ruled_means, made_means, both_means, three_means}
use Rattle.accepted_ranks.proofs.Subroutines.{four_means}
use Rattle.object_rules.specs.Cells.{Declared}
use Rattle.cell_statements.specs.Typed.{IsTyped, AreTyped, AreTypedElseIfs, AreTypedCases}
use Rattle.accepted_cells.specs.Scopes.{AreHeld}
use Rattle.accepted_cells.proofs.Held.{any}
use Rattle.accepted_cells.proofs.Actions.{controlled_typed, action_typed}

module _ (coarrays : List Declared) where
  loop_typed : (h : ℕ) (k : Control) (body : ts.Statements) → AreTyped coarrays body → IsTyped coarrays (loop_form h k body)
  loop_typed h Statements.forever body b = b
  loop_typed h (Statements.while e) body b = b
  loop_typed h (Statements.counted l k x y z) body b = b

  abbrev Selects : Selected → Type 0
  Selects x = AreTypedCases coarrays x.cases × AreTyped coarrays x.otherwise

  joined_typed : (s : Scope) (k : Cases) (y : fs.CaseSelector) (p : Pos) {a : Judgement ts.Statements} {b : Judgement Selected} → Means a (AreTyped coarrays) → Means b Selects → Means (case_joined s k y p a b) Selects
  joined_typed s k fs.default p h g = ruled_means (unless (not k.has_default) 44 p) (λ u. both_means with_default h g (λ x y v w. (w.0, v)))
  joined_typed s k (fs.ranges rs) p h g = three_means (with_case p.line) (any {j = judged_ranges s k.selector k.ranges rs}) h g (λ q x y u v w. ((v, w.0), w.1))

  abbrev Lined : ts.Statement → Type 0
  Lined (ts.on_line x l) = IsTyped coarrays x

  line_typed : (p : Pos) {j : Judgement ts.StatementForm} → Means j (IsTyped coarrays) → Means (on_line p j) Lined
  line_typed p h = made_means (λ x. ts.on_line x p.line) h (λ x u. u)

  more_typed : (y : ts.Statement) (ys : ts.Statements) → Lined y → AreTyped coarrays ys → AreTyped coarrays (ts.more_statements y ys)
  more_typed (ts.on_line x l) ys h k = (h, k)

  mutual
    unfolding judged_statement judged_statements judged_else_ifs judged_else judged_cases

    statement_typed : (x : Position) → AreHeld coarrays x.scope → (y : fs.Statement) → Means (judged_statement x y) Lined
    statement_typed x r (fs.action a p) = line_typed p (action_typed coarrays (site_of x) r a p)
    statement_typed x r (fs.if_construct e body eis o p q) = line_typed p (four_means if_form (any {j = condition (placed x.scope e)}) (statements_typed x r body) (else_ifs_typed (past x (counted_statements body)) r eis)
        (else_typed (past x (behind (counted_statements body) (counted_else_ifs eis))) r o) (λ c b i n u v w z. (v, w, z)))
    statement_typed x r (fs.do_construct n k body p end) = line_typed p (ruled_means (end_breaks n end.name) (λ u. both_means (loop_form (hidden_of x.around)) (any {j = judged_control x k}) (statements_typed (within x (loop n (loop_variable x k))) r body) (λ c b v w. loop_typed (hidden_of x.around) c b w)))
    statement_typed x r (fs.case_construct e cs p q) = line_typed p (both_means (select_form (hidden_of x.around)) (any {j = selecting (placed x.scope e)})
        (cases_typed (within x selection) r (record { selector = (selecting (placed x.scope e)).meaning; ranges = []; has_default = false }) cs) (λ c y u v. v))
    statement_typed x r (fs.critical_construct y body p q) = line_typed p (controlled_typed coarrays (site_of x) p (both_means (critical_form (x.criticals + 1) q.line) (any {j = with_stat (bracketed x.scope y)})
        (statements_typed (within (record x { criticals = x.criticals + 1 }) critical) r body) (λ c b u v. v)))
    statement_typed x r (fs.change_team_construct e xs body y p q) = line_typed p (controlled_typed coarrays (site_of x) p (four_means (team_form q.line) (any {j = team (placed x.scope e)}) (any {j = with_stat (judged_specifiers x.scope xs)})
        (statements_typed (within x team_change) r body) (any {j = with_stat (bracketed x.scope y)}) (λ c a b d u v w z. w)))

    pub statements_typed : (x : Position) → AreHeld coarrays x.scope → (ys : fs.Statements) → Means (judged_statements x ys) (AreTyped coarrays)
    statements_typed x r fs.no_statements = fine_means ts.no_statements tt
    statements_typed x r (fs.more_statements y rest) = both_means ts.more_statements (statement_typed x r y) (statements_typed (past x (counted_statement y)) r rest) (λ a b u v. more_typed a b u v)

    else_ifs_typed : (x : Position) → AreHeld coarrays x.scope → (ys : fs.ElseIfBlocks) → Means (judged_else_ifs x ys) (AreTypedElseIfs coarrays)
    else_ifs_typed x r fs.no_else_ifs = fine_means ts.no_else_ifs tt
    else_ifs_typed x r (fs.more_else_ifs e body p rest) = three_means (more_else_ifs p.line) (any {j = condition (placed x.scope e)}) (statements_typed x r body) (else_ifs_typed (past x (counted_statements body)) r rest) (λ c b i u v w. (v, w))

    else_typed : (x : Position) → AreHeld coarrays x.scope → (o : fs.ElseBlock) → Means (judged_else x o) (AreTyped coarrays)
    else_typed x r fs.no_else_block = fine_means ts.no_statements tt
    else_typed x r (fs.else_block body p) = statements_typed x r body

    cases_typed : (x : Position) → AreHeld coarrays x.scope → (k : Cases) (cs : fs.CaseBlocks) → Means (judged_cases x k cs) Selects
    cases_typed x r k fs.no_case_blocks = fine_means no_selected (tt, tt)
    cases_typed x r k (fs.more_case_blocks y body p rest) = joined_typed x.scope k y p (statements_typed x r body) (cases_typed (past x (counted_statements body)) r (behind_case x.scope k y) rest)
