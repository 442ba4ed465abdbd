-- The words of statements and constructs are those of their parts, one behind the other.
use Rattle.std.proofs.Common.{◌≡◌, ℕ, suc, ◌+◌, codes, List, [], ◌∷◌, ◌++◌, length, Some, None, inl, inr, refl, ap, sym, ◌∙◌, subst, arith, append_assoc}
use Rattle.caf_base.specs.declared.place.Pos.{Pos}
use Rattle.reader_theory.specs.Words.{Mark}
use Rattle.fortran_tree.specs.Statements as s
use Rattle.fortran_tree.specs.Statements.{ActionStatement, Statement, Statements, ElseIfBlocks, ElseBlock, CaseBlocks}
use Rattle.fortran_grammar.specs.Tokens.{Token}
use Rattle.fortran_grammar.specs.Phrases as p
use Rattle.fortran_grammar.specs.Phrases.{Phrase, Words, ◌▸◌}
use Rattle.fortran_grammar.specs.ExpressionGrammar as g
use Rattle.fortran_grammar.specs.ActionGrammar as a
use Rattle.fortran_grammar.specs.StatementGrammar as c
use Rattle.statement_reader.specs.Parts as f
use Rattle.statement_reader.specs.Parts.{Part, Form, whole, within, formed}
use Rattle.statement_reader.proofs.Forms.{within_in, within_out}
use Rattle.program_reader.specs.Sequence as q
use Rattle.program_reader.specs.Sequence.{Scope, Open, State, action_forms, statement_forms, block_forms, allowed_behind, staged, place_of, to_case, Rest_of_file}
use Rattle.program_reader.specs.Nesting.{action_parts, statement_parts, statements_parts, else_if_parts, else_parts, case_parts}
use Rattle.program_reader.proofs.Grouping.{group, head_out}
use Rattle.program_reader.proofs.Steps.{In, step, place, Runs, staged_twice, runs_action, runs_if, runs_else, runs_do, runs_case, runs_critical, runs_team}

abbrev running : Scope → Scope
running k = staged q.in_statements k

module _ (limit : ℕ) where
  -- the rest of a file from a place on
  abbrev pub Follows : Scope → List Open → List Part → List (Mark Token) → Type 0
  Follows k os es w = Rest_of_file limit (place k os) es w

  pub behind_two : (s : State) (es : List Part) (u i j v : List (Mark Token)) → u ≡ i ++ j → Rest_of_file limit s es (i ++ (j ++ v)) → Rest_of_file limit s es (u ++ v)
  behind_two s es u i j v e h = subst (Rest_of_file limit s es) (sym (ap (λ z. z ++ v) e ∙ append_assoc i j v)) h

  -- an action behind so many conditions
  pub flat_action : (x : ActionStatement) (n : ℕ) (k : Scope) (os : List Open) (at : Pos) (es : List Part) (u v : List (Mark Token)) → ((i : Form) → In i action_forms → In i (allowed_behind n k os))
      → Words (within n (a.action x at) ▸ p.over) limit (length os) u → Follows (running k) os es v → Rest_of_file limit (record { scope = k; blocks = os; conditions = n }) (action_parts x at es) (u ++ v)
  flat_action (s.assignment d e) n k os at es u v may h r = step limit f.assignment_form (record { scope = k; blocks = os; conditions = n }) (f.action_part (s.assignment d e) at) es u v (may f.assignment_form (inl refl)) (refl, h) r
  flat_action (s.if_statement e x there) n k os at es u v may (u1, u2, h, o, split) r =
      let inner = within_out n (a.action (s.if_statement e x there) at) limit (length os) u1 h in
      let (i, j, head, act, e2) = head_out at (p.key (codes "if") ∷ []) (p.round (g.expr e)) (a.action x there) limit (n + length os) u1 refl inner in
      let deep = within_in (suc n) (a.action x there) limit (length os) j (subst (λ z. Words (a.action x there) limit z j) (let z : suc (n + length os) ≡ suc n + length os = omega arith in z) act) in
      behind_two (record { scope = k; blocks = os; conditions = n }) (f.condition_part e at ∷ action_parts x there es) u i (j ++ u2) v (split ∙ (ap (λ z. z ++ u2) e2 ∙ append_assoc i j u2))
      (step limit f.condition_form (record { scope = k; blocks = os; conditions = n }) (f.condition_part e at) (action_parts x there es) i ((j ++ u2) ++ v) (may f.condition_form (inr (inr (inl refl))))
      (refl, within_in n (whole (f.condition_part e at)) limit (length os) i head)
      (flat_action x (suc n) (running k) os there es (j ++ u2) v (λ z m. m) (j, u2, deep, o, refl) (subst (λ z. Follows z os es v) (sym (staged_twice q.in_statements q.in_statements k)) r)))
  flat_action x n k os at es u v may h r = step limit f.keyword_form (record { scope = k; blocks = os; conditions = n }) (f.action_part x at) es u v (may f.keyword_form (inr (inl refl))) (refl, h) r

  settle : (k : Scope) (os : List Open) (es : List Part) (v : List (Mark Token)) → Follows (running k) os es v → Follows (running (running k)) os es v
  settle k os es v r = subst (λ z. Follows z os es v) (sym (staged_twice q.in_statements q.in_statements k)) r

  mutual
    pub flat_statement : (x : Statement) (k : Scope) (os : List Open) (es : List Part) (u v : List (Mark Token)) → Runs k os → Words (c.statement x) limit (length os) u → Follows (running k) os es v → Follows k os (statement_parts x es) (u ++ v)
    flat_statement (s.action x at) k os es u v runs h r = flat_action x 0 k os at es u v (λ i m. runs i (runs_action i m)) h r
    flat_statement (s.if_construct e body others o at end) k os es u v runs h r =
        let B = c.statements body ▸ c.else_ifs others ▸ c.else_block o ▸ p.from end (p.joined (codes "end") (codes "if")) ▸ p.over in
        let (u1, r1, head, (u5, r5, hb, (u6, r6, ho, (u7, r7, he, hend, e7), e6), e5), e1) = head_out at (p.key (codes "if") ∷ p.round (g.expr e) ∷ p.key (codes "then") ∷ []) p.over B limit (length os) u refl h in
        let ks = running k in
        behind_two (place k os) (statement_parts (s.if_construct e body others o at end) es) u u1 r1 v e1
        (step limit f.if_form (place k os) (f.if_part e at) (statements_parts body (else_if_parts others (else_parts o (f.end_if_part end ∷ es)))) u1 (r1 ++ v) (runs f.if_form (inr (inr (inr (inl refl))))) (refl, head)
        (behind_two (place ks (q.if_open at ∷ os)) (statements_parts body (else_if_parts others (else_parts o (f.end_if_part end ∷ es)))) r1 u5 r5 v e5
        (flat_statements body ks (q.if_open at ∷ os) (else_if_parts others (else_parts o (f.end_if_part end ∷ es))) u5 (r5 ++ v) (staged_twice q.in_statements q.in_statements k) (runs_if ks at os) hb
        (behind_two (place ks (q.if_open at ∷ os)) (else_if_parts others (else_parts o (f.end_if_part end ∷ es))) r5 u6 r6 v e6
        (flat_else_ifs others ks at os (else_parts o (f.end_if_part end ∷ es)) u6 (r6 ++ v) (staged_twice q.in_statements q.in_statements k) ho
        (behind_two (place ks (q.if_open at ∷ os)) (else_parts o (f.end_if_part end ∷ es)) r6 u7 r7 v e7
        (flat_else o ks at os (f.end_if_part end ∷ es) u7 (r7 ++ v) (staged_twice q.in_statements q.in_statements k) he
        (step limit f.end_if_form (place ks (q.if_open at ∷ os)) (f.end_if_part end) es r7 v (inl refl) (refl, hend) r)
        (step limit f.end_if_form (place ks (q.else_open at ∷ os)) (f.end_if_part end) es r7 v (inl refl) (refl, hend) r))))))))
    flat_statement (s.do_construct None n body at end) k os es u v runs h r =
        let (u1, r1, head, (u5, r5, hb, hend, e5), e1) = head_out at (p.nothing ∷ p.key (codes "do") ∷ c.loop_control n ∷ []) p.over (c.statements body ▸ p.from end.at (p.joined (codes "end") (codes "do")) ▸ p.optional p.name end.name ▸ p.over) limit (length os) u refl h in
        let ks = running k in
        behind_two (place k os) (statement_parts (s.do_construct None n body at end) es) u u1 r1 v e1
        (step limit f.do_form (place k os) (f.do_part None n at) (statements_parts body (f.end_do_part end.name end.at ∷ es)) u1 (r1 ++ v) (runs f.do_form (inr (inr (inr (inr (inl refl)))))) (refl, head)
        (behind_two (place ks (q.do_open at ∷ os)) (statements_parts body (f.end_do_part end.name end.at ∷ es)) r1 u5 r5 v e5
        (flat_statements body ks (q.do_open at ∷ os) (f.end_do_part end.name end.at ∷ es) u5 (r5 ++ v) (staged_twice q.in_statements q.in_statements k) (runs_do ks at os) hb
        (step limit f.end_do_form (place ks (q.do_open at ∷ os)) (f.end_do_part end.name end.at) es r5 v (inl refl) (refl, hend) r))))
    flat_statement (s.do_construct (Some m) n body at end) k os es u v runs h r =
        let (u1, r1, head, (u5, r5, hb, hend, e5), e1) = head_out at (c.construct_name m ∷ p.key (codes "do") ∷ c.loop_control n ∷ []) p.over (c.statements body ▸ p.from end.at (p.joined (codes "end") (codes "do")) ▸ p.optional p.name end.name ▸ p.over) limit (length os) u refl h in
        let ks = running k in
        behind_two (place k os) (statement_parts (s.do_construct (Some m) n body at end) es) u u1 r1 v e1
        (step limit f.named_do_form (place k os) (f.do_part (Some m) n at) (statements_parts body (f.end_do_part end.name end.at ∷ es)) u1 (r1 ++ v) (runs f.named_do_form (inr (inr (inr (inr (inr (inl refl))))))) (refl, head)
        (behind_two (place ks (q.do_open at ∷ os)) (statements_parts body (f.end_do_part end.name end.at ∷ es)) r1 u5 r5 v e5
        (flat_statements body ks (q.do_open at ∷ os) (f.end_do_part end.name end.at ∷ es) u5 (r5 ++ v) (staged_twice q.in_statements q.in_statements k) (runs_do ks at os) hb
        (step limit f.end_do_form (place ks (q.do_open at ∷ os)) (f.end_do_part end.name end.at) es r5 v (inl refl) (refl, hend) r))))
    flat_statement (s.case_construct e blocks at end) k os es u v runs h r =
        let (u1, r1, head, (u5, r5, hb, hend, e5), e1) = head_out at (p.joined (codes "select") (codes "case") ∷ p.round (g.expr e) ∷ []) p.over (c.case_blocks blocks ▸ p.from end (p.joined (codes "end") (codes "select")) ▸ p.over) limit (length os) u refl h in
        let ks = running k in
        behind_two (place k os) (statement_parts (s.case_construct e blocks at end) es) u u1 r1 v e1
        (step limit f.select_form (place k os) (f.select_part e at) (case_parts blocks (f.end_select_part end ∷ es)) u1 (r1 ++ v) (runs f.select_form (inr (inr (inr (inr (inr (inr (inl refl)))))))) (refl, head)
        (behind_two (place ks (q.select_open at ∷ os)) (case_parts blocks (f.end_select_part end ∷ es)) r1 u5 r5 v e5
        (flat_cases blocks ks (q.select_open at) os (f.end_select_part end ∷ es) u5 (r5 ++ v) (staged_twice q.in_statements q.in_statements k) (inr (inl refl)) hb
        (step limit f.end_select_form (place ks (q.select_open at ∷ os)) (f.end_select_part end) es r5 v (inl refl) (refl, hend) r)
        (step limit f.end_select_form (place ks (q.case_open at ∷ os)) (f.end_select_part end) es r5 v (inl refl) (refl, hend) r))))
    flat_statement (s.critical_construct x body at end) k os es u v runs h r =
        let (u1, r1, head, (u5, r5, hb, hend, e5), e1) = head_out at (p.key (codes "critical") ∷ c.bracketed_specifier x ∷ []) p.over (c.statements body ▸ p.from end (p.joined (codes "end") (codes "critical")) ▸ p.over) limit (length os) u refl h in
        let ks = running k in
        behind_two (place k os) (statement_parts (s.critical_construct x body at end) es) u u1 r1 v e1
        (step limit f.critical_form (place k os) (f.critical_part x at) (statements_parts body (f.end_critical_part end ∷ es)) u1 (r1 ++ v) (runs f.critical_form (inr (inr (inr (inr (inr (inr (inr (inl refl))))))))) (refl, head)
        (behind_two (place ks (q.critical_open at ∷ os)) (statements_parts body (f.end_critical_part end ∷ es)) r1 u5 r5 v e5
        (flat_statements body ks (q.critical_open at ∷ os) (f.end_critical_part end ∷ es) u5 (r5 ++ v) (staged_twice q.in_statements q.in_statements k) (runs_critical ks at os) hb
        (step limit f.end_critical_form (place ks (q.critical_open at ∷ os)) (f.end_critical_part end) es r5 v (inl refl) (refl, hend) r))))
    flat_statement (s.change_team_construct e ps body x at end) k os es u v runs h r =
        let (u1, r1, head, (u5, r5, hb, hend, e5), e1) = head_out at (p.key (codes "change") ∷ p.key (codes "team") ∷ a.team e ps ∷ []) p.over (c.statements body ▸ p.from end (p.joined (codes "end") (codes "team")) ▸ c.bracketed_specifier x ▸ p.over) limit (length os) u refl h in
        let ks = running k in
        behind_two (place k os) (statement_parts (s.change_team_construct e ps body x at end) es) u u1 r1 v e1
        (step limit f.team_form (place k os) (f.team_part e ps at) (statements_parts body (f.end_team_part x end ∷ es)) u1 (r1 ++ v) (runs f.team_form (inr (inr (inr (inr (inr (inr (inr (inr (inl refl)))))))))) (refl, head)
        (behind_two (place ks (q.team_open at ∷ os)) (statements_parts body (f.end_team_part x end ∷ es)) r1 u5 r5 v e5
        (flat_statements body ks (q.team_open at ∷ os) (f.end_team_part x end ∷ es) u5 (r5 ++ v) (staged_twice q.in_statements q.in_statements k) (runs_team ks at os) hb
        (step limit f.end_team_form (place ks (q.team_open at ∷ os)) (f.end_team_part x end) es r5 v (inl refl) (refl, hend) r))))

    -- where statements have begun
    pub flat_statements : (b : Statements) (k : Scope) (os : List Open) (es : List Part) (u v : List (Mark Token)) → running k ≡ k → Runs k os → Words (c.statements b) limit (length os) u → Follows k os es v → Follows k os (statements_parts b es) (u ++ v)
    flat_statements s.no_statements k os es u v still runs h r = subst (λ z. Follows k os es (z ++ v)) (sym h) r
    flat_statements (s.more_statements x more) k os es u v still runs (i, j, h, o, e) r =
        behind_two (place k os) (statement_parts x (statements_parts more es)) u i j v e
        (flat_statement x k os (statements_parts more es) i (j ++ v) runs h (subst (λ z. Follows z os (statements_parts more es) (j ++ v)) (sym still) (flat_statements more k os es j v still runs o r)))

    flat_else_ifs : (x : ElseIfBlocks) (k : Scope) (at : Pos) (os : List Open) (es : List Part) (u v : List (Mark Token)) → running k ≡ k → Words (c.else_ifs x) limit (suc (length os)) u → Follows k (q.if_open at ∷ os) es v → Follows k (q.if_open at ∷ os) (else_if_parts x es) (u ++ v)
    flat_else_ifs s.no_else_ifs k at os es u v still h r = subst (λ z. Follows k (q.if_open at ∷ os) es (z ++ v)) (sym h) r
    flat_else_ifs (s.more_else_ifs e body there more) k at os es u v still h r =
        let (u1, r1, head, (u5, r5, hb, ho, e5), e1) = group (p.from there (p.joined (codes "else") (codes "if")) ∷ p.round (g.expr e) ∷ p.key (codes "then") ∷ []) p.over (c.statements body ▸ c.else_ifs more) limit (suc (length os)) u h in
        behind_two (place k (q.if_open at ∷ os)) (else_if_parts (s.more_else_ifs e body there more) es) u u1 r1 v e1
        (step limit f.else_if_form (place k (q.if_open at ∷ os)) (f.else_if_part e there) (statements_parts body (else_if_parts more es)) u1 (r1 ++ v) (inr (inr (inl refl))) (refl, head)
        (behind_two (place k (q.if_open at ∷ os)) (statements_parts body (else_if_parts more es)) r1 u5 r5 v e5
        (flat_statements body k (q.if_open at ∷ os) (else_if_parts more es) u5 (r5 ++ v) still (runs_if k at os) hb (flat_else_ifs more k at os es r5 v still ho r))))

    flat_else : (x : ElseBlock) (k : Scope) (at : Pos) (os : List Open) (es : List Part) (u v : List (Mark Token)) → running k ≡ k → Words (c.else_block x) limit (suc (length os)) u → Follows k (q.if_open at ∷ os) es v → Follows k (q.else_open at ∷ os) es v → Follows k (q.if_open at ∷ os) (else_parts x es) (u ++ v)
    flat_else s.no_else_block k at os es u v still h r r2 = subst (λ z. Follows k (q.if_open at ∷ os) es (z ++ v)) (sym h) r
    flat_else (s.else_block body there) k at os es u v still h r r2 =
        let (u1, r1, head, hb, e1) = group (p.from there (p.key (codes "else")) ∷ []) p.over (c.statements body) limit (suc (length os)) u h in
        behind_two (place k (q.if_open at ∷ os)) (else_parts (s.else_block body there) es) u u1 r1 v e1
        (step limit f.else_form (place k (q.if_open at ∷ os)) (f.else_part there) (statements_parts body es) u1 (r1 ++ v) (inr (inl refl)) (refl, head)
        (flat_statements body k (q.else_open at ∷ os) es r1 v still (runs_else k at os) hb r2))

    flat_cases : (x : CaseBlocks) (k : Scope) (o : Open) (os : List Open) (es : List Part) (u v : List (Mark Token)) → running k ≡ k → In f.case_form (block_forms o) → Words (c.case_blocks x) limit (suc (length os)) u → Follows k (o ∷ os) es v → Follows k (to_case o ∷ os) es v → Follows k (o ∷ os) (case_parts x es) (u ++ v)
    flat_cases s.no_case_blocks k o os es u v still may h r r2 = subst (λ z. Follows k (o ∷ os) es (z ++ v)) (sym h) r
    flat_cases (s.more_case_blocks x body there more) k o os es u v still may h r r2 =
        let (u1, r1, head, (u5, r5, hb, ho, e5), e1) = group (p.from there (p.key (codes "case")) ∷ c.case_selector x ∷ []) p.over (c.statements body ▸ c.case_blocks more) limit (suc (length os)) u h in
        behind_two (place k (o ∷ os)) (case_parts (s.more_case_blocks x body there more) es) u u1 r1 v e1
        (step limit f.case_form (place k (o ∷ os)) (f.case_part x there) (statements_parts body (case_parts more es)) u1 (r1 ++ v) may (refl, head)
        (behind_two (place k (to_case o ∷ os)) (statements_parts body (case_parts more es)) r1 u5 r5 v e5
        (flat_statements body k (to_case o ∷ os) (case_parts more es) u5 (r5 ++ v) still (runs_case k (place_of o) os) hb (flat_cases more k (to_case o) os es r5 v still (inr (inl refl)) ho r2 r2))))
