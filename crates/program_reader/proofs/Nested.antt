-- Parts that may follow one another are those of statements and constructs.
use Rattle.std.proofs.Common.{◌≡◌, ℕ, zero, suc, ◌+◌, ◌≤◌, Bool, true, false, cond, codes, List, [], ◌∷◌, ◌++◌, length, Some, None, inl, inr, refl, ap, sym, ◌∙◌, subst, arith, append_assoc}
use Rattle.std.proofs.lemmas.Bool.{true≢false, false≢true}
use Rattle.caf_base.specs.declared.place.Pos.{Pos}
use Rattle.reader_theory.specs.Words.{Mark}
use Rattle.fortran_tree.specs.declared.statement.End.{End}
use Rattle.fortran_tree.specs.Expressions.{Expression}
use Rattle.fortran_tree.specs.Statements as s
use Rattle.fortran_tree.specs.Statements.{ActionStatement, CaseSelector, BracketedSpecifier, Statement, Statements, ElseIfBlocks, ElseBlock, CaseBlocks}
use Rattle.fortran_grammar.specs.Tokens.{Token}
use Rattle.fortran_grammar.specs.Phrases as p
use Rattle.fortran_grammar.specs.Phrases.{Phrase, Words, ◌▸◌}
use Rattle.fortran_grammar.specs.ExpressionGrammar as g
use Rattle.fortran_grammar.specs.ActionGrammar as a
use Rattle.fortran_grammar.specs.StatementGrammar as c
use Rattle.statement_reader.specs.Keywords.{is_keyword_action}
use Rattle.statement_reader.specs.Lines.{is_assignment}
use Rattle.statement_reader.specs.Parts as f
use Rattle.statement_reader.specs.Parts.{Part, Form, is_of, whole, within, line, formed}
use Rattle.statement_reader.proofs.Forms.{within_in, within_out}
use Rattle.program_reader.specs.Sequence as q
use Rattle.program_reader.specs.Sequence.{Scope, Open, State, action_forms, statement_forms, block_forms, open_forms, allowed_behind, staged, next, Rest_of_file}
use Rattle.program_reader.specs.Nesting.{action_parts, statement_parts, statements_parts, else_if_parts, else_parts, case_parts}
use Rattle.program_reader.proofs.Grouping.{ungroup, head_in}
use Rattle.program_reader.proofs.Steps.{In, which, place, staged_twice}
use Rattle.program_reader.proofs.Flat.{Follows}

-- the part has one of these forms
abbrev pub permitted : List Form → Part → Bool
permitted [] b = false
permitted (i ∷ is) b = cond (is_of i b) true (permitted is b)

-- a statement begins with the part
abbrev pub begins : Part → Bool
begins (f.action_part x at) = true
begins (f.condition_part e at) = true
begins (f.if_part e at) = true
begins (f.do_part n k at) = true
begins (f.select_part e at) = true
begins (f.critical_part x at) = true
begins (f.team_part e ps at) = true
begins b = false

abbrev pub begins_first : List Part → Bool
begins_first [] = false
begins_first (b ∷ es) = begins b

abbrev is_action : Part → Bool
is_action (f.action_part x at) = true
is_action b = false

abbrev pub is_if : ActionStatement → Bool
is_if (s.if_statement e x at) = true
is_if x = false

pub permits : (i : Form) (is : List Form) (b : Part) → In i is → is_of i b ≡ true → permitted is b ≡ true
permits i [] b m e = absurd m
permits i (j ∷ js) b (inl same) e = ap (λ z. cond z true (permitted js b)) (subst (λ k. is_of k b ≡ true) same e)
permits i (j ∷ js) b (inr m) e = by_test (is_of j b) (permits i js b m e)
  where
    by_test : (z : Bool) → permitted js b ≡ true → cond z true (permitted js b) ≡ true
    by_test true k = refl
    by_test false k = k

-- where no statement begins, another form stands
no_statement : (b : Part) → begins b ≡ false → permitted statement_forms b ≡ false
no_statement (f.action_part x at) e = absurd (true≢false e)
no_statement (f.condition_part y at) e = absurd (true≢false e)
no_statement (f.if_part y at) e = absurd (true≢false e)
no_statement (f.do_part n k at) e = absurd (true≢false e)
no_statement (f.select_part y at) e = absurd (true≢false e)
no_statement (f.critical_part x at) e = absurd (true≢false e)
no_statement (f.team_part y ps at) e = absurd (true≢false e)
no_statement b e = refl

pub only_other : (is : List Form) (b : Part) → begins b ≡ false → permitted (is ++ statement_forms) b ≡ true → permitted is b ≡ true
only_other [] b e k = absurd (true≢false (sym k ∙ no_statement b e))
only_other (i ∷ is) b e k = by_test (is_of i b) k (λ j. only_other is b e j)
  where
    by_test : (z : Bool) → cond z true (permitted (is ++ statement_forms) b) ≡ true → (permitted (is ++ statement_forms) b ≡ true → permitted is b ≡ true) → cond z true (permitted is b) ≡ true
    by_test true j more = refl
    by_test false j more = more j

-- the words of a part
pub form_of_word : (i : Form) (n l d : ℕ) (b : Part) (u : List (Mark Token)) → Words (formed i n b) l d u → is_of i b ≡ true
form_of_word f.assignment_form n l d b u h = h.0
form_of_word f.keyword_form n l d b u h = h.0
form_of_word i n l d b u h = h.0

part_word : (i : Form) (n l d : ℕ) (b : Part) (u : List (Mark Token)) → is_action b ≡ false → Words (formed i n b) l d u → Words (within n (whole b)) l d u
part_word f.assignment_form n l d (f.action_part x at) u e h = absurd (true≢false e)
part_word f.assignment_form n l d b u e h = absurd (false≢true h.0)
part_word f.keyword_form n l d (f.action_part x at) u e h = absurd (true≢false e)
part_word f.keyword_form n l d b u e h = absurd (false≢true h.0)
part_word i n l d b u e h = h.1

no_if_assigns : (x : ActionStatement) → is_assignment x ≡ true → is_if x ≡ false
no_if_assigns (s.if_statement e y at) k = absurd (false≢true k)
no_if_assigns x k = refl

no_if_keyword : (x : ActionStatement) → is_keyword_action x ≡ true → is_if x ≡ false
no_if_keyword (s.if_statement e y at) k = absurd (false≢true k)
no_if_keyword x k = refl

action_word : (i : Form) (n l d : ℕ) (x : ActionStatement) (at : Pos) (u : List (Mark Token)) → Words (formed i n (f.action_part x at)) l d u → (is_if x ≡ false) × Words (within n (a.action x at) ▸ p.over) l d u
action_word f.assignment_form n l d x at u h = (no_if_assigns x h.0, h.1)
action_word f.keyword_form n l d x at u h = (no_if_keyword x h.0, h.1)
action_word i n l d x at u h = absurd (false≢true h.0)

pub plain_parts : (x : ActionStatement) (at : Pos) (es : List Part) → is_if x ≡ false → f.action_part x at ∷ es ≡ action_parts x at es
plain_parts (s.if_statement e y there) at es k = absurd (true≢false k)
plain_parts x at es k = refl

abbrev running : Scope → Scope
running k = staged q.in_statements k

module _ (limit : ℕ) where
  abbrev at_conditions : ℕ → Scope → List Open → State
  at_conditions n k os = record { scope = k; blocks = os; conditions = n }

  -- the first part of the rest of a file
  pub record First (s : State) (b : Part) (es : List Part) (w : List (Mark Token)) : Type 0 where
    pub form : Form
    pub front : List (Mark Token)
    pub back : List (Mark Token)
    pub may : In form (q.allowed s)
    pub is_word : Words (formed form s.conditions b) limit (length s.blocks) front
    pub further : Rest_of_file limit (next s b) es back
    pub split : w ≡ front ++ back

  pub first_part : (s : State) (b : Part) (es : List Part) (w : List (Mark Token)) → Rest_of_file limit s (b ∷ es) w → First s b es w
  first_part s b es w (u, v, h, r, e) = let (i, m, k) = which limit (q.allowed s) (length s.blocks) s.conditions b u h in
      record { form = i; front = u; back = v; may = m; is_word = k; further = r; split = e }

  pub may_be : (s : State) (b : Part) (es : List Part) (w : List (Mark Token)) → First s b es w → permitted (q.allowed s) b ≡ true
  may_be s b es w x = permits x.form (q.allowed s) b x.may (form_of_word x.form s.conditions limit (length s.blocks) b x.front x.is_word)

  -- An action behind conditions.
  pub record Acts (n : ℕ) (k : Scope) (os : List Open) (es : List Part) (w : List (Mark Token)) : Type 0 where
    pub tree : ActionStatement
    pub at : Pos
    pub rest : List Part
    pub front : List (Mark Token)
    pub back : List (Mark Token)
    pub is_parts : es ≡ action_parts tree at rest
    pub is_word : Words (within n (a.action tree at) ▸ p.over) limit (length os) front
    pub further : Follows limit (running k) os rest back
    pub split : w ≡ front ++ back
    pub shorter : suc (length rest) ≤ length es

  plain_act : (n : ℕ) (k : Scope) (os : List Open) (x : ActionStatement) (at : Pos) (es : List Part) (w : List (Mark Token)) → First (at_conditions n k os) (f.action_part x at) es w → Acts n k os (f.action_part x at ∷ es) w
  plain_act n k os x at es w z = let (plain, h) = action_word z.form n limit (length os) x at z.front z.is_word in
      record { tree = x; at = at; rest = es; front = z.front; back = z.back; is_parts = plain_parts x at es plain; is_word = h; further = z.further; split = z.split; shorter = omega arith }

  guarded_act : (n : ℕ) (k : Scope) (os : List Open) (e : Expression) (at : Pos) (es : List Part) (w : List (Mark Token)) (z : First (at_conditions n k os) (f.condition_part e at) es w) → Acts (suc n) (running k) os es z.back → Acts n k os (f.condition_part e at ∷ es) w
  guarded_act n k os e at es w z x =
      let head = within_out n (whole (f.condition_part e at)) limit (length os) z.front (part_word z.form n limit (length os) (f.condition_part e at) z.front refl z.is_word) in
      let (i, j, h, o, split) = x.is_word in
      let act = subst (λ d. Words (a.action x.tree x.at) limit d i) (let d : suc n + length os ≡ suc (n + length os) = omega arith in d) (within_out (suc n) (a.action x.tree x.at) limit (length os) i h) in
      record {
        tree = s.if_statement e x.tree x.at;
        at = at;
        rest = x.rest;
        front = z.front ++ x.front;
        back = x.back;
        is_parts = ap (λ y. f.condition_part e at ∷ y) x.is_parts;
        is_word = (
          z.front ++ i,
          j,
          within_in n (a.action (s.if_statement e x.tree x.at) at) limit (length os) (z.front ++ i)
              (head_in at (p.key (codes "if") ∷ []) (p.round (g.expr e)) (a.action x.tree x.at) limit (n + length os) (z.front ++ i) (z.front, i, head, act, refl)),
          o,
          ap (λ y. z.front ++ y) split ∙ sym (append_assoc z.front i j),
        );
        further = subst (λ y. Follows limit y os x.rest x.back) (staged_twice q.in_statements q.in_statements k) x.further;
        split = z.split ∙ (ap (λ y. z.front ++ y) x.split ∙ sym (append_assoc z.front x.front x.back));
        shorter = (let l = x.shorter in omega arith);
      }

  nested_action : (n : ℕ) (k : Scope) (os : List Open) (es : List Part) (w : List (Mark Token)) → Rest_of_file limit (at_conditions (suc n) k os) es w → Acts (suc n) k os es w
  nested_action n k os [] w h = absurd (false≢true h.0)
  nested_action n k os (f.action_part x at ∷ es) w h = plain_act (suc n) k os x at es w (first_part (at_conditions (suc n) k os) (f.action_part x at) es w h)
  nested_action n k os (f.condition_part e at ∷ es) w h = let z = first_part (at_conditions (suc n) k os) (f.condition_part e at) es w h in guarded_act (suc n) k os e at es w z (nested_action (suc n) (running k) os es z.back z.further)
  nested_action n k os (b ∷ es) w h = absurd (false≢true (may_be (at_conditions (suc n) k os) b es w (first_part (at_conditions (suc n) k os) b es w h)))

  -- Statements, and what stands behind them.
  pub record Block (k : Scope) (os : List Open) (es : List Part) (w : List (Mark Token)) : Type 0 where
    pub tree : Statements
    pub rest : List Part
    pub front : List (Mark Token)
    pub back : List (Mark Token)
    pub is_parts : es ≡ statements_parts tree rest
    pub is_word : Words (c.statements tree) limit (length os) front
    pub further : Follows limit k os rest back
    pub split : w ≡ front ++ back
    pub stops : begins_first rest ≡ false
    pub shorter : length rest ≤ length es

  pub record One (k : Scope) (os : List Open) (es : List Part) (w : List (Mark Token)) : Type 0 where
    pub tree : Statement
    pub rest : List Part
    pub front : List (Mark Token)
    pub back : List (Mark Token)
    pub is_parts : es ≡ statement_parts tree rest
    pub is_word : Words (c.statement tree) limit (length os) front
    pub further : Follows limit (running k) os rest back
    pub split : w ≡ front ++ back
    pub shorter : suc (length rest) ≤ length es

  -- what stands behind the first block of an IF construct, and behind the first statement of a SELECT CASE construct
  record Else_ifs (k : Scope) (os : List Open) (es : List Part) (w : List (Mark Token)) : Type 0 where
    pub others : ElseIfBlocks
    pub last : ElseBlock
    pub end : Pos
    pub rest : List Part
    pub front : List (Mark Token)
    pub back : List (Mark Token)
    pub is_parts : es ≡ else_if_parts others (else_parts last (f.end_if_part end ∷ rest))
    pub is_word : Words (c.else_ifs others ▸ c.else_block last ▸ p.from end (p.joined (codes "end") (codes "if")) ▸ p.over) limit (suc (length os)) front
    pub further : Follows limit k os rest back
    pub split : w ≡ front ++ back
    pub shorter : suc (length rest) ≤ length es

  record Cases (k : Scope) (os : List Open) (es : List Part) (w : List (Mark Token)) : Type 0 where
    pub blocks : CaseBlocks
    pub end : Pos
    pub rest : List Part
    pub front : List (Mark Token)
    pub back : List (Mark Token)
    pub is_parts : es ≡ case_parts blocks (f.end_select_part end ∷ rest)
    pub is_word : Words (c.case_blocks blocks ▸ p.from end (p.joined (codes "end") (codes "select")) ▸ p.over) limit (suc (length os)) front
    pub further : Follows limit k os rest back
    pub split : w ≡ front ++ back
    pub shorter : suc (length rest) ≤ length es

  pub whole_word : (s : State) (b : Part) (es : List Part) (w : List (Mark Token)) (z : First s b es w) → is_action b ≡ false → s.conditions ≡ 0 → Words (whole b) limit (length s.blocks) z.front
  whole_word s b es w z e n = subst (λ m. Words (within m (whole b)) limit (length s.blocks) z.front) n (part_word z.form s.conditions limit (length s.blocks) b z.front e z.is_word)

  regroup : (w u i j v x : List (Mark Token)) → w ≡ u ++ v → v ≡ i ++ j → u ++ i ≡ x → w ≡ x ++ j
  regroup w u i j v x e f g = e ∙ (ap (λ z. u ++ z) f ∙ (sym (append_assoc u i j) ∙ ap (λ z. z ++ j) g))

  other_first : (k : Scope) (o : Open) (os : List Open) (is : List Form) (b : Part) (es : List Part) (w : List (Mark Token)) → block_forms o ≡ is ++ statement_forms → begins b ≡ false → Follows limit k (o ∷ os) (b ∷ es) w → permitted is b ≡ true
  other_first k o os is b es w same e h = only_other is b e (subst (λ z. permitted z b ≡ true) same (may_be (place k (o ∷ os)) b es w (first_part (place k (o ∷ os)) b es w h)))

  -- the END of a block that stands first behind it
  record Closed {A : Type 0} (part_of : A → Part) (X : A → Phrase) (k : Scope) (os : List Open) (es : List Part) (w : List (Mark Token)) : Type 0 where
    pub end : A
    pub rest : List Part
    pub front : List (Mark Token)
    pub back : List (Mark Token)
    pub is_parts : es ≡ part_of end ∷ rest
    pub is_word : Words (X end) limit (suc (length os)) front
    pub further : Follows limit k os rest back
    pub split : w ≡ front ++ back
    pub shorter : suc (length rest) ≤ length es

  end_of_if : (k : Scope) (at : Pos) (os : List Open) (es : List Part) (w : List (Mark Token)) → begins_first es ≡ false → Follows limit k (q.else_open at ∷ os) es w → Closed f.end_if_part (λ end. p.from end (p.joined (codes "end") (codes "if")) ▸ p.over) k os es w
  end_of_if k at os [] w e h = absurd (false≢true h.0)
  end_of_if k at os (f.end_if_part end ∷ es) w e h =
      let z = first_part (place k (q.else_open at ∷ os)) (f.end_if_part end) es w h in
      record { end = end; rest = es; front = z.front; back = z.back; is_parts = refl; is_word = whole_word (place k (q.else_open at ∷ os)) (f.end_if_part end) es w z refl refl; further = z.further; split = z.split; shorter = omega arith }
  end_of_if k at os (b ∷ es) w e h = absurd (false≢true (other_first k (q.else_open at) os (f.end_if_form ∷ []) b es w refl e h))

  end_of_do : (k : Scope) (at : Pos) (os : List Open) (es : List Part) (w : List (Mark Token)) → begins_first es ≡ false → Follows limit k (q.do_open at ∷ os) es w → Closed (λ (x : End). f.end_do_part x.name x.at) (λ x. p.from x.at (p.joined (codes "end") (codes "do")) ▸ p.optional p.name x.name ▸ p.over) k os es w
  end_of_do k at os [] w e h = absurd (false≢true h.0)
  end_of_do k at os (f.end_do_part n end ∷ es) w e h =
      let z = first_part (place k (q.do_open at ∷ os)) (f.end_do_part n end) es w h in
      record { end = record { name = n; at = end }; rest = es; front = z.front; back = z.back; is_parts = refl; is_word = whole_word (place k (q.do_open at ∷ os)) (f.end_do_part n end) es w z refl refl; further = z.further; split = z.split; shorter = omega arith }
  end_of_do k at os (b ∷ es) w e h = absurd (false≢true (other_first k (q.do_open at) os (f.end_do_form ∷ []) b es w refl e h))

  end_of_critical : (k : Scope) (at : Pos) (os : List Open) (es : List Part) (w : List (Mark Token)) → begins_first es ≡ false → Follows limit k (q.critical_open at ∷ os) es w → Closed f.end_critical_part (λ end. p.from end (p.joined (codes "end") (codes "critical")) ▸ p.over) k os es w
  end_of_critical k at os [] w e h = absurd (false≢true h.0)
  end_of_critical k at os (f.end_critical_part end ∷ es) w e h =
      let z = first_part (place k (q.critical_open at ∷ os)) (f.end_critical_part end) es w h in
      record { end = end; rest = es; front = z.front; back = z.back; is_parts = refl; is_word = whole_word (place k (q.critical_open at ∷ os)) (f.end_critical_part end) es w z refl refl; further = z.further; split = z.split; shorter = omega arith }
  end_of_critical k at os (b ∷ es) w e h = absurd (false≢true (other_first k (q.critical_open at) os (f.end_critical_form ∷ []) b es w refl e h))

  end_of_team : (k : Scope) (at : Pos) (os : List Open) (es : List Part) (w : List (Mark Token)) → begins_first es ≡ false → Follows limit k (q.team_open at ∷ os) es w → Closed (λ (x : BracketedSpecifier × Pos). f.end_team_part x.0 x.1) (λ x. p.from x.1 (p.joined (codes "end") (codes "team")) ▸ c.bracketed_specifier x.0 ▸ p.over) k os es w
  end_of_team k at os [] w e h = absurd (false≢true h.0)
  end_of_team k at os (f.end_team_part y end ∷ es) w e h =
      let z = first_part (place k (q.team_open at ∷ os)) (f.end_team_part y end) es w h in
      record { end = (y, end); rest = es; front = z.front; back = z.back; is_parts = refl; is_word = whole_word (place k (q.team_open at ∷ os)) (f.end_team_part y end) es w z refl refl; further = z.further; split = z.split; shorter = omega arith }
  end_of_team k at os (b ∷ es) w e h = absurd (false≢true (other_first k (q.team_open at) os (f.end_team_form ∷ []) b es w refl e h))

  one_case : (k : Scope) (at : Pos) (os : List Open) (x : CaseSelector) (there : Pos) (es : List Part) (w u v : List (Mark Token)) → w ≡ u ++ v → Words (whole (f.case_part x there)) limit (suc (length os)) u → (y : Block k (q.case_open at ∷ os) es v) → Cases k os y.rest y.back → Cases k os (f.case_part x there ∷ es) w
  one_case k at os x there es w u v e head y r = let (i, j, m, o, e2) = r.is_word in record {
    blocks = s.more_case_blocks x y.tree there r.blocks;
    end = r.end;
    rest = r.rest;
    front = u ++ (y.front ++ r.front);
    back = r.back;
    is_parts = ap (λ z. f.case_part x there ∷ z) (y.is_parts ∙ ap (statements_parts y.tree) r.is_parts);
    is_word = (
      u ++ (y.front ++ i),
      j,
      ungroup (p.from there (p.key (codes "case")) ∷ c.case_selector x ∷ []) p.over (c.statements y.tree ▸ c.case_blocks r.blocks) limit (suc (length os)) (u ++ (y.front ++ i)) (u, y.front ++ i, head, (y.front, i, y.is_word, m, refl), refl),
      o,
      ap (λ z. u ++ z) (ap (λ z. y.front ++ z) e2 ∙ sym (append_assoc y.front i j)) ∙ sym (append_assoc u (y.front ++ i) j),
    );
    further = r.further;
    split = regroup w u (y.front ++ r.front) r.back v (u ++ (y.front ++ r.front)) e (y.split ∙ (ap (λ z. y.front ++ z) r.split ∙ sym (append_assoc y.front r.front r.back))) refl;
    shorter = (let m = y.shorter in let i = r.shorter in omega arith);
  }

  mutual
    pub nested_statements : (n : ℕ) (k : Scope) (os : List Open) (es : List Part) (w : List (Mark Token)) → length es + length es ≤ n → running k ≡ k → Follows limit k os es w → Block k os es w
    nested_statements n k os [] w l still h = record { tree = s.no_statements; rest = []; front = []; back = w; is_parts = refl; is_word = refl; further = h; split = refl; stops = refl; shorter = omega arith }
    nested_statements zero k os (b ∷ es) w l still h = absurd (omega arith)
    nested_statements (suc n) k os (b ∷ es) w l still h = by_test (begins b) refl
        (λ e. nested_one n k os b es w (omega arith) e h)
        (λ x. nested_statements n k os x.rest x.back (let m = x.shorter in omega arith) still (subst (λ z. Follows limit z os x.rest x.back) still x.further))
      where
        by_test : (z : Bool) → begins b ≡ z → (begins b ≡ true → One k os (b ∷ es) w) → ((x : One k os (b ∷ es) w) → Block k os x.rest x.back) → Block k os (b ∷ es) w
        by_test false e one more = record { tree = s.no_statements; rest = b ∷ es; front = []; back = w; is_parts = refl; is_word = refl; further = h; split = refl; stops = e; shorter = omega arith }
        by_test true e one more =
            let x = one e in
            let y = more x in
            record {
              tree = s.more_statements x.tree y.tree;
              rest = y.rest;
              front = x.front ++ y.front;
              back = y.back;
              is_parts = x.is_parts ∙ ap (statement_parts x.tree) y.is_parts;
              is_word = (x.front, y.front, x.is_word, y.is_word, refl);
              further = y.further;
              split = x.split ∙ (ap (λ z. x.front ++ z) y.split ∙ sym (append_assoc x.front y.front y.back));
              stops = y.stops;
              shorter = (let m = x.shorter in let o = y.shorter in omega arith);
            }

    pub nested_one : (n : ℕ) (k : Scope) (os : List Open) (b : Part) (es : List Part) (w : List (Mark Token)) → suc (length es + length es) ≤ n → begins b ≡ true → Follows limit k os (b ∷ es) w → One k os (b ∷ es) w
    nested_one zero k os b es w l e h = absurd (omega arith)
    nested_one (suc n) k os (f.action_part x at) es w l e h =
        let z = first_part (place k os) (f.action_part x at) es w h in
        let y = plain_act 0 k os x at es w z in
        record { tree = s.action y.tree y.at; rest = y.rest; front = y.front; back = y.back; is_parts = y.is_parts; is_word = y.is_word; further = y.further; split = y.split; shorter = y.shorter }
    nested_one (suc n) k os (f.condition_part x at) es w l e h =
        let z = first_part (place k os) (f.condition_part x at) es w h in
        let y = guarded_act 0 k os x at es w z (nested_action 0 (running k) os es z.back z.further) in
        record { tree = s.action y.tree y.at; rest = y.rest; front = y.front; back = y.back; is_parts = y.is_parts; is_word = y.is_word; further = y.further; split = y.split; shorter = y.shorter }
    nested_one (suc n) k os (f.if_part x at) es w l e h =
        let z = first_part (place k os) (f.if_part x at) es w h in
        let head = whole_word (place k os) (f.if_part x at) es w z refl refl in
        let y = nested_statements n (running k) (q.if_open at ∷ os) es z.back (omega arith) (staged_twice q.in_statements q.in_statements k) z.further in
        let o = nested_else_ifs n (running k) at os y.rest y.back (let m = y.shorter in omega arith) (staged_twice q.in_statements q.in_statements k) y.stops y.further in
        record {
          tree = s.if_construct x y.tree o.others o.last at o.end;
          rest = o.rest;
          front = z.front ++ (y.front ++ o.front);
          back = o.back;
          is_parts = ap (λ r. f.if_part x at ∷ r) (y.is_parts ∙ ap (statements_parts y.tree) o.is_parts);
          is_word = head_in at (p.key (codes "if") ∷ p.round (g.expr x) ∷ p.key (codes "then") ∷ []) p.over (c.statements y.tree ▸ c.else_ifs o.others ▸ c.else_block o.last ▸ p.from o.end (p.joined (codes "end") (codes "if")) ▸ p.over) limit (length os) (z.front ++ (y.front ++ o.front))
              (z.front, y.front ++ o.front, head, (y.front, o.front, y.is_word, o.is_word, refl), refl);
          further = o.further;
          split = regroup w z.front (y.front ++ o.front) o.back z.back (z.front ++ (y.front ++ o.front)) z.split (y.split ∙ (ap (λ r. y.front ++ r) o.split ∙ sym (append_assoc y.front o.front o.back))) refl;
          shorter = (let m = y.shorter in let i = o.shorter in omega arith);
        }
    nested_one (suc n) k os (f.do_part None x at) es w l e h =
        let z = first_part (place k os) (f.do_part None x at) es w h in
        let head = whole_word (place k os) (f.do_part None x at) es w z refl refl in
        let y = nested_statements n (running k) (q.do_open at ∷ os) es z.back (omega arith) (staged_twice q.in_statements q.in_statements k) z.further in
        let o = end_of_do (running k) at os y.rest y.back y.stops y.further in
        record {
          tree = s.do_construct None x y.tree at o.end;
          rest = o.rest;
          front = z.front ++ (y.front ++ o.front);
          back = o.back;
          is_parts = ap (λ r. f.do_part None x at ∷ r) (y.is_parts ∙ ap (statements_parts y.tree) o.is_parts);
          is_word = head_in at (p.nothing ∷ p.key (codes "do") ∷ c.loop_control x ∷ []) p.over (c.statements y.tree ▸ p.from o.end.at (p.joined (codes "end") (codes "do")) ▸ p.optional p.name o.end.name ▸ p.over) limit (length os) (z.front ++ (y.front ++ o.front))
              (z.front, y.front ++ o.front, head, (y.front, o.front, y.is_word, o.is_word, refl), refl);
          further = o.further;
          split = regroup w z.front (y.front ++ o.front) o.back z.back (z.front ++ (y.front ++ o.front)) z.split (y.split ∙ (ap (λ r. y.front ++ r) o.split ∙ sym (append_assoc y.front o.front o.back))) refl;
          shorter = (let m = y.shorter in let i = o.shorter in omega arith);
        }
    nested_one (suc n) k os (f.do_part (Some m2) x at) es w l e h =
        let z = first_part (place k os) (f.do_part (Some m2) x at) es w h in
        let head = whole_word (place k os) (f.do_part (Some m2) x at) es w z refl refl in
        let y = nested_statements n (running k) (q.do_open at ∷ os) es z.back (omega arith) (staged_twice q.in_statements q.in_statements k) z.further in
        let o = end_of_do (running k) at os y.rest y.back y.stops y.further in
        record {
          tree = s.do_construct (Some m2) x y.tree at o.end;
          rest = o.rest;
          front = z.front ++ (y.front ++ o.front);
          back = o.back;
          is_parts = ap (λ r. f.do_part (Some m2) x at ∷ r) (y.is_parts ∙ ap (statements_parts y.tree) o.is_parts);
          is_word = head_in at (c.construct_name m2 ∷ p.key (codes "do") ∷ c.loop_control x ∷ []) p.over (c.statements y.tree ▸ p.from o.end.at (p.joined (codes "end") (codes "do")) ▸ p.optional p.name o.end.name ▸ p.over) limit (length os) (z.front ++ (y.front ++ o.front))
              (z.front, y.front ++ o.front, head, (y.front, o.front, y.is_word, o.is_word, refl), refl);
          further = o.further;
          split = regroup w z.front (y.front ++ o.front) o.back z.back (z.front ++ (y.front ++ o.front)) z.split (y.split ∙ (ap (λ r. y.front ++ r) o.split ∙ sym (append_assoc y.front o.front o.back))) refl;
          shorter = (let m = y.shorter in let i = o.shorter in omega arith);
        }
    nested_one (suc n) k os (f.critical_part x at) es w l e h =
        let z = first_part (place k os) (f.critical_part x at) es w h in
        let head = whole_word (place k os) (f.critical_part x at) es w z refl refl in
        let y = nested_statements n (running k) (q.critical_open at ∷ os) es z.back (omega arith) (staged_twice q.in_statements q.in_statements k) z.further in
        let o = end_of_critical (running k) at os y.rest y.back y.stops y.further in
        record {
          tree = s.critical_construct x y.tree at o.end;
          rest = o.rest;
          front = z.front ++ (y.front ++ o.front);
          back = o.back;
          is_parts = ap (λ r. f.critical_part x at ∷ r) (y.is_parts ∙ ap (statements_parts y.tree) o.is_parts);
          is_word = head_in at (p.key (codes "critical") ∷ c.bracketed_specifier x ∷ []) p.over (c.statements y.tree ▸ p.from o.end (p.joined (codes "end") (codes "critical")) ▸ p.over) limit (length os) (z.front ++ (y.front ++ o.front))
              (z.front, y.front ++ o.front, head, (y.front, o.front, y.is_word, o.is_word, refl), refl);
          further = o.further;
          split = regroup w z.front (y.front ++ o.front) o.back z.back (z.front ++ (y.front ++ o.front)) z.split (y.split ∙ (ap (λ r. y.front ++ r) o.split ∙ sym (append_assoc y.front o.front o.back))) refl;
          shorter = (let m = y.shorter in let i = o.shorter in omega arith);
        }
    nested_one (suc n) k os (f.team_part x ps at) es w l e h =
        let z = first_part (place k os) (f.team_part x ps at) es w h in
        let head = whole_word (place k os) (f.team_part x ps at) es w z refl refl in
        let y = nested_statements n (running k) (q.team_open at ∷ os) es z.back (omega arith) (staged_twice q.in_statements q.in_statements k) z.further in
        let o = end_of_team (running k) at os y.rest y.back y.stops y.further in
        record {
          tree = s.change_team_construct x ps y.tree o.end.0 at o.end.1;
          rest = o.rest;
          front = z.front ++ (y.front ++ o.front);
          back = o.back;
          is_parts = ap (λ r. f.team_part x ps at ∷ r) (y.is_parts ∙ ap (statements_parts y.tree) o.is_parts);
          is_word = head_in at (p.key (codes "change") ∷ p.key (codes "team") ∷ a.team x ps ∷ []) p.over (c.statements y.tree ▸ p.from o.end.1 (p.joined (codes "end") (codes "team")) ▸ c.bracketed_specifier o.end.0 ▸ p.over) limit (length os) (z.front ++ (y.front ++ o.front))
              (z.front, y.front ++ o.front, head, (y.front, o.front, y.is_word, o.is_word, refl), refl);
          further = o.further;
          split = regroup w z.front (y.front ++ o.front) o.back z.back (z.front ++ (y.front ++ o.front)) z.split (y.split ∙ (ap (λ r. y.front ++ r) o.split ∙ sym (append_assoc y.front o.front o.back))) refl;
          shorter = (let m = y.shorter in let i = o.shorter in omega arith);
        }
    nested_one (suc n) k os (f.select_part x at) es w l e h =
        let z = first_part (place k os) (f.select_part x at) es w h in
        let head = whole_word (place k os) (f.select_part x at) es w z refl refl in
        let o = nested_cases n (running k) (q.select_open at) os es z.back (omega arith) (staged_twice q.in_statements q.in_statements k)
        (λ b r v i. may_be (place (running k) (q.select_open at ∷ os)) b r v (first_part (place (running k) (q.select_open at ∷ os)) b r v i)) z.further in
        record {
          tree = s.case_construct x o.blocks at o.end;
          rest = o.rest;
          front = z.front ++ o.front;
          back = o.back;
          is_parts = ap (λ r. f.select_part x at ∷ r) o.is_parts;
          is_word = head_in at (p.joined (codes "select") (codes "case") ∷ p.round (g.expr x) ∷ []) p.over (c.case_blocks o.blocks ▸ p.from o.end (p.joined (codes "end") (codes "select")) ▸ p.over) limit (length os) (z.front ++ o.front)
              (z.front, o.front, head, o.is_word, refl);
          further = o.further;
          split = regroup w z.front o.front o.back z.back (z.front ++ o.front) z.split o.split refl;
          shorter = (let i = o.shorter in omega arith);
        }
    nested_one (suc n) k os b es w l e h = absurd (false≢true e)

    nested_else_ifs : (n : ℕ) (k : Scope) (at : Pos) (os : List Open) (es : List Part) (w : List (Mark Token)) → length es + length es ≤ n → running k ≡ k → begins_first es ≡ false → Follows limit k (q.if_open at ∷ os) es w → Else_ifs k os es w
    nested_else_ifs n k at os [] w l still e h = absurd (false≢true h.0)
    nested_else_ifs zero k at os (b ∷ es) w l still e h = absurd (omega arith)
    nested_else_ifs (suc n) k at os (f.end_if_part end ∷ es) w l still e h =
        let z = first_part (place k (q.if_open at ∷ os)) (f.end_if_part end) es w h in
        let word = whole_word (place k (q.if_open at ∷ os)) (f.end_if_part end) es w z refl refl in
        record { others = s.no_else_ifs; last = s.no_else_block; end = end; rest = es; front = z.front; back = z.back; is_parts = refl; is_word = ([], z.front, refl, ([], z.front, refl, word, refl), refl); further = z.further; split = z.split; shorter = omega arith }
    nested_else_ifs (suc n) k at os (f.else_part there ∷ es) w l still e h =
        let z = first_part (place k (q.if_open at ∷ os)) (f.else_part there) es w h in
        let head = whole_word (place k (q.if_open at ∷ os)) (f.else_part there) es w z refl refl in
        let y = nested_statements n k (q.else_open at ∷ os) es z.back (omega arith) still z.further in
        let o = end_of_if k at os y.rest y.back y.stops y.further in
        record {
          others = s.no_else_ifs;
          last = s.else_block y.tree there;
          end = o.end;
          rest = o.rest;
          front = (z.front ++ y.front) ++ o.front;
          back = o.back;
          is_parts = ap (λ r. f.else_part there ∷ r) (y.is_parts ∙ ap (statements_parts y.tree) o.is_parts);
          is_word = ([], (z.front ++ y.front) ++ o.front, refl, (z.front ++ y.front, o.front, ungroup (p.from there (p.key (codes "else")) ∷ []) p.over (c.statements y.tree) limit (suc (length os)) (z.front ++ y.front) (z.front, y.front, head, y.is_word, refl), o.is_word, refl), refl);
          further = o.further;
          split = regroup w z.front (y.front ++ o.front) o.back z.back ((z.front ++ y.front) ++ o.front) z.split (y.split ∙ (ap (λ r. y.front ++ r) o.split ∙ sym (append_assoc y.front o.front o.back))) (sym (append_assoc z.front y.front o.front));
          shorter = (let m = y.shorter in let i = o.shorter in omega arith);
        }
    nested_else_ifs (suc n) k at os (f.else_if_part x there ∷ es) w l still e h =
        let z = first_part (place k (q.if_open at ∷ os)) (f.else_if_part x there) es w h in
        let head = whole_word (place k (q.if_open at ∷ os)) (f.else_if_part x there) es w z refl refl in
        let y = nested_statements n k (q.if_open at ∷ os) es z.back (omega arith) still z.further in
        let o = nested_else_ifs n k at os y.rest y.back (let m = y.shorter in omega arith) still y.stops y.further in
        let (i, j, m, r, e2) = o.is_word in
        record {
          others = s.more_else_ifs x y.tree there o.others;
          last = o.last;
          end = o.end;
          rest = o.rest;
          front = z.front ++ (y.front ++ o.front);
          back = o.back;
          is_parts = ap (λ r. f.else_if_part x there ∷ r) (y.is_parts ∙ ap (statements_parts y.tree) o.is_parts);
          is_word = (
            z.front ++ (y.front ++ i),
            j,
            ungroup (p.from there (p.joined (codes "else") (codes "if")) ∷ p.round (g.expr x) ∷ p.key (codes "then") ∷ []) p.over (c.statements y.tree ▸ c.else_ifs o.others) limit (suc (length os)) (z.front ++ (y.front ++ i))
                (z.front, y.front ++ i, head, (y.front, i, y.is_word, m, refl), refl),
            r,
            ap (λ v. z.front ++ v) (ap (λ v. y.front ++ v) e2 ∙ sym (append_assoc y.front i j)) ∙ sym (append_assoc z.front (y.front ++ i) j),
          );
          further = o.further;
          split = regroup w z.front (y.front ++ o.front) o.back z.back (z.front ++ (y.front ++ o.front)) z.split (y.split ∙ (ap (λ r. y.front ++ r) o.split ∙ sym (append_assoc y.front o.front o.back))) refl;
          shorter = (let m = y.shorter in let i = o.shorter in omega arith);
        }
    nested_else_ifs (suc n) k at os (b ∷ es) w l still e h = absurd (false≢true (other_first k (q.if_open at) os (f.end_if_form ∷ f.else_form ∷ f.else_if_form ∷ []) b es w refl e h))

    nested_cases : (n : ℕ) (k : Scope) (o : Open) (os : List Open) (es : List Part) (w : List (Mark Token)) → length es + length es ≤ n → running k ≡ k → ((b : Part) (r : List Part) (v : List (Mark Token)) → Follows limit k (o ∷ os) (b ∷ r) v → permitted (f.end_select_form ∷ f.case_form ∷ []) b ≡ true) → Follows limit k (o ∷ os) es w → Cases k os es w
    nested_cases n k o os [] w l still only h = absurd (false≢true h.0)
    nested_cases zero k o os (b ∷ es) w l still only h = absurd (omega arith)
    nested_cases (suc n) k o os (f.end_select_part end ∷ es) w l still only h =
        let z = first_part (place k (o ∷ os)) (f.end_select_part end) es w h in
        let word = whole_word (place k (o ∷ os)) (f.end_select_part end) es w z refl refl in
        record { blocks = s.no_case_blocks; end = end; rest = es; front = z.front; back = z.back; is_parts = refl; is_word = ([], z.front, refl, word, refl); further = z.further; split = z.split; shorter = omega arith }
    nested_cases (suc n) k o os (f.case_part x there ∷ es) w l still only h =
        let z = first_part (place k (o ∷ os)) (f.case_part x there) es w h in
        let head = whole_word (place k (o ∷ os)) (f.case_part x there) es w z refl refl in
        let y = nested_statements n k (q.case_open (q.place_of o) ∷ os) es z.back (omega arith) still z.further in
        one_case k (q.place_of o) os x there es w z.front z.back z.split head y (later_cases n k (q.place_of o) os y.rest y.back (let m = y.shorter in omega arith) still y.stops y.further)
    nested_cases (suc n) k o os (b ∷ es) w l still only h = absurd (false≢true (only b es w h))

    -- behind a block of a CASE statement
    later_cases : (n : ℕ) (k : Scope) (at : Pos) (os : List Open) (es : List Part) (w : List (Mark Token)) → length es + length es ≤ n → running k ≡ k → begins_first es ≡ false → Follows limit k (q.case_open at ∷ os) es w → Cases k os es w
    later_cases n k at os [] w l still e h = absurd (false≢true h.0)
    later_cases zero k at os (b ∷ es) w l still e h = absurd (omega arith)
    later_cases (suc n) k at os (f.end_select_part end ∷ es) w l still e h =
        let z = first_part (place k (q.case_open at ∷ os)) (f.end_select_part end) es w h in
        let word = whole_word (place k (q.case_open at ∷ os)) (f.end_select_part end) es w z refl refl in
        record { blocks = s.no_case_blocks; end = end; rest = es; front = z.front; back = z.back; is_parts = refl; is_word = ([], z.front, refl, word, refl); further = z.further; split = z.split; shorter = omega arith }
    later_cases (suc n) k at os (f.case_part x there ∷ es) w l still e h =
        let z = first_part (place k (q.case_open at ∷ os)) (f.case_part x there) es w h in
        let head = whole_word (place k (q.case_open at ∷ os)) (f.case_part x there) es w z refl refl in
        let y = nested_statements n k (q.case_open at ∷ os) es z.back (omega arith) still z.further in
        one_case k at os x there es w z.front z.back z.split head y (later_cases n k at os y.rest y.back (let m = y.shorter in omega arith) still y.stops y.further)
    later_cases (suc n) k at os (b ∷ es) w l still e h = absurd (false≢true (other_first k (q.case_open at) os (f.end_select_form ∷ f.case_form ∷ []) b es w refl e h))
