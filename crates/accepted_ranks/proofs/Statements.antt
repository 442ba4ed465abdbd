-- Statements and constructs have the ranks that they want.
use Rattle.std.proofs.Common.{ℕ, ◌+◌, Bool, true, false, List, [], length}
use Rattle.std.specs.Prelude.{cond, not, nat_eq, ◌||◌, Option, Some, None}
use Rattle.caf_base.specs.declared.place.Pos.{Pos}
use Rattle.caf_base.specs.declared.value.Kind.TheVariants.{I4, I8, L4}
use Rattle.fortran_tree.specs.Statements as fs
use Rattle.checked_tree.specs.Statements as ts
use Rattle.checked_tree.specs.Statements.{Procedure}
use Rattle.checked_tree.specs.declared.data.DataType.{DataType}
use Rattle.checked_tree.specs.declared.data.DataType.TheVariants.{Intrinsic, Team, Event, Lock}
use Rattle.checked_tree.specs.declared.data.Local.{Local}
use Rattle.checked_tree.specs.declared.data.Object.{Object}
use Rattle.checked_tree.specs.declared.data.Object.TheVariants as objects
use Rattle.number_operators.specs.Kinds.{IsInteger}
use Rattle.rule_definitions.specs.Judgements.{unless, Judgement, refused, unknown, then}
use Rattle.rule_definitions.specs.Names
use Rattle.rule_definitions.specs.Names.{Scope, Symbol, Meaning, denotes, is_integer, is_logical}
use Rattle.rule_definitions.specs.Parts.{Placed, type_of, rank_of, scalar_breaks, unlike_breaks}
use Rattle.rule_definitions.specs.Expressions.{judged_specifiers, placed}
use Rattle.rule_definitions.specs.Actions.{loop, selection, critical, team_change, is_active, has_intent_in}
use Rattle.rule_definitions.specs.Statements
use Rattle.rule_definitions.specs.Statements.{counted_statement, counted_statements, counted_else_ifs, behind, Position, site_of, past, within, Control, Counter, counter_typed, counter_found, inactive, counter_judged, judged_control, loop_variable, end_breaks, hidden_of, loop_form, selector_breaks, selecting, judged_ranges, Cases, Selected, no_selected, with_case, with_default, select_form, bracketed, critical_form, team_form, if_form, more_else_ifs, behind_case, case_joined, on_line, judged_statement, judged_statements, judged_else_ifs, judged_else, judged_cases}
use Rattle.accepted_ranks.specs.Kinded as ranks
use Rattle.accepted_ranks.specs.Scopes.{AreRanks}
use Rattle.accepted_ranks.proofs.Means.{Means, right_nothing, refused_means, unknown_means, then_means, fine_means, ruled_means, under_means, made_means, both_means, three_means}
use Rattle.accepted_ranks.proofs.Parts.{Good, Scalar, plain_means, scalar_of, team_means}
use Rattle.accepted_ranks.proofs.Specifiers.{AllWritten}
use Rattle.accepted_ranks.proofs.Expressions.{judged_means, specifiers_all}
use Rattle.accepted_ranks.proofs.Subroutines.{four_means}
use Rattle.accepted_ranks.proofs.Actions.{any, stat_alone, controlled_means, condition_means, code_means, maybe_code, action_means}

-- ---- the variable of a loop is of integers
abbrev Counts : Counter → Type 0
Counts c = IsInteger c.kind

abbrev Counting : Option Counter → Type 0
Counting None = Unit {0}
Counting (Some c) = Counts c

cond_counting : (b : Bool) (c : Counter) → Counts c → Counting (cond b (Some c) None)
cond_counting true c h = h
cond_counting false c h = tt

typed_counting : (l : Local) (r : ℕ) (y : DataType) → Counting (counter_typed l r y)
typed_counting l r (Intrinsic I4) = cond_counting (nat_eq r 0) (record { variable = l; kind = I4 }) tt
typed_counting l r (Intrinsic I8) = cond_counting (nat_eq r 0) (record { variable = l; kind = I8 }) tt
typed_counting l r (Intrinsic L4) = tt
typed_counting l r Team = tt
typed_counting l r Event = tt
typed_counting l r Lock = tt

found_counting : (o : Option Counter) (p : Pos) → Counting o → Means (counter_found o p) Counts
found_counting None p h = refused_means 40 p
found_counting (Some c) p h = fine_means c h

module _ (x : Position) (y : Symbol) (p : Pos) where
  of_type_counting : (l : Local) (o : Option DataType) → Means (elim o [ None ↦ unknown {T = Counter} | Some u ↦ then (counter_found (counter_typed l (length y.bounds) u) p) (inactive x y p) ]) Counts
  of_type_counting l None = unknown_means
  of_type_counting l (Some u) = then_means (inactive x y p) (found_counting (counter_typed l (length y.bounds) u) p (typed_counting l (length y.bounds) u))
      (λ c h. ruled_means (unless (not (is_active c.variable x.around || has_intent_in (Some y))) 32 p) (λ k. fine_means c h))

  symbol_counting : (o : Object) → Means (elim o [ objects.Local l ↦ elim y.of_type [ None ↦ unknown {T = Counter} | Some u ↦ then (counter_found (counter_typed l (length y.bounds) u) p) (inactive x y p) ] | objects.Coarray n ↦ refused 40 p | objects.Constant n ↦ refused 40 p ]) Counts
  symbol_counting (objects.Local l) = of_type_counting l y.of_type
  symbol_counting (objects.Coarray n) = refused_means 40 p
  symbol_counting (objects.Constant n) = refused_means 40 p

counter_means : (x : Position) (m : Option Meaning) (p : Pos) → Means (counter_judged x m p) Counts
counter_means x None p = refused_means 20 p
counter_means x (Some (Names.variable y)) p = symbol_counting x y p y.object
counter_means x (Some (Names.constant c)) p = refused_means 40 p
counter_means x (Some (Names.subroutine n)) p = refused_means 40 p
counter_means x (Some (Names.function n)) p = refused_means 40 p
counter_means x (Some (Names.module_constant n)) p = refused_means 40 p
counter_means x (Some (Names.module_type n)) p = refused_means 40 p
counter_means x (Some (Names.intrinsic_function n)) p = refused_means 40 p
counter_means x (Some (Names.intrinsic_subroutine n)) p = refused_means 40 p

module _ (ps : List Procedure) where
  -- ---- loops
  abbrev Controls : Control → Type 0
  Controls Statements.forever = Unit {0}
  Controls (Statements.while e) = Scalar ps e
  Controls (Statements.counted l k a b c) = IsInteger k × Scalar ps a × Scalar ps b × ranks.IsOptionalScalar ps c

  control_means : (x : Position) → AreRanks ps x.scope → (k : fs.LoopControl) → Means (judged_control x k) Controls
  control_means x r fs.unlimited = fine_means Statements.forever tt
  control_means x r (fs.while e) = made_means Statements.while (condition_means ps x.scope r e) (λ y u. u)
  control_means x r (fs.counted n a b c) = four_means (λ v l u k. Statements.counted v.variable v.kind l u k) (counter_means x (denotes x.scope n.text) n.at) (code_means ps x.scope r a) (code_means ps x.scope r b) (maybe_code ps x.scope r c)
      (λ v l u k h i j m. (h, i, j, m))

  loop_ranked : (h : ℕ) (k : Control) (body : ts.Statements) → Controls k → ranks.AreStatements ps body → ranks.IsStatement ps (loop_form h k body)
  loop_ranked h Statements.forever body c b = b
  loop_ranked h (Statements.while e) body c b = (c, b)
  loop_ranked h (Statements.counted l k x y z) body c b = (c.0, c.1, c.2, c.3, b)

  -- ---- cases
  selecting_means : (e : Placed) → Good ps e → Means (selecting e) (Scalar ps)
  selecting_means e h = under_means (selector_breaks e.at) (plain_means ps e h)
      (λ x k b. scalar_of ps x e.at k (right_nothing (cond (is_integer (type_of x) || is_logical (type_of x)) [] (unlike_breaks 44 (type_of x) e.at)) (scalar_breaks (rank_of x) e.at) b))

  abbrev Selects : Selected → Type 0
  Selects x = ranks.AreCases ps x.cases × ranks.AreStatements ps x.otherwise

  joined_means : (s : Scope) (k : Cases) (y : fs.CaseSelector) (p : Pos) {a : Judgement ts.Statements} {b : Judgement Selected} → Means a (ranks.AreStatements ps) → Means b Selects → Means (case_joined s k y p a b) Selects
  joined_means s k fs.default p h g = ruled_means (unless (not k.has_default) 44 p) (λ u. both_means with_default h g (λ x y v w. (w.0, v)))
  joined_means s k (fs.ranges rs) p h g = three_means (with_case p.line) (any {j = judged_ranges s k.selector k.ranges rs}) h g (λ q x y u v w. ((v, w.0), w.1))

  bracketed_all : (s : Scope) → AreRanks ps s → (b : fs.BracketedSpecifier) → AllWritten ps (bracketed s b)
  bracketed_all s r (fs.present n e) = (judged_means ps s r e, tt)
  bracketed_all s r fs.absent = tt
  bracketed_all s r fs.empty = tt

  -- ---- statements
  abbrev Lined : ts.Statement → Type 0
  Lined (ts.on_line x l) = ranks.IsStatement ps x

  line_means : (p : Pos) {j : Judgement ts.StatementForm} → Means j (ranks.IsStatement ps) → Means (on_line p j) Lined
  line_means p h = made_means (λ x. ts.on_line x p.line) h (λ x u. u)

  more_ranked : (y : ts.Statement) (ys : ts.Statements) → Lined y → ranks.AreStatements ps ys → ranks.AreStatements ps (ts.more_statements y ys)
  more_ranked (ts.on_line x l) ys h k = (h, k)

  mutual
    unfolding judged_statement judged_statements judged_else_ifs judged_else judged_cases

    statement_means : (x : Position) → AreRanks ps x.scope → (y : fs.Statement) → Means (judged_statement x y) Lined
    statement_means x r (fs.action a p) = line_means p (action_means ps (site_of x) r a p)
    statement_means x r (fs.if_construct e body eis o p q) = line_means p (four_means if_form (condition_means ps x.scope r e) (statements_means x r body) (else_ifs_means (past x (counted_statements body)) r eis)
        (else_means (past x (behind (counted_statements body) (counted_else_ifs eis))) r o) (λ c b i n u v w z. (u, v, w, z)))
    statement_means x r (fs.do_construct n k body p end) = line_means p (ruled_means (end_breaks n end.name) (λ u. both_means (loop_form (hidden_of x.around)) (control_means x r k) (statements_means (within x (loop n (loop_variable x k))) r body) (λ c b v w. loop_ranked (hidden_of x.around) c b v w)))
    statement_means x r (fs.case_construct e cs p q) = line_means p (both_means (select_form (hidden_of x.around)) (selecting_means (placed x.scope e) (judged_means ps x.scope r e))
        (cases_means (within x selection) r (record { selector = (selecting (placed x.scope e)).meaning; ranges = []; has_default = false }) cs) (λ c y u v. (u, v.0, v.1)))
    statement_means x r (fs.critical_construct y body p q) = line_means p (controlled_means ps (site_of x) p (both_means (critical_form (x.criticals + 1) q.line) (stat_alone ps (bracketed x.scope y) (bracketed_all x.scope r y))
        (statements_means (within (record x { criticals = x.criticals + 1 }) critical) r body) (λ c b u v. (u, v))))
    statement_means x r (fs.change_team_construct e xs body y p q) = line_means p (controlled_means ps (site_of x) p (four_means (team_form q.line) (team_means ps 51 (placed x.scope e) (judged_means ps x.scope r e)) (stat_alone ps (judged_specifiers x.scope xs) (specifiers_all ps x.scope r xs))
        (statements_means (within x team_change) r body) (stat_alone ps (bracketed x.scope y) (bracketed_all x.scope r y)) (λ c a b d u v w z. (u, v, w, z))))

    pub statements_means : (x : Position) → AreRanks ps x.scope → (ys : fs.Statements) → Means (judged_statements x ys) (ranks.AreStatements ps)
    statements_means x r fs.no_statements = fine_means ts.no_statements tt
    statements_means x r (fs.more_statements y rest) = both_means ts.more_statements (statement_means x r y) (statements_means (past x (counted_statement y)) r rest) (λ a b u v. more_ranked a b u v)

    else_ifs_means : (x : Position) → AreRanks ps x.scope → (ys : fs.ElseIfBlocks) → Means (judged_else_ifs x ys) (ranks.AreElseIfs ps)
    else_ifs_means x r fs.no_else_ifs = fine_means ts.no_else_ifs tt
    else_ifs_means x r (fs.more_else_ifs e body p rest) = three_means (more_else_ifs p.line) (condition_means ps x.scope r e) (statements_means x r body) (else_ifs_means (past x (counted_statements body)) r rest) (λ c b i u v w. (u, v, w))

    else_means : (x : Position) → AreRanks ps x.scope → (o : fs.ElseBlock) → Means (judged_else x o) (ranks.AreStatements ps)
    else_means x r fs.no_else_block = fine_means ts.no_statements tt
    else_means x r (fs.else_block body p) = statements_means x r body

    cases_means : (x : Position) → AreRanks ps x.scope → (k : Cases) (cs : fs.CaseBlocks) → Means (judged_cases x k cs) Selects
    cases_means x r k fs.no_case_blocks = fine_means no_selected (tt, tt)
    cases_means x r k (fs.more_case_blocks y body p rest) = joined_means x.scope k y p (statements_means x r body) (cases_means (past x (counted_statements body)) r (behind_case x.scope k y) rest)
