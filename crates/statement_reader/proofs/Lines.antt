-- Actions as statements, CASE, and the END statements of procedures and programs are read exactly.
use Rattle.std.proofs.Common.{◌≡◌, ℕ, suc, ◌+◌, ◌≤◌, Bool, true, false, codes, List, [], ◌∷◌, ◌++◌, Option, Some, None, inl, inr, refl, ap, sym, ◌∙◌, subst, arith, append-nil}
use Rattle.std.proofs.lemmas.Bool.{false≢true, lt-ltb}
use Rattle.caf_base.specs.declared.place.Pos.{Pos}
use Rattle.reader_theory.specs.Words.{Mark, bare, ◌⟫◌}
use Rattle.reader_theory.specs.Levels.{mark, One}
use Rattle.reader_theory.specs.Readers.{token, both, first, mapped, optional, behind, pair}
use Rattle.reader_theory.specs.Exactness.{Stops, never, Heads, Sunken, Exact}
use Rattle.reader_theory.specs.Languages.{Or}
use Rattle.reader_theory.proofs.Independent.{Both}
use Rattle.reader_theory.proofs.Marks.{never_stops}
use Rattle.reader_theory.proofs.Sequence.{exact_both}
use Rattle.reader_theory.proofs.Single.{relabel}
use Rattle.reader_theory.proofs.Choice.{exact_pick}
use Rattle.fortran_tokens.specs.declared.token.Sign.TheVariants as sign
use Rattle.fortran_tree.specs.declared.name.Name.{Name}
use Rattle.fortran_tree.specs.Expressions as e
use Rattle.fortran_tree.specs.Expressions.{Expression, Designator}
use Rattle.fortran_tree.specs.Statements as s
use Rattle.fortran_tree.specs.Statements.{ActionStatement, CaseRange, CaseSelector}
use Rattle.fortran_grammar.specs.Tokens as t
use Rattle.fortran_grammar.specs.Tokens.{Tok, Token}
use Rattle.fortran_grammar.specs.Phrases as p
use Rattle.fortran_grammar.specs.Phrases.{Phrase, Words, FirstAt, ◌▸◌, ◌∪◌}
use Rattle.fortran_grammar.specs.ExpressionGrammar as g
use Rattle.fortran_grammar.specs.ActionGrammar as a
use Rattle.fortran_grammar.specs.StatementGrammar as c
use Rattle.expr_reader.specs.Openings.{opens, goes}
use Rattle.expr_reader.specs.Tests.{is_sign, is_key, is_word, name_of, a_name, Placed, placed, list_of}
use Rattle.statement_reader.specs.Families.{Family, rounded, an_expression, is_one_of}
use Rattle.statement_reader.specs.Actions.{a_designator, a_key, maybe_expression, of_two}
use Rattle.statement_reader.specs.Keywords.{a_keyword_action}
use Rattle.statement_reader.specs.Heads.{is_over, an_end, with, located, an_if}
use Rattle.statement_reader.specs.Lines.{an_assignment, is_assignment, line_of, assignment_line, keyword_line, if_prefix, construct_prefix, at_most_of, range_of, colon_bound, a_case_range, a_case_selector, case_line}
use Rattle.expr_reader.proofs.Phrases.{Of, word_tok, sign_in, sign_out, exact_sign, or_comma}
use Rattle.expr_reader.proofs.Pieces.{either_of, stops_first, stops_second}
use Rattle.expr_reader.proofs.Placing.{exact_placed}
use Rattle.statement_reader.proofs.Families.{Everywhere, Made, beyond, until_over, each_expression, each_name, each_key, each_behind_sign, each_round, each_listed, each_maybe, each_made, each_pair, sign_heads, sign_stops, key_heads, expression_heads, heads_stop}
use Rattle.statement_reader.proofs.Actions.{stop_more, each_designator, each_maybe_expression}
use Rattle.statement_reader.proofs.Dimensions.{opens_no_colon}
use Rattle.statement_reader.proofs.Keywords.{Form, Keyword_action, action_keywords, each_keyword_action, keyword_heads}
use Rattle.reader_theory.proofs.Levels.{exact_one}
use Rattle.statement_reader.proofs.Heads.{over_tok, each_ended, each_located, each_deeper, each_if}

-- assignments
abbrev assigned_phrase : Designator × Expression → Phrase
assigned_phrase q = g.designator q.0 ▸ (p.sign sign.Assign ▸ g.expr q.1)

each_assigned : Everywhere (Of assigned_phrase) (goes 0) (λ left. both pair (a_designator left) (behind (is_sign sign.Assign) (an_expression left)))
each_assigned = each_pair g.designator (λ x. p.sign sign.Assign ▸ g.expr x) (goes 8) (goes 0) a_designator (λ left. behind (is_sign sign.Assign) (an_expression left)) each_designator (each_behind_sign g.expr (goes 0) an_expression each_expression sign.Assign)
    (λ l d x w rest k st. sign_stops sign.Assign (g.expr x) l d w rest (goes 8) (λ at. refl) k)

abbrev pub Assignment : Form
Assignment l d f w = (is_assignment f ≡ true) × Words (a.action_statement f) l d w

pub each_assignment : Everywhere Assignment beyond an_assignment
each_assignment limit left level k = relabel (Made (of_two s.assignment) assigned_phrase limit level) (Assignment limit level) (an_assignment left) (goes 0) beyond
    (each_made (of_two s.assignment) assigned_phrase (goes 0) (λ left. both pair (a_designator left) (behind (is_sign sign.Assign) (an_expression left))) each_assigned limit left level k)
    (λ f w (q, is, o). (ap is_assignment is, subst (λ z. Words (a.action_statement z) limit level w) (sym is) o)) from (until_over (goes 0) (λ at. refl))
  where
    from : (f : ActionStatement) (w : List (Mark Token)) → Assignment limit level f w → Made (of_two s.assignment) assigned_phrase limit level f w
    from (s.assignment d x) w o = ((d, x), refl, o.1)
    from (s.call n args) w o = absurd (false≢true o.0)
    from (s.print x is) w o = absurd (false≢true o.0)
    from (s.exit n) w o = absurd (false≢true o.0)
    from (s.cycle n) w o = absurd (false≢true o.0)
    from s.return w o = absurd (false≢true o.0)
    from (s.stop x) w o = absurd (false≢true o.0)
    from (s.error_stop x) w o = absurd (false≢true o.0)
    from s.fail_image w o = absurd (false≢true o.0)
    from (s.allocate os ps) w o = absurd (false≢true o.0)
    from (s.deallocate os ps) w o = absurd (false≢true o.0)
    from (s.sync_all ps) w o = absurd (false≢true o.0)
    from (s.sync_memory ps) w o = absurd (false≢true o.0)
    from (s.sync_images i ps) w o = absurd (false≢true o.0)
    from (s.sync_team x ps) w o = absurd (false≢true o.0)
    from (s.form_team x n ps) w o = absurd (false≢true o.0)
    from (s.lock d ps) w o = absurd (false≢true o.0)
    from (s.unlock d ps) w o = absurd (false≢true o.0)
    from (s.event_post d ps) w o = absurd (false≢true o.0)
    from (s.event_wait d ps) w o = absurd (false≢true o.0)
    from (s.if_statement x f at) w o = absurd (false≢true o.0)

-- An action at its place with the end of its statement.
module _ (L : Form) (r : Family ActionStatement) (x : Everywhere L beyond r) (test : Token → Bool) (heads : (l d : ℕ) (f : ActionStatement) (w : List (Mark Token)) → L l d f w → Heads test w) where
  abbrev At_place : ℕ → ℕ → Pos × ActionStatement → List (Mark Token) → Type 0
  At_place l d q w = FirstAt q.0 w × L l d q.1 w

  -- behind so many conditions; the end of the statement stands in none of them
  abbrev pub Line : ℕ → ℕ → ℕ → Pos × ActionStatement → List (Mark Token) → Type 0
  Line n l d q w = (At_place l (n + d) q ⟫ Words p.over l d) w

  each_at_place : Everywhere At_place beyond (λ left. placed pair (r left))
  each_at_place limit left level k = relabel (Placed pair (L limit level)) (At_place limit level) (placed pair (r left)) beyond beyond
      (exact_placed pair (L limit level) test (heads limit level) beyond (r left) (x limit left level k))
      (λ q w (at, f, is, there, o). subst (λ z. At_place limit level z w) (sym is) (there, o)) (λ q w (there, o). (q.0, q.1, refl, there, o)) (λ rest o. o)

  pub each_line : (n limit left level : ℕ) → (n + level) + left ≡ limit → Exact (Line n limit level) never (line_of r left)
  each_line n limit left level k = let here : level ≤ limit = omega arith in
      relabel (Both first (At_place limit (n + level)) (One is_over limit level)) (Line n limit level) (line_of r left) never never
      (exact_both first (At_place limit (n + level)) (One is_over limit level) (placed pair (r left)) (token is_over) beyond never (each_at_place limit left (n + level) k) (exact_one limit level is_over (record { tok = t.over; at = record { line = 0; col = 0 } }) refl here)
      (λ y w rest o st. subst (λ z. Stops beyond (bare z ++ rest)) (sym o.1) (subst (λ k. beyond (record { tok = k; at = y.at }) ≡ false) (sym (over_tok y.tok o.0)) refl)))
      (λ q w (b, y, is, (u, v, o, i, split)). (u, v, subst (λ z. At_place limit (n + level) z u) (sym is) o, (y.at, i.1 ∙ ap (λ k. mark limit level (record { tok = k; at = y.at }) ∷ []) (over_tok y.tok i.0)), split))
      (λ q w (u, v, o, (at, i), split). (q, record { tok = t.over; at = at }, refl, (u, v, o, (refl, i), split))) (λ rest o. o)

pub assignment_heads : (l d : ℕ) (f : ActionStatement) (w : List (Mark Token)) → Assignment l d f w → Heads is_word w
assignment_heads l d (s.assignment (e.part_ref n xs m) x) w (k, (u, v, (i, j, o, rest, split2), q, split)) = subst (Heads is_word) (sym (split ∙ ap (λ z. z ++ v) (split2 ∙ ap (λ z. z ++ j) o))) refl
assignment_heads l d f w (k, o) = absurd (false≢true k)

-- an assignment, and an action that begins with a keyword, with the end of its statement
abbrev pub Assignment_line : ℕ → ℕ → ℕ → Pos × ActionStatement → List (Mark Token) → Type 0
Assignment_line = Line Assignment an_assignment each_assignment is_word assignment_heads

pub each_assignment_line : (n limit left level : ℕ) → (n + level) + left ≡ limit → Exact (Assignment_line n limit level) never (assignment_line left)
each_assignment_line = each_line Assignment an_assignment each_assignment is_word assignment_heads

abbrev pub Keyword_line : ℕ → ℕ → ℕ → Pos × ActionStatement → List (Mark Token) → Type 0
Keyword_line = Line Keyword_action a_keyword_action each_keyword_action (is_one_of action_keywords) keyword_heads

pub each_keyword_line : (n limit left level : ℕ) → (n + level) + left ≡ limit → Exact (Keyword_line n limit level) never (keyword_line left)
each_keyword_line = each_line Keyword_action a_keyword_action each_keyword_action (is_one_of action_keywords) keyword_heads

pub each_if_prefix : Everywhere (Of (λ q. p.from q.0 (p.deeper (p.key (codes "if") ▸ p.round (g.expr q.1))))) never if_prefix
each_if_prefix = each_located (λ x. p.deeper (p.key (codes "if") ▸ p.round (g.expr x))) is_word never an_if each_if (λ l d x w k. key_heads (codes "if") (p.round (g.expr x)) l (suc d) w is_word (λ at. refl) k)

-- NAME ":" before DO
construct_begins : (l d : ℕ) (y : Token) → is_word y ≡ true → (n : Name) × (v : List (Mark Token)) × Words (p.name n ▸ p.sign sign.Colon) l d (mark l d y ∷ v)
construct_begins l d y i = (name_of y, mark l d (record { tok = t.sign sign.Colon; at = y.at }) ∷ [], (mark l d y ∷ [], _ ∷ [], ap (λ k. mark l d (record { tok = k; at = y.at }) ∷ []) (word_tok y.tok i), (y.at, refl), refl))

each_named_colon : Everywhere (Of (λ n. p.name n ▸ p.sign sign.Colon)) never (λ left. both first a_name (token (is_sign sign.Colon)))
each_named_colon limit left level k = let here : level ≤ limit = omega arith in
    relabel (Both first (Of p.name limit level) (One (is_sign sign.Colon) limit level)) (Of (λ n. p.name n ▸ p.sign sign.Colon) limit level) (both first a_name (token (is_sign sign.Colon))) never never
    (exact_both first (Of p.name limit level) (One (is_sign sign.Colon) limit level) a_name (token (is_sign sign.Colon)) never never (each_name limit left level k) (exact_sign limit level here sign.Colon) (λ b w rest o st. never_stops (bare w ++ rest)))
    (λ n w (m, y, is, (u, v, o, i, split)). subst (λ z. Words (p.name z ▸ p.sign sign.Colon) limit level w) (sym is) (u, v, o, sign_in limit level sign.Colon y v i, split))
    (λ n w (u, v, o, i, split). let q = sign_out limit level sign.Colon v i in (n, q.0, refl, (u, v, o, q.1, split))) (λ rest o. o)

pub each_construct_prefix : Everywhere (Of (λ n. p.deeper (c.construct_name n))) never construct_prefix
each_construct_prefix = each_deeper (λ n. p.name n ▸ p.sign sign.Colon) is_word never (λ left. both first a_name (token (is_sign sign.Colon))) each_named_colon
    (λ l d n w (u, v, o, i, split). subst (Heads is_word) (sym (split ∙ ap (λ z. z ++ v) o)) refl)
    (λ l d n w (u, v, o, i, split) le. subst (Sunken is_word) (sym (split ∙ ap (λ z. z ++ v) o)) (refl, lt-ltb l (suc d) (omega arith))) construct_begins

-- ranges of CASE
abbrev range_more : Token → Bool
range_more = either_of (is_sign sign.Colon) stop_more

abbrev open_phrase : Pos × Expression → Phrase
open_phrase q = p.from q.0 (p.sign sign.Colon ▸ g.expr q.1)

each_open_range : Everywhere (Of open_phrase) (goes 0) (located (λ l. behind (is_sign sign.Colon) (an_expression l)))
each_open_range = each_located (λ x. p.sign sign.Colon ▸ g.expr x) (is_sign sign.Colon) (goes 0) (λ l. behind (is_sign sign.Colon) (an_expression l)) (each_behind_sign g.expr (goes 0) an_expression each_expression sign.Colon)
    (λ l d x w k. sign_heads sign.Colon (g.expr x) l d w (is_sign sign.Colon) (λ at. refl) k)

abbrev upper_phrase : Option Expression → Phrase
upper_phrase o = p.sign sign.Colon ▸ p.optional g.expr o

abbrev span_phrase : Expression × Option (Option Expression) → Phrase
span_phrase q = g.expr q.0 ▸ p.optional upper_phrase q.1

each_span : Everywhere (Of span_phrase) range_more (λ left. both pair (an_expression left) (optional (is_sign sign.Colon) (colon_bound left)))
each_span = each_pair g.expr (p.optional upper_phrase) (goes 0) range_more an_expression (λ left. optional (is_sign sign.Colon) (colon_bound left)) each_expression
    (each_maybe upper_phrase stop_more colon_bound (each_behind_sign (p.optional g.expr) stop_more maybe_expression each_maybe_expression sign.Colon) (is_sign sign.Colon) range_more
    (λ l d o w k. sign_heads sign.Colon (p.optional g.expr o) l d w (is_sign sign.Colon) (λ at. refl) k) (stops_second (is_sign sign.Colon) stop_more) (stops_first (is_sign sign.Colon) stop_more))
    apart
  where
    apart : (l d : ℕ) (o : Option (Option Expression)) (w : List (Mark Token)) (rest : List Token) → Words (p.optional upper_phrase o) l d w → Stops range_more rest → Stops (goes 0) (bare w ++ rest)
    apart l d None w rest k st = subst (λ z. Stops (goes 0) (bare z ++ rest)) (sym k) (stops_second (opens 1) (goes 0) rest (stops_second (is_sign sign.Colon) stop_more rest st))
    apart l d (Some o) w rest k st = sign_stops sign.Colon (p.optional g.expr o) l d w rest (goes 0) (λ at. refl) k

abbrev Opened : ℕ → ℕ → CaseRange → List (Mark Token) → Type 0
Opened = Made at_most_of open_phrase

abbrev Spanned : ℕ → ℕ → CaseRange → List (Mark Token) → Type 0
Spanned = Made range_of span_phrase

each_case_range : Everywhere (Of c.case_range) range_more a_case_range
each_case_range limit left level k = relabel (Or (Opened limit level) (Spanned limit level)) (Of c.case_range limit level) (a_case_range left) range_more range_more
    (exact_pick (is_sign sign.Colon) (Opened limit level) (Spanned limit level) (mapped at_most_of (located (λ l. behind (is_sign sign.Colon) (an_expression l)) left)) (mapped range_of (both pair (an_expression left) (optional (is_sign sign.Colon) (colon_bound left)))) (goes 0) range_more
    (each_made at_most_of open_phrase (goes 0) (located (λ l. behind (is_sign sign.Colon) (an_expression l))) each_open_range limit left level k)
    (each_made range_of span_phrase range_more (λ left. both pair (an_expression left) (optional (is_sign sign.Colon) (colon_bound left))) each_span limit left level k) range_more
    (λ x w (q, is, (there, o)). sign_heads sign.Colon (g.expr q.1) limit level w (is_sign sign.Colon) (λ at. refl) o)
    (λ x w rest (q, is, (u, v, o, i, split)) st. heads_stop (opens 1) (is_sign sign.Colon) opens_no_colon w rest (subst (Heads (opens 1)) (sym split) (in_front u v (expression_heads limit level q.0 u o))))
    (λ rest st. stops_second (opens 1) (goes 0) rest (stops_second (is_sign sign.Colon) stop_more rest st)) (λ rest o. o))
    into from (λ rest o. o)
  where
    in_front : (u v : List (Mark Token)) → Heads (opens 1) u → Heads (opens 1) (u ++ v)
    in_front [] v h = absurd h
    in_front (m ∷ u) v h = h

    into : (x : CaseRange) (w : List (Mark Token)) → Or (Opened limit level) (Spanned limit level) x w → Words (c.case_range x) limit level w
    into x w (inl (q, is, o)) = subst (λ z. Words (c.case_range z) limit level w) (sym is) o
    into x w (inr ((y, None), is, (u, v, o, i, split))) = subst (λ z. Words (c.case_range z) limit level w) (sym is) (subst (λ z. Words (g.expr y) limit level z) (sym (split ∙ (ap (λ z. u ++ z) i ∙ append-nil u))) o)
    into x w (inr ((y, Some None), is, (u, v, o, (i, j, q, n, split2), split))) = subst (λ z. Words (c.case_range z) limit level w) (sym is) (u, v, o, subst (λ z. Words (p.sign sign.Colon) limit level z) (sym (split2 ∙ (ap (λ z. i ++ z) n ∙ append-nil i))) q, split)
    into x w (inr ((y, Some (Some z)), is, o)) = subst (λ z. Words (c.case_range z) limit level w) (sym is) o

    from : (x : CaseRange) (w : List (Mark Token)) → Words (c.case_range x) limit level w → Or (Opened limit level) (Spanned limit level) x w
    from (s.single y) w o = inr ((y, None), refl, (w, [], o, refl, sym (append-nil w)))
    from (s.at_least y) w (u, v, o, q, split) = inr ((y, Some None), refl, (u, v, o, (v, [], q, refl, sym (append-nil v)), split))
    from (s.at_most y at) w o = inl ((at, y), refl, o)
    from (s.between y z) w o = inr ((y, Some (Some z)), refl, o)

-- CASE
abbrev Default : ℕ → ℕ → CaseSelector → List (Mark Token) → Type 0
Default = Made (λ z. s.default) (λ (z : Unit {0}). p.key (codes "default"))

abbrev Ranges : ℕ → ℕ → CaseSelector → List (Mark Token) → Type 0
Ranges = Made s.ranges (λ rs. p.round (p.listed c.case_range rs))

each_case_selector : Everywhere (Of c.case_selector) never a_case_selector
each_case_selector limit left level k = relabel (Or (Default limit level) (Ranges limit level)) (Of c.case_selector limit level) (a_case_selector left) never never
    (exact_pick (is_key (codes "default")) (Default limit level) (Ranges limit level) (mapped (λ z. s.default) (a_key (codes "default") left)) (mapped s.ranges (rounded (λ l. list_of (a_case_range l)) left)) never never
    (each_made (λ z. s.default) (λ (z : Unit {0}). p.key (codes "default")) never (a_key (codes "default")) (each_key (codes "default")) limit left level k)
    (each_made s.ranges (λ rs. p.round (p.listed c.case_range rs)) never (rounded (λ l. list_of (a_case_range l))) (each_round (p.listed c.case_range) (or_comma range_more) (λ l. list_of (a_case_range l)) (each_listed c.case_range range_more a_case_range each_case_range (λ at. refl)) (λ at. refl)) limit left level k) never
    (λ x w (z, is, (at, o)). subst (Heads (is_key (codes "default"))) (sym o) refl)
    (λ x w rest (rs, is, o) st. sign_stops sign.OpenRound (p.listed c.case_range rs ▸ p.sign sign.CloseRound) limit (suc level) w rest (is_key (codes "default")) (λ at. refl) o) (λ rest o. o) (λ rest o. o))
    into from (λ rest o. o)
  where
    into : (x : CaseSelector) (w : List (Mark Token)) → Or (Default limit level) (Ranges limit level) x w → Words (c.case_selector x) limit level w
    into x w (inl (z, is, o)) = subst (λ z. Words (c.case_selector z) limit level w) (sym is) o
    into x w (inr (rs, is, o)) = subst (λ z. Words (c.case_selector z) limit level w) (sym is) o

    from : (x : CaseSelector) (w : List (Mark Token)) → Words (c.case_selector x) limit level w → Or (Default limit level) (Ranges limit level) x w
    from s.default w o = inl (tt, refl, o)
    from (s.ranges rs) w o = inr (rs, refl, o)

pub each_case_line : Everywhere (Of (λ q. p.from q.0.0 (p.key (codes "case")) ▸ (c.case_selector q.1 ▸ p.over))) never case_line
each_case_line = each_pair (λ q. p.from q.0 (p.key (codes "case"))) (λ x. c.case_selector x ▸ p.over) never never (located (a_key (codes "case"))) (with a_case_selector an_end)
    (each_located (λ (z : Unit {0}). p.key (codes "case")) is_word never (a_key (codes "case")) (each_key (codes "case")) (λ l d z w (at, o). subst (Heads is_word) (sym o) refl))
    (each_ended c.case_selector never a_case_selector each_case_selector (λ at. refl)) (λ l d b w rest k st. never_stops (bare w ++ rest))
