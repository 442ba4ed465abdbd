-- The statements that begin, divide and end constructs are read exactly.
use Rattle.std.proofs.Common.{◌≡◌, ℕ, zero, suc, ◌≤◌, Bool, true, false, codes, List, [], ◌∷◌, ◌++◌, Option, Some, None, inl, inr, refl, ap, sym, ◌∙◌, subst, arith, bytes_eq}
use Rattle.std.proofs.lemmas.Bool.{false≢true, lt-ltb}
use Rattle.caf_base.specs.declared.place.Pos.{Pos}
use Rattle.reader_theory.specs.Words.{Mark, bare}
use Rattle.reader_theory.specs.Levels.{mark, One}
use Rattle.reader_theory.specs.Readers.{token, both, first, optional, behind, pair, sunk}
use Rattle.reader_theory.specs.Exactness.{Stops, never, Heads, Sunken, Exact}
use Rattle.reader_theory.specs.Languages.{Or}
use Rattle.reader_theory.proofs.Independent.{Both}
use Rattle.reader_theory.proofs.Marks.{never_stops}
use Rattle.reader_theory.proofs.Sequence.{exact_both}
use Rattle.reader_theory.proofs.Single.{relabel, exact_mapped}
use Rattle.reader_theory.proofs.Choice.{exact_pick}
use Rattle.reader_theory.proofs.Levels.{exact_one}
use Rattle.reader_theory.proofs.Deep.{exact_sunk}
use Rattle.fortran_tokens.specs.declared.token.Sign.TheVariants as sign
use Rattle.fortran_tree.specs.Expressions.{Expression}
use Rattle.fortran_tree.specs.Statements as s
use Rattle.fortran_tree.specs.Statements.{LoopControl, BracketedSpecifier}
use Rattle.fortran_grammar.specs.Tokens as t
use Rattle.fortran_grammar.specs.Tokens.{Tok, Token}
use Rattle.fortran_grammar.specs.Phrases as p
use Rattle.fortran_grammar.specs.Phrases.{Phrase, Words, FirstAt, ◌▸◌, ◌∪◌}
use Rattle.fortran_grammar.specs.ExpressionGrammar as g
use Rattle.fortran_grammar.specs.ActionGrammar as a
use Rattle.fortran_grammar.specs.StatementGrammar as c
use Rattle.expr_reader.specs.Openings.{goes}
use Rattle.expr_reader.specs.Tests.{is_sign, is_key, is_word, Placed}
use Rattle.statement_reader.specs.Families.{Family, rounded, an_expression}
use Rattle.statement_reader.specs.Actions.{Assigned, assigned, a_specifier, a_team, a_key, maybe_name}
use Rattle.statement_reader.specs.Heads.{is_over, is_over_tok, an_end, with, deepened, behind_key, located, a_joined, a_condition, an_if, then_end, an_if_then, a_joined_at, an_else_if, an_else, end_of, end_do, step_part, a_range, a_select_case, specifier_of, a_bracketed_specifier, a_critical, a_change_team, end_team}
use Rattle.expr_reader.proofs.Phrases.{Of, key_in, key_itself}
use Rattle.expr_reader.proofs.Pieces.{either_of, stops_first, stops_second}
use Rattle.expr_reader.proofs.Placing.{exact_placed}
use Rattle.expr_reader.proofs.Moving.{elsewhere}
use Rattle.statement_reader.proofs.Families.{Everywhere, each_expression, each_key, each_behind_key, each_behind_sign, each_round, each_maybe, each_mapped, each_pair, sign_heads, sign_stops, key_heads}
use Rattle.statement_reader.proofs.Actions.{each_specifier, specifier_heads, specifier_more, each_team, each_maybe_name, each_maybe_round}

-- the end of a statement
pub over_tok : (k : Tok) → is_over_tok k ≡ true → k ≡ t.over
over_tok t.over e = refl
over_tok k e = absurd (false≢true e)

pub each_over : Everywhere (Of (λ (z : Unit {0}). p.over)) never an_end
each_over limit left level h = let here : level ≤ limit = omega arith in exact_mapped (λ z. tt) (One is_over limit level) (Of (λ (z : Unit {0}). p.over) limit level) (token is_over) never never
    (exact_one limit level is_over (record { tok = t.over; at = record { line = 0; col = 0 } }) refl here)
    (λ y w (test, o). (y.at, o ∙ ap (λ k. mark limit level (record { tok = k; at = y.at }) ∷ []) (over_tok y.tok test)))
    (λ z w (at, o). (record { tok = t.over; at = at }, refl, (refl, o))) (λ rest o. o)

-- a fixed part behind another
module _ {A : Type 0} (X : A → Phrase) (T : Phrase) (more also : Token → Bool) (r : Family A) (q : Family (Unit {0})) (x : Everywhere (Of X) more r) (y : Everywhere (Of (λ (z : Unit {0}). T)) also q) where
  pub each_with : ((l d : ℕ) (w : List (Mark Token)) (rest : List Token) → Words T l d w → Stops also rest → Stops more (bare w ++ rest)) → Everywhere (Of (λ b. X b ▸ T)) also (with r q)
  each_with apart limit left level h = relabel (Both first (Of X limit level) (Of (λ (z : Unit {0}). T) limit level)) (Of (λ b. X b ▸ T) limit level) (with r q left) also also
      (exact_both first (Of X limit level) (Of (λ (z : Unit {0}). T) limit level) (r left) (q left) more also (x limit left level h) (y limit left level h) (λ z w rest o st. apart limit level w rest o st))
      (λ b w (c, z, is, o). subst (λ k. Words (X k ▸ T) limit level w) (sym is) o) (λ b w o. (b, tt, refl, o)) (λ rest o. o)

-- the end of a statement behind a part
module _ {A : Type 0} (X : A → Phrase) (more : Token → Bool) (r : Family A) (x : Everywhere (Of X) more r) (stops : (at : Pos) → more (record { tok = t.over; at = at }) ≡ false) where
  pub each_ended : Everywhere (Of (λ b. X b ▸ p.over)) never (with r an_end)
  each_ended = each_with X p.over more never r an_end x each_over (λ l d w rest (at, o) st. subst (λ z. Stops more (bare z ++ rest)) (sym o) (stops at))

-- What is a level from its first token on: each word begins with a token that passes, and each such token begins a
-- word.
module _ {A : Type 0} (X : A → Phrase) (test more : Token → Bool) (r : Family A) (x : Everywhere (Of X) more r) (heads : (l d : ℕ) (b : A) (w : List (Mark Token)) → Words (X b) l d w → Heads test w) (marked : (l d : ℕ) (b : A) (w : List (Mark Token)) → Words (X b) l (suc d) w → l ≤ d → Sunken test w) (begins : (l d : ℕ) (y : Token) → test y ≡ true → (b : A) × (v : List (Mark Token)) × Words (X b) l d (mark l d y ∷ v)) where
  pub each_deeper : Everywhere (Of (λ b. p.deeper (X b))) more (deepened test r)
  each_deeper limit zero level h =
      let at : limit ≡ level = omega arith in
      let z = x 0 0 0 refl in
      let m = elsewhere (X z.some) 0 0 limit (suc limit) z.some_word z.is_some in
      subst (λ k. Exact (λ b w. Words (X b) limit (suc k) w) more (sunk test)) at
      (exact_sunk (λ b w. Words (X b) limit (suc limit) w) test z.some m.moved m.is_word (λ b w o. marked limit limit b w o (omega arith))
      (λ y i. let q = begins limit (suc limit) y i in (q.0, q.1, subst (λ m. Words (X q.0) limit (suc limit) (m ∷ q.1)) (sunk_mark y) q.2)) more)
    where
      sunk_mark : (y : Token) → mark limit (suc limit) y ≡ record { token = y; deep = true }
      sunk_mark y = ap (λ b. record { token = y; deep = b }) (lt-ltb limit (suc limit) (omega arith))
  each_deeper limit (suc left) level h = x limit left (suc level) (omega arith)

-- the same where a keyword begins
module _ {A : Type 0} (Y : A → Phrase) (k : List ℕ) (more : Token → Bool) (r : Family A) (y : Everywhere (Of Y) more r) where
  key_sunken : (l d : ℕ) (P : Phrase) (w : List (Mark Token)) → Words (p.key k ▸ P) l (suc d) w → l ≤ d → Sunken (is_key k) w
  key_sunken l d P w (u, v, (at, q), h, split) le = subst (Sunken (is_key k)) (sym (split ∙ ap (λ z. z ++ v) q)) (key_itself k, lt-ltb l (suc d) (omega arith))

  key_begins : (l d : ℕ) (z : Token) → is_key k z ≡ true → (b : A) × (v : List (Mark Token)) × Words (p.key k ▸ Y b) l d (mark l d z ∷ v)
  key_begins l d z i =
      let s = y 0 0 0 refl in
      let m = elsewhere (Y s.some) 0 0 l d s.some_word s.is_some in
      (s.some, m.moved, (mark l d z ∷ [], m.moved, key_in l d k z (mark l d z ∷ []) (i, refl), m.is_word, refl))

  pub each_block : Everywhere (Of (λ b. p.deeper (p.key k ▸ Y b))) more (deepened (is_key k) (behind_key k r))
  each_block = each_deeper (λ b. p.key k ▸ Y b) (is_key k) more (behind_key k r) (each_behind_key Y more r y k)
      (λ l d b w h. key_heads k (Y b) l d w (is_key k) (λ at. key_itself k) h) (λ l d b w h le. key_sunken l d (Y b) w h le) key_begins

-- with the place of the first token
module _ {A : Type 0} (X : A → Phrase) (test more : Token → Bool) (r : Family A) (x : Everywhere (Of X) more r) (heads : (l d : ℕ) (b : A) (w : List (Mark Token)) → Words (X b) l d w → Heads test w) where
  pub each_located : Everywhere (Of (λ q. p.from q.0 (X q.1))) more (located r)
  each_located limit left level h = relabel (Placed pair (Of X limit level)) (Of (λ q. p.from q.0 (X q.1)) limit level) (located r left) more more
      (exact_placed pair (Of X limit level) test (heads limit level) more (r left) (x limit left level h))
      (λ q w (at, b, is, there, o). subst (λ k. Words (p.from k.0 (X k.1)) limit level w) (sym is) (there, o)) (λ q w (there, o). (q.0, q.1, refl, there, o)) (λ rest o. o)

-- Two keywords, or both as one word.
module _ (j k : List ℕ) (longer : bytes_eq (j ++ k) j ≡ false) where
  abbrev One_word : ℕ → ℕ → Unit {0} → List (Mark Token) → Type 0
  One_word = Of (λ (z : Unit {0}). p.key (j ++ k))

  abbrev Two_words : ℕ → ℕ → Unit {0} → List (Mark Token) → Type 0
  Two_words = Of (λ (z : Unit {0}). p.key j ▸ p.key k)

  pub each_joined : Everywhere (Of (λ (z : Unit {0}). p.joined j k)) never (a_joined j k)
  each_joined limit left level h = relabel (Or (One_word limit level) (Two_words limit level)) (Of (λ (z : Unit {0}). p.joined j k) limit level) (a_joined j k left) never never
      (exact_pick (is_key (j ++ k)) (One_word limit level) (Two_words limit level) (a_key (j ++ k) left) (behind (is_key j) (a_key k left)) never never
      (each_key (j ++ k) limit left level h) (each_behind_key (λ (z : Unit {0}). p.key k) never (a_key k) (each_key k) j limit left level h) never
      (λ z w (at, o). subst (Heads (is_key (j ++ k))) (sym o) (key_itself (j ++ k)))
      (λ z w rest (u, v, (at, q), o, split) st. subst (λ y. Stops (is_key (j ++ k)) (bare y ++ rest)) (sym (split ∙ ap (λ y. y ++ v) q)) longer)
      (λ rest o. o) (λ rest o. o))
      into from (λ rest o. o)
    where
      into : (z : Unit {0}) (w : List (Mark Token)) → Or (One_word limit level) (Two_words limit level) z w → Words (p.joined j k) limit level w
      into z w (inl o) = inr o
      into z w (inr o) = inl o

      from : (z : Unit {0}) (w : List (Mark Token)) → Words (p.joined j k) limit level w → Or (One_word limit level) (Two_words limit level) z w
      from z w (inl o) = inr o
      from z w (inr o) = inl o

  joined_heads : (l d : ℕ) (z : Unit {0}) (w : List (Mark Token)) → Words (p.joined j k) l d w → Heads is_word w
  joined_heads l d z w (inl o) = key_heads j (p.key k) l d w is_word (λ at. refl) o
  joined_heads l d z w (inr (at, o)) = subst (Heads is_word) (sym o) refl

  pub each_joined_at : Everywhere (Of (λ q. p.from q.0 (p.joined j k))) never (λ left. located (a_joined j k) left)
  each_joined_at = each_located (λ (z : Unit {0}). p.joined j k) is_word never (a_joined j k) each_joined joined_heads

-- conditions
pub each_condition : Everywhere (Of (λ e. p.round (g.expr e))) never a_condition
each_condition = each_round g.expr (goes 0) an_expression each_expression (λ at. refl)

-- IF ( expr ), before the action of a one-line IF
pub each_if : Everywhere (Of (λ e. p.deeper (p.key (codes "if") ▸ p.round (g.expr e)))) never an_if
each_if = each_block (λ e. p.round (g.expr e)) (codes "if") never a_condition each_condition

each_then_end : Everywhere (Of (λ (z : Unit {0}). p.key (codes "then") ▸ p.over)) never then_end
each_then_end = each_behind_key (λ (z : Unit {0}). p.over) never an_end each_over (codes "then")

each_condition_then : Everywhere (Of (λ e. p.round (g.expr e) ▸ p.key (codes "then") ▸ p.over)) never (with a_condition then_end)
each_condition_then = each_with (λ e. p.round (g.expr e)) (p.key (codes "then") ▸ p.over) never never a_condition then_end each_condition each_then_end (λ l d w rest h st. never_stops (bare w ++ rest))

-- IF ( expr ) THEN
pub each_if_then : Everywhere (Of (λ q. p.from q.0 (p.deeper (p.key (codes "if") ▸ p.round (g.expr q.1) ▸ p.key (codes "then") ▸ p.over)))) never an_if_then
each_if_then = each_located (λ e. p.deeper (p.key (codes "if") ▸ p.round (g.expr e) ▸ p.key (codes "then") ▸ p.over)) (is_key (codes "if")) never (deepened (is_key (codes "if")) (behind_key (codes "if") (with a_condition then_end)))
    (each_block (λ e. p.round (g.expr e) ▸ p.key (codes "then") ▸ p.over) (codes "if") never (with a_condition then_end) each_condition_then)
    (λ l d e w h. key_heads (codes "if") (p.round (g.expr e) ▸ p.key (codes "then") ▸ p.over) l (suc d) w (is_key (codes "if")) (λ at. refl) h)

-- ELSE IF ( expr ) THEN, ELSE
pub each_else_if : Everywhere (Of (λ q. p.from q.0.0 (p.joined (codes "else") (codes "if")) ▸ (p.round (g.expr q.1) ▸ p.key (codes "then") ▸ p.over))) never an_else_if
each_else_if = each_pair (λ q. p.from q.0 (p.joined (codes "else") (codes "if"))) (λ e. p.round (g.expr e) ▸ p.key (codes "then") ▸ p.over) never never (a_joined_at (codes "else") (codes "if")) (with a_condition then_end)
    (each_joined_at (codes "else") (codes "if") refl) each_condition_then (λ l d b w rest h st. never_stops (bare w ++ rest))

pub each_else : Everywhere (Of (λ q. p.from q.0 (p.key (codes "else")) ▸ p.over)) never an_else
each_else = each_ended (λ q. p.from q.0 (p.key (codes "else"))) never (located (a_key (codes "else")))
    (each_located (λ (z : Unit {0}). p.key (codes "else")) is_word never (a_key (codes "else")) (each_key (codes "else")) (λ l d z w (at, h). subst (Heads is_word) (sym h) refl)) (λ at. refl)

-- END IF, END SELECT, END CRITICAL
pub each_end_of : (k : List ℕ) → bytes_eq (codes "end" ++ k) (codes "end") ≡ false → Everywhere (Of (λ q. p.from q.0 (p.joined (codes "end") k) ▸ p.over)) never (end_of k)
each_end_of k longer = each_ended (λ q. p.from q.0 (p.joined (codes "end") k)) never (a_joined_at (codes "end") k) (each_joined_at (codes "end") k longer) (λ at. refl)

-- END DO [ NAME ]
pub each_end_do : Everywhere (Of (λ q. p.from q.0.0 (p.joined (codes "end") (codes "do")) ▸ (p.optional p.name q.1 ▸ p.over))) never end_do
each_end_do = each_pair (λ q. p.from q.0 (p.joined (codes "end") (codes "do"))) (λ n. p.optional p.name n ▸ p.over) never never (a_joined_at (codes "end") (codes "do")) (with maybe_name an_end)
    (each_joined_at (codes "end") (codes "do") refl) (each_ended (p.optional p.name) is_word maybe_name each_maybe_name (λ at. refl)) (λ l d b w rest h st. never_stops (bare w ++ rest))

each_condition_end : Everywhere (Of (λ e. p.round (g.expr e) ▸ p.over)) never (with a_condition an_end)
each_condition_end = each_ended (λ e. p.round (g.expr e)) never a_condition each_condition (λ at. refl)

-- the range of a DO variable
abbrev pub range_phrase : Expression × (Expression × Option Expression) → Phrase
range_phrase q = g.expr q.0 ▸ p.sign sign.Comma ▸ g.expr q.1.0 ▸ p.optional c.step q.1.1

each_step : Everywhere (Of (p.optional c.step)) specifier_more step_part
each_step = each_maybe c.step (goes 0) (λ left. behind (is_sign sign.Comma) (an_expression left)) (each_behind_sign g.expr (goes 0) an_expression each_expression sign.Comma) (is_sign sign.Comma) specifier_more
    (λ l d e w h. sign_heads sign.Comma (g.expr e) l d w (is_sign sign.Comma) (λ at. refl) h) (stops_second (is_sign sign.Comma) (goes 0)) (stops_first (is_sign sign.Comma) (goes 0))

step_apart : (l d : ℕ) (o : Option Expression) (w : List (Mark Token)) (rest : List Token) → Words (p.optional c.step o) l d w → Stops specifier_more rest → Stops (goes 0) (bare w ++ rest)
step_apart l d None w rest h st = subst (λ z. Stops (goes 0) (bare z ++ rest)) (sym h) (stops_second (is_sign sign.Comma) (goes 0) rest st)
step_apart l d (Some e) w rest h st = sign_stops sign.Comma (g.expr e) l d w rest (goes 0) (λ at. refl) h

pub each_range : Everywhere (Of range_phrase) specifier_more a_range
each_range = each_pair g.expr (λ q. p.sign sign.Comma ▸ g.expr q.0 ▸ p.optional c.step q.1) (goes 0) specifier_more an_expression (λ left. behind (is_sign sign.Comma) (both pair (an_expression left) (step_part left))) each_expression
    (each_behind_sign (λ q. g.expr q.0 ▸ p.optional c.step q.1) specifier_more (λ left. both pair (an_expression left) (step_part left))
    (each_pair g.expr (p.optional c.step) (goes 0) specifier_more an_expression step_part each_expression each_step step_apart) sign.Comma)
    (λ l d q w rest h st. sign_stops sign.Comma (g.expr q.0 ▸ p.optional c.step q.1) l d w rest (goes 0) (λ at. refl) h)

-- SELECT CASE ( expr )
pub each_select_case : Everywhere (Of (λ (q : Unit {0} × Expression). p.joined (codes "select") (codes "case") ▸ (p.round (g.expr q.1) ▸ p.over))) never a_select_case
each_select_case = each_pair (λ (z : Unit {0}). p.joined (codes "select") (codes "case")) (λ e. p.round (g.expr e) ▸ p.over) never never (a_joined (codes "select") (codes "case")) (with a_condition an_end)
    (each_joined (codes "select") (codes "case") refl) each_condition_end (λ l d b w rest h st. never_stops (bare w ++ rest))

-- [ "(" [ specifier ] ")" ]
each_maybe_specifier : Everywhere (Of (p.optional assigned)) (either_of is_word (goes 0)) (λ l. optional is_word (a_specifier l))
each_maybe_specifier = each_maybe assigned (goes 0) a_specifier each_specifier is_word (either_of is_word (goes 0)) specifier_heads (stops_second is_word (goes 0)) (stops_first is_word (goes 0))

pub each_bracketed_specifier : Everywhere (Of c.bracketed_specifier) (is_sign sign.OpenRound) a_bracketed_specifier
each_bracketed_specifier = each_mapped specifier_of (p.optional (λ o. p.round (p.optional assigned o))) c.bracketed_specifier (is_sign sign.OpenRound) (λ left. optional (is_sign sign.OpenRound) (rounded (λ l. optional is_word (a_specifier l)) left))
    (each_maybe_round (p.optional assigned) (either_of is_word (goes 0)) (λ l. optional is_word (a_specifier l)) each_maybe_specifier (λ at. refl)) into from
  where
    into : (l d : ℕ) (o : Option (Option Assigned)) (w : List (Mark Token)) → Words (p.optional (λ o. p.round (p.optional assigned o)) o) l d w → Words (c.bracketed_specifier (specifier_of o)) l d w
    into l d None w h = h
    into l d (Some None) w h = h
    into l d (Some (Some q)) w h = h

    from : (l d : ℕ) (b : BracketedSpecifier) (w : List (Mark Token)) → Words (c.bracketed_specifier b) l d w → (o : Option (Option Assigned)) × (b ≡ specifier_of o) × Words (p.optional (λ o. p.round (p.optional assigned o)) o) l d w
    from l d s.absent w h = (None, refl, h)
    from l d s.empty w h = (Some None, refl, h)
    from l d (s.present n e) w h = (Some (Some (n, e)), refl, h)

each_specifier_end : Everywhere (Of (λ b. c.bracketed_specifier b ▸ p.over)) never (with a_bracketed_specifier an_end)
each_specifier_end = each_ended c.bracketed_specifier (is_sign sign.OpenRound) a_bracketed_specifier each_bracketed_specifier (λ at. refl)

-- CRITICAL, CHANGE TEAM, END TEAM
pub each_critical : Everywhere (Of (λ q. p.from q.0 (p.deeper (p.key (codes "critical") ▸ c.bracketed_specifier q.1 ▸ p.over)))) never a_critical
each_critical = each_located (λ b. p.deeper (p.key (codes "critical") ▸ c.bracketed_specifier b ▸ p.over)) (is_key (codes "critical")) never (deepened (is_key (codes "critical")) (behind_key (codes "critical") (with a_bracketed_specifier an_end)))
    (each_block (λ b. c.bracketed_specifier b ▸ p.over) (codes "critical") never (with a_bracketed_specifier an_end) each_specifier_end)
    (λ l d b w h. key_heads (codes "critical") (c.bracketed_specifier b ▸ p.over) l (suc d) w (is_key (codes "critical")) (λ at. refl) h)

each_team_end : Everywhere (Of (λ q. a.team q.0 q.1 ▸ p.over)) never (with (rounded a_team) an_end)
each_team_end = each_ended (λ q. a.team q.0 q.1) never (rounded a_team) (each_round (λ q. g.expr q.0 ▸ g.more_specifiers q.1) specifier_more a_team each_team (λ at. refl)) (λ at. refl)

pub each_change_team : Everywhere (Of (λ q. p.from q.0 (p.deeper (p.key (codes "change") ▸ p.key (codes "team") ▸ a.team q.1.0 q.1.1 ▸ p.over)))) never a_change_team
each_change_team = each_located (λ q. p.deeper (p.key (codes "change") ▸ p.key (codes "team") ▸ a.team q.0 q.1 ▸ p.over)) (is_key (codes "change")) never (deepened (is_key (codes "change")) (behind_key (codes "change") (behind_key (codes "team") (with (rounded a_team) an_end))))
    (each_block (λ q. p.key (codes "team") ▸ a.team q.0 q.1 ▸ p.over) (codes "change") never (behind_key (codes "team") (with (rounded a_team) an_end)) (each_behind_key (λ q. a.team q.0 q.1 ▸ p.over) never (with (rounded a_team) an_end) each_team_end (codes "team")))
    (λ l d q w h. key_heads (codes "change") (p.key (codes "team") ▸ a.team q.0 q.1 ▸ p.over) l (suc d) w (is_key (codes "change")) (λ at. refl) h)

pub each_end_team : Everywhere (Of (λ q. p.from q.0.0 (p.joined (codes "end") (codes "team")) ▸ (c.bracketed_specifier q.1 ▸ p.over))) never end_team
each_end_team = each_pair (λ q. p.from q.0 (p.joined (codes "end") (codes "team"))) (λ b. c.bracketed_specifier b ▸ p.over) never never (a_joined_at (codes "end") (codes "team")) (with a_bracketed_specifier an_end)
    (each_joined_at (codes "end") (codes "team") refl) each_specifier_end (λ l d b w rest h st. never_stops (bare w ++ rest))
