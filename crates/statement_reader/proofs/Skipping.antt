-- The tokens of expressions hold whole bracket groups; behind a name and its groups an assignment has `=`.
use Rattle.std.proofs.Common.{◌≡◌, ℕ, zero, suc, Bool, true, false, cond, List, [], ◌∷◌, ◌++◌, Option, Some, None, inl, inr, refl, ap, sym, ◌∙◌}
use Rattle.reader_theory.specs.Words.{Mark, bare}
use Rattle.reader_theory.specs.Levels.{mark}
use Rattle.reader_theory.proofs.Marks.{regroup}
use Rattle.fortran_tokens.specs.declared.token.Sign.{Sign}
use Rattle.fortran_tokens.specs.declared.token.Sign.TheVariants as sign
use Rattle.fortran_tree.specs.declared.expr.Operator.{Operator}
use Rattle.fortran_tree.specs.declared.expr.Operator.TheVariants as operators
use Rattle.fortran_tree.specs.declared.expr.PrefixOperator.{PrefixOperator}
use Rattle.fortran_tree.specs.declared.expr.PrefixOperator.TheVariants as prefixes
use Rattle.fortran_tree.specs.Expressions as s
use Rattle.fortran_tree.specs.Expressions.{Expression, Designator, Expressions, SectionSubscript, SectionSubscripts, OptionalExpression, ImageSelector, Specifiers, Arguments}
use Rattle.fortran_tree.specs.declared.name.Name.{Name}
use Rattle.fortran_tree.specs.Statements as st
use Rattle.fortran_grammar.specs.Tokens as t
use Rattle.fortran_grammar.specs.Tokens.{Tok, Token}
use Rattle.fortran_grammar.specs.Phrases as p
use Rattle.fortran_grammar.specs.Phrases.{Phrase, Words, ◌▸◌}
use Rattle.fortran_grammar.specs.ExpressionGrammar as g
use Rattle.fortran_grammar.specs.ActionGrammar as a
use Rattle.statement_reader.specs.Skipping.{opens_tok, closes_tok, groups, begins_equals, assigns_first}

-- within brackets the tokens are skipped whole
abbrev pub Skipped : List (Mark Token) → Type 0
Skipped w = (n : ℕ) (rest : List Token) → groups (suc n) (bare w ++ rest) ≡ groups (suc n) rest

pub none : (w : List (Mark Token)) → w ≡ [] → Skipped w
none w e n rest = ap (λ z. groups (suc n) (bare z ++ rest)) e

pub flat : (l d : ℕ) (y : Token) (w : List (Mark Token)) → w ≡ mark l d y ∷ [] → opens_tok y.tok ≡ false → closes_tok y.tok ≡ false → Skipped w
flat l d y w e o c n rest = ap (λ z. groups (suc n) (bare z ++ rest)) e ∙ (ap (λ b. cond b (groups (suc (suc n)) rest) (cond (closes_tok y.tok) (groups n rest) (groups (suc n) rest))) o ∙ ap (λ b. cond b (groups n rest) (groups (suc n) rest)) c)

pub joint : (u v w : List (Mark Token)) → Skipped u → Skipped v → w ≡ u ++ v → Skipped w
joint u v w h k e n rest = ap (groups (suc n)) (ap (λ z. bare z ++ rest) e ∙ sym (regroup u v rest)) ∙ (h n (bare v ++ rest) ∙ k n rest)

-- a whole group is skipped at every depth
group : (l d : ℕ) (o c : Sign) (P : Phrase) (w : List (Mark Token)) → opens_tok (t.sign o) ≡ true → opens_tok (t.sign c) ≡ false → closes_tok (t.sign c) ≡ true → ((v : List (Mark Token)) → Words P l d v → Skipped v) → Words (p.sign o ▸ P ▸ p.sign c) l d w → (n : ℕ) (rest : List Token) → groups n (bare w ++ rest) ≡ groups n rest
group l d o c P w f1 f2 f3 h (u, v, (at, q), (i, j, k, (at2, r), split2), split) n rest =
    let there : bare w ++ rest ≡ record { tok = t.sign o; at = at } ∷ (bare i ++ (record { tok = t.sign c; at = at2 } ∷ rest)) =
    ap (λ z. bare z ++ rest) (split ∙ ap (λ z. z ++ v) q) ∙ ap (λ z. record { tok = t.sign o; at = at } ∷ z) (ap (λ z. bare z ++ rest) (split2 ∙ ap (λ z. i ++ z) r) ∙ sym (regroup i (mark l d (record { tok = t.sign c; at = at2 }) ∷ []) rest)) in
    ap (groups n) there ∙ (opened n (bare i ++ (record { tok = t.sign c; at = at2 } ∷ rest)) ∙ (h i k n (record { tok = t.sign c; at = at2 } ∷ rest) ∙ closed n))
  where
    opened : (n : ℕ) (us : List Token) → groups n (record { tok = t.sign o; at = at } ∷ us) ≡ groups (suc n) us
    opened zero us = ap (λ b. cond b (groups 1 us) (record { tok = t.sign o; at = at } ∷ us)) f1
    opened (suc n) us = ap (λ b. cond b (groups (suc (suc n)) us) (cond (closes_tok (t.sign o)) (groups n us) (groups (suc n) us))) f1

    closed : (n : ℕ) → groups (suc n) (record { tok = t.sign c; at = at2 } ∷ rest) ≡ groups n rest
    closed n = ap (λ b. cond b (groups (suc (suc n)) rest) (cond (closes_tok (t.sign c)) (groups n rest) (groups (suc n) rest))) f2 ∙ ap (λ b. cond b (groups n rest) (groups (suc n) rest)) f3

module _ (l d : ℕ) (P : Phrase) (h : (v : List (Mark Token)) → Words P l (suc d) v → Skipped v) where
  pub round_group : (w : List (Mark Token)) → Words (p.round P) l d w → (n : ℕ) (rest : List Token) → groups n (bare w ++ rest) ≡ groups n rest
  round_group w k = group l (suc d) sign.OpenRound sign.CloseRound P w refl refl refl h k

  pub square_group : (w : List (Mark Token)) → Words (p.square P) l d w → (n : ℕ) (rest : List Token) → groups n (bare w ++ rest) ≡ groups n rest
  square_group w (inl k) = group l (suc d) sign.OpenSquare sign.CloseSquare P w refl refl refl h k
  square_group w (inr k) = group l (suc d) sign.OpenArray sign.CloseArray P w refl refl refl h k

pub operator_flat : (o : Operator) → (opens_tok (t.sign (g.operator_sign o)) ≡ false) × (closes_tok (t.sign (g.operator_sign o)) ≡ false)
operator_flat operators.Power = (refl, refl)
operator_flat o = (refl, refl)

pub prefix_flat : (o : PrefixOperator) → (opens_tok (t.sign (g.prefix_sign o)) ≡ false) × (closes_tok (t.sign (g.prefix_sign o)) ≡ false)
prefix_flat prefixes.Not = (refl, refl)
prefix_flat o = (refl, refl)

pub truth_flat : (b : Bool) → (opens_tok (t.sign (g.truth_sign b)) ≡ false) × (closes_tok (t.sign (g.truth_sign b)) ≡ false)
truth_flat true = (refl, refl)
truth_flat false = (refl, refl)

pub sign_flat : (l d : ℕ) (x : Sign) (w : List (Mark Token)) → opens_tok (t.sign x) ≡ false → closes_tok (t.sign x) ≡ false → Words (p.sign x) l d w → Skipped w
sign_flat l d x w o c (at, q) = flat l d (record { tok = t.sign x; at = at }) w q o c

keyword : (k : Option Name) (l d : ℕ) (w : List (Mark Token)) → Words (g.keyword k) l d w → Skipped w
keyword None l d w h = none w h
keyword (Some n) l d w (i, j, h, b, split) = joint i j w (flat l d _ i h refl refl) (sign_flat l d sign.Assign j refl refl b) split

mutual
  pub expr : (e : Expression) (l d : ℕ) (w : List (Mark Token)) → Words (g.expr e) l d w → Skipped w
  expr (s.number n k at) l d w h = flat l d (record { tok = t.integer n k; at = at }) w h refl refl
  expr (s.logical b at) l d w h = flat l d (record { tok = t.sign (g.truth_sign b); at = at }) w h (truth_flat b).0 (truth_flat b).1
  expr (s.designator x) l d w h = designator x l d w h
  expr (s.function_reference f args) l d w (c, (u, v, h, k, split)) = joint u v w (flat l d _ u h refl refl) (λ n. round_group l d (g.arguments args) (λ z q. arguments args l (suc d) z q) v k (suc n)) split
  expr (s.parenthesized e at) l d w (f, h) = λ n. round_group l d (g.expr e) (λ z q. expr e l (suc d) z q) w h (suc n)
  expr (s.array_constructor es at) l d w (f, h) = λ n. square_group l d (g.exprs es) (λ z q. exprs es l (suc d) z q) w h (suc n)
  expr (s.prefix o e at) l d w (c, (u, v, h, k, split)) = joint u v w (flat l d _ u h (prefix_flat o).0 (prefix_flat o).1) (expr e l (suc d) v k) split
  expr (s.binary operators.Power x y at) l d w (c, (f, (u, v, h, (i, j, q, k, split2), split))) = joint u v w (expr x l d u h) (joint i j v (sign_flat l d sign.Power i refl refl q) (expr y l (suc d) j k) split2) split
  expr (s.binary o x y at) l d w (c, (f, (u, v, h, (i, j, q, k, split2), split))) = joint u v w (expr x l d u h) (joint i j v (sign_flat l d (g.operator_sign o) i (operator_flat o).0 (operator_flat o).1 q) (expr y l d j k) split2) split

  pub exprs : (es : Expressions) (l d : ℕ) (w : List (Mark Token)) → Words (g.exprs es) l d w → Skipped w
  exprs s.no_expressions l d w h = none w h.1
  exprs (s.more_expressions e es) l d w (u, v, h, k, split) = joint u v w (expr e l d u h) (more_exprs es l d v k) split

  more_exprs : (es : Expressions) (l d : ℕ) (w : List (Mark Token)) → Words (g.more_exprs es) l d w → Skipped w
  more_exprs s.no_expressions l d w h = none w h
  more_exprs (s.more_expressions e es) l d w (u, v, c, (i, j, h, k, split2), split) = joint u v w (sign_flat l d sign.Comma u refl refl c) (joint i j v (expr e l d i h) (more_exprs es l d j k) split2) split

  pub designator : (x : Designator) (l d : ℕ) (w : List (Mark Token)) → Words (g.designator x) l d w → Skipped w
  designator (s.part_ref n xs c) l d w (u, v, h, (i, j, k, q, split2), split) = joint u v w (flat l d _ u h refl refl) (joint i j v (λ n. subscripts xs l d i k (suc n)) (λ n. selector c l d j q (suc n)) split2) split

  pub subscripts : (xs : SectionSubscripts) (l d : ℕ) (w : List (Mark Token)) → Words (g.section_subscripts xs) l d w → (n : ℕ) (rest : List Token) → groups n (bare w ++ rest) ≡ groups n rest
  subscripts s.no_section_subscripts l d w h = λ n rest. ap (λ z. groups n (bare z ++ rest)) h
  subscripts (s.more_section_subscripts x xs) l d w h = round_group l d (g.section_subscript x ▸ g.more_section_subscripts xs) (λ z (u, v, k, q, split). joint u v z (subscript x l (suc d) u k) (more_subscripts xs l (suc d) v q) split) w h

  more_subscripts : (xs : SectionSubscripts) (l d : ℕ) (w : List (Mark Token)) → Words (g.more_section_subscripts xs) l d w → Skipped w
  more_subscripts s.no_section_subscripts l d w h = none w h
  more_subscripts (s.more_section_subscripts x xs) l d w (u, v, c, (i, j, h, k, split2), split) = joint u v w (sign_flat l d sign.Comma u refl refl c) (joint i j v (subscript x l d i h) (more_subscripts xs l d j k) split2) split

  subscript : (x : SectionSubscript) (l d : ℕ) (w : List (Mark Token)) → Words (g.section_subscript x) l d w → Skipped w
  subscript (s.subscript e) l d w h = expr e l d w h
  subscript (s.triplet x y z at) l d w (f, (u, v, h, (i, j, c, (m, n, k, q, split3), split2), split)) =
      joint u v w (optional_expression x l d u h) (joint i j v (sign_flat l d sign.Colon i refl refl c) (joint m n j (optional_expression y l d m k) (stride z l d n q) split3) split2) split

  optional_expression : (x : OptionalExpression) (l d : ℕ) (w : List (Mark Token)) → Words (g.optional_expression x) l d w → Skipped w
  optional_expression s.missing l d w h = none w h
  optional_expression (s.given e) l d w h = expr e l d w h

  stride : (x : OptionalExpression) (l d : ℕ) (w : List (Mark Token)) → Words (g.stride x) l d w → Skipped w
  stride s.missing l d w h = none w h
  stride (s.given e) l d w (u, v, c, h, split) = joint u v w (sign_flat l d sign.Colon u refl refl c) (expr e l d v h) split

  pub selector : (c : ImageSelector) (l d : ℕ) (w : List (Mark Token)) → Words (g.image_selector c) l d w → (n : ℕ) (rest : List Token) → groups n (bare w ++ rest) ≡ groups n rest
  selector s.no_image_selector l d w h = λ n rest. ap (λ z. groups n (bare z ++ rest)) h
  selector (s.image_selector es ps) l d w h = square_group l d (g.exprs es ▸ g.more_specifiers ps) (λ z (u, v, k, q, split). joint u v z (exprs es l (suc d) u k) (more_specifiers ps l (suc d) v q) split) w h

  pub more_specifiers : (ps : Specifiers) (l d : ℕ) (w : List (Mark Token)) → Words (g.more_specifiers ps) l d w → Skipped w
  more_specifiers s.no_specifiers l d w h = none w h
  more_specifiers (s.more_specifiers n e ps) l d w (u, v, c, (i, j, h, (m, q, b, (x, y, k, r, split4), split3), split2), split) =
      joint u v w (sign_flat l d sign.Comma u refl refl c) (joint i j v (flat l d _ i h refl refl) (joint m q j (sign_flat l d sign.Assign m refl refl b) (joint x y q (expr e l d x k) (more_specifiers ps l d y r) split4) split3) split2) split

  arguments : (args : Arguments) (l d : ℕ) (w : List (Mark Token)) → Words (g.arguments args) l d w → Skipped w
  arguments s.no_arguments l d w h = none w h
  arguments (s.more_arguments k e args) l d w (u, v, h, (i, j, q, r, split2), split) = joint u v w (keyword k l d u h) (joint i j v (expr e l d i q) (more_arguments args l d j r) split2) split

  more_arguments : (args : Arguments) (l d : ℕ) (w : List (Mark Token)) → Words (g.more_arguments args) l d w → Skipped w
  more_arguments s.no_arguments l d w h = none w h
  more_arguments (s.more_arguments k e args) l d w (x, y, c, (u, v, h, (i, j, q, r, split2), split), split3) =
      joint x y w (sign_flat l d sign.Comma x refl refl c) (joint u v y (keyword k l d u h) (joint i j v (expr e l d i q) (more_arguments args l d j r) split2) split) split3

-- behind a condition's brackets stands what stands there, and behind a designator's too
pub condition_skipped : (e : Expression) (l d : ℕ) (w : List (Mark Token)) (rest : List Token) → Words (p.round (g.expr e)) l d w → groups 0 (bare w ++ rest) ≡ groups 0 rest
condition_skipped e l d w rest h = round_group l d (g.expr e) (λ z q. expr e l (suc d) z q) w h 0 rest

-- an assignment has `=` behind its name and groups
pub assignment_assigns : (x : Designator) (e : Expression) (l d : ℕ) (w : List (Mark Token)) (rest : List Token) → Words (a.action_statement (st.assignment x e)) l d w → assigns_first (bare w ++ rest) ≡ true
assignment_assigns (s.part_ref n xs c) e l d w rest (u, v, (i, j, h, (m, k, q, r, split3), split2), (y, z, (at, b), o, split4), split) =
    let back : bare w ++ rest ≡ record { tok = t.word n.text; at = n.at } ∷ (bare m ++ (bare k ++ (bare v ++ rest))) =
    ap (λ x. bare x ++ rest) split ∙ (sym (regroup u v rest) ∙ (ap (λ x. bare x ++ (bare v ++ rest)) (split2 ∙ ap (λ x. x ++ j) h) ∙ ap (λ x. record { tok = t.word n.text; at = n.at } ∷ x) (ap (λ x. bare x ++ (bare v ++ rest)) split3 ∙ sym (regroup m k (bare v ++ rest))))) in
    ap assigns_first back ∙ (ap begins_equals (subscripts xs l d m q 0 (bare k ++ (bare v ++ rest)) ∙ selector c l d k r 0 (bare v ++ rest)) ∙ ap (λ x. begins_equals (groups 0 (bare x ++ rest))) (split4 ∙ ap (λ x. x ++ z) b))
