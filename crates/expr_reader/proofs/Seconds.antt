-- Behind a name at the front of an expression stands no `=`.
use Rattle.std.proofs.Common.{◌≡◌, ℕ, suc, Bool, true, false, cond, List, [], ◌∷◌, ◌++◌, inl, inr, refl, ap, sym, ◌∙◌, subst}
use Rattle.reader_theory.specs.Words.{Mark, bare}
use Rattle.reader_theory.specs.Levels.{mark}
use Rattle.reader_theory.specs.Readers.{two_pass}
use Rattle.reader_theory.specs.Exactness.{Stops}
use Rattle.reader_theory.proofs.Marks.{regroup}
use Rattle.fortran_tokens.specs.declared.token.Sign.TheVariants as sign
use Rattle.fortran_tree.specs.declared.expr.Operator.{Operator}
use Rattle.fortran_tree.specs.declared.expr.Operator.TheVariants as operators
use Rattle.fortran_tree.specs.declared.expr.PrefixOperator.{PrefixOperator}
use Rattle.fortran_tree.specs.declared.expr.PrefixOperator.TheVariants as prefixes
use Rattle.fortran_tree.specs.Expressions as s
use Rattle.fortran_tree.specs.Expressions.{Expression, Expressions, SectionSubscripts, ImageSelector}
use Rattle.fortran_grammar.specs.Tokens as t
use Rattle.fortran_grammar.specs.Tokens.{Token}
use Rattle.fortran_grammar.specs.Phrases.{Words}
use Rattle.fortran_grammar.specs.ExpressionGrammar as g
use Rattle.expr_reader.specs.Tests.{is_sign, is_sign_tok, is_word, is_word_tok}

abbrev pub assigns : List Token → Bool
assigns ts = two_pass is_word (is_sign sign.Assign) ts

-- no name stands in front
pub no_name : (x : Token) (ts : List Token) → is_word x ≡ false → assigns (x ∷ ts) ≡ false
no_name x [] e = refl
no_name x (y ∷ ts) e = ap (λ b. cond b (is_sign sign.Assign y) false) e

-- behind the first token stands no `=`
pub no_second : (x : Token) (ts : List Token) → Stops (is_sign sign.Assign) ts → assigns (x ∷ ts) ≡ false
no_second x [] h = refl
no_second x (y ∷ ts) h = by_word (is_word x) h
  where
    by_word : (b : Bool) → is_sign sign.Assign y ≡ false → cond b (is_sign sign.Assign y) false ≡ false
    by_word true e = e
    by_word false e = refl

operator_is_other : (o : Operator) → is_sign_tok sign.Assign (t.sign (g.operator_sign o)) ≡ false
operator_is_other operators.Power = refl
operator_is_other o = refl

prefix_is_no_word : (o : PrefixOperator) → is_word_tok (t.sign (g.prefix_sign o)) ≡ false
prefix_is_no_word prefixes.Not = refl
prefix_is_no_word o = refl

-- what begins with such a token
module _ (d l : ℕ) (rest : List Token) where
  by_first : (x : Token) (u v w : List (Mark Token)) → u ≡ mark l d x ∷ [] → w ≡ u ++ v → is_word x ≡ false → assigns (bare w ++ rest) ≡ false
  by_first x u v w p split e = subst (λ z. assigns (bare z ++ rest) ≡ false) (sym (split ∙ ap (λ z. z ++ v) p)) (no_name x (bare v ++ rest) e)

  pub by_second : (x : Token) (u v w : List (Mark Token)) → u ≡ mark l d x ∷ [] → w ≡ u ++ v → Stops (is_sign sign.Assign) (bare v ++ rest) → assigns (bare w ++ rest) ≡ false
  by_second x u v w p split h = subst (λ z. assigns (bare z ++ rest) ≡ false) (sym (split ∙ ap (λ z. z ++ v) p)) (no_second x (bare v ++ rest) h)

  headed : (x : Token) (u v w : List (Mark Token)) → u ≡ mark l d x ∷ [] → w ≡ u ++ v → is_sign sign.Assign x ≡ false → Stops (is_sign sign.Assign) (bare w ++ rest)
  headed x u v w p split e = subst (λ z. Stops (is_sign sign.Assign) (bare z ++ rest)) (sym (split ∙ ap (λ z. z ++ v) p)) e

selected : (c : ImageSelector) (l d : ℕ) (w : List (Mark Token)) (rest : List Token) → Words (g.image_selector c) l d w → Stops (is_sign sign.Assign) rest → Stops (is_sign sign.Assign) (bare w ++ rest)
selected s.no_image_selector l d w rest h st = subst (λ z. Stops (is_sign sign.Assign) (bare z ++ rest)) (sym h) st
selected (s.image_selector es ps) l d w rest (inl (u, v, (at, p), q, split)) st = headed (suc d) l rest _ u v w p split refl
selected (s.image_selector es ps) l d w rest (inr (u, v, (at, p), q, split)) st = headed (suc d) l rest _ u v w p split refl

subscripted : (subs : SectionSubscripts) (c : ImageSelector) (l d : ℕ) (u v w : List (Mark Token)) (rest : List Token) → Words (g.section_subscripts subs) l d u → Words (g.image_selector c) l d v → w ≡ u ++ v → Stops (is_sign sign.Assign) rest → Stops (is_sign sign.Assign) (bare w ++ rest)
subscripted s.no_section_subscripts c l d u v w rest h k split st = subst (λ z. Stops (is_sign sign.Assign) (bare z ++ rest)) (sym (split ∙ ap (λ z. z ++ v) h)) (selected c l d v rest k st)
subscripted (s.more_section_subscripts a more) c l d u v w rest (i, j, (at, p), q, split2) k split st =
    subst (λ z. Stops (is_sign sign.Assign) (bare z ++ rest)) (sym (split ∙ ap (λ z. z ++ v) (split2 ∙ ap (λ z. z ++ j) p))) refl

pub no_assign : (e : Expression) (l d : ℕ) (w : List (Mark Token)) (rest : List Token) → Words (g.expr e) l d w → Stops (is_sign sign.Assign) rest → assigns (bare w ++ rest) ≡ false
no_assign (s.number n k at) l d w rest h st = subst (λ z. assigns (bare z ++ rest) ≡ false) (sym h) (no_name (record { tok = t.integer n k; at = at }) rest refl)
no_assign (s.logical b at) l d w rest h st = subst (λ z. assigns (bare z ++ rest) ≡ false) (sym h) (no_name (record { tok = t.sign (g.truth_sign b); at = at }) rest refl)
no_assign (s.designator (s.part_ref n subs c)) l d w rest (u, v, h, (i, j, q, k, split2), split) st = by_second d l rest _ u v w h split (subscripted subs c l d i j v rest q k split2 st)
no_assign (s.function_reference f args) l d w rest (b, (u, v, h, (i, j, (at, p), q, split2), split)) st =
    by_second d l rest _ u v w h split (headed (suc d) l rest _ i j v p split2 refl)
no_assign (s.parenthesized e at) l d w rest (f, (u, v, (p, h), q, split)) st = by_first (suc d) l rest _ u v w h split refl
no_assign (s.array_constructor es at) l d w rest (f, inl (u, v, (p, h), q, split)) st = by_first (suc d) l rest _ u v w h split refl
no_assign (s.array_constructor es at) l d w rest (f, inr (u, v, (p, h), q, split)) st = by_first (suc d) l rest _ u v w h split refl
no_assign (s.prefix o e at) l d w rest (b, (u, v, h, q, split)) st = by_first d l rest _ u v w h split (prefix_is_no_word o)
no_assign (s.binary o a b at) l d w rest (c, (f, (u, v, ha, (i, j, (p, h), hb, split2), split))) st =
    let there : bare w ++ rest ≡ bare u ++ (bare v ++ rest) = ap (λ z. bare z ++ rest) split ∙ sym (regroup u v rest) in
    subst (λ z. assigns z ≡ false) (sym there) (no_assign a l d u (bare v ++ rest) ha (headed d l rest _ i j v h split2 (operator_is_other o)))
