-- The readers of expressions are exact at each level, where that of primaries is.
use Rattle.std.proofs.Common.{◌≡◌, ℕ, zero, suc, ◌+◌, ◌≤◌, true, false, List, inl, inr, refl, subst, arith}
use Rattle.std.proofs.lemmas.Bool.{eqb-false}
use Rattle.caf_base.specs.declared.place.Pos.{Pos}
use Rattle.reader_theory.specs.Words.{Mark}
use Rattle.reader_theory.specs.Readers.{sunk}
use Rattle.reader_theory.specs.Exactness.{Exact}
use Rattle.reader_theory.specs.Languages.{Or}
use Rattle.reader_theory.proofs.Single.{relabel, widen}
use Rattle.fortran_tokens.specs.declared.token.Sign.{Sign}
use Rattle.fortran_tokens.specs.declared.token.Sign.TheVariants as sign
use Rattle.fortran_tree.specs.declared.expr.Operator.TheVariants as operators
use Rattle.fortran_tree.specs.declared.expr.PrefixOperator.TheVariants as prefixes
use Rattle.fortran_tree.specs.Expressions as s
use Rattle.fortran_tree.specs.Expressions.{Expression}
use Rattle.fortran_grammar.specs.Tokens as t
use Rattle.fortran_grammar.specs.Tokens.{Token}
use Rattle.fortran_grammar.specs.Phrases as p
use Rattle.fortran_grammar.specs.Phrases.{Words}
use Rattle.fortran_grammar.specs.ExpressionGrammar.{expr, rank}
use Rattle.expr_reader.specs.Openings.{goes, binds, opens}
use Rattle.expr_reader.specs.Reading.{Reader, Tier, chain, maybe_signed, powers, terms, sums, relations, expressions, tier_from, tier}
use Rattle.expr_reader.proofs.Facts.{here, from_left, stops_more, power_binding, relation_binding}
use Rattle.expr_reader.proofs.Beginnings.{At}
use Rattle.expr_reader.proofs.Chains.{tops, exact_chain}
use Rattle.expr_reader.proofs.Singles.{exact_single}
use Rattle.expr_reader.proofs.Signs.{Signed, signed_is, is_signed, exact_maybe_signed}
use Rattle.expr_reader.proofs.Sunken.{exact_sunken}

-- What binds as tightly as an operator and hasn't it outermost binds more tightly.
above_relation : (e : Expression) → 5 ≤ rank e → tops 5 e ≡ false → 6 ≤ rank e
above_relation (s.prefix prefixes.Not e at) l f = absurd (omega arith)
above_relation (s.prefix o e at) l f = omega arith
above_relation (s.binary o a b at) l f = let i = eqb-false _ 5 f in by_strength o l i
  where
    by_strength : (o : _) → 5 ≤ rank (s.binary o a b at) → (rank (s.binary o a b at) ≡ 5 → ⊥) → 6 ≤ rank (s.binary o a b at)
    by_strength o l n = omega (arith, n)
above_relation e l f = omega arith

above_power : (e : Expression) → 8 ≤ rank e → tops 8 e ≡ false → 9 ≤ rank e
above_power (s.prefix prefixes.Not e at) l f = absurd (omega arith)
above_power (s.prefix o e at) l f = absurd (omega arith)
above_power (s.binary o a b at) l f = let i = eqb-false _ 8 f in omega (arith, i)
above_power e l f = omega arith

above_chain : (k : ℕ) (e : Expression) → k ≤ 3 → k ≤ rank e → tops k e ≡ false → suc k ≤ rank e
above_chain k (s.prefix prefixes.Not e at) h l f = omega arith
above_chain k (s.prefix o e at) h l f = omega arith
above_chain k (s.binary o a b at) h l f = let i = eqb-false _ k f in omega (arith, i)
above_chain k e h l f = omega arith

above_product : (e : Expression) → 7 ≤ rank e → tops 7 e ≡ false → 8 ≤ rank e
above_product (s.prefix prefixes.Not e at) l f = absurd (omega arith)
above_product (s.prefix o e at) l f = absurd (omega arith)
above_product (s.binary o a b at) l f = let i = eqb-false _ 7 f in omega (arith, i)
above_product e l f = omega arith

abbrev a_sign : Pos → Sign → Token
a_sign at x = record { tok = t.sign x; at = at }

module _ (limit level : ℕ) (shallow : level ≤ limit) (there : Pos) (primary power : Reader Expression) (x : Exact (At 9 limit level) (goes 8) primary) (inner_power : Exact (At 8 limit (suc level)) (goes 7) power) where
  pub exact_powers : Exact (At 8 limit level) (goes 7) (powers primary power)
  exact_powers = exact_single 7 8 p.deeper (omega arith) power_binding limit level shallow primary x power inner_power (a_sign there sign.Power) refl above_power

  pub exact_terms : Exact (At 7 limit level) (goes 6) (terms primary power)
  exact_terms = exact_chain 6 limit level refl (omega arith) shallow (powers primary power) exact_powers (a_sign there sign.Star) refl (At 8 limit level) (powers primary power) exact_powers
      (λ e w h. ((let i = h.0 in omega arith), h.1)) (λ e w f h. (above_product e h.0 f, h.1))

  module _ (term : Reader Expression) (inner_term : Exact (At 7 limit (suc level)) (goes 6) term) where
    abbrev Signed_term : Expression → List (Mark Token) → Type 0
    Signed_term = Signed 6 limit level (omega arith) (omega arith) shallow

    head_of_sum : (e : Expression) (w : List (Mark Token)) → tops 6 e ≡ false → At 6 limit level e w → Or Signed_term (At 7 limit level) e w
    head_of_sum (s.prefix prefixes.Not e at) w f h = absurd (let i = h.0 in omega arith)
    head_of_sum (s.prefix prefixes.Plus e at) w f h = inl (is_signed 6 limit level (omega arith) (omega arith) shallow prefixes.Plus e at w refl h.1)
    head_of_sum (s.prefix prefixes.Minus e at) w f h = inl (is_signed 6 limit level (omega arith) (omega arith) shallow prefixes.Minus e at w refl h.1)
    head_of_sum (s.binary o a b at) w f h = inr ((let i = eqb-false _ 6 f in let l = h.0 in omega (arith, i)), h.1)
    head_of_sum e w f h = inr ((omega arith), h.1)

    in_sum : (e : Expression) (w : List (Mark Token)) → Or Signed_term (At 7 limit level) e w → At 6 limit level e w
    in_sum e w (inl h) = signed_is 6 limit level (omega arith) (omega arith) shallow e w h
    in_sum e w (inr h) = ((let i = h.0 in omega arith), h.1)

    pub exact_sums : Exact (At 6 limit level) (goes 5) (sums primary power term)
    exact_sums = exact_chain 5 limit level refl (omega arith) shallow (terms primary power) exact_terms (a_sign there sign.Plus) refl (Or Signed_term (At 7 limit level)) (maybe_signed 6 term (terms primary power))
        (exact_maybe_signed 6 limit level (omega arith) (omega arith) shallow term inner_term (a_sign there sign.Plus) refl (terms primary power) exact_terms)
        in_sum head_of_sum

    pub exact_relations : Exact (At 5 limit level) (goes 4) (relations primary power term)
    exact_relations = exact_single 4 6 here (omega arith) relation_binding limit level shallow (sums primary power term) exact_sums (sums primary power term) (widen (At 6 limit level) (sums primary power term) (goes 5) (goes 4) exact_sums (stops_more 4)) (a_sign there sign.Equal) refl above_relation

    module _ (relation : Reader Expression) (inner_relation : Exact (At 5 limit (suc level)) (goes 4) relation) where
      abbrev Negated : Expression → List (Mark Token) → Type 0
      Negated = Signed 4 limit level (omega arith) (omega arith) shallow

      negation : (e : Expression) (w : List (Mark Token)) → At 4 limit level e w → Or Negated (At 5 limit level) e w
      negation (s.prefix prefixes.Not e at) w h = inl (is_signed 4 limit level (omega arith) (omega arith) shallow prefixes.Not e at w refl h.1)
      negation (s.prefix prefixes.Plus e at) w h = inr ((omega arith), h.1)
      negation (s.prefix prefixes.Minus e at) w h = inr ((omega arith), h.1)
      negation (s.binary o a b at) w h = inr (no_four o h.0, h.1)
        where
          no_four : (o : _) → 4 ≤ rank (s.binary o a b at) → 5 ≤ rank (s.binary o a b at)
          no_four operators.Eqv l = absurd (omega arith)
          no_four operators.Neqv l = absurd (omega arith)
          no_four operators.Or l = absurd (omega arith)
          no_four operators.And l = absurd (omega arith)
          no_four o l = omega arith
      negation e w h = inr ((omega arith), h.1)

      in_negation : (e : Expression) (w : List (Mark Token)) → Or Negated (At 5 limit level) e w → At 4 limit level e w
      in_negation e w (inl h) = signed_is 4 limit level (omega arith) (omega arith) shallow e w h
      in_negation e w (inr h) = ((let i = h.0 in omega arith), h.1)

      exact_negations : Exact (At 4 limit level) (goes 3) (maybe_signed 4 relation (relations primary power term))
      exact_negations = relabel (Or Negated (At 5 limit level)) (At 4 limit level) (maybe_signed 4 relation (relations primary power term)) (goes 4) (goes 3)
          (exact_maybe_signed 4 limit level (omega arith) (omega arith) shallow relation inner_relation (a_sign there sign.Not) refl (relations primary power term) exact_relations)
          in_negation negation (stops_more 3)

      looser : (j : ℕ) → suc j ≤ 3 → (o : Sign) → (r : Reader Expression) → Exact (At (suc (suc j)) limit level) (goes (suc j)) r → binds (suc j) (a_sign there o) ≡ true → from_left (suc j) ≡ true → Exact (At (suc j) limit level) (goes j) (chain (suc j) r r)
      looser j small o r y fits left = exact_chain j limit level left (omega arith) shallow r y (a_sign there o) fits (At (suc (suc j)) limit level) r y
          (λ e w h. ((let i = h.0 in omega arith), h.1)) (λ e w f h. (above_chain (suc j) e small h.0 f, h.1))

      pub exact_expressions : Exact (At 1 limit level) (goes 0) (expressions primary power term relation)
      exact_expressions = looser 0 (omega arith) sign.Eqv _ (looser 1 (omega arith) sign.Or _ (looser 2 (omega arith) sign.And _ exact_negations refl refl) refl refl) refl refl

-- the languages of expressions, by the limit and the level
abbrev pub Expression_at : ℕ → ℕ → Expression → List (Mark Token) → Type 0
Expression_at limit level e w = Words (expr e) limit level w

pub loosest : (e : Expression) → 1 ≤ rank e
loosest (s.prefix prefixes.Not e at) = omega arith
loosest (s.prefix o e at) = omega arith
loosest (s.binary operators.Power a b at) = omega arith
loosest (s.binary o a b at) = omega arith
loosest e = omega arith

abbrev nowhere : Pos
nowhere = record { line = 0; col = 0 }

-- the readers of a level are exact
pub record TierIsExact (limit level : ℕ) (t : Tier) : Type 0 where
  pub expression : Exact (At 1 limit level) (goes 0) t.expression
  pub relation : Exact (At 5 limit level) (goes 4) t.relation
  pub term : Exact (At 7 limit level) (goes 6) t.term
  pub power : Exact (At 8 limit level) (goes 7) t.power

tier_from_exact : (limit level : ℕ) → level ≤ limit → (primary power term relation : Reader Expression) → Exact (At 9 limit level) (goes 8) primary → Exact (At 8 limit (suc level)) (goes 7) power → Exact (At 7 limit (suc level)) (goes 6) term → Exact (At 5 limit (suc level)) (goes 4) relation → TierIsExact limit level (tier_from primary power term relation)
tier_from_exact limit level l primary power term relation x y z w = record {
  expression = exact_expressions limit level l nowhere primary power x y term z relation w;
  relation = exact_relations limit level l nowhere primary power x y term z;
  term = exact_terms limit level l nowhere primary power x y;
  power = exact_powers limit level l nowhere primary power x y;
}

module _ (bottom : Reader Expression) (primaries : Reader Expression → Reader Expression) (limit : ℕ) (at_bottom : Exact (At 9 limit limit) (goes 8) bottom) (at_level : (level : ℕ) → suc level ≤ limit → (r : Reader Expression) → Exact (Expression_at limit (suc level)) (goes 0) r → Exact (At 9 limit level) (goes 8) (primaries r)) where
  exact_tier : (left level : ℕ) → level + left ≡ limit → TierIsExact limit level (tier bottom primaries left)
  unfolding tier
  exact_tier zero level e =
      let at : limit ≡ level = omega arith in
      subst (λ z. TierIsExact limit z (tier_from bottom (sunk (opens 8)) (sunk (opens 7)) (sunk (opens 5)))) at
      (tier_from_exact limit limit (omega arith) bottom _ _ _ at_bottom (exact_sunken 8 limit (omega arith) nowhere (omega arith) (goes 7)) (exact_sunken 7 limit (omega arith) nowhere (omega arith) (goes 6)) (exact_sunken 5 limit (omega arith) nowhere (omega arith) (goes 4)))
  exact_tier (suc left) level e =
      let x = exact_tier left (suc level) (omega arith) in
      tier_from_exact limit level (omega arith) (primaries (tier bottom primaries left).expression) _ _ _ (at_level level (omega arith) (tier bottom primaries left).expression (all_of (suc level) x)) x.power x.term x.relation
    where
      all_of : (d : ℕ) → TierIsExact limit d (tier bottom primaries left) → Exact (Expression_at limit d) (goes 0) (tier bottom primaries left).expression
      all_of d x = relabel (At 1 limit d) (Expression_at limit d) (tier bottom primaries left).expression (goes 0) (goes 0) x.expression (λ e w h. h.1) (λ e w h. (loosest e, h)) (λ rest s. s)

  pub exact_expression : (left level : ℕ) → level + left ≡ limit → Exact (Expression_at limit level) (goes 0) (tier bottom primaries left).expression
  exact_expression left level e = relabel (At 1 limit level) (Expression_at limit level) (tier bottom primaries left).expression (goes 0) (goes 0) (exact_tier left level e).expression (λ e w h. h.1) (λ e w h. (loosest e, h)) (λ rest s. s)
