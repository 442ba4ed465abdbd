-- An operator before its operand, or none: signs and `.not.`.
use Rattle.std.proofs.Common.{◌≡◌, ℕ, suc, ◌≤◌, true, nat_eq, List, [], ◌∷◌, ◌++◌, refl, ap, sym, ◌∙◌, subst, arith}
use Rattle.std.proofs.lemmas.Bool.{le-leb, leb-true, eqb-true, eq-eqb, ne_eqb}
use Rattle.reader_theory.specs.Words.{Mark, bare}
use Rattle.reader_theory.specs.Levels.{mark, One}
use Rattle.reader_theory.specs.Readers.{token, both, mapped, pair}
use Rattle.reader_theory.specs.Exactness.{Stops, never, Heads, Exact}
use Rattle.reader_theory.specs.Languages.{Image, Or}
use Rattle.reader_theory.proofs.Independent.{Both}
use Rattle.reader_theory.proofs.Marks.{never_stops}
use Rattle.reader_theory.proofs.Sequence.{exact_both}
use Rattle.reader_theory.proofs.Single.{exact_mapped}
use Rattle.reader_theory.proofs.Choice.{exact_pick}
use Rattle.reader_theory.proofs.Levels.{exact_one}
use Rattle.fortran_tokens.specs.declared.token.Sign.TheVariants as sign
use Rattle.fortran_tree.specs.declared.expr.PrefixOperator.{PrefixOperator}
use Rattle.fortran_tree.specs.declared.expr.PrefixOperator.TheVariants as prefixes
use Rattle.fortran_tree.specs.Expressions as s
use Rattle.fortran_tree.specs.Expressions.{Expression}
use Rattle.fortran_grammar.specs.Tokens as t
use Rattle.fortran_grammar.specs.Tokens.{Tok, Token}
use Rattle.fortran_grammar.specs.Phrases.{Words}
use Rattle.fortran_grammar.specs.ExpressionGrammar.{expr, rank, prefix_strength, prefix_sign}
use Rattle.expr_reader.specs.Openings.{goes, opens, opening, prefixed, prefix_in, prefix_of}
use Rattle.expr_reader.specs.Reading.{Reader, signed, maybe_signed}
use Rattle.expr_reader.proofs.Facts.{opening_back}
use Rattle.expr_reader.proofs.Beginnings.{At, headed}

-- the strengths of operators before an operand
prefix_of_tok : (k : ℕ) (x : Tok) → 1 ≤ k → k ≤ 8 → nat_eq (opening x) k ≡ true → (x ≡ t.sign (prefix_sign (prefix_in x))) × (prefix_strength (prefix_in x) ≡ k)
prefix_of_tok k (t.sign sign.Plus) l h e = (refl, eqb-true _ k e)
prefix_of_tok k (t.sign sign.Minus) l h e = (refl, eqb-true _ k e)
prefix_of_tok k (t.sign sign.Not) l h e = (refl, eqb-true _ k e)
prefix_of_tok k (t.sign s) l h e = absurd (let i = eqb-true _ k e in omega arith)
prefix_of_tok k x l h e = absurd (let i = eqb-true _ k e in omega arith)

prefix_back : (x : PrefixOperator) → prefix_in (t.sign (prefix_sign x)) ≡ x
prefix_back prefixes.Not = refl
prefix_back x = refl

module _ (k limit level : ℕ) (some : 1 ≤ k) (small : k ≤ 8) (shallow : level ≤ limit) where
  -- an operator that binds so, and its operand one level further in
  abbrev Pair : Token × Expression → List (Mark Token) → Type 0
  Pair = Both pair (One (prefixed k) limit level) (At (suc k) limit (suc level))

  abbrev pub Signed : Expression → List (Mark Token) → Type 0
  Signed = Image signed Pair

  -- such an expression is one, and that is all that there is of this operator
  pub signed_is : (e : Expression) (w : List (Mark Token)) → Signed e w → At k limit level e w
  signed_is e w (i, eq, (x, b, is, (u, v, (test, hs), (r, hb), split))) =
      let facts = prefix_of_tok k x.tok some small test in
      let strong = facts.1 in
      let made : At k limit level (signed (x, b)) (u ++ v) = (
        (omega arith),
        (
          le-leb (suc (prefix_strength (prefix_of x))) (rank b) (omega arith),
          (u, v, hs ∙ ap (λ z. mark limit level (record { tok = z; at = x.at }) ∷ []) facts.0, hb, refl),
        ),
      ) in
      subst (λ z. At k limit level e z) (sym split) (subst (λ z. At k limit level z (u ++ v)) (sym (eq ∙ ap signed is)) made)

  pub is_signed : (o : PrefixOperator) (b : Expression) (at : _) (w : List (Mark Token)) → prefix_strength o ≡ k → Words (expr (s.prefix o b at)) limit level w → Signed (s.prefix o b at) w
  is_signed o b at w e (c, (u, v, hs, hb, split)) =
      let tight = leb-true (suc (prefix_strength o)) (rank b) c in
      ((record { tok = t.sign (prefix_sign o); at = at }, b), ap (λ z. s.prefix z b at) (sym (prefix_back o)), (_, b, refl, (u, v, (eq-eqb _ k (opening_back o ∙ e), hs), ((omega arith), hb), split)))

  module _ (operand : Reader Expression) (y : Exact (At (suc k) limit (suc level)) (goes k) operand) (o : Token) (fits : prefixed k o ≡ true) where
    exact_pair : Exact Pair (goes k) (both pair (token (prefixed k)) operand)
    exact_pair = exact_both pair (One (prefixed k) limit level) (At (suc k) limit (suc level)) (token (prefixed k)) operand never (goes k)
        (exact_one limit level (prefixed k) o fits shallow) y (λ b w rest h s. never_stops (bare w ++ rest))

    heads : (e : Expression) (w : List (Mark Token)) → Signed e w → Heads (prefixed k) w
    heads e w (i, eq, (x, b, is, (u, v, (test, hs), hb, split))) = subst (Heads (prefixed k)) (sym (split ∙ ap (λ z. z ++ v) hs)) test

    not_prefixed : (w : List (Mark Token)) (rest : List Token) → Heads (opens (suc k)) w → Stops (prefixed k) (bare w ++ rest)
    not_prefixed [] rest h = absurd h
    not_prefixed (m ∷ w) rest h = let i = leb-true (suc k) (opening m.token.tok) h in ne_eqb (opening m.token.tok) k (λ e. (let q = e in omega arith))

    -- signed, or as tight as the operand may be
    module _ (other : Reader Expression) (x : Exact (At (suc k) limit level) (goes k) other) where
      pub exact_maybe_signed : Exact (Or Signed (At (suc k) limit level)) (goes k) (maybe_signed k operand other)
      exact_maybe_signed = exact_pick (prefixed k) Signed (At (suc k) limit level) (mapped signed (both pair (token (prefixed k)) operand)) other (goes k) (goes k)
          (exact_mapped signed Pair Signed (both pair (token (prefixed k)) operand) (goes k) (goes k) exact_pair (λ a w h. (a, refl, h)) (λ e w h. h) (λ rest s. s))
          x (goes k) heads (λ e w rest h stops. not_prefixed w rest (headed (suc k) limit level e w h)) (λ rest s. s) (λ rest s. s)
