-- An operator behind its left operand: what such an expression is made of, and that what is so made is one.
use Rattle.std.proofs.Common.{◌≡◌, ℕ, ◌≤◌, true, nat_le, List, [], ◌∷◌, ◌++◌, refl, ap, sym, ◌∙◌, subst, arith}
use Rattle.std.proofs.lemmas.Bool.{le-leb, leb-true, and_parts, and_from, eq-eqb}
use Rattle.caf_base.specs.declared.place.Pos.{Pos}
use Rattle.reader_theory.specs.Words.{Mark}
use Rattle.reader_theory.specs.Levels.{mark, One}
use Rattle.reader_theory.specs.Readers.{pair}
use Rattle.reader_theory.proofs.Independent.{Both}
use Rattle.fortran_tree.specs.declared.expr.Operator.{Operator}
use Rattle.fortran_tree.specs.Expressions as s
use Rattle.fortran_tree.specs.Expressions.{Expression}
use Rattle.fortran_grammar.specs.Tokens as t
use Rattle.fortran_grammar.specs.Tokens.{Tok, Token}
use Rattle.fortran_grammar.specs.Phrases.{Phrase, Words, FirstAt}
use Rattle.fortran_grammar.specs.ExpressionGrammar.{expr, rank, strength, left_rank, right_rank, operator_sign}
use Rattle.expr_reader.specs.Openings.{operator_of, binds}
use Rattle.expr_reader.specs.Reading.{place_of, with_operator}
use Rattle.expr_reader.proofs.Facts.{Binding, sign_of, grip_back, operator_back}
use Rattle.expr_reader.proofs.Beginnings.{At, begins_there}

-- the place in front is that of the first part
first_of_both : (p : Pos) (u v w : List (Mark Token)) → FirstAt p u → w ≡ u ++ v → FirstAt p w
first_of_both p [] v w f e = absurd f
first_of_both p (m ∷ u) v w f e = subst (FirstAt p) (sym e) f

same_first : (p q : Pos) (u v w : List (Mark Token)) → FirstAt p w → w ≡ u ++ v → FirstAt q u → p ≡ q
same_first p q [] v w f e g = absurd g
same_first p q (m ∷ u) v w f e g = sym (subst (FirstAt p) e f) ∙ g

module _ (k left right : ℕ) (inside : Phrase → Phrase) (small : k ≤ 8) (some : 1 ≤ k) (bound : (x : Operator) → strength x ≡ k → Binding left right inside x) (limit level : ℕ) where
  -- what may stand at the right
  abbrev pub Right : Expression → List (Mark Token) → Type 0
  Right b w = (right ≤ rank b) × Words (inside (expr b)) limit level w

  -- an operator and its right operand
  abbrev pub Item : Token × Expression → List (Mark Token) → Type 0
  Item = Both pair (One (binds k) limit level) Right

  -- an expression of such an operator
  pub record Parts (e : Expression) (w : List (Mark Token)) : Type 0 where
    pub head : Expression
    pub item : Token × Expression
    pub front : List (Mark Token)
    pub back : List (Mark Token)
    pub is : e ≡ with_operator head item
    pub is_head : At left limit level head front
    pub is_item : Item item back
    pub joins : w ≡ front ++ back

  pub parted : (x : Operator) (a b : Expression) (at : Pos) (w : List (Mark Token)) → strength x ≡ k → Words (expr (s.binary x a b at)) limit level w → Parts (s.binary x a b at) w
  parted x a b at w e (c, (f, (u, v, ha, (i, j, (p, hs), hb, split2), split))) =
      let facts = bound x e in
      let tests = and_parts (nat_le (left_rank x) (rank a)) (nat_le (right_rank x) (rank b)) c in
      let tight = leb-true (left_rank x) (rank a) tests.0 in
      let tighter = leb-true (right_rank x) (rank b) tests.1 in
      let same_left = facts.0 in
      let same_right = facts.1 in
      let o : Token = record { tok = t.sign (operator_sign x); at = p } in
      let least : left ≤ rank a = omega arith in
      let strong : binds k o ≡ true = eq-eqb _ k (grip_back x ∙ e) in
      let there = same_first at (place_of a) u v w f split (begins_there left limit level a u (least, ha)) in
      record {
        head = a;
        item = (o, b);
        front = u;
        back = v;
        is = ap (λ z. s.binary x a b z) there ∙ ap (λ z. s.binary z a b (place_of a)) (sym (operator_back x));
        is_head = (least, ha);
        is_item = (o, b, refl, (i, j, (strong, hs), ((let r = tighter in omega arith), subst (λ P. Words P limit level j) (facts.2 (expr b)) hb), split2));
        joins = split;
      }

  pub built : (a : Expression) (e : Token × Expression) (u v : List (Mark Token)) → At left limit level a u → Item e v → At k limit level (with_operator a e) (u ++ v)
  built a e u v (l, ha) (o, b, eq, (i, j, (test, hs), (r, hb), split)) =
      let is = sign_of k o some small test in
      let x = operator_of o in
      let facts = bound x is.1 in
      let same_left = facts.0 in
      let same_right = facts.1 in
      let strong = is.1 in
      let tight : nat_le (left_rank x) (rank a) ≡ true = le-leb (left_rank x) (rank a) (omega arith) in
      let tighter : nat_le (right_rank x) (rank b) ≡ true = le-leb (right_rank x) (rank b) (omega arith) in
      let sign_there : i ≡ mark limit level (record { tok = t.sign (operator_sign x); at = o.at }) ∷ [] = hs ∙ ap (λ z. mark limit level (record { tok = z; at = o.at }) ∷ []) is.0 in
      let made : At k limit level (with_operator a (o, b)) (u ++ v) = (
        (omega arith),
        (
          and_from _ _ tight tighter,
          (
            first_of_both (place_of a) u v (u ++ v) (begins_there left limit level a u (l, ha)) refl,
            (u, v, ha, (i, j, (o.at, sign_there), subst (λ P. Words P limit level j) (sym (facts.2 (expr b))) hb, split), refl),
          ),
        ),
      ) in
      subst (λ z. At k limit level (with_operator a z) (u ++ v)) (sym eq) made
