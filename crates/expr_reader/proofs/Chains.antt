-- Operators of one strength, from the left: a chain of operands is exact.
use Rattle.std.proofs.Common.{◌≡◌, ℕ, suc, ◌≤◌, Bool, true, false, nat_eq, List, [], ◌∷◌, ◌++◌, inl, inr, refl, ap, sym, ◌∙◌, subst, arith, append_assoc, append-nil}
use Rattle.std.proofs.lemmas.Bool.{cases_Bool, eqb-true}
use Rattle.reader_theory.specs.Words.{Mark, bare}
use Rattle.reader_theory.specs.Levels.{One}
use Rattle.reader_theory.specs.Readers.{token, many, pair}
use Rattle.reader_theory.specs.Exactness.{Stops, never, Heads, Exact}
use Rattle.reader_theory.specs.Languages.{Items}
use Rattle.reader_theory.proofs.Independent.{Both}
use Rattle.reader_theory.proofs.Marks.{never_stops}
use Rattle.reader_theory.proofs.Sequence.{exact_both}
use Rattle.reader_theory.proofs.Single.{relabel}
use Rattle.reader_theory.proofs.Many.{exact_many}
use Rattle.reader_theory.proofs.Levels.{exact_one}
use Rattle.fortran_tree.specs.Expressions as s
use Rattle.fortran_tree.specs.Expressions.{Expression}
use Rattle.fortran_grammar.specs.Tokens.{Token}
use Rattle.fortran_grammar.specs.ExpressionGrammar.{strength}
use Rattle.expr_reader.specs.Openings.{goes, binds}
use Rattle.expr_reader.specs.Reading.{Reader, with_operator, folded, item, chain}
use Rattle.expr_reader.proofs.Facts.{from_left, here, chain_binding, stops_more, stops_binds, next_stops}
use Rattle.expr_reader.proofs.Beginnings.{At}
use Rattle.expr_reader.proofs.Operators as operators

-- the outermost operator stands between two operands and binds so
abbrev pub tops : ℕ → Expression → Bool
tops k (s.binary o a b at) = nat_eq (strength o) k
tops k e = false

folded_last : (h : Expression) (es : List (Token × Expression)) (e : Token × Expression) → folded h (es ++ e ∷ []) ≡ with_operator (folded h es) e
folded_last h [] e = refl
folded_last h (d ∷ es) e = folded_last (with_operator h d) es e

items_last : {A : Type 0} (L : A → List (Mark Token) → Type 0) (es : List A) (e : A) (u v : List (Mark Token)) → Items L es u → L e v → Items L (es ++ e ∷ []) (u ++ v)
items_last L [] e u v h k = (v, [], k, refl, ap (λ z. z ++ v) h ∙ sym (append-nil v))
items_last L (d ∷ es) e u v (i, j, one, rest, split) k = (i, j ++ v, one, items_last L es e j v rest k, ap (λ z. z ++ v) split ∙ append_assoc i j v)

module _ (j limit level : ℕ) (left : from_left (suc j) ≡ true) (small : suc j ≤ 8) where
  abbrev Chained : Token × Expression → List (Mark Token) → Type 0
  Chained = operators.Item (suc j) (suc j) (suc (suc j)) here small (omega arith) (chain_binding (suc j) left) limit level

  -- an operand as the first one, and the operators behind it
  pub record Chain (e : Expression) (w : List (Mark Token)) : Type 0 where
    pub head : Expression
    pub items : List (Token × Expression)
    pub front : List (Mark Token)
    pub behind : List (Mark Token)
    pub is_folded : e ≡ folded head items
    pub plain : tops (suc j) head ≡ false
    pub is_head : At (suc j) limit level head front
    pub are_items : Items Chained items behind
    pub joins : w ≡ front ++ behind

  folded_in : (es : List (Token × Expression)) (h : Expression) (u v : List (Mark Token)) → At (suc j) limit level h u → Items Chained es v → At (suc j) limit level (folded h es) (u ++ v)
  folded_in [] h u v a e = subst (At (suc j) limit level h) (sym (ap (λ z. u ++ z) e ∙ append-nil u)) a
  folded_in (e ∷ es) h u v a (i, k, one, rest, split) =
      subst (At (suc j) limit level (folded (with_operator h e) es)) (append_assoc u i k ∙ sym (ap (λ z. u ++ z) split))
      (folded_in es (with_operator h e) (u ++ i) k (operators.built (suc j) (suc j) (suc (suc j)) here small (omega arith) (chain_binding (suc j) left) limit level h e u i a one) rest)

  alone : (e : Expression) (w : List (Mark Token)) → tops (suc j) e ≡ false → At (suc j) limit level e w → Chain e w
  alone e w t h = record { head = e; items = []; front = w; behind = []; is_folded = refl; plain = t; is_head = h; are_items = refl; joins = sym (append-nil w) }

  pull : (e : Expression) (w : List (Mark Token)) → At (suc j) limit level e w → Chain e w
  pull (s.binary o a b at) w h = elim (cases_Bool (nat_eq (strength o) (suc j))) [
    | inl t ↦ last (operators.parted (suc j) (suc j) (suc (suc j)) here small (omega arith) (chain_binding (suc j) left) limit level o a b at w (eqb-true _ _ t) h.1) (pull a)
    | inr f ↦ alone (s.binary o a b at) w f h
  ]
    where
      whole : (p : operators.Parts (suc j) (suc j) (suc (suc j)) here small (omega arith) (chain_binding (suc j) left) limit level (s.binary o a b at) w) → Chain p.head p.front → Chain (s.binary o a b at) w
      whole p c = record {
        head = c.head;
        items = c.items ++ p.item ∷ [];
        front = c.front;
        behind = c.behind ++ p.back;
        is_folded = p.is ∙ (ap (λ z. with_operator z p.item) c.is_folded ∙ sym (folded_last c.head c.items p.item));
        plain = c.plain;
        is_head = c.is_head;
        are_items = items_last Chained c.items p.item c.behind p.back c.are_items p.is_item;
        joins = p.joins ∙ (ap (λ z. z ++ p.back) c.joins ∙ append_assoc c.front c.behind p.back);
      }

      same_head : (p : operators.Parts (suc j) (suc j) (suc (suc j)) here small (omega arith) (chain_binding (suc j) left) limit level (s.binary o a b at) w) → p.head ≡ a
      same_head p = let k = p.is in cc

      last : operators.Parts (suc j) (suc j) (suc (suc j)) here small (omega arith) (chain_binding (suc j) left) limit level (s.binary o a b at) w → ((u : List (Mark Token)) → At (suc j) limit level a u → Chain a u) → Chain (s.binary o a b at) w
      last p again = whole p (subst (λ z. Chain z p.front) (sym (same_head p)) (again p.front (subst (λ z. At (suc j) limit level z p.front) (same_head p) p.is_head)))
  pull e w h = alone e w refl h

  item_heads : (e : Token × Expression) (w : List (Mark Token)) → Chained e w → Heads (binds (suc j)) w
  item_heads e w (x, b, eq, (p, q, px, sb, split)) = subst (Heads (binds (suc j))) (sym (split ∙ ap (λ z. z ++ q) px.1)) px.0

  heads_stop : (w : List (Mark Token)) (rest : List Token) → Heads (binds (suc j)) w → Stops (goes (suc j)) (bare w ++ rest)
  heads_stop [] rest h = absurd h
  heads_stop (m ∷ w) rest h = next_stops (suc j) m.token h

  heads_longer : (u v w : List (Mark Token)) → Heads (binds (suc j)) u → w ≡ u ++ v → Heads (binds (suc j)) w
  heads_longer [] v w h e = absurd h
  heads_longer (m ∷ u) v w h e = subst (Heads (binds (suc j))) (sym e) h

  -- behind a head and each item stands an operator of this strength, or what stops the chain
  items_apart : (es : List (Token × Expression)) (w : List (Mark Token)) (rest : List Token) → Items Chained es w → Stops (goes j) rest → Stops (goes (suc j)) (bare w ++ rest)
  items_apart [] w rest h stops = subst (λ z. Stops (goes (suc j)) (bare z ++ rest)) (sym h) (stops_more j rest stops)
  items_apart (e ∷ es) w rest (i, k, one, more, split) stops = heads_stop w rest (heads_longer i k w (item_heads e i one) split)

  module _ (shallow : level ≤ limit) (r : Reader Expression) (x : Exact (At (suc (suc j)) limit level) (goes (suc j)) r) (o : Token) (fits : binds (suc j) o ≡ true) where
    exact_item : Exact Chained (goes (suc j)) (item (suc j) r)
    exact_item = exact_both pair (One (binds (suc j)) limit level) (At (suc (suc j)) limit level) (token (binds (suc j))) r never (goes (suc j))
        (exact_one limit level (binds (suc j)) o fits shallow) x (λ b w rest h s. never_stops (bare w ++ rest))

    exact_items : Exact (Items Chained) (goes j) (many (binds (suc j)) (item (suc j) r))
    exact_items = exact_many Chained (item (suc j) r) (binds (suc j)) (goes (suc j)) (goes j) exact_item item_heads (stops_more j) (stops_binds j) (next_stops (suc j))

    module _ (Head : Expression → List (Mark Token) → Type 0) (first : Reader Expression) (y : Exact Head (goes (suc j)) first) (head_is : (e : Expression) (w : List (Mark Token)) → Head e w → At (suc j) limit level e w) (is_head : (e : Expression) (w : List (Mark Token)) → tops (suc j) e ≡ false → At (suc j) limit level e w → Head e w) where
      pub exact_chain : Exact (At (suc j) limit level) (goes j) (chain (suc j) first r)
      exact_chain = relabel (Both folded Head (Items Chained)) (At (suc j) limit level) (chain (suc j) first r) (goes j) (goes j)
          (exact_both folded Head (Items Chained) first (many (binds (suc j)) (item (suc j) r)) (goes (suc j)) (goes j) y exact_items items_apart)
          whole
          (λ e w h. let c = pull e w h in (c.head, c.items, c.is_folded, (c.front, c.behind, is_head c.head c.front c.plain c.is_head, c.are_items, c.joins)))
          (λ rest s. s)
        where
          whole : (e : Expression) (w : List (Mark Token)) → Both folded Head (Items Chained) e w → At (suc j) limit level e w
          whole e w (h, es, eq, (u, v, hh, items, split)) = subst (λ z. At (suc j) limit level e z) (sym split) (subst (λ z. At (suc j) limit level z (u ++ v)) (sym eq) (folded_in es h u v (head_is h u hh) items))
