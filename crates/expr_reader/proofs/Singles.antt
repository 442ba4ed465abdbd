-- One operator alone, or one whose right operand is of the same form: a relation, a power.
use Rattle.std.proofs.Common.{◌≡◌, ℕ, suc, ◌≤◌, true, false, nat_eq, List, [], ◌∷◌, ◌++◌, Option, Some, None, inl, inr, refl, ap, sym, ◌∙◌, subst, arith, append-nil}
use Rattle.std.proofs.lemmas.Bool.{cases_Bool, eqb-true}
use Rattle.reader_theory.specs.Words.{Mark, bare}
use Rattle.reader_theory.specs.Levels.{One}
use Rattle.reader_theory.specs.Readers.{token, optional, pair}
use Rattle.reader_theory.specs.Exactness.{Stops, never, Heads, Exact}
use Rattle.reader_theory.specs.Languages.{Optional}
use Rattle.reader_theory.proofs.Independent.{Both}
use Rattle.reader_theory.proofs.Marks.{never_stops}
use Rattle.reader_theory.proofs.Sequence.{exact_both}
use Rattle.reader_theory.proofs.Single.{relabel}
use Rattle.reader_theory.proofs.Choice.{exact_optional}
use Rattle.reader_theory.proofs.Levels.{exact_one}
use Rattle.fortran_tree.specs.declared.expr.Operator.{Operator}
use Rattle.fortran_tree.specs.Expressions as s
use Rattle.fortran_tree.specs.Expressions.{Expression}
use Rattle.fortran_grammar.specs.Tokens.{Token}
use Rattle.fortran_grammar.specs.Phrases.{Phrase}
use Rattle.fortran_grammar.specs.ExpressionGrammar.{rank, strength}
use Rattle.expr_reader.specs.Openings.{goes, binds}
use Rattle.expr_reader.specs.Reading.{Reader, related, item, single}
use Rattle.expr_reader.proofs.Facts.{Binding, stops_more, stops_binds, next_stops}
use Rattle.expr_reader.proofs.Beginnings.{At}
use Rattle.expr_reader.proofs.Operators as operators
use Rattle.expr_reader.proofs.Chains.{tops}

module _ (j right : ℕ) (inside : Phrase → Phrase) (small : suc j ≤ 8) (bound : (x : Operator) → strength x ≡ suc j → Binding (suc (suc j)) right inside x) (limit level : ℕ) (shallow : level ≤ limit) where
  abbrev Behind_it : Token × Expression → List (Mark Token) → Type 0
  Behind_it = operators.Item (suc j) (suc (suc j)) right inside small (omega arith) bound limit level

  abbrev Operand : Expression → List (Mark Token) → Type 0
  Operand = operators.Right (suc j) (suc (suc j)) right inside small (omega arith) bound limit level

  item_heads : (e : Token × Expression) (w : List (Mark Token)) → Behind_it e w → Heads (binds (suc j)) w
  item_heads e w (x, b, eq, (p, q, px, sb, split)) = subst (Heads (binds (suc j))) (sym (split ∙ ap (λ z. z ++ q) px.1)) px.0

  heads_stop : (w : List (Mark Token)) (rest : List Token) → Heads (binds (suc j)) w → Stops (goes (suc j)) (bare w ++ rest)
  heads_stop [] rest h = absurd h
  heads_stop (m ∷ w) rest h = next_stops (suc j) m.token h

  apart : (e : Option (Token × Expression)) (w : List (Mark Token)) (rest : List Token) → Optional Behind_it e w → Stops (goes j) rest → Stops (goes (suc j)) (bare w ++ rest)
  apart None w rest h stops = subst (λ z. Stops (goes (suc j)) (bare z ++ rest)) (sym h) (stops_more j rest stops)
  apart (Some e) w rest h stops = heads_stop w rest (item_heads e w h)

  abbrev Related : Expression → List (Mark Token) → Type 0
  Related = Both related (At (suc (suc j)) limit level) (Optional Behind_it)

  alone : (e : Expression) (w : List (Mark Token)) → At (suc (suc j)) limit level e w → Related e w
  alone e w h = (e, None, refl, (w, [], h, refl, sym (append-nil w)))

  module _ (r : Reader Expression) (x : Exact (At (suc (suc j)) limit level) (goes (suc j)) r) (q : Reader Expression) (y : Exact Operand (goes j) q) (o : Token) (fits : binds (suc j) o ≡ true) (others : (e : Expression) → suc j ≤ rank e → tops (suc j) e ≡ false → suc (suc j) ≤ rank e) where
    exact_item : Exact Behind_it (goes j) (item (suc j) q)
    exact_item = exact_both pair (One (binds (suc j)) limit level) Operand (token (binds (suc j))) q never (goes j)
        (exact_one limit level (binds (suc j)) o fits shallow) y (λ b w rest h s. never_stops (bare w ++ rest))

    from : (e : Expression) (w : List (Mark Token)) → At (suc j) limit level e w → Related e w
    from (s.binary p a b at) w h = elim (cases_Bool (nat_eq (strength p) (suc j))) [
      | inl t ↦ (let k = operators.parted (suc j) (suc (suc j)) right inside small (omega arith) bound limit level p a b at w (eqb-true _ _ t) h.1 in (k.head, Some k.item, k.is, (k.front, k.back, k.is_head, k.is_item, k.joins)))
      | inr f ↦ alone (s.binary p a b at) w (others (s.binary p a b at) h.0 f, h.1)
    ]
    from e w h = alone e w (others e h.0 refl, h.1)

    into : (e : Expression) (w : List (Mark Token)) → Related e w → At (suc j) limit level e w
    into e w (a, None, eq, (u, v, h, g, split)) = subst (λ z. At (suc j) limit level e z) (sym (split ∙ (ap (λ z. u ++ z) g ∙ append-nil u))) (subst (λ z. At (suc j) limit level z u) (sym eq) ((let i = h.0 in omega arith), h.1))
    into e w (a, Some i, eq, (u, v, h, g, split)) =
        subst (λ z. At (suc j) limit level e z) (sym split) (subst (λ z. At (suc j) limit level z (u ++ v)) (sym eq)
        (operators.built (suc j) (suc (suc j)) right inside small (omega arith) bound limit level a i u v h g))

    pub exact_single : Exact (At (suc j) limit level) (goes j) (single (suc j) r q)
    exact_single = relabel Related (At (suc j) limit level) (single (suc j) r q) (goes j) (goes j)
        (exact_both related (At (suc (suc j)) limit level) (Optional Behind_it) r (optional (binds (suc j)) (item (suc j) q)) (goes (suc j)) (goes j) x
        (exact_optional (binds (suc j)) Behind_it (item (suc j) q) (goes j) exact_item (goes j) item_heads (λ rest s. s) (stops_binds j)) apart)
        into from (λ rest s. s)
