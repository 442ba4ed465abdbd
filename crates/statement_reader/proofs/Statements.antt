-- Some actions are read exactly.
use Rattle.std.proofs.Common.{◌≡◌, ℕ, ◌≤◌, true, false, codes, List, [], ◌∷◌, ◌++◌, inl, inr, refl, ap, sym, ◌∙◌, subst}
use Rattle.std.proofs.lemmas.Bool.{false≢true}
use Rattle.reader_theory.specs.Words.{Mark, bare}
use Rattle.reader_theory.specs.Levels.{mark, One}
use Rattle.reader_theory.specs.Readers.{token, mapped, optional, behind, pair}
use Rattle.reader_theory.specs.Exactness.{Stops, never, Heads, Exact}
use Rattle.reader_theory.specs.Languages.{Or}
use Rattle.reader_theory.proofs.Independent.{Both}
use Rattle.reader_theory.proofs.Marks.{never_stops}
use Rattle.reader_theory.proofs.Sequence.{exact_both}
use Rattle.reader_theory.proofs.Single.{relabel, exact_mapped}
use Rattle.reader_theory.proofs.Choice.{exact_pick}
use Rattle.reader_theory.proofs.Levels.{exact_one}
use Rattle.fortran_tokens.specs.declared.token.Sign.TheVariants as sign
use Rattle.fortran_tree.specs.declared.name.Literal.{Literal}
use Rattle.fortran_tree.specs.Expressions.{Expression}
use Rattle.fortran_tree.specs.Statements as s
use Rattle.fortran_tree.specs.Statements.{ActionStatement, Format, Item}
use Rattle.fortran_grammar.specs.Tokens as t
use Rattle.fortran_grammar.specs.Tokens.{Tok, Token}
use Rattle.fortran_grammar.specs.Phrases as p
use Rattle.fortran_grammar.specs.Phrases.{Words, ◌▸◌}
use Rattle.fortran_grammar.specs.ExpressionGrammar as g
use Rattle.fortran_grammar.specs.ActionGrammar as a
use Rattle.expr_reader.specs.Openings.{opens, goes}
use Rattle.expr_reader.specs.Reading.{Reader}
use Rattle.expr_reader.specs.Tests.{is_sign, is_key, is_word, a_name, followed_by}
use Rattle.statement_reader.specs.Statements.{exit_reader, stop_reader, is_literal, is_literal_tok, literal_of, characters_of, a_literal, free_of, format_reader, item_reader, print_of, print_list, print_reader}
use Rattle.expr_reader.proofs.Beginnings.{headed}
use Rattle.expr_reader.proofs.Exactly.{loosest}
use Rattle.expr_reader.proofs.Phrases.{Of, exact_name, exact_behind_key, exact_maybe, exact_followed, or_comma, sign_tok, sign_in, sign_out, exact_sign}
use Rattle.expr_reader.proofs.Pieces.{either_of, stops_first, stops_second}

literal_tok : (y : Tok) → is_literal_tok y ≡ true → y ≡ t.literal (characters_of y)
literal_tok (t.literal x) e = refl
literal_tok y e = absurd (false≢true e)

module _ (limit level : ℕ) (here : level ≤ limit) where
  abbrev Acts : ActionStatement → List (Mark Token) → Type 0
  Acts = Of a.action_statement limit level

  -- exit [ NAME ]
  pub exact_exit : Exact (λ e w. (n : _) × (e ≡ s.exit n) × Acts (s.exit n) w) is_word exit_reader
  exact_exit = exact_mapped s.exit (λ n w. Words (p.key (codes "exit") ▸ p.optional p.name n) limit level w) (λ e w. (n : _) × (e ≡ s.exit n) × Acts (s.exit n) w) (behind (is_key (codes "exit")) (optional is_word a_name)) is_word is_word
      (exact_behind_key limit level here (p.optional p.name) is_word (optional is_word a_name)
      (exact_maybe p.name limit level is_word never is_word a_name (exact_name limit level here) (λ n w h. subst (Heads is_word) (sym h) refl) (λ rest h. never_stops rest) (λ rest h. h)) (codes "exit"))
      (λ n w h. (n, refl, h)) (λ e w (n, is, h). (n, is, h)) (λ rest h. h)

  -- a literal, and a format
  pub exact_literal : Exact (Of p.literal limit level) never a_literal
  exact_literal = exact_mapped literal_of (One is_literal limit level) (Of p.literal limit level) (token is_literal) never never
      (exact_one limit level is_literal (record { tok = t.literal []; at = record { line = 0; col = 0 } }) refl here)
      (λ y w (test, h). h ∙ ap (λ z. mark limit level (record { tok = z; at = y.at }) ∷ []) (literal_tok y.tok test))
      (λ x w h. (record { tok = t.literal x.text; at = x.at }, refl, (refl, h))) (λ rest h. h)

  abbrev Free : Format → List (Mark Token) → Type 0
  Free f w = (f ≡ s.free) × Words (p.sign sign.Star) limit level w

  abbrev Written : Format → List (Mark Token) → Type 0
  Written f w = (x : Literal) × (f ≡ s.written x) × Words (p.literal x) limit level w

  pub exact_format : Exact (Of a.format limit level) never format_reader
  exact_format = relabel (Or Free Written) (Of a.format limit level) format_reader never never
      (exact_pick (is_sign sign.Star) Free Written (mapped free_of (token (is_sign sign.Star))) (mapped s.written a_literal) never never
      (exact_mapped free_of (One (is_sign sign.Star) limit level) Free (token (is_sign sign.Star)) never never (exact_sign limit level here sign.Star)
      (λ y w h. (refl, sign_in limit level sign.Star y w h)) (λ f w (is, h). let k = sign_out limit level sign.Star w h in (k.0, is, k.1)) (λ rest h. h))
      (exact_mapped s.written (Of p.literal limit level) Written a_literal never never exact_literal (λ x w h. (x, refl, h)) (λ f w h. h) (λ rest h. h)) never
      (λ f w (is, (at, h)). subst (Heads (is_sign sign.Star)) (sym h) refl)
      (λ f w rest (x, is, h) st. subst (λ z. Stops (is_sign sign.Star) (bare z ++ rest)) (sym h) refl) (λ rest h. h) (λ rest h. h))
      into from (λ rest h. h)
    where
      into : (f : Format) (w : List (Mark Token)) → Or Free Written f w → Words (a.format f) limit level w
      into f w (inl (is, h)) = subst (λ z. Words (a.format z) limit level w) (sym is) h
      into f w (inr (x, is, h)) = subst (λ z. Words (a.format z) limit level w) (sym is) h

      from : (f : Format) (w : List (Mark Token)) → Words (a.format f) limit level w → Or Free Written f w
      from s.free w h = inl (refl, h)
      from (s.written x) w h = inr (x, refl, h)

  module _ (r : Reader Expression) (x : Exact (Of g.expr limit level) (goes 0) r) where
    expr_heads : (e : Expression) (w : List (Mark Token)) → Words (g.expr e) limit level w → Heads (opens 1) w
    expr_heads e w h = headed 1 limit level e w (loosest e, h)

    -- stop [ expr ]
    pub exact_stop : Exact (λ e w. (o : _) × (e ≡ s.stop o) × Acts (s.stop o) w) (either_of (opens 1) (goes 0)) (stop_reader r)
    exact_stop = exact_mapped s.stop (λ o w. Words (p.key (codes "stop") ▸ p.optional g.expr o) limit level w) (λ e w. (o : _) × (e ≡ s.stop o) × Acts (s.stop o) w) (behind (is_key (codes "stop")) (optional (opens 1) r)) (either_of (opens 1) (goes 0)) (either_of (opens 1) (goes 0))
        (exact_behind_key limit level here (p.optional g.expr) (either_of (opens 1) (goes 0)) (optional (opens 1) r)
        (exact_maybe g.expr limit level (opens 1) (goes 0) (either_of (opens 1) (goes 0)) r x expr_heads (stops_second (opens 1) (goes 0)) (stops_first (opens 1) (goes 0))) (codes "stop"))
        (λ o w h. (o, refl, h)) (λ e w h. h) (λ rest h. h)

    abbrev Quoted : Item → List (Mark Token) → Type 0
    Quoted i w = (q : Literal) × (i ≡ s.quoted q) × Words (p.literal q) limit level w

    abbrev Valued : Item → List (Mark Token) → Type 0
    Valued i w = (e : Expression) × (i ≡ s.value e) × Words (g.expr e) limit level w

    opens_no_literal : (w : List (Mark Token)) (rest : List Token) → Heads (opens 1) w → Stops is_literal (bare w ++ rest)
    opens_no_literal [] rest h = absurd h
    opens_no_literal (m ∷ w) rest h = by_tok m.token.tok h
      where
        by_tok : (k : Tok) → opens 1 (record { tok = k; at = m.token.at }) ≡ true → is_literal_tok k ≡ false
        by_tok (t.literal y) e = absurd (false≢true e)
        by_tok k e = refl

    pub exact_item : Exact (Of a.item limit level) (goes 0) (item_reader r)
    exact_item = relabel (Or Quoted Valued) (Of a.item limit level) (item_reader r) (goes 0) (goes 0)
        (exact_pick is_literal Quoted Valued (mapped s.quoted a_literal) (mapped s.value r) never (goes 0)
        (exact_mapped s.quoted (Of p.literal limit level) Quoted a_literal never never exact_literal (λ q w h. (q, refl, h)) (λ i w h. h) (λ rest h. h))
        (exact_mapped s.value (Of g.expr limit level) Valued r (goes 0) (goes 0) x (λ e w h. (e, refl, h)) (λ i w h. h) (λ rest h. h)) (goes 0)
        (λ i w (q, is, h). subst (Heads is_literal) (sym h) refl)
        (λ i w rest (e, is, h) st. opens_no_literal w rest (expr_heads e w h)) (λ rest h. never_stops rest) (λ rest h. h))
        into from (λ rest h. h)
      where
        into : (i : Item) (w : List (Mark Token)) → Or Quoted Valued i w → Words (a.item i) limit level w
        into i w (inl (q, is, h)) = subst (λ z. Words (a.item z) limit level w) (sym is) h
        into i w (inr (e, is, h)) = subst (λ z. Words (a.item z) limit level w) (sym is) h

        from : (i : Item) (w : List (Mark Token)) → Words (a.item i) limit level w → Or Quoted Valued i w
        from (s.quoted q) w h = inl (q, refl, h)
        from (s.value e) w h = inr (e, refl, h)

    pub comma_goes : (y : Token) → is_sign sign.Comma y ≡ true → goes 0 y ≡ false
    comma_goes y e = subst (λ k. goes 0 (record { tok = k; at = y.at }) ≡ false) (sym (sign_tok sign.Comma y.tok e)) refl

    -- print format { , item }: the first of the two spellings
    abbrev pub Printed : ActionStatement → List (Mark Token) → Type 0
    Printed e w = (f : Format) × (is : List Item) × (e ≡ s.print f is) × Words (p.key (codes "print") ▸ a.format f ▸ p.followed a.item is) limit level w

    abbrev pub Print_line : Format × List Item → p.Phrase
    Print_line q = a.format q.0 ▸ p.followed a.item q.1

    pub exact_print_list : Exact (Of Print_line limit level) (or_comma (goes 0)) (print_list r)
    exact_print_list = relabel (Both pair (Of a.format limit level) (λ is w. Words (p.followed a.item is) limit level w)) (Of Print_line limit level) (print_list r) (or_comma (goes 0)) (or_comma (goes 0))
        (exact_both pair (Of a.format limit level) (λ is w. Words (p.followed a.item is) limit level w) format_reader (followed_by (item_reader r)) never (or_comma (goes 0)) exact_format (exact_followed a.item limit level here (goes 0) (item_reader r) exact_item comma_goes) (λ b w rest h st. never_stops (bare w ++ rest)))
        (λ q w (f, is, e, h). subst (λ z. Words (Print_line z) limit level w) (sym e) h) (λ q w h. (q.0, q.1, refl, h)) (λ rest h. h)

    pub exact_print : Exact Printed (or_comma (goes 0)) (print_reader r)
    exact_print = exact_mapped print_of (λ q w. Words (p.key (codes "print") ▸ Print_line q) limit level w) Printed (behind (is_key (codes "print")) (print_list r)) (or_comma (goes 0)) (or_comma (goes 0))
        (exact_behind_key limit level here Print_line (or_comma (goes 0)) (print_list r) exact_print_list (codes "print"))
        (λ q w h. (q.0, q.1, refl, h)) (λ e w (f, is, eq, h). ((f, is), eq, h)) (λ rest h. h)
