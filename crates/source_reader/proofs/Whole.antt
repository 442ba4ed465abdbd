-- The words of a source are whole statements.
use Rattle.std.proofs.Common.{◌≡◌, true, List, [], ◌∷◌, ◌++◌, refl, ap, ◌∙◌}
use Rattle.caf_base.specs.declared.place.Pos.{Pos}
use Rattle.fortran_lines.specs.declared.stmt.Stmt.{Stmt}
use Rattle.fortran_tokens.specs.declared.token.Token.{Token as Cut}
use Rattle.fortran_grammar.specs.Tokens.{Token}
use Rattle.expr_reader.specs.Plain.{seen}
use Rattle.token_words.specs.Words.{just_past, AreSeen, AreWords}
use Rattle.sequence_reader.specs.Statements.{whole_statements}

whole_append : (us vs : List Token) → whole_statements us ≡ true → whole_statements vs ≡ true → whole_statements (us ++ vs) ≡ true
whole_append [] vs h k = k
whole_append (y ∷ []) [] h k = h
whole_append (y ∷ []) (z ∷ vs) h k = k
whole_append (y ∷ z ∷ us) vs h k = whole_append (z ∷ us) vs h k

whole_seen : (text : _) (end : Pos) (ts : List Cut) → whole_statements (seen text end ts) ≡ true
whole_seen text end [] = refl
whole_seen text end (x ∷ []) = refl
whole_seen text end (x ∷ y ∷ ts) = whole_seen text end (y ∷ ts)

whole_statement : (s : Stmt) (ts : List Cut) (ys : List Token) → AreSeen s ts ys → whole_statements ys ≡ true
whole_statement s [] ys e = ap whole_statements e
whole_statement s (t ∷ ts) ys (p, i, e) = ap whole_statements e ∙ whole_seen s.text (just_past p) (t ∷ ts)

pub whole_words : (ss : List Stmt) (ys : List Token) → AreWords ss ys → whole_statements ys ≡ true
whole_words [] ys e = ap whole_statements e
whole_words (s ∷ ss) ys (ts, us, vs, i, j, k, e) = ap whole_statements e ∙ whole_append us vs (whole_statement s ts us j) (whole_words ss vs k)
