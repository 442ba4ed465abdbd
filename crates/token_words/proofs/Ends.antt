-- Words grown at their end, and the end of a statement.
use Rattle.std.proofs.Common.{◌≡◌, ℕ, suc, ◌-◌, List, [], ◌∷◌, ◌++◌, length, map, Some, refl, ap, sym, ◌∙◌, subst, arith}
use Rattle.std.specs.Prelude.{slice_get}
use Rattle.std.specs.List.{AllByRecursion}
use Rattle.caf_base.specs.declared.place.Pos.{Pos}
use Rattle.fortran_lines.specs.declared.stmt.Stmt.{Stmt}
use Rattle.fortran_tokens.specs.declared.token.Token.{Token as Cut}
use Rattle.fortran_grammar.specs.Tokens as t
use Rattle.fortran_grammar.specs.Tokens.{Token}
use Rattle.expr_reader.specs.declared.word.Word.{Word}
use Rattle.expr_reader.specs.Plain.{plain, seen}
use Rattle.expr_reader.specs.Words.{token_of, tokens_of}
use Rattle.token_words.specs.Words.{AreSeen, Fits, just_past, last_end}

pub tokens_append : (xs ys : List Word) → tokens_of (xs ++ ys) ≡ tokens_of xs ++ tokens_of ys
tokens_append [] ys = refl
tokens_append (x ∷ xs) ys = ap (λ z. token_of x ∷ z) (tokens_append xs ys)

-- one token for each, and the end
pub seen_is : (text : List ℕ) (end : Pos) (ts : List Cut) → seen text end ts ≡ map (plain text) ts ++ record { tok = t.over; at = end } ∷ []
seen_is text end [] = refl
seen_is text end (x ∷ xs) = ap (λ z. plain text x ∷ z) (seen_is text end xs)

-- the last token of a statement
pub last_fits : (text : List ℕ) (ts : List Cut) (last : Cut) → AllByRecursion (Fits text) ts → slice_get ts (length ts - 1) ≡ Some last → Fits text last
last_fits text [] last h e = absurd (cc)
last_fits text (t ∷ []) last h e =
    let first : length (t ∷ []) - 1 ≡ 0 = omega arith in
    let found : Some t ≡ Some last = sym (ap (slice_get (t ∷ [])) first) ∙ e in
    subst (Fits text) (cc) h.0
last_fits text (t ∷ u ∷ us) last h e =
    let next : length (t ∷ u ∷ us) - 1 ≡ suc (length (u ∷ us) - 1) = omega arith in
    last_fits text (u ∷ us) last h.1 (sym (ap (slice_get (t ∷ u ∷ us)) next) ∙ e)

last_is : (t : Cut) (ts : List Cut) (last : Cut) → slice_get (t ∷ ts) (length (t ∷ ts) - 1) ≡ Some last → last_end t ts ≡ last.to
last_is t [] last e =
    let first : length (t ∷ []) - 1 ≡ 0 = omega arith in
    let found : Some t ≡ Some last = sym (ap (slice_get (t ∷ [])) first) ∙ e in
    let same : t ≡ last = cc in
    ap (λ z. z.to) same
last_is t (u ∷ us) last e =
    let next : length (t ∷ u ∷ us) - 1 ≡ suc (length (u ∷ us) - 1) = omega arith in
    last_is u us last (sym (ap (slice_get (t ∷ u ∷ us)) next) ∙ e)

-- its end
pub seen_from : (s : Stmt) (ts : List Cut) (last : Cut) (p : Pos) (ys : List Token) → slice_get ts (length ts - 1) ≡ Some last → slice_get s.at (last.to - 1) ≡ Some p
    → ys ≡ map (plain s.text) ts ++ record { tok = t.over; at = just_past p } ∷ [] → AreSeen s ts ys
seen_from s [] last p ys e f g = absurd (cc)
seen_from s (t ∷ ts) last p ys e f g = (p, subst (λ n. slice_get s.at (n - 1) ≡ Some p) (sym (last_is t ts last e)) f, g ∙ sym (seen_is s.text (just_past p) (t ∷ ts)))
