-- From the reader's answer to that of the reader of expressions by themselves.
use Rattle.std.proofs.Common.{◌≡◌, ℕ, zero, suc, ◌-◌, ◌≤◌, List, [], ◌∷◌, ◌++◌, length, length-append, drop, refl, ap, sym, ◌∙◌, subst, arith}
use Rattle.std.proofs.lemmas.List.{drop_at}
use Rattle.std.specs.Prelude.{Result, Ok, Err}
use Rattle.caf_base.specs.declared.limits.TheConstants.{NESTING}
use Rattle.caf_base.specs.declared.place.Pos.{Pos}
use Rattle.caf_base.specs.declared.refusal.Refusal.TheVariants as refusals
use Rattle.reader_theory.specs.Words.{Verdict, found, fault}
use Rattle.reader_theory.specs.Readers.{rest_of}
use Rattle.fortran_tree.specs.Expressions.{Expression}
use Rattle.fortran_grammar.specs.Tokens as t
use Rattle.fortran_grammar.specs.Tokens.{Token}
use Rattle.expr_reader.specs.declared.error.ReadError.{ReadError}
use Rattle.expr_reader.specs.declared.error.Stop.{Stop}
use Rattle.expr_reader.specs.declared.read.ReadFault.{ReadFault}
use Rattle.expr_reader.specs.declared.word.Word.{Word}
use Rattle.expr_reader.specs.Full.{full}
use Rattle.expr_reader.specs.Greedy.{place_at, cause_told, place_told, IsRead}
use Rattle.expr_reader.specs.Laws.{Expressions_at}
use Rattle.expr_reader.specs.Longest.{Longest}
use Rattle.expr_reader.specs.Openings.{goes}
use Rattle.expr_reader.specs.Results.{cause_of, Stands}
use Rattle.expr_reader.specs.Tests.{nowhere}
use Rattle.expr_reader.specs.Words.{tokens_of}
use Rattle.expr_reader.proofs.Firmly.{firm_full}
use Rattle.expr_reader.proofs.Greedy.{longest}
use Rattle.expr_reader.proofs.Lengths.{words_length}
use Rattle.expr_reader.proofs.Whole.{exact_full}

tokens_drop : (n : ℕ) (ws : List Word) → tokens_of (drop n ws) ≡ drop n (tokens_of ws)
tokens_drop zero ws = refl
tokens_drop (suc n) [] = refl
tokens_drop (suc n) (w ∷ ws) = tokens_drop n ws

module _ (level : ℕ) (few : level ≤ NESTING) (end : Pos) (ws : List Word) where
  abbrev answer : Verdict Token Expression
  answer = (full (NESTING - level)).expression (tokens_of ws)

  longest_here : Longest (Expressions_at NESTING level) (tokens_of ws) answer
  longest_here = longest (Expressions_at NESTING level) (goes 0) (full (NESTING - level)).expression (exact_full NESTING (NESTING - level) level (omega arith)) (firm_full (NESTING - level)) (record { tok = t.over; at = nowhere }) refl (tokens_of ws)

  pub told_read : {X : Type 0} (look : X → Expression × List Token) (x : X) → answer ≡ found (look x).0 (look x).1 → IsRead level end look (tokens_of ws) (Ok x)
  told_read look x e = subst (Longest (Expressions_at NESTING level) (tokens_of ws)) e longest_here

  pub told_short : (s : Stop) → Stands s answer → s.left ≤ length ws
  told_short s (rest, e, n) =
      let i = (firm_full (NESTING - level)).shrinks (tokens_of ws) in
      let j = ap (λ v. length (rest_of v)) e in
      let k = words_length ws in
      omega arith

  behind : (rest front : List Token) (left : ℕ) → tokens_of ws ≡ front ++ rest → length rest ≡ left → tokens_of (drop (length ws - left) ws) ≡ rest
  behind rest front left split n =
      let i = ap length split in
      let j = length-append front rest in
      let k = words_length ws in
      tokens_drop (length ws - left) ws ∙ (ap (drop (length ws - left)) split ∙ drop_at front rest (length ws - left) (omega arith))

  pub told_fault : {X : Type 0} (given : Result X ReadError) (look : X → Expression × List Token) (s : Stop) (f : ReadFault) → Stands s answer → cause_told f ≡ cause_of s.cause → place_told f ≡ place_at end (tokens_of (drop (length ws - s.left) ws)) → IsRead level end look (tokens_of ws) (Err (refusals.Cause f))
  told_fault given look s f (rest, e, n) c p =
      let h = subst (Longest (Expressions_at NESTING level) (tokens_of ws)) e longest_here in
      (rest, subst (λ z. Longest (Expressions_at NESTING level) (tokens_of ws) (fault z rest)) (sym c) h, p ∙ ap (place_at end) (behind rest h.front s.left h.split n))
