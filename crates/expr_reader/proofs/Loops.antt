-- A loop over operators, behind the operand that is read.
use Rattle.std.proofs.Common.{◌≡◌, ℕ, zero, suc, ◌+◌, ◌-◌, ◌<◌, true, subst, cond, List, [], ◌∷◌, refl, ap, sym, ◌∙◌, arith, length}
use Rattle.reader_theory.specs.Words.{Verdict, found, fault, expected}
use Rattle.reader_theory.specs.Readers.{joined, then, many, several, more_of, pair}
use Rattle.reader_theory.specs.Exactness.{Stops}
use Rattle.fortran_tree.specs.Expressions as s
use Rattle.fortran_tree.specs.Expressions.{Expression}
use Rattle.fortran_grammar.specs.Tokens.{Token}
use Rattle.expr_reader.specs.declared.error.ReadError.{ReadError}
use Rattle.expr_reader.specs.declared.error.ReadError.TheVariants as errors
use Rattle.expr_reader.specs.Openings.{binds, operator_of}
use Rattle.expr_reader.specs.Reading.{Reader, folded, item, place_of}
use Rattle.expr_reader.specs.declared.word.Word.{Word}
use Rattle.expr_reader.specs.Words.{tokens_of}
use Rattle.expr_reader.proofs.Lengths.{words_length, words_none}
use Rattle.expr_reader.specs.Results.{Fails}

module _ (k : ℕ) (q : Reader Expression) where
  abbrev pub operators : ℕ → List Token → Verdict Token (List (Token × Expression))
  operators n = several (binds k) (item k q) n

  step : (acc : Expression) (n t : ℕ) (rest : List Token) (z : Token) (u : List Token) → t < n → rest ≡ z ∷ u → binds k z ≡ true → joined folded acc (operators (n - t) rest) ≡ joined folded acc (then more_of (operators (n - (t + 1))) (joined pair z (q u)))
  step acc n t rest z u l split e =
      let m : n - t ≡ suc (n - (t + 1)) = omega arith in
      ap (λ ts. joined folded acc (operators (n - t) ts)) split
      ∙ (ap (λ i. joined folded acc (operators i (z ∷ u))) m
      ∙ ap (λ d. joined folded acc (cond d (then more_of (operators (n - (t + 1))) (then pair q (cond d (found z u) (fault expected (z ∷ u))))) (found [] (z ∷ u)))) e)

  pub turn : (acc made : Expression) (n t : ℕ) (rest : List Token) (z : Token) (u : List Token) (b : Expression) (r : List Token) (goal : Verdict Token Expression) → t < n → rest ≡ z ∷ u → binds k z ≡ true → q u ≡ found b r → made ≡ s.binary (operator_of z) acc b (place_of acc) → joined folded acc (operators (n - t) rest) ≡ goal → joined folded made (operators (n - (t + 1)) r) ≡ goal
  turn acc made n t rest z u b r goal l split e f is h =
      ap (λ m. joined folded m (operators (n - (t + 1)) r)) is
      ∙ (sym (fold_one (operators (n - (t + 1)) r))
      ∙ (sym (ap (λ v. joined folded acc (then more_of (operators (n - (t + 1))) (joined pair z v))) f)
      ∙ (sym (step acc n t rest z u l split e) ∙ h)))
    where
      fold_one : (v : Verdict Token (List (Token × Expression))) → joined folded acc (joined more_of (z, b) v) ≡ joined folded (s.binary (operator_of z) acc b (place_of acc)) v
      fold_one (found es left) = refl
      fold_one (fault c left) = refl

  pub turn_fault : (e : ReadError) (acc : Expression) (n t : ℕ) (rest : List Token) (z : Token) (u : List Token) (goal : Verdict Token Expression) → t < n → rest ≡ z ∷ u → binds k z ≡ true → Fails e (q u) → joined folded acc (operators (n - t) rest) ≡ goal → Fails e goal
  turn_fault errors.Memory acc n t rest z u goal l split c f h = tt
  turn_fault (errors.Stopped i) acc n t rest z u goal l split c (r, f, g) h =
      (r, sym h ∙ (step acc n t rest z u l split c ∙ ap (λ v. joined folded acc (then more_of (operators (n - (t + 1))) (joined pair z v))) f), g)

  pub turn_end : (acc : Expression) (n : ℕ) (rest : List Token) (goal : Verdict Token Expression) → Stops (binds k) rest → joined folded acc (operators n rest) ≡ goal → goal ≡ found acc rest
  turn_end acc n rest goal stops h = sym h ∙ ap (joined folded acc) (at_end n rest stops)
    where
      at_end : (n : ℕ) (rest : List Token) → Stops (binds k) rest → operators n rest ≡ found [] rest
      at_end zero rest s = refl
      at_end (suc n) [] s = refl
      at_end (suc n) (z ∷ u) s = ap (λ d. cond d (then more_of (operators n) (then pair q (cond d (found z u) (fault expected (z ∷ u))))) (found [] (z ∷ u))) s

pub no_token : (k : ℕ) (ws : List Word) → length ws ≡ 0 → Stops (binds k) (tokens_of ws)
no_token k ws e = subst (Stops (binds k)) (sym (words_none ws e)) tt

pub many_is : (k : ℕ) (q : Reader Expression) (acc : Expression) (ws : List Word) → joined folded acc (operators k q (length ws - 0) (tokens_of ws)) ≡ joined folded acc (many (binds k) (item k q) (tokens_of ws))
many_is k q acc ws = let l = words_length ws in let e : length ws - 0 ≡ length (tokens_of ws) = omega arith in ap (λ n. joined folded acc (operators k q n (tokens_of ws))) e
