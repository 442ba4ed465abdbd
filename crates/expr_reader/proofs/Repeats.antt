-- A loop over a list's items, each behind a token that says that one more comes.
use Rattle.std.proofs.Common.{◌≡◌, ℕ, zero, suc, ◌+◌, ◌-◌, ◌<◌, Bool, true, subst, cond, List, [], ◌∷◌, ◌++◌, length, refl, ap, sym, ◌∙◌, arith, append_assoc, append-nil}
use Rattle.reader_theory.specs.Words.{Verdict, found, fault, expected}
use Rattle.reader_theory.specs.Readers.{joined, then_by, several_by, many_by, more_of, behind, second}
use Rattle.reader_theory.specs.Exactness.{Stops}
use Rattle.fortran_grammar.specs.Tokens.{Token}
use Rattle.expr_reader.specs.declared.error.ReadError.{ReadError}
use Rattle.expr_reader.specs.declared.error.ReadError.TheVariants as errors
use Rattle.expr_reader.specs.declared.word.Word.{Word}
use Rattle.expr_reader.specs.Reading.{Reader}
use Rattle.expr_reader.specs.Results.{Fails}
use Rattle.expr_reader.specs.Words.{tokens_of}
use Rattle.expr_reader.proofs.Lengths.{words_length, words_none}

module _ {A S : Type 0} (test : Token → Bool) (q : S → Reader A) (next : S → A → S) where
  abbrev pub items : ℕ → S → List Token → Verdict Token (List A)
  items n s = several_by test (λ s. behind test (q s)) next n s

  abbrev pub grows : List A → List A → List A
  grows a es = a ++ es

  step : (acc : List A) (n t : ℕ) (s : S) (rest : List Token) (z : Token) (u : List Token) → t < n → rest ≡ z ∷ u → test z ≡ true → joined grows acc (items (n - t) s rest) ≡ joined grows acc (then_by more_of (λ a. items (n - (t + 1)) (next s a)) (joined second z (q s u)))
  step acc n t s rest z u l split e =
      let m : n - t ≡ suc (n - (t + 1)) = omega arith in
      ap (λ ts. joined grows acc (items (n - t) s ts)) split
      ∙ (ap (λ i. joined grows acc (items i s (z ∷ u))) m
      ∙ ap (λ d. joined grows acc (cond d (then_by more_of (λ a. items (n - (t + 1)) (next s a)) (then_by second (λ _. q s) (cond d (found z u) (fault expected (z ∷ u))))) (found [] (z ∷ u)))) e)

  grow_one : (acc : List A) (a : A) (v : Verdict Token (List A)) → joined grows acc (joined more_of a v) ≡ joined grows (acc ++ a ∷ []) v
  grow_one acc a (found es rest) = ap (λ z. found z rest) (sym (append_assoc acc (a ∷ []) es))
  grow_one acc a (fault c rest) = refl

  pub turn : (acc made : List A) (n t : ℕ) (s : S) (rest : List Token) (z : Token) (u : List Token) (a : A) (r : List Token) (goal : Verdict Token (List A)) → t < n → rest ≡ z ∷ u → test z ≡ true → q s u ≡ found a r → made ≡ acc ++ a ∷ [] → joined grows acc (items (n - t) s rest) ≡ goal → joined grows made (items (n - (t + 1)) (next s a) r) ≡ goal
  turn acc made n t s rest z u a r goal l split e f is h =
      ap (λ m. joined grows m (items (n - (t + 1)) (next s a) r)) is
      ∙ (sym (grow_one acc a (items (n - (t + 1)) (next s a) r))
      ∙ (sym (ap (λ v. joined grows acc (then_by more_of (λ a. items (n - (t + 1)) (next s a)) (joined second z v))) f)
      ∙ (sym (step acc n t s rest z u l split e) ∙ h)))

  pub turn_fault : (e : ReadError) (acc : List A) (n t : ℕ) (s : S) (rest : List Token) (z : Token) (u : List Token) (goal : Verdict Token (List A)) → t < n → rest ≡ z ∷ u → test z ≡ true → Fails e (q s u) → joined grows acc (items (n - t) s rest) ≡ goal → Fails e goal
  turn_fault errors.Memory acc n t s rest z u goal l split c f h = tt
  turn_fault (errors.Stopped i) acc n t s rest z u goal l split c (r, f, g) h =
      (r, sym h ∙ (step acc n t s rest z u l split c ∙ ap (λ v. joined grows acc (then_by more_of (λ a. items (n - (t + 1)) (next s a)) (joined second z v))) f), g)

  pub turn_end : (acc : List A) (n : ℕ) (s : S) (rest : List Token) (goal : Verdict Token (List A)) → Stops test rest → joined grows acc (items n s rest) ≡ goal → goal ≡ found acc rest
  turn_end acc n s rest goal stops h = sym h ∙ (ap (joined grows acc) (at_end n rest stops) ∙ ap (λ z. found z rest) (append-nil acc))
    where
      at_end : (n : ℕ) (rest : List Token) → Stops test rest → items n s rest ≡ found [] rest
      at_end zero rest st = refl
      at_end (suc n) [] st = refl
      at_end (suc n) (z ∷ u) st = ap (λ d. cond d (then_by more_of (λ a. items n (next s a)) (then_by second (λ _. q s) (cond d (found z u) (fault expected (z ∷ u))))) (found [] (z ∷ u))) st

  pub many_is : (acc : List A) (s : S) (ws : List Word) → joined grows acc (items (length ws - 0) s (tokens_of ws)) ≡ joined grows acc (many_by test (λ s. behind test (q s)) next s (tokens_of ws))
  many_is acc s ws = let l = words_length ws in let e : length ws - 0 ≡ length (tokens_of ws) = omega arith in ap (λ n. joined grows acc (items n s (tokens_of ws))) e

pub no_word : (test : Token → Bool) (ws : List Word) → length ws ≡ 0 → Stops test (tokens_of ws)
no_word test ws e = subst (Stops test) (sym (words_none ws e)) tt
