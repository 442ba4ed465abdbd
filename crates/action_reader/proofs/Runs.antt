-- A loop over items, each of which begins with a token that says that one more comes.
use Rattle.std.proofs.Common.{◌≡◌, ℕ, zero, suc, ◌+◌, ◌-◌, ◌<◌, Bool, true, false, cond, List, [], ◌∷◌, ◌++◌, length, refl, ap, sym, ◌∙◌, arith, append_assoc, append-nil}
use Rattle.reader_theory.specs.Words.{Verdict, found, fault}
use Rattle.reader_theory.specs.Readers.{both_by, joined, then_by, several_by, many_by, more_of}
use Rattle.fortran_grammar.specs.Tokens.{Token}
use Rattle.expr_reader.specs.declared.error.ReadError.{ReadError}
use Rattle.expr_reader.specs.declared.error.ReadError.TheVariants as errors
use Rattle.expr_reader.specs.declared.word.Word.{Word}
use Rattle.expr_reader.specs.Reading.{Reader}
use Rattle.expr_reader.specs.Results.{Fails}
use Rattle.expr_reader.specs.Words.{tokens_of}
use Rattle.expr_reader.proofs.Lengths.{words_length}
use Rattle.action_reader.specs.Beginnings.{begins, grown}
use Rattle.action_reader.proofs.Keys.{pick_none, pick_some}

module _ {A S : Type 0} (test : Token → Bool) (q : S → Reader A) (next : S → A → S) where
  abbrev pub items : ℕ → S → List Token → Verdict Token (List A)
  items n s = several_by test q next n s

  step : (acc : List A) (n t : ℕ) (s : S) (rest : List Token) → t < n → begins test rest ≡ true → joined grown acc (items (n - t) s rest) ≡ joined grown acc (then_by more_of (λ a. items (n - (t + 1)) (next s a)) (q s rest))
  step acc n t s rest l e =
      let m : n - t ≡ suc (n - (t + 1)) = omega arith in
      ap (λ i. joined grown acc (items i s rest)) m ∙ ap (joined grown acc) (pick_some test (both_by more_of (q s) (λ a. items (n - (t + 1)) (next s a))) (found []) rest e)

  grow_one : (acc : List A) (a : A) (v : Verdict Token (List A)) → joined grown acc (joined more_of a v) ≡ joined grown (acc ++ a ∷ []) v
  grow_one acc a (found es rest) = ap (λ z. found z rest) (sym (append_assoc acc (a ∷ []) es))
  grow_one acc a (fault c rest) = refl

  pub turn : (acc made : List A) (n t : ℕ) (s : S) (rest : List Token) (a : A) (r : List Token) (goal : Verdict Token (List A)) → t < n → begins test rest ≡ true → q s rest ≡ found a r → made ≡ acc ++ a ∷ [] → joined grown acc (items (n - t) s rest) ≡ goal → joined grown made (items (n - (t + 1)) (next s a) r) ≡ goal
  turn acc made n t s rest a r goal l e f is h =
      ap (λ m. joined grown m (items (n - (t + 1)) (next s a) r)) is
      ∙ (sym (grow_one acc a (items (n - (t + 1)) (next s a) r))
      ∙ (sym (ap (λ v. joined grown acc (then_by more_of (λ a. items (n - (t + 1)) (next s a)) v)) f)
      ∙ (sym (step acc n t s rest l e) ∙ h)))

  pub turn_fault : (e : ReadError) (acc : List A) (n t : ℕ) (s : S) (rest : List Token) (goal : Verdict Token (List A)) → t < n → begins test rest ≡ true → Fails e (q s rest) → joined grown acc (items (n - t) s rest) ≡ goal → Fails e goal
  turn_fault errors.Memory acc n t s rest goal l c f h = tt
  turn_fault (errors.Stopped i) acc n t s rest goal l c (r, f, g) h =
      (r, sym h ∙ (step acc n t s rest l c ∙ ap (λ v. joined grown acc (then_by more_of (λ a. items (n - (t + 1)) (next s a)) v)) f), g)

  pub turn_end : (acc : List A) (n : ℕ) (s : S) (rest : List Token) (goal : Verdict Token (List A)) → begins test rest ≡ false → joined grown acc (items n s rest) ≡ goal → goal ≡ found acc rest
  turn_end acc n s rest goal stops h = sym h ∙ (ap (joined grown acc) (at_end n) ∙ ap (λ z. found z rest) (append-nil acc))
    where
      at_end : (n : ℕ) → items n s rest ≡ found [] rest
      at_end zero = refl
      at_end (suc n) = pick_none test (both_by more_of (q s) (λ a. items n (next s a))) (found []) rest stops

  pub many_is : (s : S) (ws : List Word) → joined grown [] (items (length ws - 0) s (tokens_of ws)) ≡ many_by test q next s (tokens_of ws)
  many_is s ws =
      let l = words_length ws in
      let e : length ws - 0 ≡ length (tokens_of ws) = omega arith in
      ap (λ n. joined grown [] (items n s (tokens_of ws))) e ∙ none (items (length (tokens_of ws)) s (tokens_of ws))
    where
      none : (v : Verdict Token (List A)) → joined grown [] v ≡ v
      none (found es rest) = refl
      none (fault c rest) = refl
