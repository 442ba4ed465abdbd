-- Whether the rest of a file goes through some tokens, told form by form, is what the best of the forms' answers says.
use Rattle.std.proofs.Common.{◌≡◌, ℕ, zero, suc, ◌≤◌, Bool, true, false, cond, ◌||◌, List, [], ◌∷◌, ◌++◌, length, nat_lt, refl, ap, sym, ◌∙◌, subst, arith}
use Rattle.std.proofs.lemmas.Bool.{ltb-true, ltb-false}
use Rattle.std.proofs.lemmas.List.{length-append}
use Rattle.reader_theory.specs.Words.{bare, Cause, Verdict, found, fault}
use Rattle.reader_theory.specs.Refusals.{Answers}
use Rattle.reader_theory.specs.Limits.{is_empty, goes_through}
use Rattle.reader_theory.specs.Readers.{joined, then_by, more_of, ended, best, worse}
use Rattle.reader_theory.specs.Exactness.{Tells}
use Rattle.reader_theory.specs.Texts.{one_form, tries, tries_or_end}
use Rattle.fortran_grammar.specs.Tokens.{Token}
use Rattle.statement_reader.specs.Parts.{Part}
use Rattle.statement_reader.specs.Forms.{Place, part_reader}
use Rattle.statement_reader.specs.Laws.{Part_at}
use Rattle.statement_reader.proofs.Places.{exact_part}
use Rattle.program_reader.specs.Sequence.{State, forms, next, may_end, Rest_of_file, rest_reader}
use Rattle.program_reader.proofs.Files.{part_longer, file_answered}
use Rattle.refusal_reasons.specs.Reasons.{through, some_through, goes_from}

abbrev Answer : Type 0
Answer = Verdict Token (List Part)

-- what is read is the whole text
abbrev Whole : Answer → Type 0
Whole (found es r) = r ≡ []
Whole (fault c r) = Unit {0}

or_true : (b : Bool) → (b || true) ≡ true
or_true true = refl
or_true false = refl

or_false : (b : Bool) → (b || false) ≡ b
or_false true = refl
or_false false = refl

empty : (r : List Token) → r ≡ [] → is_empty r ≡ true
empty r e = ap is_empty e

not_empty : (r : List Token) → 1 ≤ length r → is_empty r ≡ false
not_empty [] l = absurd (omega arith)
not_empty (y ∷ r) l = refl

same_size : (r s : List Token) → length r ≡ length s → is_empty r ≡ is_empty s
same_size [] [] e = refl
same_size [] (y ∷ s) e = absurd (omega arith)
same_size (x ∷ r) [] e = absurd (omega arith)
same_size (x ∷ r) (y ∷ s) e = refl

or_same : (b : Bool) → (b || b) ≡ b
or_same true = refl
or_same false = refl

further_through : (c d : Cause) (r s : List Token) (b e : Bool) → nat_lt (length r) (length s) ≡ b → nat_lt (length s) (length r) ≡ e → goes_through {A = List Part} (cond b (fault c r) (cond e (fault d s) (fault (worse c d) r))) ≡ (is_empty r || is_empty s)
further_through c d r s true e g h = sym (ap (λ z. is_empty r || z) (not_empty s (let l = ltb-true (length r) (length s) g in omega arith)) ∙ or_false (is_empty r))
further_through c d r s false true g h = sym (ap (λ z. z || is_empty s) (not_empty r (let l = ltb-true (length s) (length r) h in omega arith)))
further_through c d r s false false g h = let l = ltb-false (length r) (length s) g in let m = ltb-false (length s) (length r) h in sym (ap (λ z. is_empty r || z) (sym (same_size r s (omega arith))) ∙ or_same (is_empty r))

best_through : (v w : Answer) → Whole v → Whole w → goes_through (best v w) ≡ (goes_through v || goes_through w)
best_through (found es r) w h k = empty r h ∙ sym (ap (λ z. z || goes_through w) (empty r h))
best_through (fault c r) (found fs s) h k = empty s k ∙ sym (ap (λ z. is_empty r || z) (empty s k) ∙ or_true (is_empty r))
best_through (fault c r) (fault d s) h k = further_through c d r s (nat_lt (length r) (length s)) (nat_lt (length s) (length r)) refl refl

whole_further : (c d : Cause) (r s : List Token) (b e : Bool) → Whole (cond b (fault c r) (cond e (fault d s) (fault (worse c d) r)))
whole_further c d r s true e = tt
whole_further c d r s false true = tt
whole_further c d r s false false = tt

best_whole : (v w : Answer) → Whole v → Whole w → Whole (best v w)
best_whole (found es r) w h k = h
best_whole (fault c r) (found fs s) h k = k
best_whole (fault c r) (fault d s) h k = whole_further c d r s (nat_lt (length r) (length s)) (nat_lt (length s) (length r))

joined_through : (b : Part) (v : Answer) → goes_through (joined more_of b v) ≡ goes_through v
joined_through b (found es r) = refl
joined_through b (fault c r) = refl

joined_whole : (b : Part) (v : Answer) → Whole v → Whole (joined more_of b v)
joined_whole b (found es r) h = h
joined_whole b (fault c r) h = tt

module _ (limit : ℕ) where
  whole_rest : (n : ℕ) (s : State) (us : List Token) → length us ≤ n → Whole (rest_reader limit n s us)
  whole_rest n s us l = by_answer (rest_reader limit n s us) (file_answered limit n s us l)
    where
      by_answer : (v : Answer) → Answers (λ fs v. Rest_of_file limit s fs v) us v → Whole v
      by_answer (found es r) h = h.0
      by_answer (fault c r) h = tt

  no_tokens : (n : ℕ) (s : State) → goes_through (rest_reader limit n s []) ≡ true
  no_tokens n s = by_answer (rest_reader limit n s []) (file_answered limit n s [] (omega arith))
    where
      nothing : (f r : List Token) → [] ≡ f ++ r → is_empty r ≡ true
      nothing [] r e = empty r (sym e)
      nothing (y ∷ f) r e = absurd (cc)

      by_answer : (v : Answer) → Answers (λ fs v. Rest_of_file limit s fs v) [] v → goes_through v ≡ true
      by_answer (found es r) h = empty r h.0
      by_answer (fault c r) h = nothing h.front r h.split

  abbrev Same : ℕ → Type 0
  Same n = (s : State) (us : List Token) → 1 ≤ length us → length us ≤ n → goes_through (rest_reader limit n s us) ≡ goes_from limit n s us

  pub shorter : (i : Place) (us r : List Token) (b : Part) → part_reader limit i us ≡ found b r → suc (length r) ≤ length us
  shorter i us r b e = let t = subst (Tells (Part_at limit i) (part_reader limit i) us) e ((exact_part limit i).tells us) in
      let k = part_longer limit i b t.word t.is_word in let l = ap length t.split ∙ length-append (bare t.word) r in omega arith

  -- one form
  pub form_through : (n : ℕ) → Same n → (s : State) (i : Place) (us : List Token) → length us ≤ suc n → goes_through (one_form (part_reader limit) next (rest_reader limit n) s i us) ≡ through (λ b. goes_from limit n (next s b)) (part_reader limit i us)
  form_through n same s i us l = by_answer (part_reader limit i us) refl
    where
      by_answer : (v : Verdict Token Part) → part_reader limit i us ≡ v → goes_through (then_by more_of (λ b. rest_reader limit n (next s b)) v) ≡ through (λ b. goes_from limit n (next s b)) v
      by_answer (found b []) e = joined_through b (rest_reader limit n (next s b) []) ∙ no_tokens n (next s b)
      by_answer (found b (y ∷ r)) e = joined_through b (rest_reader limit n (next s b) (y ∷ r)) ∙ same (next s b) (y ∷ r) (omega arith) (let k = shorter i us (y ∷ r) b e in omega arith)
      by_answer (fault c r) e = refl

  form_whole : (n : ℕ) (s : State) (i : Place) (us : List Token) → length us ≤ suc n → Whole (one_form (part_reader limit) next (rest_reader limit n) s i us)
  form_whole n s i us l = by_answer (part_reader limit i us) refl
    where
      by_answer : (v : Verdict Token Part) → part_reader limit i us ≡ v → Whole (then_by more_of (λ b. rest_reader limit n (next s b)) v)
      by_answer (found b r) e = joined_whole b (rest_reader limit n (next s b) r) (whole_rest n (next s b) r (let k = shorter i us r b e in omega arith))
      by_answer (fault c r) e = tt

  module _ (n : ℕ) (same : Same n) (s : State) (us : List Token) (some : 1 ≤ length us) (l : length us ≤ suc n) where
    abbrev one : Place → Answer
    one i = one_form (part_reader limit) next (rest_reader limit n) s i us

    whole_tries : (is : List Place) → Whole (tries (part_reader limit) next (rest_reader limit n) s is us)
    whole_tries [] = tt
    whole_tries (i ∷ []) = form_whole n s i us l
    whole_tries (i ∷ j ∷ is) = best_whole (one i) (tries (part_reader limit) next (rest_reader limit n) s (j ∷ is) us) (form_whole n s i us l) (whole_tries (j ∷ is))

    tries_through : (is : List Place) → goes_through (tries (part_reader limit) next (rest_reader limit n) s is us) ≡ some_through (goes_from limit n) limit s is us
    tries_through [] = not_empty us some
    tries_through (i ∷ []) = form_through n same s i us l ∙ sym (or_false (through (λ b. goes_from limit n (next s b)) (part_reader limit i us)))
    tries_through (i ∷ j ∷ is) = best_through (one i) (tries (part_reader limit) next (rest_reader limit n) s (j ∷ is) us) (form_whole n s i us l) (whole_tries (j ∷ is))
        ∙ (ap (λ z. z || goes_through (tries (part_reader limit) next (rest_reader limit n) s (j ∷ is) us)) (form_through n same s i us l)
        ∙ ap (λ z. through (λ b. goes_from limit n (next s b)) (part_reader limit i us) || z) (tries_through (j ∷ is)))

    end_here : (ts : List Token) → 1 ≤ length ts → (goes_through {A = List Part} (ended (found []) ts) ≡ false) × Whole (ended (found []) ts)
    end_here [] k = absurd (omega arith)
    end_here (y ∷ ts) k = (refl, tt)

    whole_or_end : (is : List Place) → Whole (tries_or_end (part_reader limit) next (rest_reader limit n) s is us)
    whole_or_end [] = (end_here us some).1
    whole_or_end (i ∷ is) = best_whole (one i) (tries_or_end (part_reader limit) next (rest_reader limit n) s is us) (form_whole n s i us l) (whole_or_end is)

    end_through : (is : List Place) → goes_through (tries_or_end (part_reader limit) next (rest_reader limit n) s is us) ≡ some_through (goes_from limit n) limit s is us
    end_through [] = (end_here us some).0
    end_through (i ∷ is) = best_through (one i) (tries_or_end (part_reader limit) next (rest_reader limit n) s is us) (form_whole n s i us l) (whole_or_end is)
        ∙ (ap (λ z. z || goes_through (tries_or_end (part_reader limit) next (rest_reader limit n) s is us)) (form_through n same s i us l)
        ∙ ap (λ z. through (λ b. goes_from limit n (next s b)) (part_reader limit i us) || z) (end_through is))

    here : (b : Bool) → goes_through (cond b (tries_or_end (part_reader limit) next (rest_reader limit n) s (forms s) us) (tries (part_reader limit) next (rest_reader limit n) s (forms s) us)) ≡ some_through (goes_from limit n) limit s (forms s) us
    here true = end_through (forms s)
    here false = tries_through (forms s)

  pub rest_through : (n : ℕ) → Same n
  rest_through zero s us some l = absurd (omega arith)
  rest_through (suc n) s us some l = here n (rest_through n) s us some l (may_end s)
