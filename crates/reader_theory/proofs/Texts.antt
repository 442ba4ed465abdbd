-- A text of parts, each of one of the forms that its place allows.
use Rattle.std.proofs.Common.{◌≡◌, ℕ, zero, suc, ◌<◌, ◌≤◌, Bool, true, false, cond, List, [], ◌∷◌, ◌++◌, ◌⊎◌, inl, inr, refl, ap, sym, ◌∙◌, subst, arith, length}
use Rattle.std.proofs.lemmas.Bool.{cases_Bool}
use Rattle.std.proofs.lemmas.List.{length-append}
use Rattle.reader_theory.specs.Words.{Mark, bare, Shallow, expected, Verdict, found, fault}
use Rattle.reader_theory.specs.Refusals.{Reads, Answers}
use Rattle.reader_theory.specs.Readers.{then_by, more_of}
use Rattle.reader_theory.specs.Exactness.{never, Exact}
use Rattle.reader_theory.specs.Languages.{Nothing, By}
use Rattle.reader_theory.specs.Texts.{AnyOf, Rest, tries, tries_or_end, from_here}
use Rattle.reader_theory.specs.TextLaws.{OnePart}
use Rattle.reader_theory.proofs.Marks.{bare_append, never_stops, shallow_back}
use Rattle.reader_theory.proofs.Single.{exact_nothing}
use Rattle.reader_theory.proofs.Fronts.{same_answers}
use Rattle.reader_theory.proofs.Whole.{exact_whole}
use Rattle.reader_theory.proofs.Best.{exact_best}
use Rattle.reader_theory.proofs.Tail.{exact_tail}

module _ {T A S I : Type 0} (L : I → A → List (Mark T) → Type 0) (forms : S → List I) (next : S → A → S) (final : S → Bool) where
  -- the language of a place
  abbrev pub Rest_at : S → List A → List (Mark T) → Type 0
  Rest_at s ls w = Rest L forms next final ls s w

  -- a part of one of these forms, and the rest of the text
  abbrev pub Ways : S → List I → List A → List (Mark T) → Type 0
  Ways s js = By more_of (AnyOf L js) (λ a. Rest_at (next s a))

  pub first_way : (s : S) (i : I) (js : List I) (ls : List A) (w : List (Mark T)) → By more_of (L i) (λ a. Rest_at (next s a)) ls w → Ways s (i ∷ js) ls w
  first_way s i js ls w (a, b, e, (u, v, h, k, split)) = (a, b, e, (u, v, inl h, k, split))

  pub later_way : (s : S) (i : I) (js : List I) (ls : List A) (w : List (Mark T)) → Ways s js ls w → Ways s (i ∷ js) ls w
  later_way s i js ls w (a, b, e, (u, v, h, k, split)) = (a, b, e, (u, v, inr h, k, split))

  pub which_way : (s : S) (i : I) (js : List I) (ls : List A) (w : List (Mark T)) → Ways s (i ∷ js) ls w → By more_of (L i) (λ a. Rest_at (next s a)) ls w ⊎ Ways s js ls w
  which_way s i js ls w (a, b, e, (u, v, inl h, k, split)) = inl (a, b, e, (u, v, h, k, split))
  which_way s i js ls w (a, b, e, (u, v, inr h, k, split)) = inr (a, b, e, (u, v, h, k, split))

module _ {T A S I : Type 0} (L : I → A → List (Mark T) → Type 0) (p : I → List T → Verdict T A) (x : (i : I) → Exact (L i) never (p i)) (forms : S → List I) (next : S → A → S) (final : S → Bool) (longer : (i : I) (a : A) (w : List (Mark T)) → L i a w → 1 ≤ length (bare w)) (some : S → List A) (some_word : S → List (Mark T)) (is_some : (s : S) → Rest L forms next final (some s) s (some_word s)) (alive : (s : S) → final s ≡ false → (i : I) × (js : List I) × (forms s ≡ i ∷ js)) where
  abbrev Ways_or_end : S → List I → List A → List (Mark T) → Type 0
  Ways_or_end s js ls w = Nothing [] ls w ⊎ Ways L forms next final s js ls w

  -- shorter texts are answered exactly
  abbrev Shorter : ℕ → (S → List T → Verdict T (List A)) → Type 0
  Shorter n rest = (s : S) (ts : List T) → length ts < n → Answers (Rest_at L forms next final s) ts (rest s ts)

  one_way : (rest : S → List T → Verdict T (List A)) (s : S) (i : I) (ts : List T) → Shorter (length ts) rest → Answers (By more_of (L i) (λ a. Rest_at L forms next final (next s a))) ts (then_by more_of (λ a. rest (next s a)) (p i ts))
  one_way rest s i ts shorter = exact_tail more_of (L i) (λ a. Rest_at L forms next final (next s a)) (p i) (λ a. rest (next s a)) never (x i) (λ a b w h. never_stops (bare w)) (λ a. some (next s a)) (λ a. some_word (next s a)) (λ a. is_some (next s a)) ts
      (λ a left e t. shorter (next s a) left (let k = longer i a t.word t.is_word in let l = ap length t.split in let m = length-append (bare t.word) left in omega arith))

  only_way : (s : S) (i : I) (ls : List A) (w : List (Mark T)) → Ways L forms next final s (i ∷ []) ls w → By more_of (L i) (λ a. Rest_at L forms next final (next s a)) ls w
  only_way s i ls w (a, b, e, (u, v, inl h, k, split)) = (a, b, e, (u, v, h, k, split))
  only_way s i ls w (a, b, e, (u, v, inr h, k, split)) = absurd h

  tries_answer : (rest : S → List T → Verdict T (List A)) (s : S) (i : I) (js : List I) (ts : List T) → Shorter (length ts) rest → Answers (Ways L forms next final s (i ∷ js)) ts (tries p next rest s (i ∷ js) ts)
  tries_answer rest s i [] ts shorter = same_answers (By more_of (L i) (λ a. Rest_at L forms next final (next s a))) (Ways L forms next final s (i ∷ [])) (first_way L forms next final s i []) (only_way s i) ts _ (one_way rest s i ts shorter)
  tries_answer rest s i (j ∷ js) ts shorter = exact_best (By more_of (L i) (λ a. Rest_at L forms next final (next s a))) (Ways L forms next final s (j ∷ js)) (Ways L forms next final s (i ∷ j ∷ js)) (first_way L forms next final s i (j ∷ js)) (later_way L forms next final s i (j ∷ js)) (which_way L forms next final s i (j ∷ js))
      ts _ _ (one_way rest s i ts shorter) (tries_answer rest s j js ts shorter)

  end_answer : (rest : S → List T → Verdict T (List A)) (s : S) (js : List I) (ts : List T) → Shorter (length ts) rest → Answers (Ways_or_end s js) ts (tries_or_end p next rest s js ts)
  end_answer rest s [] ts shorter = same_answers (Nothing []) (Ways_or_end s []) (λ ls w h. inl h) (λ ls w h. only_end ls w h) ts _ (exact_whole (Nothing []) never (found []) (exact_nothing []) ts)
    where
      only_end : (ls : List A) (w : List (Mark T)) → Ways_or_end s [] ls w → Nothing {T = T} [] ls w
      only_end ls w (inl h) = h
      only_end ls w (inr (a, b, e, (u, v, h, k, split))) = absurd h
  end_answer rest s (i ∷ js) ts shorter = exact_best (By more_of (L i) (λ a. Rest_at L forms next final (next s a))) (Ways_or_end s js) (Ways_or_end s (i ∷ js))
      (λ ls w h. inr (first_way L forms next final s i js ls w h)) later which ts _ _ (one_way rest s i ts shorter) (end_answer rest s js ts shorter)
    where
      later : (ls : List A) (w : List (Mark T)) → Ways_or_end s js ls w → Ways_or_end s (i ∷ js) ls w
      later ls w (inl h) = inl h
      later ls w (inr h) = inr (later_way L forms next final s i js ls w h)

      which : (ls : List A) (w : List (Mark T)) → Ways_or_end s (i ∷ js) ls w → By more_of (L i) (λ a. Rest_at L forms next final (next s a)) ls w ⊎ Ways_or_end s js ls w
      which ls w (inl h) = inr (inl h)
      which ls w (inr h) = by (which_way L forms next final s i js ls w h)
        where
          by : By more_of (L i) (λ a. Rest_at L forms next final (next s a)) ls w ⊎ Ways L forms next final s js ls w → By more_of (L i) (λ a. Rest_at L forms next final (next s a)) ls w ⊎ Ways_or_end s js ls w
          by (inl k) = inl k
          by (inr k) = inr (inr k)

  from_ways : (s : S) (ls : List A) (w : List (Mark T)) → Ways L forms next final s (forms s) ls w → Rest L forms next final ls s w
  from_ways s ls w (a, b, e, (u, v, h, k, split)) = subst (λ z. Rest L forms next final z s w) (sym e) (u, v, h, k, split)

  from_end : (s : S) → final s ≡ true → (ls : List A) (w : List (Mark T)) → Ways_or_end s (forms s) ls w → Rest L forms next final ls s w
  from_end s f ls w (inl h) = subst (λ z. Rest L forms next final z s w) (sym h.0) (f, h.1)
  from_end s f ls w (inr h) = from_ways s ls w h

  to_ways : (s : S) (ls : List A) (w : List (Mark T)) → Rest L forms next final ls s w → Ways_or_end s (forms s) ls w
  to_ways s [] w h = inl (refl, h.1)
  to_ways s (a ∷ ls) w (u, v, h, k, split) = inr (a, ls, refl, (u, v, h, k, split))

  only_ways : (s : S) → final s ≡ false → (ls : List A) (w : List (Mark T)) → Rest L forms next final ls s w → Ways L forms next final s (forms s) ls w
  only_ways s f [] w h = absurd (let k = sym f ∙ h.0 in cc)
  only_ways s f (a ∷ ls) w (u, v, h, k, split) = (a, ls, refl, (u, v, h, k, split))

  any_longer : (js : List I) (a : A) (w : List (Mark T)) → AnyOf L js a w → 1 ≤ length (bare w)
  any_longer [] a w h = absurd h
  any_longer (j ∷ js) a w (inl h) = longer j a w h
  any_longer (j ∷ js) a w (inr h) = any_longer js a w h

  nothing_left : (s : S) → final s ≡ false → (ls : List A) → Reads (Rest_at L forms next final s) [] ls → ⊥
  nothing_left s f [] (w, h, k, e) = absurd (let g = sym f ∙ h.0 in cc)
  nothing_left s f (a ∷ ls) (w, (u, v, h, g, split), k, e) = by_word u (any_longer (forms s) a u h) split
    where
      by_word : (u : List (Mark T)) → 1 ≤ length (bare u) → w ≡ u ++ v → ⊥
      by_word [] l i = absurd (omega arith)
      by_word (m ∷ u) l i = absurd (let g = e ∙ ap bare i in cc)

  at_end : (s : S) → Answers (Rest_at L forms next final s) [] (cond (final s) (found [] []) (fault expected []))
  at_end s = elim (cases_Bool (final s)) [
    | inl t ↦ subst (λ b. Answers (Rest_at L forms next final s) [] (cond b (found [] []) (fault expected []))) (sym t) (refl, ([], (t, refl), tt, refl))
    | inr f ↦ subst (λ b. Answers (Rest_at L forms next final s) [] (cond b (found [] []) (fault expected []))) (sym f) (record { front = []; split = refl; begins = (some s, [], some_word s, is_some s, tt, refl); stops = (refl, nothing_left s f) })
  ]

  -- From each place on a text is read exactly where it is statements of the forms that the places allow, up to an end,
  -- else refused exactly at the first token with which no such text goes on.
  pub exact_rest_of_text : (n : ℕ) (s : S) (ts : List T) → length ts ≤ n → Answers (Rest_at L forms next final s) ts (from_here p forms next final n s ts)
  exact_rest_of_text zero s [] l = at_end s
  exact_rest_of_text zero s (t ∷ ts) l = absurd (omega arith)
  exact_rest_of_text (suc n) s ts l = elim (cases_Bool (final s)) [
    | inl t ↦ subst (λ b. Answers (Rest_at L forms next final s) ts (cond b (tries_or_end p next (from_here p forms next final n) s (forms s) ts) (tries p next (from_here p forms next final n) s (forms s) ts))) (sym t)
        (same_answers (Ways_or_end s (forms s)) (Rest_at L forms next final s) (from_end s t) (to_ways s) ts _ (end_answer (from_here p forms next final n) s (forms s) ts (λ r us k. exact_rest_of_text n r us (omega arith))))
    | inr f ↦ subst (λ b. Answers (Rest_at L forms next final s) ts (cond b (tries_or_end p next (from_here p forms next final n) s (forms s) ts) (tries p next (from_here p forms next final n) s (forms s) ts))) (sym f)
        (same_answers (Ways L forms next final s (forms s)) (Rest_at L forms next final s) (from_ways s) (only_ways s f) ts _
        (let g = alive s f in subst (λ js. Answers (Ways L forms next final s js) ts (tries p next (from_here p forms next final n) s js ts)) (sym g.2) (tries_answer (from_here p forms next final n) s g.0 g.1 ts (λ r us k. exact_rest_of_text n r us (omega arith)))))
  ]

-- Each text has one reading, where no two parts that a place allows begin one text with rests that they allow, and each
-- is longer than none.
module _ {T A S I : Type 0} (L : I → A → List (Mark T) → Type 0) (forms : S → List I) (next : S → A → S) (final : S → Bool) (longer : (s : S) (a : A) (w : List (Mark T)) → AnyOf L (forms s) a w → 1 ≤ length (bare w)) (one_part : OnePart L forms next final) where
  not_none : (s : S) (a : A) (u v : List (Mark T)) → AnyOf L (forms s) a u → [] ≡ bare u ++ bare v → ⊥
  not_none s a u v h e = let l = longer s a u h in let k = ap length e ∙ length-append (bare u) (bare v) in absurd (omega arith)

  pub one_of_texts : (es fs : List A) (s : S) (ts : List T) → Reads (λ gs w. Rest L forms next final gs s w) ts es → Reads (λ gs w. Rest L forms next final gs s w) ts fs → es ≡ fs
  one_of_texts [] [] s ts h k = refl
  one_of_texts [] (b ∷ fs) s ts (w, h, i, e) (z, (u, v, k, l, split), j, g) = absurd (not_none s b u v k (sym (e ∙ ap bare h.1) ∙ (g ∙ (ap bare split ∙ bare_append u v))))
  one_of_texts (a ∷ es) [] s ts (z, (u, v, k, l, split), j, g) (w, h, i, e) = absurd (not_none s a u v k (sym (e ∙ ap bare h.1) ∙ (g ∙ (ap bare split ∙ bare_append u v))))
  one_of_texts (a ∷ es) (b ∷ fs) s ts (w, (u, v, h, i, split), j, e) (w2, (u2, v2, h2, i2, split2), j2, e2) =
      let k = one_part s a b es fs u u2 v v2 h h2 i i2 (subst Shallow split j) (subst Shallow split2 j2) (sym (e ∙ (ap bare split ∙ bare_append u v)) ∙ (e2 ∙ (ap bare split2 ∙ bare_append u2 v2))) in
      let more = one_of_texts es fs (next s a) (bare v) (v, i, shallow_back u v (subst Shallow split j), refl)
      (v2, subst (λ c. Rest L forms next final fs (next s c) v2) (sym k.0) i2, shallow_back u2 v2 (subst Shallow split2 j2), k.1) in
      ap (λ c. c ∷ es) k.0 ∙ ap (λ gs. b ∷ gs) more
