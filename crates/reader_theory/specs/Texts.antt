-- A text of parts, each of one of the forms that its place allows; the part that is read makes the next place of this
-- one.
use Rattle.std.specs.Prelude.{ℕ, zero, suc, ◌≡◌, Bool, true, cond, List, [], ◌∷◌, ◌⊎◌, Option, None}
use Rattle.reader_theory.specs.Limits.{place_by, nearer}
use Rattle.reader_theory.specs.Words.{Mark, Language, ◌⟫◌, expected, Verdict, found, fault}
use Rattle.reader_theory.specs.Readers.{then_by, more_of, ended, best}

-- the part has one of these forms
abbrev pub AnyOf : {T A I : Type 0} → (I → Language T A) → List I → A → List (Mark T) → Type 0
AnyOf L [] a w = ⊥
AnyOf L (i ∷ is) a w = L i a w ⊎ AnyOf L is a w

-- the words of the rest of a text, from this place on, up to a place where it may end
abbrev pub Rest : {T A S I : Type 0} → (I → Language T A) → (S → List I) → (S → A → S) → (S → Bool) → List A → S → List (Mark T) → Type 0
Rest L forms next final [] s w = (final s ≡ true) × (w ≡ [])
Rest L forms next final (a ∷ es) s w = (AnyOf L (forms s) a ⟫ Rest L forms next final es (next s a)) w

-- the answer of one form: its part, and the rest of the text from the next place on
abbrev pub one_form : {T A S I : Type 0} → (I → List T → Verdict T A) → (S → A → S) → (S → List T → Verdict T (List A)) → S → I → List T → Verdict T (List A)
one_form p next rest s i ts = then_by more_of (λ a. rest (next s a)) (p i ts)

-- the best answer of several forms
abbrev pub tries : {T A S I : Type 0} → (I → List T → Verdict T A) → (S → A → S) → (S → List T → Verdict T (List A)) → S → List I → List T → Verdict T (List A)
tries p next rest s [] ts = fault expected ts
tries p next rest s (i ∷ []) ts = one_form p next rest s i ts
tries p next rest s (i ∷ j ∷ is) ts = best (one_form p next rest s i ts) (tries p next rest s (j ∷ is) ts)

-- the best answer of several forms, where the text may also end here
abbrev pub tries_or_end : {T A S I : Type 0} → (I → List T → Verdict T A) → (S → A → S) → (S → List T → Verdict T (List A)) → S → List I → List T → Verdict T (List A)
tries_or_end p next rest s [] ts = ended (found []) ts
tries_or_end p next rest s (i ∷ is) ts = best (one_form p next rest s i ts) (tries_or_end p next rest s is ts)

-- the answer from this place on to a text of no more than so many tokens
abbrev pub from_here : {T A S I : Type 0} → (I → List T → Verdict T A) → (S → List I) → (S → A → S) → (S → Bool) → ℕ → S → List T → Verdict T (List A)
from_here p forms next final zero s ts = cond (final s) (ended (found []) ts) (fault expected ts)
from_here p forms next final (suc n) s ts =
    cond (final s) (tries_or_end p next (from_here p forms next final n) s (forms s) ts) (tries p next (from_here p forms next final n) s (forms s) ts)

-- the first place at which a form sinks, of those that go on
abbrev pub places : {T A S I : Type 0} → (I → List T → Verdict T A) → (S → A → S) → (S → I → List T → Bool) → (S → List T → Option ℕ) → S → List I → List T → Option ℕ
places p next goes rest s [] ts = None
places p next goes rest s (i ∷ is) ts = nearer (place_by (goes s i ts) ts (λ a. rest (next s a)) (p i ts)) (places p next goes rest s is ts)

-- the same from this place on, in a text of no more than so many tokens
abbrev pub place_here : {T A S I : Type 0} → (I → List T → Verdict T A) → (S → List I) → (S → A → S) → (S → I → List T → Bool) → ℕ → S → List T → Option ℕ
place_here p forms next goes zero s ts = None
place_here p forms next goes (suc n) s ts = places p next goes (place_here p forms next goes n) s (forms s) ts
