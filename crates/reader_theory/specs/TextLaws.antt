-- What is proved of texts of parts, and of the reason of a refusal: each statement is a clause of a function of the
-- crate.
use Rattle.std.specs.Prelude.{ℕ, ◌≡◌, ◌≤◌, Bool, true, false, List, [], ◌∷◌, ◌++◌, length, Option}
use Rattle.reader_theory.specs.Words.{Mark, Language, bare, Shallow, Cause, Verdict, found}
use Rattle.reader_theory.specs.Refusals.{Reads, Begins, Refused, Answers}
use Rattle.reader_theory.specs.Limits.{Goes, FirstSunk, Reason, no_word, RefusedFor, place_of, place_by, nearer, goes_through, reason}
use Rattle.reader_theory.specs.Levels.{Moved}
use Rattle.reader_theory.specs.Readers.{more_of}
use Rattle.reader_theory.specs.Exactness.{Stops, never, Exact}
use Rattle.reader_theory.specs.Languages.{By}
use Rattle.reader_theory.specs.Texts.{AnyOf, Rest, from_here, place_here}
use Rattle.reader_theory.specs.Laws.{IsEither, OneReading}

-- each word of a form has a token
abbrev pub NoneEmpty : {T A I : Type 0} → (I → Language T A) → Type 0
NoneEmpty {T} {A} {I} L = (i : I) (a : A) (w : List (Mark T)) → L i a w → 1 ≤ length (bare w)

-- A text of parts is answered exactly, where each place is one at which the text may end, or allows a form; and from
-- each place on some text ends.
abbrev pub TextsAreExact : {T A S I : Type 0} → (I → Language T A) → (S → List I) → (S → A → S) → (S → Bool) → Type 0
TextsAreExact {T} {A} {S} {I} L forms next final =
    (p : I → List T → Verdict T A) → ((i : I) → Exact (L i) never (p i)) → NoneEmpty L
    → (some : S → List A) (some_word : S → List (Mark T)) → ((s : S) → Rest L forms next final (some s) s (some_word s))
    → ((s : S) → final s ≡ false → (i : I) × (is : List I) × (forms s ≡ i ∷ is))
    → (n : ℕ) (s : S) (ts : List T) → length ts ≤ n → Answers (λ es w. Rest L forms next final es s w) ts (from_here p forms next final n s ts)

-- no two parts that a place allows begin one text, each with a rest that its next place allows
abbrev pub OnePart : {T A S I : Type 0} → (I → Language T A) → (S → List I) → (S → A → S) → (S → Bool) → Type 0
OnePart {T} {A} {S} L forms next final =
    (s : S) (a b : A) (es fs : List A) (u v x y : List (Mark T)) → AnyOf L (forms s) a u → AnyOf L (forms s) b v
    → Rest L forms next final es (next s a) x → Rest L forms next final fs (next s b) y
    → Shallow (u ++ x) → Shallow (v ++ y) → bare u ++ bare x ≡ bare v ++ bare y → (a ≡ b) × (bare x ≡ bare y)

-- a text of parts has one reading at most
abbrev pub TextsReadOnce : {T A S I : Type 0} → (I → Language T A) → (S → List I) → (S → A → S) → (S → Bool) → Type 0
TextsReadOnce {T} {A} {S} L forms next final =
    ((s : S) (a : A) (w : List (Mark T)) → AnyOf L (forms s) a w → 1 ≤ length (bare w)) → OnePart L forms next final
    → (s : S) → OneReading (λ es w. Rest L forms next final es s w)

-- Why a text is refused: which of its tokens sink first.

-- whether some word begins with the text, told by an exact answer
abbrev pub AnswerTellsFront : {T A : Type 0} → Language T A → Type 0
AnswerTellsFront {T} {A} M = (ts : List T) (v : Verdict T A) → Answers M ts v → (goes_through v ≡ true → Begins M ts) × (goes_through v ≡ false → Begins M ts → ⊥)

-- the test says whether some word begins with the text, whatever its levels
abbrev pub SaysGoes : {T A : Type 0} → Language T A → List T → Bool → Type 0
SaysGoes L ts goes = (goes ≡ true → Goes L ts) × (goes ≡ false → Goes L ts → ⊥)

-- the first token too deep in a whole text, from its exact answer
abbrev pub PlaceOfWhole : {T A : Type 0} → Language T A → Type 0
PlaceOfWhole {T} {A} L = (more : T → Bool) (p : List T → Verdict T A) → Exact L more p → (ts : List T) (goes : Bool) → SaysGoes L ts goes → FirstSunk L ts (place_of goes ts (p ts))

-- in either of two languages
abbrev pub PlaceOfEither : {T A : Type 0} → Language T A → Language T A → Language T A → Type 0
PlaceOfEither {T} L M K = IsEither L M K → (ts : List T) (o q : Option ℕ) → FirstSunk L ts o → FirstSunk M ts q → FirstSunk K ts (nearer o q)

-- in a part and what stands behind it
abbrev pub PlaceOfTail : {T A B C : Type 0} → Language T A → (A → Language T B) → (A → B → C) → Type 0
PlaceOfTail {T} {A} {B} L M f =
    (p : List T → Verdict T A) (more : T → Bool) → Exact L more p → ((a : A) (b : B) (w : List (Mark T)) → M a b w → Stops more (bare w))
    → (ts : List T) (goes : Bool) → SaysGoes (By f L M) ts goes
    → (place : A → List T → Option ℕ) → ((a : A) (rest : List T) → p ts ≡ found a rest → FirstSunk (M a) rest (place a rest))
    → FirstSunk (By f L M) ts (place_by goes ts place (p ts))

-- in a text of parts
abbrev pub PlaceInTexts : {T A S I : Type 0} → (I → Language T A) → (S → List I) → (S → A → S) → (S → Bool) → Type 0
PlaceInTexts {T} {A} {S} {I} L forms next final =
    (p : I → List T → Verdict T A) → ((i : I) → Exact (L i) never (p i)) → NoneEmpty L
    → (goes : S → I → List T → Bool) → ((s : S) (i : I) (ts : List T) → SaysGoes (By more_of (L i) (λ a w. λ v. Rest L forms next final w (next s a) v)) ts (goes s i ts))
    → (n : ℕ) (s : S) (ts : List T) → length ts ≤ n → FirstSunk (λ es w. Rest L forms next final es s w) ts (place_here p forms next goes n s ts)

-- the refusal with its reason: that of the text up to and with the token at which it is refused
abbrev pub RefusalHasReason : {T A : Type 0} → Language T A → Type 0
RefusalHasReason {T} L =
    (ts : List T) (c : Cause) (x : T) (rest : List T) (o : Option ℕ) → (r : Refused L ts c (x ∷ rest)) → FirstSunk L (r.front ++ x ∷ []) o → RefusedFor L ts (reason o) (x ∷ rest)

-- just past the text's end
abbrev pub RefusalAtEnd : {T A : Type 0} → Language T A → Type 0
RefusalAtEnd {T} L = (ts : List T) (c : Cause) → Refused L ts c [] → RefusedFor L ts no_word []

-- what is refused for a reason isn't read
abbrev pub RefusedForIsNotRead : {T A : Type 0} → Language T A → Type 0
RefusedForIsNotRead {T} {A} L = (ts : List T) (why : Reason) (rest : List T) (a : A) → RefusedFor L ts why rest → Reads L ts a → ⊥

-- a text is refused at one place and for one reason
abbrev pub OneRefusal : {T A : Type 0} → Language T A → Type 0
OneRefusal {T} L = (ts r s : List T) (why also : Reason) → RefusedFor L ts why r → RefusedFor L ts also s → (why ≡ also) × (r ≡ s)

-- the words of both have the same tokens, and those of the second aren't too deep up to so many
abbrev pub SameTokens : {T A : Type 0} → Language T A → Language T A → ℕ → Type 0
SameTokens {T} {A} L M n = ((a : A) (w : List (Mark T)) → L a w → Moved (M a) n w) × ((a : A) (w : List (Mark T)) → M a w → Moved (L a) 0 w)

-- so whether a text of no more tokens goes on is told under the second limit
abbrev pub LimitsAgree : {T A : Type 0} → Language T A → Language T A → Type 0
LimitsAgree {T} L M = (n : ℕ) → SameTokens L M n → (ts : List T) → length ts ≤ n → (Goes L ts → Begins M ts) × (Begins M ts → Goes L ts)
