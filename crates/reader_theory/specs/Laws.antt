-- What is proved of readers, languages and refusals: each statement is a clause of a function of the crate.
use Rattle.std.specs.Prelude.{ℕ, suc, ◌≡◌, ◌≤◌, ◌<◌, Bool, true, false, List, ◌∷◌, ◌++◌, ◌⊎◌, length}
use Rattle.reader_theory.specs.Words.{Mark, Language, bare, Cause, Verdict, found, fault}
use Rattle.reader_theory.specs.Refusals.{Reads, Refused, Answers}
use Rattle.reader_theory.specs.Readers.{token, sunk, turned, mapped, joined, then_by, both_by, pick, two_pass, ahead, optional, many_by, behind, between, ended, best, rest_of}
use Rattle.reader_theory.specs.Exactness.{Stops, never, Heads, Sunken, Eats, Finds, Exact}
use Rattle.reader_theory.specs.Languages.{Single, Nothing, Image, By, Or, Optional, Items_by}
use Rattle.reader_theory.specs.Levels.{One, Behind, Between}

-- the words of both are the same
abbrev pub SameWords : {T A : Type 0} → Language T A → Language T A → Type 0
SameWords {T} {A} L M = (a : A) (w : List (Mark T)) → (L a w → M a w) × (M a w → L a w)

-- the words of the third are those of the first and of the second
abbrev pub IsEither : {T A : Type 0} → Language T A → Language T A → Language T A → Type 0
IsEither {T} {A} L M K = (a : A) (w : List (Mark T)) → (L a w → K a w) × (M a w → K a w) × (K a w → L a w ⊎ M a w)

-- where the one test stops, the other does
abbrev pub Wider : {T : Type 0} → (T → Bool) → (T → Bool) → Type 0
Wider {T} also more = (rest : List T) → Stops also rest → Stops more rest

-- each word has a first token, which passes the test
abbrev pub HeadedBy : {T A : Type 0} → Language T A → (T → Bool) → Type 0
HeadedBy {T} {A} L test = (a : A) (w : List (Mark T)) → L a w → Heads test w

-- behind a word of the language, or where it is empty, no token passes the test
abbrev pub StopsBefore : {T A : Type 0} → Language T A → (T → Bool) → (T → Bool) → Type 0
StopsBefore {T} {A} L more test = (a : A) (w : List (Mark T)) (rest : List T) → L a w → Stops more rest → Stops test (bare w ++ rest)

-- what is refused isn't read
abbrev pub RefusedIsNotRead : {T A : Type 0} → Language T A → Type 0
RefusedIsNotRead {T} {A} L = (ts : List T) (c : Cause) (rest : List T) (a : A) → Refused L ts c rest → Reads L ts a → ⊥

-- a text is read as one tree at most
abbrev pub OneReading : {T A : Type 0} → Language T A → Type 0
OneReading {T} {A} L = (ts : List T) (a b : A) → Reads L ts a → Reads L ts b → a ≡ b

-- the reader gives each whole text the answer that is due
abbrev pub AnswersAll : {T A : Type 0} → Language T A → (List T → Verdict T A) → Type 0
AnswersAll {T} L r = (ts : List T) → Answers L ts (r ts)

-- an exact reader, asked to end with the text, answers each whole text
abbrev pub WholeTexts : {T A : Type 0} → Language T A → Type 0
WholeTexts {T} {A} L = (more : T → Bool) (p : List T → Verdict T A) → Exact L more p → AnswersAll L (ended p)

-- where there is an exact reader, a text has one reading at most
abbrev pub WholeTextsOnce : {T A : Type 0} → Language T A → Type 0
WholeTextsOnce {T} {A} L = (more : T → Bool) (p : List T → Verdict T A) → Exact L more p → OneReading L

-- one token, at no level
abbrev pub TokenIsExact : Type 0 → Type 0
TokenIsExact T = (test : T → Bool) (sample : T) → test sample ≡ true → Exact (Single test) never (token test)

-- and one at a level that is there
abbrev pub TokenAtLevel : Type 0 → Type 0
TokenAtLevel T = (test : T → Bool) (sample : T) (limit level : ℕ) → test sample ≡ true → level ≤ limit → Exact (One test limit level) never (token test)

-- no token
abbrev pub NothingIsExact : Type 0 → Type 0 → Type 0
NothingIsExact T A = (a : A) → Exact (Nothing {T = T} a) never (found a)

-- the same words, of the tree that f makes
abbrev pub ImageIsExact : {T A B : Type 0} → Language T A → Language T B → Type 0
ImageIsExact {T} {A} {B} L M =
    (f : A → B) (p : List T → Verdict T A) (more also : T → Bool) → Exact L more p → ((a : A) (w : List (Mark T)) → L a w → M (f a) w)
    → ((b : B) (w : List (Mark T)) → M b w → (a : A) × (b ≡ f a) × L a w) → Wider also more → Exact M also (mapped f p)

-- and so the answers to whole texts
abbrev pub ImageAnswers : {T A B : Type 0} → Language T A → (A → B) → Type 0
ImageAnswers {T} {A} L f = (ts : List T) (v : Verdict T A) → Answers L ts v → Answers (Image f L) ts (turned f v)

-- the same words, said by another relation
abbrev pub SaidOtherwise : {T A : Type 0} → Language T A → Language T A → Type 0
SaidOtherwise {T} {A} L M = (p : List T → Verdict T A) (more also : T → Bool) → Exact L more p → SameWords L M → Wider also more → Exact M also p

-- one part behind another, where no word of the second begins with what may go on behind the first
abbrev pub SequenceIsExact : {T A B C : Type 0} → Language T A → (A → Language T B) → (A → B → C) → Type 0
SequenceIsExact {T} {A} {B} L M f =
    (p : List T → Verdict T A) (q : A → List T → Verdict T B) (more also : T → Bool) → Exact L more p → ((a : A) → Exact (M a) also (q a))
    → ((a : A) → StopsBefore (M a) also more) → Exact (By f L M) also (both_by f p q)

-- a choice by the first token: the words of the one begin with the test, and those of the other don't
abbrev pub ChoiceIsExact : {T A : Type 0} → Language T A → Language T A → Type 0
ChoiceIsExact {T} {A} L M =
    (test : T → Bool) (p q : List T → Verdict T A) (first second more : T → Bool) → Exact L first p → Exact M second q
    → HeadedBy L test → StopsBefore M more test → Wider more first → Wider more second → Exact (Or L M) more (pick test p q)

-- a choice by the first two tokens
abbrev pub ChoiceAheadIsExact : {T A : Type 0} → Language T A → Language T A → Type 0
ChoiceAheadIsExact {T} {A} L M =
    (one two : T → Bool) (p q : List T → Verdict T A) (first second more : T → Bool) → Exact L first p → Exact M second q
    → ((a : A) (w : List (Mark T)) (rest : List T) → L a w → two_pass one two (bare w ++ rest) ≡ true)
    → ((a : A) (w : List (Mark T)) (rest : List T) → M a w → Stops more rest → two_pass one two (bare w ++ rest) ≡ false)
    → Wider more first → Wider more second → Eats one p → Eats one q → Exact (Or L M) more (ahead one two p q)

-- a part that may be left out
abbrev pub OptionIsExact : {T A : Type 0} → Language T A → Type 0
OptionIsExact {T} {A} L =
    (test : T → Bool) (p : List T → Verdict T A) (first more : T → Bool) → Exact L first p → HeadedBy L test → Wider more first → Wider more test
    → Exact (Optional L) more (optional test p)

-- repetition: items that begin with a token that passes; none of them goes on with such a token
abbrev pub RepetitionIsExact : {T A S : Type 0} → (S → Language T A) → Type 0
RepetitionIsExact {T} {A} {S} L =
    (p : S → List T → Verdict T A) (next : S → A → S) (test first more : T → Bool) → ((s : S) → Exact (L s) first (p s)) → ((s : S) → HeadedBy (L s) test)
    → Wider more first → Wider more test → ((x : T) → test x ≡ true → first x ≡ false) → (s : S) → Exact (λ es w. Items_by L next es s w) more (many_by test p next s)

-- no level is left: each word begins with a token that passes, at which a level too deep begins; and each such token
-- begins a word
abbrev pub SunkIsExact : {T A : Type 0} → Language T A → Type 0
SunkIsExact {T} {A} L =
    (test : T → Bool) (some : A) (w : List (Mark T)) → L some w → ((a : A) (w : List (Mark T)) → L a w → Sunken test w)
    → ((x : T) → test x ≡ true → (a : A) × (v : List (Mark T)) × L a (record { token = x; deep = true } ∷ v)) → (more : T → Bool) → Exact L more (sunk test)

-- this token passes the test, and no other
abbrev pub PassesAlone : {T : Type 0} → (T → Bool) → T → Type 0
PassesAlone {T} test sign = (test sign ≡ true) × ((x : T) → test x ≡ true → x ≡ sign)

-- a part behind one token
abbrev pub BehindIsExact : {T A : Type 0} → Language T A → Type 0
BehindIsExact {T} {A} L =
    (limit level : ℕ) → level ≤ limit → (test : T → Bool) (sign : T) → PassesAlone test sign → (more : T → Bool) (r : List T → Verdict T A) → Exact L more r
    → Exact (Behind limit level sign L) more (behind test r)

-- a part between two tokens
abbrev pub BetweenIsExact : {T A : Type 0} → Language T A → Type 0
BetweenIsExact {T} {A} L =
    (limit level : ℕ) → level ≤ limit → (opens closes : T → Bool) (opener closer : T) → PassesAlone opens opener → PassesAlone closes closer
    → (more : T → Bool) (r : List T → Verdict T A) → Exact L more r → more closer ≡ false → Exact (Between limit level opener closer L) never (between opens closes r)

-- a part between two, where the level that the opening token begins is one more than there may be
abbrev pub SunkBetweenIsExact : {T A : Type 0} → Language T A → Type 0
SunkBetweenIsExact {T} {A} L =
    (limit : ℕ) (opens : T → Bool) (opener closer : T) → PassesAlone opens opener → (some : A) (w : List (Mark T)) → L some w → (more : T → Bool)
    → Exact (Between limit (suc limit) opener closer L) more (sunk opens)

-- the better of two answers is the answer to both languages together
abbrev pub BetterIsExact : {T A : Type 0} → Language T A → Language T A → Language T A → Type 0
BetterIsExact {T} {A} L M K = IsEither L M K → (ts : List T) (v u : Verdict T A) → Answers L ts v → Answers M ts u → Answers K ts (best v u)

-- and no text has two readings, where none is in both
abbrev pub BetterReadsOnce : {T A : Type 0} → Language T A → Language T A → Language T A → Type 0
BetterReadsOnce {T} {A} L M K = IsEither L M K → OneReading L → OneReading M → ((ts : List T) (a b : A) → Reads L ts a → Reads M ts b → ⊥) → OneReading K

-- a part, then a whole text: where the part is read, the rest is a whole text by itself; the text behind any part can
-- be some word
abbrev pub TailIsExact : {T A B C : Type 0} → Language T A → (A → Language T B) → (A → B → C) → Type 0
TailIsExact {T} {A} {B} L M f =
    (p : List T → Verdict T A) (q : A → List T → Verdict T B) (more : T → Bool) → Exact L more p → ((a : A) (b : B) (w : List (Mark T)) → M a b w → Stops more (bare w))
    → (some : A → B) (some_word : A → List (Mark T)) → ((a : A) → M a (some a) (some_word a)) → (ts : List T)
    → ((a : A) (rest : List T) → p ts ≡ found a rest → Finds L p ts a rest → Answers (M a) rest (q a rest)) → Answers (By f L M) ts (then_by f q (p ts))

-- and then no text has two readings
abbrev pub TailReadsOnce : {T A B C : Type 0} → Language T A → (A → Language T B) → (A → B → C) → Type 0
TailReadsOnce {T} {A} {B} L M f =
    (p : List T → Verdict T A) (more : T → Bool) → Exact L more p → ((a : A) (b : B) (w : List (Mark T)) → M a b w → Stops more (bare w))
    → ((a : A) → OneReading (M a)) → OneReading (By f L M)

-- the answer of the part that is read is the better one, where the other alternative's fault stands inside that part
abbrev pub ReadPartDecides : Type 0 → Type 0 → Type 0 → Type 0 → Type 0
ReadPartDecides T A B C =
    (f : A → B → C) (a : A) (v : Verdict T B) (c : Cause) (s : List T) → length (rest_of v) < length s
    → (best (joined f a v) (fault c s) ≡ joined f a v) × (best (fault c s) (joined f a v) ≡ joined f a v)
