-- Readers, as functions on lists of tokens, and how they are put together.
use Rattle.std.specs.Prelude.{ℕ, zero, suc, Bool, false, cond, List, [], ◌∷◌, length, nat_lt, Option, Some, None}
use Rattle.reader_theory.specs.Words.{Cause, expected, too_deep, Verdict, found, fault}

-- a token that passes the test
abbrev pub token : {T : Type 0} → (T → Bool) → List T → Verdict T T
token test [] = fault expected []
token test (x ∷ rest) = cond (test x) (found x rest) (fault expected (x ∷ rest))

-- where no level is left: a token that would open one is too deep
abbrev pub sunk : {T A : Type 0} → (T → Bool) → List T → Verdict T A
sunk test [] = fault expected []
sunk test (x ∷ rest) = cond (test x) (fault too_deep (x ∷ rest)) (fault expected (x ∷ rest))

-- another tree
abbrev pub turned : {T A B : Type 0} → (A → B) → Verdict T A → Verdict T B
turned f (found a rest) = found (f a) rest
turned f (fault c rest) = fault c rest

abbrev pub mapped : {T A B : Type 0} → (A → B) → (List T → Verdict T A) → List T → Verdict T B
mapped f p ts = turned f (p ts)

-- one part, and behind it another, which may depend on the first
abbrev pub joined : {T A B C : Type 0} → (A → B → C) → A → Verdict T B → Verdict T C
joined f a (found b rest) = found (f a b) rest
joined f a (fault c rest) = fault c rest

abbrev pub then_by : {T A B C : Type 0} → (A → B → C) → (A → List T → Verdict T B) → Verdict T A → Verdict T C
then_by f q (found a rest) = joined f a (q a rest)
then_by f q (fault c rest) = fault c rest

abbrev pub both_by : {T A B C : Type 0} → (A → B → C) → (List T → Verdict T A) → (A → List T → Verdict T B) → List T → Verdict T C
both_by f p q ts = then_by f q (p ts)

abbrev pub then : {T A B C : Type 0} → (A → B → C) → (List T → Verdict T B) → Verdict T A → Verdict T C
then f q = then_by f (λ _. q)

abbrev pub both : {T A B C : Type 0} → (A → B → C) → (List T → Verdict T A) → (List T → Verdict T B) → List T → Verdict T C
both f p q ts = then_by f (λ _. q) (p ts)

-- what of two parts is kept
abbrev pub first : {A B : Type 0} → A → B → A
first a b = a

abbrev pub second : {A B : Type 0} → A → B → B
second a b = b

abbrev pub pair : {A B : Type 0} → A → B → A × B
pair a b = (a, b)

-- what stands behind a token, and between two
abbrev pub behind : {T A : Type 0} → (T → Bool) → (List T → Verdict T A) → List T → Verdict T A
behind test r = both second (token test) r

abbrev pub between : {T A : Type 0} → (T → Bool) → (T → Bool) → (List T → Verdict T A) → List T → Verdict T A
between opener closer r = behind opener (both first r (token closer))

-- a choice by the first token
abbrev pub pick : {T A : Type 0} → (T → Bool) → (List T → Verdict T A) → (List T → Verdict T A) → List T → Verdict T A
pick test p q [] = q []
pick test p q (x ∷ rest) = cond (test x) (p (x ∷ rest)) (q (x ∷ rest))

-- a choice by the first two tokens
abbrev pub two_pass : {T : Type 0} → (T → Bool) → (T → Bool) → List T → Bool
two_pass one two [] = false
two_pass one two (x ∷ []) = false
two_pass one two (x ∷ y ∷ ts) = cond (one x) (two y) false

abbrev pub ahead : {T A : Type 0} → (T → Bool) → (T → Bool) → (List T → Verdict T A) → (List T → Verdict T A) → List T → Verdict T A
ahead one two p q ts = cond (two_pass one two ts) (p ts) (q ts)

-- a part that may be left out
abbrev pub optional : {T A : Type 0} → (T → Bool) → (List T → Verdict T A) → List T → Verdict T (Option A)
optional test p = pick test (mapped Some p) (found None)

-- Repetition: an item more as long as the next token passes the test. What the items so far make of the state decides
-- what the next may be; there are no more items than tokens.
abbrev pub more_of : {A : Type 0} → A → List A → List A
more_of a es = a ∷ es

abbrev pub several_by : {T A S : Type 0} → (T → Bool) → (S → List T → Verdict T A) → (S → A → S) → ℕ → S → List T → Verdict T (List A)
several_by test p next zero s = found []
several_by test p next (suc n) s = pick test (both_by more_of (p s) (λ a. several_by test p next n (next s a))) (found [])

abbrev pub many_by : {T A S : Type 0} → (T → Bool) → (S → List T → Verdict T A) → (S → A → S) → S → List T → Verdict T (List A)
many_by test p next s ts = several_by test p next (length ts) s ts

-- the same where all items are alike
abbrev pub several : {T A : Type 0} → (T → Bool) → (List T → Verdict T A) → ℕ → List T → Verdict T (List A)
several test p n = several_by {S = Unit {0}} test (λ _. p) (λ s a. s) n tt

abbrev pub many : {T A : Type 0} → (T → Bool) → (List T → Verdict T A) → List T → Verdict T (List A)
many test p = many_by {S = Unit {0}} test (λ _. p) (λ s a. s) tt

-- a whole text
abbrev pub ended_by : {T A : Type 0} → Verdict T A → Verdict T A
ended_by (found a []) = found a []
ended_by (found a (y ∷ rest)) = fault expected (y ∷ rest)
ended_by (fault c rest) = fault c rest

abbrev pub ended : {T A : Type 0} → (List T → Verdict T A) → List T → Verdict T A
ended p ts = ended_by (p ts)

-- The better of two answers to a text: what was read; else the fault further on; at one place, that a level is too
-- deep.
abbrev pub worse : Cause → Cause → Cause
worse expected d = d
worse too_deep d = too_deep

abbrev pub further : {T A : Type 0} → Cause → List T → Cause → List T → Verdict T A
further c r d s = cond (nat_lt (length r) (length s)) (fault c r) (cond (nat_lt (length s) (length r)) (fault d s) (fault (worse c d) r))

abbrev pub best : {T A : Type 0} → Verdict T A → Verdict T A → Verdict T A
best (found a r) v = found a r
best (fault c r) (found b s) = found b s
best (fault c r) (fault d s) = further c r d s

-- what stands where a reader stops
abbrev pub rest_of : {T A : Type 0} → Verdict T A → List T
rest_of (found a rest) = rest
rest_of (fault c rest) = rest
