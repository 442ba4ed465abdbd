-- Where words go wrong: the first of them, or behind a first one that may stand there.
use Rattle.std.proofs.Common.{◌≡◌, ℕ, zero, suc, ◌<◌, List, [], ◌∷◌, ◌++◌, take, drop, refl, sym, ◌∙◌, inl, inr, arith, append_assoc, take-append-drop}
use Rattle.std.proofs.lemmas.Bool.{cases_lt}
use Rattle.caf_words.specs.Usages.{Word, Begins, IsWrongAt, UsageOf}

-- nothing stands where something should
pub usage_none : (V : List Word → Type 0) → Begins V [] → (V [] → ⊥) → UsageOf V [] 1
usage_none V begins open_end = inr (record { begins = begins; open_end = open_end; next = refl })

-- a first word that can't stand there
pub usage_first : (V : List Word → Type 0) (word : Word) (words : List Word) → Begins V [] → ((rest : List Word) → V (word ∷ rest) → ⊥) → UsageOf V (word ∷ words) 1
usage_first V word words begins never = inl (record { wrong = λ b. never b.0 b.1; least = least })
  where
    least : (j : ℕ) → j < 1 → Begins V (take j (word ∷ words))
    least zero low = begins
    least (suc j) low = absurd (omega arith)

-- words that go wrong behind a first one that may stand there
pub usage_behind : (V W : List Word → Type 0) (word : Word) (words : List Word) (k : ℕ) → Begins V [] → ((rest : List Word) → W rest → V (word ∷ rest)) → ((rest : List Word) → V (word ∷ rest) → W rest)
    → UsageOf W words k → UsageOf V (word ∷ words) (suc k)
usage_behind V W word words k begins onward back (inl at_word) = inl (record { wrong = λ b. at_word.wrong (b.0, back (take k words ++ b.0) b.1); least = least })
  where
    least : (j : ℕ) → j < suc k → Begins V (take j (word ∷ words))
    least zero low = begins
    least (suc j) low = let b = at_word.least j (omega arith) in (b.0, onward (take j words ++ b.0) b.1)
usage_behind V W word words k begins onward back (inr cut) = inr (record { begins = (cut.begins.0, onward (words ++ cut.begins.0) cut.begins.1); open_end = λ v. cut.open_end (back words v); next = omega (arith, cut.next) })

-- what two notions of valid lists say of no words
pub usage_alike_none : (V W : List Word → Type 0) (k : ℕ) → Begins V [] → Begins W [] → (W [] → ⊥) → UsageOf V [] k → UsageOf W [] k
usage_alike_none V W k begins_v begins_w none (inl at_word) = by_place k at_word.wrong
  where
    by_place : (k : ℕ) → (Begins V (take k []) → ⊥) → UsageOf W [] k
    by_place zero wrong = absurd (wrong begins_v)
    by_place (suc k) wrong = absurd (wrong begins_v)
usage_alike_none V W k begins_v begins_w none (inr cut) = rw cut.next (usage_none W begins_w none)

-- two notions of valid lists that agree on those with this first word
pub usage_alike : (V W : List Word → Type 0) (word : Word) (words : List Word) (k : ℕ) → Begins V [] → Begins W [] → ((rest : List Word) → V (word ∷ rest) → W (word ∷ rest))
    → ((rest : List Word) → W (word ∷ rest) → V (word ∷ rest)) → UsageOf V (word ∷ words) k → UsageOf W (word ∷ words) k
usage_alike V W word words k begins_v begins_w onward back (inl at_word) = by_place k at_word.wrong at_word.least
  where
    by_place : (k : ℕ) → (Begins V (take k (word ∷ words)) → ⊥) → ((j : ℕ) → j < k → Begins V (take j (word ∷ words))) → UsageOf W (word ∷ words) k
    by_place zero wrong least = absurd (wrong begins_v)
    by_place (suc k) wrong least = inl (record { wrong = λ b. wrong (b.0, back (take k words ++ b.0) b.1); least = low })
      where
        low : (j : ℕ) → j < suc k → Begins W (take j (word ∷ words))
        low zero few = begins_w
        low (suc j) few = let b = least (suc j) few in (b.0, onward (take j words ++ b.0) b.1)
usage_alike V W word words k begins_v begins_w onward back (inr cut) = inr (record {
  begins = (cut.begins.0, onward (words ++ cut.begins.0) cut.begins.1);
  open_end = λ w. cut.open_end (back words w);
  next = cut.next;
})

-- two notions of valid lists that agree
pub usage_same : (V W : List Word → Type 0) (words : List Word) (k : ℕ) → ((all : List Word) → V all → W all) → ((all : List Word) → W all → V all) → UsageOf V words k → UsageOf W words k
usage_same V W words k onward back (inl at_word) = inl (record {
  wrong = λ b. at_word.wrong (b.0, back (take k words ++ b.0) b.1);
  least = λ j low. (let b = at_word.least j low in (b.0, onward (take j words ++ b.0) b.1));
})
usage_same V W words k onward back (inr cut) = inr (record { begins = (cut.begins.0, onward (words ++ cut.begins.0) cut.begins.1); open_end = λ w. cut.open_end (back words w); next = cut.next })

-- words that are cut short or go wrong aren't valid
pub usage_invalid : (V : List Word → Type 0) (words : List Word) (k : ℕ) → UsageOf V words k → V words → ⊥
usage_invalid V words k (inl at_word) valid = at_word.wrong (drop k words, rw (take-append-drop k words) valid)
usage_invalid V words k (inr cut) valid = cut.open_end valid

begins_take : (V : List Word → Type 0) (words : List Word) (k : ℕ) → Begins V words → (Begins V (take k words) → ⊥) → ⊥
begins_take V words k begins never = never (drop k words ++ begins.0, rw (← append_assoc, take-append-drop k words) begins.1)

wrong_once : (V : List Word → Type 0) (words : List Word) (j k : ℕ) → IsWrongAt V words j → IsWrongAt V words k → j ≡ k
wrong_once V words j k early late = elim (cases_lt j k) [
  | inl below ↦ absurd (early.wrong (late.least j below))
  | inr above ↦ elim (cases_lt k j) [
    | inl below ↦ absurd (late.wrong (early.least k below))
    | inr same ↦ omega arith
  ]
]

-- words have one usage number at most
pub usage_once : (V : List Word → Type 0) (words : List Word) (j k : ℕ) → UsageOf V words j → UsageOf V words k → j ≡ k
usage_once V words j k (inl early) (inl late) = wrong_once V words j k early late
usage_once V words j k (inl early) (inr cut) = absurd (begins_take V words j cut.begins early.wrong)
usage_once V words j k (inr cut) (inl late) = absurd (begins_take V words k cut.begins late.wrong)
usage_once V words j k (inr cut) (inr again) = cut.next ∙ sym again.next
