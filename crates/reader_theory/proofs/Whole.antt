-- An exact reader answers each whole text exactly, and each has one reading.
use Rattle.std.proofs.Common.{◌≡◌, Bool, true, List, [], ◌∷◌, ◌++◌, ◌⊎◌, inl, inr, refl, ap, sym, ◌∙◌, subst, arith, append_assoc, length}
use Rattle.std.proofs.lemmas.List.{append-nil}
use Rattle.reader_theory.specs.Words.{Mark, bare, Shallow, Cause, expected, too_deep, Verdict, found, fault}
use Rattle.reader_theory.specs.Refusals.{Begins, Opens, Refused, Reads, Answers}
use Rattle.reader_theory.specs.Readers.{ended_by, ended}
use Rattle.reader_theory.specs.Exactness.{judge, Finds, Misses, Sinks, Tells, Exact}
use Rattle.reader_theory.proofs.Marks.{bare_append, judge_shallow, judged}

module _ {T A : Type 0} (L : A → List (Mark T) → Type 0) (more : T → Bool) (p : List T → Verdict T A) (x : Exact L more p) where
  -- a word's own answer
  own : (a : A) (w : List (Mark T)) → L a w → p (bare w) ≡ judge w a []
  own a w h = ap p (sym (append-nil (bare w))) ∙ x.given a w [] h tt

  own_shallow : (a : A) (w v : List (Mark T)) → L a (w ++ v) → Shallow w → p (bare (w ++ v)) ≡ judge v a []
  own_shallow a w v h s = own a (w ++ v) h ∙ judge_shallow a w v [] s

  -- the answer stops at y, whatever comes behind
  abbrev StopsAlone : List T → T → Type 0
  StopsAlone front y = ((b : A) × ((v : List T) → p (front ++ y ∷ v) ≡ found b (y ∷ v))) ⊎ ((c : Cause) × ((v : List T) → p (front ++ y ∷ v) ≡ fault c (y ∷ v)))

  -- a word that begins so is judged there
  through : (front : List T) (y : T) (a : A) (w v : List (Mark T)) → L a (w ++ v) → Shallow w → front ++ y ∷ [] ≡ bare w → p (front ++ y ∷ bare v) ≡ judge v a []
  through front y a w v h s e =
      let k : bare (w ++ v) ≡ front ++ y ∷ bare v = bare_append w v ∙ (ap (λ z. z ++ bare v) (sym e) ∙ append_assoc front (y ∷ []) (bare v)) in
      ap p (sym k) ∙ own_shallow a w v h s

  no_more : (front : List T) (y : T) → StopsAlone front y → Begins L (front ++ y ∷ []) → ⊥
  no_more front y (inl (b, alone)) (a, w, v, h, s, e) = elim (judged a v) [
    | inl j ↦ absurd (let k = sym (alone (bare v)) ∙ (through front y a w v h s e ∙ j) in cc)
    | inr (left, j, l) ↦ absurd (let k = sym (alone (bare v)) ∙ (through front y a w v h s e ∙ j) in cc)
  ]
  no_more front y (inr (c, alone)) (a, w, v, h, s, e) = elim (judged a v) [
    | inl j ↦ absurd (let k = sym (alone (bare v)) ∙ (through front y a w v h s e ∙ j) in cc)
    | inr (left, j, l) ↦ absurd (
        let k = sym (alone (bare v)) ∙ (through front y a w v h s e ∙ j) in
        let i : y ∷ bare v ≡ left = cc in
        let n = ap length i in
        omega arith)
  ]

  -- a word that opens a level too deep at y
  deep_there : (front : List T) (y : T) (a : A) (w v : List (Mark T)) → L a (w ++ record { token = y; deep = true } ∷ v) → Shallow w → front ≡ bare w → p (front ++ y ∷ bare v) ≡ fault too_deep (y ∷ bare v ++ [])
  deep_there front y a w v h s e =
      let k : bare (w ++ record { token = y; deep = true } ∷ v) ≡ front ++ y ∷ bare v = bare_append w (record { token = y; deep = true } ∷ v) ∙ ap (λ z. z ++ y ∷ bare v) (sym e) in
      ap p (sym k) ∙ own_shallow a w (record { token = y; deep = true } ∷ v) h s

  not_open_found : (front : List T) (y : T) (b : A) → ((v : List T) → p (front ++ y ∷ v) ≡ found b (y ∷ v)) → Opens L front y → ⊥
  not_open_found front y b alone (a, w, v, h, s, e) = absurd (let k = sym (alone (bare v)) ∙ deep_there front y a w v h s e in cc)

  not_open_fault : (front : List T) (y : T) → ((v : List T) → p (front ++ y ∷ v) ≡ fault expected (y ∷ v)) → Opens L front y → ⊥
  not_open_fault front y alone (a, w, v, h, s, e) = absurd (let k = sym (alone (bare v)) ∙ deep_there front y a w v h s e in cc)

  -- each word without a level too deep is found
  pub reads_given : (ts : List T) (a : A) → Reads L ts a → p ts ≡ found a []
  reads_given ts a (w, h, s, e) = ap p (e ∙ ap bare (sym (append-nil w))) ∙ own_shallow a w [] (subst (L a) (sym (append-nil w)) h) s

  pub one_reading : (ts : List T) (a b : A) → Reads L ts a → Reads L ts b → a ≡ b
  one_reading ts a b h k = let e = sym (reads_given ts a h) ∙ reads_given ts b k in cc

  whole_found : (ts : List T) (a : A) (rest : List T) → Finds L p ts a rest → Answers L ts (ended_by (found a rest))
  whole_found ts a [] t = (refl, (t.word, t.is_word, t.shallow, t.split ∙ append-nil (bare t.word)))
  whole_found ts a (y ∷ rest) t = record {
    front = bare t.word;
    split = t.split;
    begins = (a, t.word, [], subst (L a) (sym (append-nil t.word)) t.is_word, t.shallow, refl);
    stops = (no_more (bare t.word) y (inl (a, t.alone)), not_open_found (bare t.word) y a t.alone);
  }

  whole_missed : (ts rest : List T) → p ts ≡ fault expected rest → Misses L p ts rest → Refused L ts expected rest
  whole_missed ts [] e t = record {
    front = bare t.front;
    split = t.split;
    begins = (t.tree, t.front, t.back, t.is_word, t.shallow, refl);
    stops = (refl, λ a r. absurd (let k = sym e ∙ reads_given ts a (subst (λ z. Reads L z a) (sym (t.split ∙ append-nil (bare t.front))) r) in cc));
  }
  whole_missed ts (y ∷ rest) e t = record {
    front = bare t.front;
    split = t.split;
    begins = (t.tree, t.front, t.back, t.is_word, t.shallow, refl);
    stops = (no_more (bare t.front) y (inr (expected, t.alone)), not_open_fault (bare t.front) y t.alone);
  }

  whole_sunk : (ts rest : List T) → Sinks L p ts rest → Refused L ts too_deep rest
  whole_sunk ts [] t = absurd (let e = t.is_rest in cc)
  whole_sunk ts (y ∷ rest) t =
      let k : y ≡ t.at.token = (let e = t.is_rest in cc) in
      let m : t.at ≡ record { token = y; deep = true } = (let d = t.deep in let l = sym k in ap (λ z. record { token = z; deep = t.at.deep }) l ∙ ap (λ z. record { token = y; deep = z }) d) in
      record {
        front = bare t.front;
        split = t.split;
        begins = (t.tree, t.front, t.at ∷ t.back, t.is_word, t.shallow, refl);
        stops = (no_more (bare t.front) y (inr (too_deep, t.alone)), (t.tree, t.front, t.back, subst (λ z. L t.tree (t.front ++ z ∷ t.back)) m t.is_word, t.shallow, refl));
      }

  by_verdict : (ts : List T) (v : Verdict T A) → p ts ≡ v → Tells L p ts v → Answers L ts (ended_by v)
  by_verdict ts (found a rest) e t = whole_found ts a rest t
  by_verdict ts (fault expected rest) e t = whole_missed ts rest e t
  by_verdict ts (fault too_deep rest) e t = whole_sunk ts rest t

  -- an exact reader's answer to a whole text
  pub exact_whole : (ts : List T) → Answers L ts (ended p ts)
  exact_whole ts = by_verdict ts (p ts) refl (x.tells ts)
