-- Where the first token too deep stands, of all words that begin with a text.
use Rattle.std.proofs.Common.{◌≡◌, ℕ, suc, ◌+◌, ◌-◌, ◌<◌, Bool, true, false, cond, List, [], ◌∷◌, ◌++◌, inl, inr, refl, ap, sym, ◌∙◌, subst, arith, append_assoc, length, Some, None}
use Rattle.std.proofs.lemmas.Bool.{cases_Bool}
use Rattle.std.proofs.lemmas.List.{append-nil, length-append, append_cancel_right}
use Rattle.reader_theory.specs.Words.{Mark, bare, Shallow, Cause, expected, too_deep, Verdict, found, fault}
use Rattle.reader_theory.specs.Refusals.{Begins, StopsAt, Answers}
use Rattle.reader_theory.specs.Limits.{Goes, SinksAt, FirstSunk, place_of, goes_through}
use Rattle.reader_theory.specs.Exactness.{judge, Local, Sinks, Tells, Exact}
use Rattle.reader_theory.proofs.Marks.{bare_append, bare_length, judge_shallow}
use Rattle.reader_theory.proofs.Best.{longer_front}
use Rattle.reader_theory.proofs.Fronts.{begins_front, read_begins}

-- Whether the text goes on in some word is told by an exact answer under a limit that is out of reach.
module _ {T A : Type 0} (M : A → List (Mark T) → Type 0) (ts : List T) where
  pub through_begins : (v : Verdict T A) → Answers M ts v → goes_through v ≡ true → Begins M ts
  through_begins (found a []) h e = read_begins M ts a h.1
  through_begins (found a (x ∷ rest)) h e = absurd (cc)
  through_begins (fault c []) h e = subst (Begins M) (sym (h.split ∙ append-nil h.front)) h.begins
  through_begins (fault c (x ∷ rest)) h e = absurd (cc)

  pub stopped_begins : (v : Verdict T A) → Answers M ts v → goes_through v ≡ false → Begins M ts → ⊥
  stopped_begins (found a []) h e b = absurd (cc)
  stopped_begins (found a (x ∷ rest)) h e b = absurd (let k = h.0 in cc)
  stopped_begins (fault c []) h e b = absurd (cc)
  stopped_begins (fault c (x ∷ rest)) h e b = by_cause c h.split h.stops
    where
      by_cause : (c : Cause) → ts ≡ h.front ++ x ∷ rest → StopsAt M h.front c (x ∷ rest) → ⊥
      by_cause expected split s = s.0 (begins_front M (h.front ++ x ∷ []) rest (subst (Begins M) (split ∙ sym (append_assoc h.front (x ∷ []) rest)) b))
      by_cause too_deep split s = s.0 (begins_front M (h.front ++ x ∷ []) rest (subst (Begins M) (split ∙ sym (append_assoc h.front (x ∷ []) rest)) b))

-- what is judged as too deep is so at a token
pub record Deep {T : Type 0} (u : List (Mark T)) (r s : List T) : Type 0 where
  pub front : List (Mark T)
  pub at : Mark T
  pub back : List (Mark T)
  pub joins : u ≡ front ++ at ∷ back
  pub shallow : Shallow front
  pub deep : at.deep ≡ true
  pub is_rest : s ≡ at.token ∷ (bare back ++ r)

judge_deep : {T A : Type 0} (u : List (Mark T)) (a : A) (r : List T) (c : Cause) (s : List T) → judge u a r ≡ fault c s → Deep u r s
judge_deep [] a r c s e = absurd (cc)
judge_deep (m ∷ u) a r c s e = elim (cases_Bool m.deep) [
  | inl t ↦ record { front = []; at = m; back = u; joins = refl; shallow = tt; deep = t; is_rest = (let k = sym (ap (λ d. cond d (fault too_deep (m.token ∷ bare u ++ r)) (judge u a r)) t) ∙ e in cc) }
  | inr f ↦ (let k = judge_deep u a r c s (sym (ap (λ d. cond d (fault too_deep (m.token ∷ bare u ++ r)) (judge u a r)) f) ∙ e) in
      record { front = m ∷ k.front; at = k.at; back = k.back; joins = ap (λ z. m ∷ z) k.joins; shallow = (f, k.shallow); deep = k.deep; is_rest = k.is_rest })
]

pub judge_at : {T A : Type 0} (f g : List (Mark T)) (m : Mark T) (a : A) (r : List T) → Shallow f → m.deep ≡ true → judge (f ++ m ∷ g) a r ≡ fault too_deep (m.token ∷ bare g ++ r)
judge_at f g m a r s d = judge_shallow a f (m ∷ g) r s ∙ ap (λ b. cond b (fault too_deep (m.token ∷ bare g ++ r)) (judge g a r)) d

module _ {T A : Type 0} (L : A → List (Mark T) → Type 0) where
  -- a word's first token too deep, where it stands in the text
  pub sinks_in : (ts : List T) (a : A) (w v f r : List (Mark T)) (m : Mark T) → L a (w ++ v) → ts ≡ bare w → w ++ v ≡ f ++ m ∷ r → Shallow f → m.deep ≡ true → length f < length ts → SinksAt L ts (length f)
  sinks_in ts a w v f r m h e split s d l =
      let size : length v < length (m ∷ r) = (let i = ap length split in let j = length-append w v in let k = length-append f (m ∷ r) in let n = ap length e ∙ bare_length w in omega arith) in
      let k = longer_front w f v (m ∷ r) split size in
      let is : k.0 ≡ m = (let i = k.3 in cc) in
      let at : w ≡ f ++ m ∷ k.1 = k.2 ∙ ap (λ z. f ++ z ∷ k.1) is in
      (a, f, k.1, v, m, subst (λ z. L a (z ++ v)) at h, e ∙ ap bare at, s, d, refl)

-- An exact reader's fault at a level too deep is where each word that begins with the text sinks.
module _ {T A : Type 0} (L : A → List (Mark T) → Type 0) (more : T → Bool) (p : List T → Verdict T A) (x : Exact L more p) where
  -- the answer to a text that a word goes on from, where the word sinks inside it
  pub sunk_answer : (u : List (Mark T)) (m : Mark T) (z b : List T) → p (bare u ++ m.token ∷ z) ≡ fault too_deep (m.token ∷ z) → p (bare u ++ m.token ∷ b) ≡ fault too_deep (m.token ∷ b)
  sunk_answer u m z b e =
      let t = subst (Tells L p (bare u ++ m.token ∷ z)) e (x.tells (bare u ++ m.token ∷ z)) in
      let k = append_cancel_right (bare t.front) (bare u) (m.token ∷ z) (sym t.split) in
      subst (λ f. p (f ++ m.token ∷ b) ≡ fault too_deep (m.token ∷ b)) k (t.alone b)

  sinks_there : (ts : List T) (d : ℕ) → SinksAt L ts d → (rest : List T) × (p ts ≡ fault too_deep rest) × (length ts ≡ d + length rest)
  sinks_there ts d (a, f, g, v, m, h, e, s, deep, l) =
      let own : p (bare ((f ++ m ∷ g) ++ v)) ≡ fault too_deep (m.token ∷ bare (g ++ v) ++ []) =
      ap p (sym (append-nil (bare ((f ++ m ∷ g) ++ v)))) ∙ (x.given a ((f ++ m ∷ g) ++ v) [] h tt ∙ (ap (λ z. judge z a []) (append_assoc f (m ∷ g) v) ∙ judge_at f (g ++ v) m a [] s deep)) in
      let parts : bare ((f ++ m ∷ g) ++ v) ≡ bare f ++ m.token ∷ bare (g ++ v) = ap bare (append_assoc f (m ∷ g) v) ∙ bare_append f (m ∷ (g ++ v)) in
      let plain : p (bare f ++ m.token ∷ bare (g ++ v)) ≡ fault too_deep (m.token ∷ bare (g ++ v)) = ap p (sym parts) ∙ (own ∙ ap (λ z. fault too_deep (m.token ∷ z)) (append-nil (bare (g ++ v)))) in
      let here : ts ≡ bare f ++ m.token ∷ bare g = e ∙ bare_append f (m ∷ g) in
      (m.token ∷ bare g, ap p here ∙ sunk_answer f m (bare (g ++ v)) (bare g) plain, ap length here ∙ (length-append (bare f) (m.token ∷ bare g) ∙ (let i = bare_length f in omega arith)))

  -- a word that begins with the text, judged at a part of it, sinks where the reader's fault is
  pub sinks_word : {C : Type 0} (K : C → List (Mark T) → Type 0) (ts rest : List T) → p ts ≡ fault too_deep rest → (c : C) (w v i j : List (Mark T)) (a : A) → K c (w ++ v) → ts ≡ bare w → w ++ v ≡ i ++ j → p (bare (w ++ v)) ≡ judge i a (bare j) → SinksAt K ts (length ts - length rest)
  sinks_word K ts rest e c w v i j a h is joins answer = by_rest (subst (Tells L p ts) e (x.tells ts))
    where
      at_rest : (t : Sinks L p ts rest) (z : List T) → p (bare t.front ++ t.at.token ∷ z) ≡ fault too_deep (t.at.token ∷ z)
      at_rest t = by_alone rest t.is_rest t.alone
        where
          by_alone : (r : List T) → r ≡ t.at.token ∷ t.behind → Local p (bare t.front) (fault too_deep r) → (z : List T) → p (bare t.front ++ t.at.token ∷ z) ≡ fault too_deep (t.at.token ∷ z)
          by_alone [] e l z = absurd (cc)
          by_alone (y ∷ r) e l z = let k : y ≡ t.at.token = cc in subst (λ q. p (bare t.front ++ q ∷ z) ≡ fault too_deep (q ∷ z)) k (l z)

      by_rest : Sinks L p ts rest → SinksAt K ts (length ts - length rest)
      by_rest t =
          let whole : bare (w ++ v) ≡ bare t.front ++ t.at.token ∷ (t.behind ++ bare v) = bare_append w v ∙ (ap (λ z. z ++ bare v) (sym is ∙ (t.split ∙ ap (λ z. bare t.front ++ z) t.is_rest)) ∙ append_assoc (bare t.front) (t.at.token ∷ t.behind) (bare v)) in
          let k = judge_deep i a (bare j) too_deep (t.at.token ∷ (t.behind ++ bare v)) (sym answer ∙ (ap p whole ∙ at_rest t (t.behind ++ bare v))) in
          let split : w ++ v ≡ k.front ++ k.at ∷ (k.back ++ j) = joins ∙ (ap (λ z. z ++ j) k.joins ∙ append_assoc k.front (k.at ∷ k.back) j) in
          let size : length w + length v ≡ length k.front + suc (length k.back + length j) = (let q = length-append w v in let r = ap length split in let o = length-append k.front (k.at ∷ (k.back ++ j)) in let n = length-append k.back j in omega arith) in
          let left : length t.behind + length v ≡ length k.back + length j = (let q = ap length k.is_rest in let r = length-append (bare k.back) (bare j) in let o = length-append t.behind (bare v) in let n = bare_length k.back in let m = bare_length j in let l = bare_length v in omega arith) in
          let text : length ts ≡ length w = ap length is ∙ bare_length w in
          let rests : length rest ≡ suc (length t.behind) = ap length t.is_rest in
          let place : length k.front ≡ length ts - length rest = omega arith in
          let below : length k.front < length ts = (let q = ap length t.split ∙ length-append (bare t.front) rest in omega arith) in
          subst (SinksAt K ts) place (sinks_in K ts c w v k.front (k.back ++ j) k.at h is split k.shallow k.deep below)

  sinks_here : (ts rest : List T) → p ts ≡ fault too_deep rest → Goes L ts → SinksAt L ts (length ts - length rest)
  sinks_here ts rest e (a, w, v, h, is) = sinks_word L ts rest e a w v (w ++ v) [] a h is (sym (append-nil (w ++ v))) (ap p (sym (append-nil (bare (w ++ v)))) ∙ x.given a (w ++ v) [] h tt)

  -- the first place of an exact reader's language
  pub first_whole : (ts : List T) (goes : Bool) → (goes ≡ true → Goes L ts) → (goes ≡ false → Goes L ts → ⊥) → FirstSunk L ts (place_of goes ts (p ts))
  first_whole ts goes does none = by_answer (p ts) refl
    where
      sink_goes : (d : ℕ) → SinksAt L ts d → Goes L ts
      sink_goes d (a, f, g, v, m, h, e, s, deep, l) = (a, f ++ m ∷ g, v, h, e)

      by_answer : (v : Verdict T A) → p ts ≡ v → FirstSunk L ts (place_of goes ts v)
      by_answer (found a rest) e = λ d h. absurd (let k = sinks_there ts d h in let i = sym e ∙ k.1 in cc)
      by_answer (fault expected rest) e = λ d h. absurd (let k = sinks_there ts d h in let i = sym e ∙ k.1 in cc)
      by_answer (fault too_deep rest) e = elim (cases_Bool goes) [
        | inl t ↦ subst (λ b. FirstSunk L ts (cond b (Some (length ts - length rest)) None)) (sym t) (
          sinks_here ts rest e (does t),
          λ d l h. absurd (let k = sinks_there ts d h in let i = sym e ∙ k.1 in let j : rest ≡ k.0 = cc in let n = ap length j in let m = k.2 in omega arith),
        )
        | inr f ↦ subst (λ b. FirstSunk L ts (cond b (Some (length ts - length rest)) None)) (sym f) (λ d h. absurd (none f (sink_goes d h)))
      ]
