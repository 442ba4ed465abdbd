-- The first place of a choice, of a part and what stands behind it, and the refusal with its reason.
use Rattle.std.proofs.Common.{◌≡◌, ℕ, ◌+◌, ◌-◌, ◌<◌, ◌≤◌, Bool, true, false, cond, List, [], ◌∷◌, ◌++◌, ◌⊎◌, inl, inr, refl, ap, sym, ◌∙◌, subst, arith, append_assoc, length, min, nat_lt, ltb-true, ltb-false, Option, Some, None}
use Rattle.std.proofs.lemmas.Bool.{cases_Bool}
use Rattle.std.proofs.lemmas.List.{append-nil, length-append, append_cancel_right}
use Rattle.reader_theory.specs.Words.{Mark, bare, Shallow, Cause, expected, too_deep, Verdict, found, fault}
use Rattle.reader_theory.specs.Refusals.{Reads, Begins, Refused}
use Rattle.reader_theory.specs.Limits.{Goes, SinksAt, FirstSunk, Reason, no_word, level_at, Because, Halts, RefusedFor, shifted, place_by, nearer, reason}
use Rattle.reader_theory.specs.Exactness.{judge, Stops, Finds, Tells, Exact}
use Rattle.reader_theory.specs.Languages.{By}
use Rattle.reader_theory.proofs.Marks.{bare_append, bare_length, shallow_append, shallow_front, shallow_back, same_front, judge_all}
use Rattle.reader_theory.proofs.Sequence.{local_at}
use Rattle.reader_theory.proofs.Best.{longer_front}
use Rattle.reader_theory.proofs.Fronts.{begins_front, read_begins}
use Rattle.reader_theory.proofs.Sinking.{judge_at, sinks_word, sunk_answer}

-- a choice
module _ {T A : Type 0} (L M K : A → List (Mark T) → Type 0) (from_first : (a : A) (w : List (Mark T)) → L a w → K a w) (from_second : (a : A) (w : List (Mark T)) → M a w → K a w) (out : (a : A) (w : List (Mark T)) → K a w → L a w ⊎ M a w) (ts : List T) where
  sinks_out : (d : ℕ) → SinksAt K ts d → SinksAt L ts d ⊎ SinksAt M ts d
  sinks_out d (a, f, g, v, m, h, e, s, deep, l) = elim (out a ((f ++ m ∷ g) ++ v) h) [ inl k ↦ inl (a, f, g, v, m, k, e, s, deep, l) | inr k ↦ inr (a, f, g, v, m, k, e, s, deep, l) ]

  sinks_first : (d : ℕ) → SinksAt L ts d → SinksAt K ts d
  sinks_first d (a, f, g, v, m, h, e, s, deep, l) = (a, f, g, v, m, from_first a ((f ++ m ∷ g) ++ v) h, e, s, deep, l)

  sinks_second : (d : ℕ) → SinksAt M ts d → SinksAt K ts d
  sinks_second d (a, f, g, v, m, h, e, s, deep, l) = (a, f, g, v, m, from_second a ((f ++ m ∷ g) ++ v) h, e, s, deep, l)

  pub first_either : (o q : Option ℕ) → FirstSunk L ts o → FirstSunk M ts q → FirstSunk K ts (nearer o q)
  first_either None None h k = λ d s. elim (sinks_out d s) [ inl i ↦ h d i | inr i ↦ k d i ]
  first_either None (Some e) h k = (sinks_second e k.0, λ d l s. elim (sinks_out d s) [ inl i ↦ h d i | inr i ↦ k.1 d l i ])
  first_either (Some d) None h k = (sinks_first d h.0, λ e l s. elim (sinks_out e s) [ inl i ↦ h.1 e l i | inr i ↦ k e i ])
  first_either (Some d) (Some e) h k = (
    elim (cases_Bool (nat_lt d e)) [
      | inl t ↦ (let l = ltb-true d e t in let n : d ≡ min d e = omega arith in subst (SinksAt K ts) n (sinks_first d h.0))
      | inr f ↦ (let l = ltb-false d e f in let n : e ≡ min d e = omega arith in subst (SinksAt K ts) n (sinks_second e k.0))
    ],
    λ c l s. elim (sinks_out c s) [ inl i ↦ h.1 c (omega arith) i | inr i ↦ k.1 c (omega arith) i ],
  )

-- a front that is no longer than another is a front of it
front_of : {T : Type 0} (f g r s : List T) → f ++ r ≡ g ++ s → length g ≤ length f → (b : List T) × (f ≡ g ++ b) × (s ≡ b ++ r)
front_of f [] r s e l = (f, refl, sym e)
front_of [] (y ∷ g) r s e l = absurd (omega arith)
front_of (x ∷ f) (y ∷ g) r s e l =
    let h : x ≡ y = cc in
    let t : f ++ r ≡ g ++ s = cc in
    let k = front_of f g r s t (omega arith) in
    (k.0, ap (λ z. z ∷ f) h ∙ ap (λ z. y ∷ z) k.1, k.2)

-- a part, and a whole text behind it
module _ {T A B C : Type 0} (f : A → B → C) (L : A → List (Mark T) → Type 0) (M : A → B → List (Mark T) → Type 0) (p : List T → Verdict T A) (more : T → Bool) (x : Exact L more p) (apart : (a : A) (b : B) (w : List (Mark T)) → M a b w → Stops more (bare w)) where
  judged_first : (a : A) (b : B) (u v : List (Mark T)) → L a u → M a b v → p (bare u ++ bare v) ≡ judge u a (bare v)
  judged_first a b u v h k = x.given a u (bare v) h (apart a b v k)

  -- where a word sinks: where the reader of the part says so, or behind the part that it finds
  abbrev In_first : List T → ℕ → Type 0
  In_first ts e = (rest : List T) × (p ts ≡ fault too_deep rest) × (length ts ≡ e + length rest)

  abbrev In_second : List T → ℕ → Type 0
  In_second ts e = (a : A) × (rest : List T) × (d : ℕ) × (p ts ≡ found a rest) × SinksAt (M a) rest d × (length ts + d ≡ e + length rest)

  sinks_tail : (ts : List T) (e : ℕ) → SinksAt (By f L M) ts e → In_first ts e ⊎ In_second ts e
  sinks_tail ts e (c, u, g, v, m, (a, b, is, (i, j, h, k, split)), here, s, deep, l) = elim (cases_Bool (nat_lt (length u) (length i))) [
    | inl t ↦ inl (inside (ltb-true (length u) (length i) t))
    | inr n ↦ inr (behind (ltb-false (length u) (length i) n))
  ]
    where
      text : ts ≡ bare u ++ m.token ∷ bare g
      text = here ∙ bare_append u (m ∷ g)

      joins : u ++ m ∷ (g ++ v) ≡ i ++ j
      joins = sym (append_assoc u (m ∷ g) v) ∙ split

      inside : length u < length i → In_first ts e
      inside size =
          let less : length j < length (m ∷ (g ++ v)) = (let q = ap length joins in let r = length-append u (m ∷ (g ++ v)) in let o = length-append i j in omega arith) in
          let z = longer_front i u j (m ∷ (g ++ v)) (sym joins) less in
          let is_m : z.0 ≡ m = (let q = z.3 in cc) in
          let part : i ≡ u ++ m ∷ z.1 = z.2 ∙ ap (λ y. u ++ y ∷ z.1) is_m in
          let judged = judged_first a b i j h k ∙ (ap (λ y. judge y a (bare j)) part ∙ judge_at u z.1 m a (bare j) s deep) in
          let whole : bare i ++ bare j ≡ bare u ++ m.token ∷ (bare z.1 ++ bare j) = ap (λ y. bare y ++ bare j) part ∙ (ap (λ y. y ++ bare j) (bare_append u (m ∷ z.1)) ∙ append_assoc (bare u) (m.token ∷ bare z.1) (bare j)) in (
            m.token ∷ bare g,
            ap p text ∙ sunk_answer L more p x u m (bare z.1 ++ bare j) (bare g) (ap p (sym whole) ∙ judged),
            ap length text ∙ (length-append (bare u) (m.token ∷ bare g) ∙ (let q = bare_length u in omega arith)),
          )

      behind : length i ≤ length u → In_second ts e
      behind size =
          let z = front_of u i (m ∷ (g ++ v)) j joins size in
          let flat = subst Shallow z.1 s in
          let answer : p (bare i ++ bare j) ≡ found a (bare j) = judged_first a b i j h k ∙ judge_all a i (bare j) (shallow_front i z.0 flat) in
          let t = subst (Tells L p (bare i ++ bare j)) answer (x.tells (bare i ++ bare j)) in
          let same = append_cancel_right (bare t.word) (bare i) (bare j) (sym t.split) in
          let rests : bare j ≡ bare z.0 ++ m.token ∷ bare (g ++ v) = ap bare z.2 ∙ bare_append z.0 (m ∷ (g ++ v)) in
          let local = local_at p (bare t.word) a (bare j) (bare z.0) m.token (bare (g ++ v)) (bare g) t.alone rests in
          let left : ts ≡ bare t.word ++ (bare z.0 ++ m.token ∷ bare g) =
          text ∙ (ap (λ y. y ++ m.token ∷ bare g) (ap bare z.1 ∙ bare_append i z.0) ∙ (append_assoc (bare i) (bare z.0) (m.token ∷ bare g) ∙ ap (λ y. y ++ (bare z.0 ++ m.token ∷ bare g)) (sym same))) in (
            a,
            bare z.0 ++ m.token ∷ bare g,
            length z.0,
            ap p left ∙ local,
            (b, z.0, g, v, m, subst (M a b) (z.2 ∙ sym (append_assoc z.0 (m ∷ g) v)) k, sym (bare_append z.0 (m ∷ g)), shallow_back i z.0 flat, deep, refl),
            (let q = ap length text ∙ length-append (bare u) (m.token ∷ bare g) in let r = bare_length u in let o = length-append (bare z.0) (m.token ∷ bare g) in let n = bare_length z.0 in omega arith),
          )

  sinks_behind : (ts : List T) (a : A) (rest : List T) (d : ℕ) → Finds L p ts a rest → SinksAt (M a) rest d → SinksAt (By f L M) ts (length ts - length rest + d)
  sinks_behind ts a rest d t (b, u, g, v, m, h, here, s, deep, l) = (
    f a b,
    t.word ++ u,
    g,
    v,
    m,
    (a, b, refl, (t.word, (u ++ m ∷ g) ++ v, t.is_word, h, ap (λ z. z ++ v) (append_assoc t.word u (m ∷ g)) ∙ append_assoc t.word (u ++ m ∷ g) v)),
    t.split ∙ (ap (λ z. bare t.word ++ z) here ∙ (sym (bare_append t.word (u ++ m ∷ g)) ∙ ap bare (sym (append_assoc t.word u (m ∷ g))))),
    shallow_append t.word u t.shallow s,
    deep,
    length-append t.word u ∙ (let q = ap length t.split ∙ length-append (bare t.word) rest in let r = bare_length t.word in omega arith),
  )

  sinks_here : (ts rest : List T) → p ts ≡ fault too_deep rest → Goes (By f L M) ts → SinksAt (By f L M) ts (length ts - length rest)
  sinks_here ts rest e (c, w, v, (a, b, is, (i, j, h, k, split)), here) =
      sinks_word L more p x (By f L M) ts rest e c w v i j a (a, b, is, (i, j, h, k, split)) here split (ap p (ap bare split ∙ bare_append i j) ∙ judged_first a b i j h k)

  pub first_tail : (ts : List T) (goes : Bool) → (goes ≡ true → Goes (By f L M) ts) → (goes ≡ false → Goes (By f L M) ts → ⊥) → (place : A → List T → Option ℕ) → ((a : A) (rest : List T) → p ts ≡ found a rest → FirstSunk (M a) rest (place a rest)) → FirstSunk (By f L M) ts (place_by goes ts place (p ts))
  first_tail ts goes does none place later = by_answer (p ts) refl
    where
      not_here : (v : Verdict T A) → p ts ≡ v → ((rest : List T) → v ≡ fault too_deep rest → ⊥) → (e : ℕ) → In_first ts e → ⊥
      not_here v i n e (rest, k, l) = n rest (sym i ∙ k)

      of_found : (a : A) (rest : List T) → p ts ≡ found a rest → (o : Option ℕ) → FirstSunk (M a) rest o → FirstSunk (By f L M) ts (shifted (length ts - length rest) o)
      of_found a rest e None h = λ d s. elim (sinks_tail ts d s) [
        | inl k ↦ absurd (let i = sym e ∙ k.1 in cc)
        | inr k ↦ (let i = sym e ∙ k.3 in let j : k.0 ≡ a = cc in let n : k.1 ≡ rest = cc in h k.2 (subst (λ z. SinksAt (M a) z k.2) n (subst (λ z. SinksAt (M z) k.1 k.2) j k.4)))
      ]
      of_found a rest e (Some d) h = let t = subst (Tells L p ts) e (x.tells ts) in let fits = ap length t.split ∙ length-append (bare t.word) rest in (
        sinks_behind ts a rest d t h.0,
        λ c l s. elim (sinks_tail ts c s) [
          | inl k ↦ absurd (let i = sym e ∙ k.1 in cc)
          | inr k ↦ (
              let i = sym e ∙ k.3 in let j : k.0 ≡ a = cc in let n : k.1 ≡ rest = cc in let size = ap length n in let place = k.5 in
              h.1 k.2 (omega arith) (subst (λ z. SinksAt (M a) z k.2) n (subst (λ z. SinksAt (M z) k.1 k.2) j k.4)))
        ],
      )

      by_answer : (v : Verdict T A) → p ts ≡ v → FirstSunk (By f L M) ts (place_by goes ts place v)
      by_answer (found a rest) e = of_found a rest e (place a rest) (later a rest e)
      by_answer (fault expected rest) e = λ d s. elim (sinks_tail ts d s) [ inl k ↦ absurd (let i = sym e ∙ k.1 in cc) | inr k ↦ absurd (let i = sym e ∙ k.3 in cc) ]
      by_answer (fault too_deep rest) e = elim (cases_Bool goes) [
        | inl t ↦ subst (λ b. FirstSunk (By f L M) ts (cond b (Some (length ts - length rest)) None)) (sym t) (
          sinks_here ts rest e (does t),
          λ d l s. elim (sinks_tail ts d s) [
            | inl k ↦ absurd (let i = sym e ∙ k.1 in let j : rest ≡ k.0 = cc in let n = ap length j in let m = k.2 in omega arith)
            | inr k ↦ absurd (let i = sym e ∙ k.3 in cc)
          ],
        )
        | inr n ↦ subst (λ b. FirstSunk (By f L M) ts (cond b (Some (length ts - length rest)) None)) (sym n) (λ d (c, u, g, v, m, h, here, s, deep, l). absurd (none n (c, u ++ m ∷ g, v, h, here)))
      ]

-- A text that is refused is so for the reason that its tokens up to the place tell.
module _ {T A : Type 0} (L : A → List (Mark T) → Type 0) where
  -- a word is shallow at its front, or sinks in it
  shallow_or_sunk : (w : List (Mark T)) → Shallow w ⊎ ((f g : List (Mark T)) × (m : Mark T) × (w ≡ f ++ m ∷ g) × Shallow f × (m.deep ≡ true))
  shallow_or_sunk [] = inl tt
  shallow_or_sunk (m ∷ w) = by_flag (shallow_or_sunk w) (cases_Bool m.deep)
    where
      by_flag : Shallow w ⊎ ((f g : List (Mark T)) × (k : Mark T) × (w ≡ f ++ k ∷ g) × Shallow f × (k.deep ≡ true)) → ((m.deep ≡ true) ⊎ (m.deep ≡ false)) → Shallow (m ∷ w) ⊎ ((f g : List (Mark T)) × (k : Mark T) × (m ∷ w ≡ f ++ k ∷ g) × Shallow f × (k.deep ≡ true))
      by_flag h (inl t) = inr ([], w, m, refl, tt, t)
      by_flag (inl h) (inr e) = inl (e, h)
      by_flag (inr (f, g, k, split, s, d)) (inr e) = inr (m ∷ f, g, k, ap (λ z. m ∷ z) split, (e, s), d)

  because : (ts : List T) (o : Option ℕ) → (Begins L ts → ⊥) → FirstSunk L ts o → Because L ts (reason o)
  because ts None b h = λ (a, w, v, k, e). elim (shallow_or_sunk w) [
    | inl s ↦ b (a, w, v, k, s, e)
    | inr (f, g, m, split, s, d) ↦ h (length f) (a, f, g, v, m, subst (λ z. L a (z ++ v)) split k, e ∙ ap bare split, s, d, refl)
  ]
  because ts (Some d) b h = h

  pub refused_for : (ts : List T) (c : Cause) (x : T) (rest : List T) (o : Option ℕ) → (r : Refused L ts c (x ∷ rest)) → FirstSunk L (r.front ++ x ∷ []) o → RefusedFor L ts (reason o) (x ∷ rest)
  refused_for ts expected x rest o r h = record { front = r.front; split = r.split; begins = r.begins; stops = (r.stops.0, because (r.front ++ x ∷ []) o r.stops.0 h) }
  refused_for ts too_deep x rest o r h = record { front = r.front; split = r.split; begins = r.begins; stops = (r.stops.0, because (r.front ++ x ∷ []) o r.stops.0 h) }

  pub refused_at_end : (ts : List T) (c : Cause) → Refused L ts c [] → RefusedFor L ts no_word []
  refused_at_end ts c r = record { front = r.front; split = r.split; begins = r.begins; stops = (refl, r.stops.1) }

  -- what is refused for a reason isn't read
  pub not_read : (ts : List T) (why : Reason) (rest : List T) (a : A) → RefusedFor L ts why rest → Reads L ts a → ⊥
  not_read ts why rest a f r = by_rest why rest f.split f.stops
    where
      by_rest : (why : Reason) (rest : List T) → ts ≡ f.front ++ rest → Halts L f.front why rest → ⊥
      by_rest why [] e s = s.1 a (subst (λ z. Reads L z a) (e ∙ append-nil f.front) r)
      by_rest why (x ∷ rest) e s = s.0 (begins_front L (f.front ++ x ∷ []) rest (subst (Begins L) (e ∙ sym (append_assoc f.front (x ∷ []) rest)) (read_begins L ts a r)))

  -- a text that begins a word, and stops being one behind a shorter front, doesn't
  passed : (ts f g r s : List T) (x : T) → ts ≡ f ++ x ∷ r → ts ≡ g ++ s → length s < length (x ∷ r) → Begins L g → (Begins L (f ++ x ∷ []) → ⊥) → ⊥
  passed ts f g r s x e i l b n =
      let k = longer_front g f s (x ∷ r) (sym i ∙ e) l in
      let j : x ≡ k.0 = (let q = k.3 in cc) in
      n (begins_front L (f ++ x ∷ []) k.1 (subst (Begins L) (k.2 ∙ (ap (λ z. f ++ z ∷ k.1) (sym j) ∙ sym (append_assoc f (x ∷ []) k.1))) b))

  -- a text is refused at one place
  one_place : (ts r s : List T) (why also : Reason) (f : RefusedFor L ts why r) (g : RefusedFor L ts also s) → (r ≡ s) × (f.front ≡ g.front)
  one_place ts r s why also f g = elim (cases_Bool (nat_lt (length s) (length r))) [
    | inl t ↦ absurd (by_longer r s f.front g.front why f.split g.split (ltb-true (length s) (length r) t) g.begins f.stops)
    | inr n ↦ elim (cases_Bool (nat_lt (length r) (length s))) [
      | inl t ↦ absurd (by_longer s r g.front f.front also g.split f.split (ltb-true (length r) (length s) t) f.begins g.stops)
      | inr m ↦ (let k = same_front f.front g.front r s (sym f.split ∙ g.split) (let i = ltb-false (length s) (length r) n in let j = ltb-false (length r) (length s) m in omega arith) in (k.1, k.0))
    ]
  ]
    where
      by_longer : (r s f g : List T) (why : Reason) → ts ≡ f ++ r → ts ≡ g ++ s → length s < length r → Begins L g → Halts L f why r → ⊥
      by_longer [] s f g why e i l b h = absurd (omega arith)
      by_longer (x ∷ r) s f g why e i l b h = passed ts f g r s x e i l b h.0

  one_reason : (front r : List T) (why also : Reason) → Halts L front why r → Halts L front also r → why ≡ also
  one_reason front [] why also h k = h.0 ∙ sym k.0
  one_reason front (x ∷ r) no_word no_word h k = refl
  one_reason front (x ∷ r) no_word (level_at d) h k = absurd (h.1 (goes k.1.0))
    where
      goes : SinksAt L (front ++ x ∷ []) d → Goes L (front ++ x ∷ [])
      goes (a, f, g, v, m, i, e, s, deep, l) = (a, f ++ m ∷ g, v, i, e)
  one_reason front (x ∷ r) (level_at d) no_word h k = absurd (k.1 (goes h.1.0))
    where
      goes : SinksAt L (front ++ x ∷ []) d → Goes L (front ++ x ∷ [])
      goes (a, f, g, v, m, i, e, s, deep, l) = (a, f ++ m ∷ g, v, i, e)
  one_reason front (x ∷ r) (level_at d) (level_at e) h k = elim (cases_Bool (nat_lt d e)) [
    | inl t ↦ absurd (k.1.1 d (ltb-true d e t) h.1.0)
    | inr n ↦ elim (cases_Bool (nat_lt e d)) [
      | inl t ↦ absurd (h.1.1 e (ltb-true e d t) k.1.0)
      | inr m ↦ ap level_at (let i = ltb-false d e n in let j = ltb-false e d m in omega arith)
    ]
  ]

  pub one_refusal : (ts r s : List T) (why also : Reason) → RefusedFor L ts why r → RefusedFor L ts also s → (why ≡ also) × (r ≡ s)
  one_refusal ts r s why also f g =
      let k = one_place ts r s why also f g in
      (one_reason f.front r why also f.stops (subst (Halts L f.front also) (sym k.0) (subst (λ z. Halts L z also s) (sym k.1) g.stops)), k.0)
