-- A part, and behind it a whole text that may depend on it.
use Rattle.std.proofs.Common.{◌≡◌, suc, Bool, true, List, [], ◌∷◌, ◌++◌, inl, inr, refl, ap, sym, ◌∙◌, subst, arith, append_assoc, length}
use Rattle.std.proofs.lemmas.List.{append-nil}
use Rattle.reader_theory.specs.Words.{Mark, bare, Shallow, Cause, expected, too_deep, Verdict, found, fault}
use Rattle.reader_theory.specs.Refusals.{Begins, Opens, StopsAt, Refused, Reads, Answers}
use Rattle.reader_theory.specs.Readers.{joined, then_by}
use Rattle.reader_theory.specs.Exactness.{judge, Stops, Finds, Misses, Sinks, Tells, Exact}
use Rattle.reader_theory.specs.Languages.{By}
use Rattle.reader_theory.proofs.Marks.{bare_append, bare_length, shallow_append, shallow_front, shallow_back, cut, same_front, judge_shallow, judge_all, judged, Passed, judge_found, judge_part}
use Rattle.reader_theory.proofs.Sequence.{local_at}

module _ {T A B C : Type 0} (f : A → B → C) (L : A → List (Mark T) → Type 0) (M : A → B → List (Mark T) → Type 0) (p : List T → Verdict T A) (more : T → Bool) (x : Exact L more p) (apart : (a : A) (b : B) (w : List (Mark T)) → M a b w → Stops more (bare w)) where
  -- a word of both is judged at its first part
  pub first_of_word : (a : A) (u v : List (Mark T)) (b : B) → L a u → M a b v → p (bare (u ++ v)) ≡ judge u a (bare v)
  first_of_word a u v b h k = ap p (bare_append u v) ∙ x.given a u (bare v) h (apart a b v k)

  -- each text has one reading, where the rest has one behind each part
  pub one_of_tail : ((a : A) (ts : List T) (b c : B) → Reads (M a) ts b → Reads (M a) ts c → b ≡ c) → (ts : List T) (d e : C) → Reads (By f L M) ts d → Reads (By f L M) ts e → d ≡ e
  one_of_tail one ts d e (w, (a, b, is, (i, j, h, k, split)), s, eq) (w2, (a2, b2, is2, (i2, j2, h2, k2, split2)), s2, eq2) =
      let g = sym (first_of_word a i j b h k) ∙ (ap p (sym (eq ∙ ap bare split)) ∙ (ap p (eq2 ∙ ap bare split2) ∙ first_of_word a2 i2 j2 b2 h2 k2)) in
      let o = judge_found i a a2 (bare j) (bare j2) (g ∙ judge_all a2 i2 (bare j2) (shallow_front i2 j2 (subst Shallow split2 s2))) in
      let m = one a2 (bare j) b b2 (j, subst (λ z. M z b j) o.same_tree k, shallow_back i j (subst Shallow split s), refl) (j2, k2, shallow_back i2 j2 (subst Shallow split2 s2), o.same_rest) in
      is ∙ (ap (λ z. f z b) o.same_tree ∙ (ap (f a2) m ∙ sym is2))

module _ {T A B C : Type 0} (f : A → B → C) (L : A → List (Mark T) → Type 0) (M : A → B → List (Mark T) → Type 0) (p : List T → Verdict T A) (q : A → List T → Verdict T B) (more : T → Bool) (x : Exact L more p) (apart : (a : A) (b : B) (w : List (Mark T)) → M a b w → Stops more (bare w)) (some : A → B) (some_word : A → List (Mark T)) (is_some : (a : A) → M a (some a) (some_word a)) where
  -- the first part stops with a fault
  module _ (front : List T) (y : T) (c : Cause) (alone : (v : List T) → p (front ++ y ∷ v) ≡ fault c (y ∷ v)) where
    none_goes_on : Begins (By f L M) (front ++ y ∷ []) → ⊥
    none_goes_on (d, w, v, (a, b, e, (i, j, h, k, split)), s, eq) =
        let t : bare (w ++ v) ≡ front ++ y ∷ bare v = bare_append w v ∙ (ap (λ z. z ++ bare v) (sym eq) ∙ append_assoc front (y ∷ []) (bare v)) in
        let g = sym (first_of_word f L M p more x apart a i j b h k) ∙ (ap (λ z. p (bare z)) (sym split) ∙ (ap p t ∙ alone (bare v))) in
        let l = judge_part i j a d c (y ∷ bare v) g in
        let m = sym (judge_shallow d w v [] s) ∙ (ap (λ z. judge z d []) split ∙ l) in
        elim (judged d v) [
          | inl n ↦ absurd (let o = sym n ∙ m in cc)
          | inr (left, n, size) ↦ absurd (let o = sym n ∙ m in let r : left ≡ y ∷ bare v = cc in let big = ap length r in omega arith)
        ]

    none_opens : (c ≡ expected) → Opens (By f L M) front y → ⊥
    none_opens is (d, w, v, (a, b, e, (i, j, h, k, split)), s, eq) =
        let t : bare (w ++ record { token = y; deep = true } ∷ v) ≡ front ++ y ∷ bare v = bare_append w (record { token = y; deep = true } ∷ v) ∙ ap (λ z. z ++ y ∷ bare v) (sym eq) in
        let g = sym (first_of_word f L M p more x apart a i j b h k) ∙ (ap (λ z. p (bare z)) (sym split) ∙ (ap p t ∙ alone (bare v))) in
        let l = judge_part i j a d c (y ∷ bare v) g in
        let m = sym (judge_shallow d w (record { token = y; deep = true } ∷ v) [] s) ∙ (ap (λ z. judge z d []) split ∙ l) in
        absurd (let o = sym is in cc)

  -- not even the first part is whole
  unfinished : (ts : List T) (c : Cause) → p ts ≡ fault c [] → (d : C) → Reads (By f L M) ts d → ⊥
  unfinished ts c g d (w, (a, b, e, (i, j, h, k, split)), s, eq) =
      let l = sym (first_of_word f L M p more x apart a i j b h k) ∙ (ap (λ z. p (bare z)) (sym split) ∙ (ap p (sym eq) ∙ g)) in
      let m = judge_part i j a d c [] l in
      let n = sym (judge_shallow d w [] [] s) ∙ (ap (λ z. judge z d []) (append-nil w ∙ split) ∙ m) in
      absurd (cc)

  missed : (ts rest : List T) → p ts ≡ fault expected rest → Misses L p ts rest → Refused (By f L M) ts expected rest
  missed ts [] e t = record {
    front = bare t.front;
    split = t.split;
    begins = (f t.tree (some t.tree), t.front, t.back ++ some_word t.tree, (t.tree, some t.tree, refl, (t.front ++ t.back, some_word t.tree, t.is_word, is_some t.tree, sym (append_assoc t.front t.back (some_word t.tree)))), t.shallow, refl);
    stops = (refl, λ d r. unfinished ts expected e d (subst (λ z. Reads (By f L M) z d) (sym (t.split ∙ append-nil (bare t.front))) r));
  }
  missed ts (y ∷ rest) e t = record {
    front = bare t.front;
    split = t.split;
    begins = (f t.tree (some t.tree), t.front, t.back ++ some_word t.tree, (t.tree, some t.tree, refl, (t.front ++ t.back, some_word t.tree, t.is_word, is_some t.tree, sym (append_assoc t.front t.back (some_word t.tree)))), t.shallow, refl);
    stops = (none_goes_on (bare t.front) y expected t.alone, none_opens (bare t.front) y expected t.alone refl);
  }

  sunk_first : (ts rest : List T) → Sinks L p ts rest → Refused (By f L M) ts too_deep rest
  sunk_first ts [] t = absurd (let e = t.is_rest in cc)
  sunk_first ts (y ∷ rest) t =
      let k : t.at.token ≡ y = (let e = t.is_rest in cc) in
      let m : t.at ≡ record { token = y; deep = true } = ap (λ z. record { token = z; deep = t.at.deep }) k ∙ ap (λ z. record { token = y; deep = z }) t.deep in
      let word : By f L M (f t.tree (some t.tree)) (t.front ++ t.at ∷ (t.back ++ some_word t.tree)) = (t.tree, some t.tree, refl, (t.front ++ t.at ∷ t.back, some_word t.tree, t.is_word, is_some t.tree, sym (append_assoc t.front (t.at ∷ t.back) (some_word t.tree)))) in
      record {
        front = bare t.front;
        split = t.split;
        begins = (f t.tree (some t.tree), t.front, t.at ∷ (t.back ++ some_word t.tree), word, t.shallow, refl);
        stops = (none_goes_on (bare t.front) y too_deep t.alone, (f t.tree (some t.tree), t.front, t.back ++ some_word t.tree, subst (λ z. By f L M (f t.tree (some t.tree)) (t.front ++ z ∷ (t.back ++ some_word t.tree))) m word, t.shallow, refl));
      }

  -- the first part is there, and the rest is judged by itself
  module _ (ts : List T) (a : A) (rest : List T) (t : Finds L p ts a rest) where
    read_whole : (b : B) → Reads (M a) rest b → Reads (By f L M) ts (f a b)
    read_whole b (v, h, s, e) = (t.word ++ v, (a, b, refl, (t.word, v, t.is_word, h, refl)), shallow_append t.word v t.shallow s, t.split ∙ (ap (λ z. bare t.word ++ z) e ∙ sym (bare_append t.word v)))

    module _ (second left : List T) (cut_at : rest ≡ second ++ left) where
      split_here : ts ≡ (bare t.word ++ second) ++ left
      split_here = t.split ∙ (ap (λ z. bare t.word ++ z) cut_at ∙ sym (append_assoc (bare t.word) second left))

      begins_here : Begins (M a) second → Begins (By f L M) (bare t.word ++ second)
      begins_here (b, w, v, h, s, e) = (f a b, t.word ++ w, v, (a, b, refl, (t.word, w ++ v, t.is_word, h, append_assoc t.word w v)), shallow_append t.word w t.shallow s, ap (λ z. bare t.word ++ z) e ∙ sym (bare_append t.word w))

      opens_here : (y : T) → Opens (M a) second y → Opens (By f L M) (bare t.word ++ second) y
      opens_here y (b, w, v, h, s, e) = (f a b, t.word ++ w, v, (a, b, refl, (t.word, w ++ record { token = y; deep = true } ∷ v, t.is_word, h, append_assoc t.word w (record { token = y; deep = true } ∷ v))), shallow_append t.word w t.shallow s, ap (λ z. bare t.word ++ z) e ∙ sym (bare_append t.word w))

      -- a word that goes on so has this first part
      passes : (y : T) (u : List T) → left ≡ y ∷ u → (tail : List T) (i j : List (Mark T)) (c : A) (b : B) → L c i → M c b j → bare (i ++ j) ≡ bare t.word ++ (second ++ y ∷ tail) → Passed i c a (bare j) (second ++ y ∷ tail)
      passes y u is tail i j c b h k e =
          judge_found i c a (bare j) (second ++ y ∷ tail) (sym (first_of_word f L M p more x apart c i j b h k) ∙ (ap p e ∙ local_at p (bare t.word) a rest second y u tail t.alone (cut_at ∙ ap (λ z. second ++ z) is)))

      goes_on_in : (y : T) (u : List T) → left ≡ y ∷ u → Begins (By f L M) ((bare t.word ++ second) ++ y ∷ []) → Begins (M a) (second ++ y ∷ [])
      goes_on_in y u is (d, w, v, (c, b, e, (i, j, h, k, split)), s, eq) =
          let g : bare (w ++ v) ≡ bare t.word ++ (second ++ y ∷ bare v) = bare_append w v ∙ (ap (λ z. z ++ bare v) (sym eq) ∙ (append_assoc (bare t.word ++ second) (y ∷ []) (bare v) ∙ append_assoc (bare t.word) second (y ∷ bare v))) in
          let o = passes y u is (bare v) i j c b h k (ap bare (sym split) ∙ g) in
          let n = cut j (second ++ y ∷ []) (bare v) (o.same_rest ∙ sym (append_assoc second (y ∷ []) (bare v))) in
          let m : w ++ v ≡ (i ++ n.one) ++ n.two = split ∙ (ap (λ z. i ++ z) n.joins ∙ sym (append_assoc i n.one n.two)) in
          let size : length v ≡ length n.two = sym (bare_length v) ∙ (sym (ap length n.is_rest) ∙ bare_length n.two) in
          let r = same_front w (i ++ n.one) v n.two m size in
          (b, n.one, n.two, subst (M a b) n.joins (subst (λ z. M z b j) o.same_tree k), shallow_back i n.one (subst Shallow r.0 s), sym n.is_front)

      opens_in : (y : T) (u : List T) → left ≡ y ∷ u → Opens (By f L M) (bare t.word ++ second) y → Opens (M a) second y
      opens_in y u is (d, w, v, (c, b, e, (i, j, h, k, split)), s, eq) =
          let g : bare (w ++ record { token = y; deep = true } ∷ v) ≡ bare t.word ++ (second ++ y ∷ bare v) = bare_append w (record { token = y; deep = true } ∷ v) ∙ (ap (λ z. z ++ y ∷ bare v) (sym eq) ∙ append_assoc (bare t.word) second (y ∷ bare v)) in
          let o = passes y u is (bare v) i j c b h k (ap bare (sym split) ∙ g) in
          let n = cut j second (y ∷ bare v) o.same_rest in
          let m : w ++ record { token = y; deep = true } ∷ v ≡ (i ++ n.one) ++ n.two = split ∙ (ap (λ z. i ++ z) n.joins ∙ sym (append_assoc i n.one n.two)) in
          let size : length (record { token = y; deep = true } ∷ v) ≡ length n.two = ap suc (sym (bare_length v)) ∙ (sym (ap length n.is_rest) ∙ bare_length n.two) in
          let r = same_front w (i ++ n.one) (record { token = y; deep = true } ∷ v) n.two m size in
          (b, n.one, v, subst (λ z. M a b (n.one ++ z)) (sym r.1) (subst (M a b) n.joins (subst (λ z. M z b j) o.same_tree k)), shallow_back i n.one (subst Shallow r.0 s), sym n.is_front)

      over_in : left ≡ [] → p ts ≡ found a rest → (d : C) → Reads (By f L M) (bare t.word ++ second) d → (b : B) × Reads (M a) second b
      over_in is g d (w, (c, b, e, (i, j, h, k, split)), s, eq) =
          let here : ts ≡ bare (i ++ j) = split_here ∙ (ap (λ z. (bare t.word ++ second) ++ z) is ∙ (append-nil (bare t.word ++ second) ∙ (eq ∙ ap bare split))) in
          let o = judge_found i c a (bare j) rest (sym (first_of_word f L M p more x apart c i j b h k) ∙ (ap p (sym here) ∙ g)) in
          (b, (j, subst (λ z. M z b j) o.same_tree k, shallow_back i j (subst Shallow split s), sym (o.same_rest ∙ (cut_at ∙ (ap (λ z. second ++ z) is ∙ append-nil second)))))

      stops_here : (c : Cause) (l : List T) → left ≡ l → p ts ≡ found a rest → StopsAt (M a) second c l → StopsAt (By f L M) (bare t.word ++ second) c l
      stops_here c [] is g h = (h.0, λ d r. let k = over_in is g d r in h.1 k.0 k.1)
      stops_here expected (y ∷ u) is g h = (λ b. h.0 (goes_on_in y u is b), λ o. h.1 (opens_in y u is o))
      stops_here too_deep (y ∷ u) is g h = (λ b. h.0 (goes_on_in y u is b), opens_here y h.1)

    second_answers : p ts ≡ found a rest → (v : Verdict T B) → Answers (M a) rest v → Answers (By f L M) ts (joined f a v)
    second_answers g (found b left) h = (h.0, read_whole b h.1)
    second_answers g (fault c left) h = record {
      front = bare t.word ++ h.front;
      split = split_here h.front left h.split;
      begins = begins_here h.front left h.split h.begins;
      stops = stops_here h.front left h.split c left refl g h.stops;
    }

  answers : (ts : List T) (v : Verdict T A) → p ts ≡ v → ((a : A) (rest : List T) → p ts ≡ found a rest → Finds L p ts a rest → Answers (M a) rest (q a rest)) → Tells L p ts v → Answers (By f L M) ts (then_by f q v)
  answers ts (found a rest) e whole t = second_answers ts a rest t e (q a rest) (whole a rest e t)
  answers ts (fault expected rest) e whole t = missed ts rest e t
  answers ts (fault too_deep rest) e whole t = sunk_first ts rest t

  -- a part read exactly and then a whole text answered exactly
  pub exact_tail : (ts : List T) → ((a : A) (rest : List T) → p ts ≡ found a rest → Finds L p ts a rest → Answers (M a) rest (q a rest)) → Answers (By f L M) ts (then_by f q (p ts))
  exact_tail ts whole = answers ts (p ts) refl whole (x.tells ts)
