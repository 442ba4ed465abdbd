-- An exact reader that looks no further than where it stops gives the longest reading; and a text has one.
use Rattle.std.proofs.Common.{◌≡◌, ◌<◌, Bool, false, List, [], ◌∷◌, ◌++◌, inl, inr, length, refl, ap, sym, ◌∙◌, subst, arith}
use Rattle.std.proofs.lemmas.List.{length-append, append_cancel_right}
use Rattle.reader_theory.specs.Words.{Mark, bare, Shallow, Cause, expected, too_deep, Verdict, found, fault}
use Rattle.reader_theory.specs.Refusals.{Begins, StopsAt, Reads, Refused, Answers}
use Rattle.reader_theory.specs.Readers.{ended_by}
use Rattle.reader_theory.specs.Exactness.{Finds, Tells, Exact}
use Rattle.reader_theory.specs.Laws.{OneReading}
use Rattle.reader_theory.proofs.Marks.{judge_all, same_front}
use Rattle.reader_theory.proofs.Fronts.{begins_front, read_begins}
use Rattle.reader_theory.proofs.Whole.{exact_whole}
use Rattle.expr_reader.specs.Longest.{Unfollowed, ReadsUpTo, Unread, FailsAt, Longest, LongestOfAll, OneLongest}
use Rattle.expr_reader.proofs.Steady.{Past, Agree, read, stop, past, Firm}

module _ {T A : Type 0} (L : A → List (Mark T) → Type 0) (more : T → Bool) (p : List T → Verdict T A) (x : Exact L more p) (firm : Firm p) (end : T) (ends : more end ≡ false) where
  -- where the reader found a word in front of a token, it doesn't expect more in front of another
  apart : (a : A) (w : List (Mark T)) (z : T) (u : List T) → L a w → Shallow w → (V W : Verdict T A) → V ≡ fault expected (z ∷ u) → W ≡ found a (end ∷ []) → Agree z end u [] V W → ⊥
  apart a w z u h s V W e f (read b g i j) = absurd (cc)
  apart a w z u h s V W e f (stop c g i j) = absurd (cc)
  apart a w z u h s V W e f (past n m (inl k)) = let l = subst (Past u) e k in absurd (omega arith)
  apart a w z u h s V W e f (past n m (inr k)) = let l = subst (Past []) f k in absurd (omega arith)

  never_expects : (rest : List T) (a : A) (w : List (Mark T)) → L a w → Shallow w → p (bare w ++ rest) ≡ fault expected rest → ⊥
  never_expects [] a w h s e = let k = sym e ∙ (x.given a w [] h tt ∙ judge_all a w [] s) in absurd (cc)
  never_expects (z ∷ u) a w h s e = apart a w z u h s (p (bare w ++ z ∷ u)) (p (bare w ++ end ∷ [])) e (x.given a w (end ∷ []) h ends ∙ judge_all a w (end ∷ []) s) (firm.steady z end u [] (bare w))

  unread : (ts front rest : List T) → ts ≡ front ++ rest → p ts ≡ fault expected rest → (a : A) → Reads L front a → ⊥
  unread ts front rest split e a (w, h, s, f) = never_expects rest a w h s (ap p (sym (split ∙ ap (λ z. z ++ rest) f)) ∙ e)

  fails : (ts : List T) (c : Cause) (rest : List T) → p ts ≡ fault c rest → Refused L ts c rest → FailsAt L ts c rest
  fails ts expected rest e r = record { front = r.front; split = r.split; begins = r.begins; stops = r.stops; unread = unread ts r.front rest r.split e }
  fails ts too_deep rest e r = record { front = r.front; split = r.split; begins = r.begins; stops = r.stops; unread = tt }

  reads : (ts : List T) (a : A) (rest : List T) → Finds L p ts a rest → Answers L ts (ended_by (found a rest)) → ReadsUpTo L ts a rest
  reads ts a [] f k = record { front = bare f.word; split = f.split; reads = (f.word, f.is_word, f.shallow, refl); unfollowed = tt }
  reads ts a (y ∷ rest) f k =
      let same : k.front ≡ bare f.word = append_cancel_right k.front (bare f.word) (y ∷ rest) (sym k.split ∙ f.split) in
      record { front = bare f.word; split = f.split; reads = (f.word, f.is_word, f.shallow, refl); unfollowed = subst (λ z. Unfollowed L z (y ∷ rest)) same k.stops }

  by_verdict : (ts : List T) (v : Verdict T A) → p ts ≡ v → Tells L p ts v → Answers L ts (ended_by v) → Longest L ts v
  by_verdict ts (found a rest) e t k = reads ts a rest t k
  by_verdict ts (fault c rest) e t k = fails ts c rest e k

  pub longest : LongestOfAll L p
  longest ts = by_verdict ts (p ts) refl (x.tells ts) (exact_whole L more p x ts)

-- One answer.
module _ {T A : Type 0} (L : A → List (Mark T) → Type 0) (once : OneReading L) where
  -- the front of an answer, behind which nothing longer begins a word
  Halted : List T → List T → Type 0
  Halted front [] = Unit {0}
  Halted front (x ∷ rest) = Begins L (front ++ x ∷ []) → ⊥

  not_longer : (f g r s : List T) → f ++ r ≡ g ++ s → Halted f r → Begins L g → length s < length r → ⊥
  unfolding Halted
  not_longer f g [] s e h b l = absurd (omega arith)
  not_longer f g (x ∷ r) s e h b l = by_front f g e h b
    where
      by_front : (f g : List T) → f ++ x ∷ r ≡ g ++ s → (Begins L (f ++ x ∷ []) → ⊥) → Begins L g → ⊥
      by_front f g e h b = let c = cut_behind f g e in h (begins_front L (f ++ x ∷ []) c.0 (subst (Begins L) c.1 b))
        where
          cut_behind : (f g : List T) → f ++ x ∷ r ≡ g ++ s → (z : List T) × (g ≡ (f ++ x ∷ []) ++ z)
          cut_behind [] [] e = absurd (let n = ap length e in omega arith)
          cut_behind [] (y ∷ g) e = let k : y ≡ x = cc in (g, ap (λ z. z ∷ g) k)
          cut_behind (y ∷ f) [] e = absurd (let n = ap length e in let m = length-append f (x ∷ r) in omega arith)
          cut_behind (y ∷ f) (w ∷ g) e =
              let k : w ≡ y = cc in
              let t : f ++ x ∷ r ≡ g ++ s = cc in
              let c = cut_behind f g t in
              (c.0, ap (λ z. z ∷ g) k ∙ ap (λ z. y ∷ z) c.1)

  halted_reads : (front rest : List T) → Unfollowed L front rest → Halted front rest
  unfolding Halted
  halted_reads front [] h = tt
  halted_reads front (x ∷ rest) h = h.0

  halted_fails : (front : List T) (c : Cause) (rest : List T) → StopsAt L front c rest → Halted front rest
  unfolding Halted
  halted_fails front c [] h = tt
  halted_fails front expected (x ∷ rest) h = h.0
  halted_fails front too_deep (x ∷ rest) h = h.0

  same_place : (f g r s : List T) → f ++ r ≡ g ++ s → Halted f r → Begins L f → Halted g s → Begins L g → (f ≡ g) × (r ≡ s)
  same_place f g r s e h b i c = same_front f g r s e (let k = not_longer f g r s e h c in let l = not_longer g f s r (sym e) i b in omega (arith, k, l))

  found_found : (ts : List T) (a b : A) (r s : List T) → ReadsUpTo L ts a r → ReadsUpTo L ts b s → found a r ≡ found b s
  found_found ts a b r s h k =
      let z = same_place h.front k.front r s (sym h.split ∙ k.split) (halted_reads h.front r h.unfollowed) (read_begins L h.front a h.reads) (halted_reads k.front s k.unfollowed) (read_begins L k.front b k.reads) in
      let i = once k.front a b (subst (λ f. Reads L f a) z.0 h.reads) k.reads in
      let j = z.1 in
      cc

  -- no text is read up to a place and stopped there
  not_both : (front rest : List T) (a : A) (c : Cause) → Reads L front a → Unfollowed L front rest → StopsAt L front c rest → Unread L front c → ⊥
  not_both front rest a expected r u s n = n a r
  not_both front [] a too_deep r u s n = absurd (let e = s.0 in cc)
  not_both front (x ∷ rest) a too_deep r u s n = u.1 s.1

  found_fault : (ts : List T) (a : A) (c : Cause) (r s : List T) → ReadsUpTo L ts a r → FailsAt L ts c s → ⊥
  found_fault ts a c r s h k =
      let z = same_place h.front k.front r s (sym h.split ∙ k.split) (halted_reads h.front r h.unfollowed) (read_begins L h.front a h.reads) (halted_fails k.front c s k.stops) k.begins in
      not_both k.front s a c (subst (λ f. Reads L f a) z.0 h.reads) (subst (Unfollowed L k.front) z.1 (subst (λ f. Unfollowed L f r) z.0 h.unfollowed)) k.stops k.unread

  one_cause : (front rest : List T) (c d : Cause) → StopsAt L front c rest → StopsAt L front d rest → c ≡ d
  one_cause front [] c d h k = h.0 ∙ sym k.0
  one_cause front (x ∷ rest) expected expected h k = refl
  one_cause front (x ∷ rest) expected too_deep h k = absurd (h.1 k.1)
  one_cause front (x ∷ rest) too_deep expected h k = absurd (k.1 h.1)
  one_cause front (x ∷ rest) too_deep too_deep h k = refl

  fault_fault : (ts : List T) (c d : Cause) (r s : List T) → FailsAt L ts c r → FailsAt L ts d s → ◌≡◌ {A = Verdict T A} (fault c r) (fault d s)
  fault_fault ts c d r s h k =
      let z = same_place h.front k.front r s (sym h.split ∙ k.split) (halted_fails h.front c r h.stops) h.begins (halted_fails k.front d s k.stops) k.begins in
      let i = one_cause k.front s c d (subst (StopsAt L k.front c) z.1 (subst (λ f. StopsAt L f c r) z.0 h.stops)) k.stops in
      let j = z.1 in
      cc

  pub one_longest : OneLongest L
  one_longest ts (found a r) (found b s) h k = found_found ts a b r s h k
  one_longest ts (found a r) (fault d s) h k = absurd (found_fault ts a d r s h k)
  one_longest ts (fault c r) (found b s) h k = absurd (found_fault ts b c s r k h)
  one_longest ts (fault c r) (fault d s) h k = fault_fault ts c d r s h k
