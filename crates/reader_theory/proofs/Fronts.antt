-- Fronts of words; what is refused isn't read; the same words said otherwise, and of another tree.
use Rattle.std.proofs.Common.{◌≡◌, true, List, [], ◌∷◌, ◌++◌, refl, ap, sym, ◌∙◌, subst, append_assoc}
use Rattle.std.proofs.lemmas.List.{append-nil}
use Rattle.reader_theory.specs.Words.{Mark, Shallow, Cause, expected, too_deep, Verdict, found, fault}
use Rattle.reader_theory.specs.Refusals.{Begins, Opens, StopsAt, Refused, Reads, Answers}
use Rattle.reader_theory.specs.Readers.{turned}
use Rattle.reader_theory.specs.Languages.{Image}
use Rattle.reader_theory.proofs.Marks.{cut, shallow_front}

module _ {T A : Type 0} (L : A → List (Mark T) → Type 0) where
  pub begins_front : (front more : List T) → Begins L (front ++ more) → Begins L front
  begins_front front more (a, w, v, h, s, e) =
      let c = cut w front more (sym e) in
      (a, c.one, c.two ++ v, subst (L a) (ap (λ z. z ++ v) c.joins ∙ append_assoc c.one c.two v) h, shallow_front c.one c.two (subst Shallow c.joins s), sym c.is_front)

  pub read_begins : (ts : List T) (a : A) → Reads L ts a → Begins L ts
  read_begins ts a (w, h, s, e) = (a, w, [], subst (L a) (sym (append-nil w)) h, s, e)

  pub opens_begins : (front : List T) (x : T) → Opens L front x → Begins L front
  opens_begins front x (a, w, v, h, s, e) = (a, w, record { token = x; deep = true } ∷ v, h, s, e)

  -- what is refused isn't read
  pub not_both : (ts : List T) (c : Cause) (rest : List T) (a : A) → Refused L ts c rest → Reads L ts a → ⊥
  not_both ts c rest a f r = by_rest c rest f.split f.stops
    where
      by_rest : (c : Cause) (rest : List T) → ts ≡ f.front ++ rest → StopsAt L f.front c rest → ⊥
      by_rest c [] e s = s.1 a (subst (λ z. Reads L z a) (e ∙ append-nil f.front) r)
      by_rest expected (x ∷ rest) e s = s.0 (begins_front (f.front ++ x ∷ []) rest (subst (Begins L) (e ∙ sym (append_assoc f.front (x ∷ []) rest)) (read_begins ts a r)))
      by_rest too_deep (x ∷ rest) e s = s.0 (begins_front (f.front ++ x ∷ []) rest (subst (Begins L) (e ∙ sym (append_assoc f.front (x ∷ []) rest)) (read_begins ts a r)))

-- the same words said otherwise
module _ {T A : Type 0} (K M : A → List (Mark T) → Type 0) (into : (a : A) (w : List (Mark T)) → K a w → M a w) (from : (a : A) (w : List (Mark T)) → M a w → K a w) where
  begins_same : (front : List T) → Begins M front → Begins K front
  begins_same front (a, w, v, h, s, e) = (a, w, v, from a (w ++ v) h, s, e)

  opens_same : (front : List T) (y : T) → Opens M front y → Opens K front y
  opens_same front y (a, w, v, h, s, e) = (a, w, v, from a (w ++ record { token = y; deep = true } ∷ v) h, s, e)

  stops_same : (front : List T) (c : Cause) (rest : List T) → StopsAt K front c rest → StopsAt M front c rest
  stops_same front c [] h = (h.0, λ a (w, k, s, e). h.1 a (w, from a w k, s, e))
  stops_same front expected (y ∷ rest) h = (λ b. h.0 (begins_same (front ++ y ∷ []) b), λ o. h.1 (opens_same front y o))
  stops_same front too_deep (y ∷ rest) (n, (a, w, v, k, s, e)) = (λ b. n (begins_same (front ++ y ∷ []) b), (a, w, v, into a (w ++ record { token = y; deep = true } ∷ v) k, s, e))

  pub same_answers : (ts : List T) (v : Verdict T (A)) → Answers K ts v → Answers M ts v
  same_answers ts (found a rest) (e, (w, h, s, i)) = (e, (w, into a w h, s, i))
  same_answers ts (fault c rest) h = record { front = h.front; split = h.split; begins = (let (a, w, v, k, s, e) = h.begins in (a, w, v, into a (w ++ v) k, s, e)); stops = stops_same h.front c rest h.stops }

-- the same words, of another tree
module _ {T A B : Type 0} (f : A → B) (L : A → List (Mark T) → Type 0) where
  image_begins : (front : List T) → Begins (Image f L) front → Begins L front
  image_begins front (b, w, v, (a, i, h), s, e) = (a, w, v, h, s, e)

  image_opens : (front : List T) (x : T) → Opens (Image f L) front x → Opens L front x
  image_opens front x (b, w, v, (a, i, h), s, e) = (a, w, v, h, s, e)

  image_stops : (front : List T) (c : Cause) (rest : List T) → StopsAt L front c rest → StopsAt (Image f L) front c rest
  image_stops front c [] h = (h.0, λ b (w, (a, i, k), s, e). h.1 a (w, k, s, e))
  image_stops front expected (x ∷ rest) h = (λ b. h.0 (image_begins (front ++ x ∷ []) b), λ o. h.1 (image_opens front x o))
  image_stops front too_deep (x ∷ rest) (n, (a, w, v, k, s, e)) = (λ b. n (image_begins (front ++ x ∷ []) b), (f a, w, v, (a, refl, k), s, e))

  pub exact_image : (ts : List T) (v : Verdict T A) → Answers L ts v → Answers (Image f L) ts (turned f v)
  exact_image ts (found a rest) (e, (w, h, s, i)) = (e, (w, (a, refl, h), s, i))
  exact_image ts (fault c rest) h = record { front = h.front; split = h.split; begins = (let (a, w, v, k, s, e) = h.begins in (f a, w, v, (a, refl, k), s, e)); stops = image_stops h.front c rest h.stops }
