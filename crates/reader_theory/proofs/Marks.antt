-- Words, cut and put together, and how they are judged.
use Rattle.std.proofs.Common.{◌≡◌, suc, ◌≤◌, Bool, true, false, cond, List, [], ◌∷◌, ◌++◌, ◌⊎◌, inl, inr, refl, ap, sym, ◌∙◌, arith, append_assoc, length}
use Rattle.std.proofs.lemmas.Bool.{cases_Bool}
use Rattle.std.proofs.lemmas.List.{append-nil, length-append}
use Rattle.reader_theory.specs.Words.{Mark, bare, Shallow, Cause, too_deep, Verdict, found, fault}
use Rattle.reader_theory.specs.Exactness.{judge, Stops, never, Heads}

module _ {T : Type 0} where
  pub bare_append : (u v : List (Mark T)) → bare (u ++ v) ≡ bare u ++ bare v
  bare_append [] v = refl
  bare_append (m ∷ u) v = ap (λ xs. m.token ∷ xs) (bare_append u v)

  pub bare_length : (w : List (Mark T)) → length (bare w) ≡ length w
  bare_length [] = refl
  bare_length (m ∷ w) = ap suc (bare_length w)

  pub shallow_append : (u v : List (Mark T)) → Shallow u → Shallow v → Shallow (u ++ v)
  shallow_append [] v h k = k
  shallow_append (m ∷ u) v h k = (h.0, shallow_append u v h.1 k)

  pub shallow_front : (u v : List (Mark T)) → Shallow (u ++ v) → Shallow u
  shallow_front [] v h = tt
  shallow_front (m ∷ u) v h = (h.0, shallow_front u v h.1)

  pub shallow_back : (u v : List (Mark T)) → Shallow (u ++ v) → Shallow v
  shallow_back [] v h = h
  shallow_back (m ∷ u) v h = shallow_back u v h.1

  -- the text behind a word and a part of the next
  pub regroup : (u v : List (Mark T)) (rest : List T) → bare u ++ (bare v ++ rest) ≡ bare (u ++ v) ++ rest
  regroup u v rest = sym (ap (λ xs. xs ++ rest) (bare_append u v) ∙ append_assoc (bare u) (bare v) rest)

  pub never_stops : (rest : List T) → Stops never rest
  never_stops [] = tt
  never_stops (x ∷ rest) = refl

  pub heads_more : (test : T → Bool) (u v : List (Mark T)) → Heads test u → Heads test (u ++ v)
  heads_more test [] v h = absurd h
  heads_more test (m ∷ u) v h = h

-- a word cut where its tokens are
pub record Cut {T : Type 0} (w : List (Mark T)) (front rest : List T) : Type 0 where
  pub one : List (Mark T)
  pub two : List (Mark T)
  pub joins : w ≡ one ++ two
  pub is_front : bare one ≡ front
  pub is_rest : bare two ≡ rest

pub cut : {T : Type 0} (w : List (Mark T)) (front rest : List T) → bare w ≡ front ++ rest → Cut w front rest
cut w [] rest e = record { one = []; two = w; joins = refl; is_front = refl; is_rest = e }
cut [] (x ∷ front) rest e = absurd (cc)
cut (m ∷ w) (x ∷ front) rest e =
    let h : bare w ≡ front ++ rest = cc in
    let k : m.token ≡ x = cc in
    let c = cut w front rest h in
    record { one = m ∷ c.one; two = c.two; joins = ap (λ z. m ∷ z) c.joins; is_front = ap (λ z. m.token ∷ z) c.is_front ∙ ap (λ z. z ∷ front) k; is_rest = c.is_rest }

pub same_front : {T : Type 0} (f g r s : List T) → f ++ r ≡ g ++ s → length r ≡ length s → (f ≡ g) × (r ≡ s)
same_front [] [] r s e l = (refl, e)
same_front (x ∷ f) [] r s e l = absurd (let n = ap length e in let k = length-append f r in omega arith)
same_front [] (y ∷ g) r s e l = absurd (let n = ap length e in let k = length-append g s in omega arith)
same_front (x ∷ f) (y ∷ g) r s e l =
    let h : x ≡ y = cc in
    let t : f ++ r ≡ g ++ s = cc in
    let k = same_front f g r s t l in
    (ap (λ z. z ∷ f) h ∙ ap (λ z. y ∷ z) k.0, k.1)

pub judge_shallow : {T A : Type 0} (a : A) (u v : List (Mark T)) (rest : List T) → Shallow u → judge (u ++ v) a rest ≡ judge v a rest
judge_shallow a [] v rest h = refl
judge_shallow a (m ∷ u) v rest h = ap (λ b. cond b (fault too_deep (m.token ∷ bare (u ++ v) ++ rest)) (judge (u ++ v) a rest)) h.0 ∙ judge_shallow a u v rest h.1

pub judge_all : {T A : Type 0} (a : A) (u : List (Mark T)) (z : List T) → Shallow u → judge u a z ≡ found a z
judge_all a [] z h = refl
judge_all a (m ∷ u) z h = ap (λ d. cond d (fault too_deep (m.token ∷ bare u ++ z)) (judge u a z)) h.0 ∙ judge_all a u z h.1

-- what stands behind a token is judged as found, or as too deep further on
abbrev pub Judged : {T A : Type 0} → A → List (Mark T) → Verdict T A → Type 0
Judged {T} a v verdict = (verdict ≡ found a []) ⊎ ((left : List T) × (verdict ≡ fault too_deep left) × (length left ≤ length (bare v)))

pub judged : {T A : Type 0} (a : A) (v : List (Mark T)) → Judged a v (judge v a [])
judged a [] = inl refl
judged {T} {A} a (m ∷ v) = by_flag (judged a v) m.deep
  where
    size : length (m.token ∷ bare v ++ []) ≤ length (m.token ∷ bare v)
    size = let j = ap length (append-nil (bare v)) in omega arith

    more : Judged a v (judge v a []) → Judged a (m ∷ v) (judge v a [])
    more (inl e) = inl e
    more (inr (left, e, l)) = inr (left, e, omega arith)

    by_flag : Judged a v (judge v a []) → (b : Bool) → Judged a (m ∷ v) (cond b (fault too_deep (m.token ∷ bare v ++ [])) (judge v a []))
    by_flag j true = inr (m.token ∷ bare v ++ [], refl, size)
    by_flag j false = more j

-- where a word is judged as found, it is shallow, and is this tree with this rest
pub record Passed {T A : Type 0} (u : List (Mark T)) (a b : A) (z r : List T) : Type 0 where
  pub shallow : Shallow u
  pub same_tree : a ≡ b
  pub same_rest : z ≡ r

pub judge_found : {T A : Type 0} (u : List (Mark T)) (a b : A) (z r : List T) → judge u a z ≡ found b r → Passed u a b z r
judge_found [] a b z r e = record { shallow = tt; same_tree = cc; same_rest = cc }
judge_found (m ∷ u) a b z r e = elim (cases_Bool m.deep) [
  | inl t ↦ absurd (let k = sym (ap (λ d. cond d (fault too_deep (m.token ∷ bare u ++ z)) (judge u a z)) t) ∙ e in cc)
  | inr f ↦ (let k = judge_found u a b z r (sym (ap (λ d. cond d (fault too_deep (m.token ∷ bare u ++ z)) (judge u a z)) f) ∙ e) in record { shallow = (f, k.shallow); same_tree = k.same_tree; same_rest = k.same_rest })
]

-- what is too deep in a part is so in the whole
pub judge_part : {T A C : Type 0} (u v : List (Mark T)) (a : A) (b : C) (c : Cause) (r : List T) → judge u a (bare v) ≡ fault c r → judge (u ++ v) b [] ≡ fault c r
judge_part [] v a b c r e = absurd (cc)
judge_part (m ∷ u) v a b c r e = elim (cases_Bool m.deep) [
  | inl t ↦ (
      let k = sym (ap (λ d. cond d (fault too_deep (m.token ∷ bare u ++ bare v)) (judge u a (bare v))) t) ∙ e in
      let g : bare (u ++ v) ++ [] ≡ bare u ++ bare v = append-nil (bare (u ++ v)) ∙ bare_append u v in
      let i : c ≡ too_deep = cc in
      let j : m.token ∷ bare u ++ bare v ≡ r = cc in
      ap (λ d. cond d (fault too_deep (m.token ∷ bare (u ++ v) ++ [])) (judge (u ++ v) b [])) t
      ∙ (ap (λ z. fault too_deep (m.token ∷ z)) g ∙ (ap (fault too_deep) j ∙ ap (λ z. fault z r) (sym i))))
  | inr f ↦ ap (λ d. cond d (fault too_deep (m.token ∷ bare (u ++ v) ++ [])) (judge (u ++ v) b [])) f ∙ judge_part u v a b c r (sym (ap (λ d. cond d (fault too_deep (m.token ∷ bare u ++ bare v)) (judge u a (bare v))) f) ∙ e)
]
