-- The better of several answers, in any order.
use Rattle.std.proofs.Common.{◌≡◌, ℕ, ◌<◌, ◌≤◌, Bool, true, false, cond, nat_lt, List, [], ◌∷◌, ◌++◌, refl, ap, sym, ◌∙◌, subst, arith, length, inl, inr, ltb-true, ltb-false}
use Rattle.std.proofs.lemmas.Bool.{cases_Bool, le-ltb, lt-ltb}
use Rattle.reader_theory.specs.Words.{Cause, expected, too_deep, Verdict, found, fault}
use Rattle.reader_theory.specs.Readers.{worse, best, joined, more_of}
use Rattle.fortran_grammar.specs.Tokens.{Token}
use Rattle.statement_reader.specs.Parts.{Part}
use Rattle.sequence_reader.specs.Answers.{Answer, read, stopped, answer_of, further, better, behind_part, behind_parts}

pub data Order (m n : ℕ) : Type 0 where
  below : m < n → Order m n
  equal : m ≡ n → Order m n
  above : n < m → Order m n

pub order : (m n : ℕ) → Order m n
order m n = elim (cases_Bool (nat_lt m n)) [
  | inl t ↦ below (ltb-true m n t)
  | inr f ↦ elim (cases_Bool (nat_lt n m)) [
    | inl t ↦ above (ltb-true n m t)
    | inr g ↦ equal (let x = ltb-false m n f in let y = ltb-false n m g in omega arith)
  ]
]

module _ (c d : Cause) (m n : ℕ) where
  pub further_below : m < n → further c m d n ≡ stopped c m
  further_below h = ap (λ b. cond b (stopped c m) (cond (nat_lt n m) (stopped d n) (stopped (worse c d) m))) (lt-ltb m n h)

  pub further_above : n < m → further c m d n ≡ stopped d n
  further_above h =
      ap (λ b. cond b (stopped c m) (cond (nat_lt n m) (stopped d n) (stopped (worse c d) m))) (le-ltb m n (omega arith))
      ∙ ap (λ b. cond b (stopped d n) (stopped (worse c d) m)) (lt-ltb n m h)

  pub further_equal : m ≡ n → further c m d n ≡ stopped (worse c d) m
  further_equal h =
      ap (λ b. cond b (stopped c m) (cond (nat_lt n m) (stopped d n) (stopped (worse c d) m))) (le-ltb m n (omega arith))
      ∙ ap (λ b. cond b (stopped d n) (stopped (worse c d) m)) (le-ltb n m (omega arith))

worse_same : (c : Cause) → worse c c ≡ c
worse_same expected = refl
worse_same too_deep = refl

worse_turned : (c d : Cause) → worse c d ≡ worse d c
worse_turned expected expected = refl
worse_turned expected too_deep = refl
worse_turned too_deep expected = refl
worse_turned too_deep too_deep = refl

worse_grouped : (c d e : Cause) → worse (worse c d) e ≡ worse c (worse d e)
worse_grouped expected d e = refl
worse_grouped too_deep d e = refl

-- in any grouping
stops_read : (c d : Cause) (m n : ℕ) (es : List Part) → better (further c m d n) (read es) ≡ read es
stops_read c d m n es = elim (order m n) [
  | below h ↦ ap (λ v. better v (read es)) (further_below c d m n h)
  | equal h ↦ ap (λ v. better v (read es)) (further_equal c d m n h)
  | above h ↦ ap (λ v. better v (read es)) (further_above c d m n h)
]

module _ (c d e : Cause) (m n k : ℕ) where
  by_orders : Order m n → Order n k → better (further c m d n) (stopped e k) ≡ better (stopped c m) (further d n e k)
  by_orders (below h) (below i) = ap (λ v. better v (stopped e k)) (further_below c d m n h) ∙ (further_below c e m k (omega arith) ∙ sym (ap (better (stopped c m)) (further_below d e n k i) ∙ further_below c d m n h))
  by_orders (below h) (equal i) = ap (λ v. better v (stopped e k)) (further_below c d m n h) ∙ (further_below c e m k (omega arith) ∙ sym (ap (better (stopped c m)) (further_equal d e n k i) ∙ further_below c (worse d e) m n h))
  by_orders (below h) (above i) = ap (λ v. better v (stopped e k)) (further_below c d m n h) ∙ sym (ap (better (stopped c m)) (further_above d e n k i))
  by_orders (equal h) (below i) = ap (λ v. better v (stopped e k)) (further_equal c d m n h) ∙ (further_below (worse c d) e m k (omega arith) ∙ sym (ap (better (stopped c m)) (further_below d e n k i) ∙ further_equal c d m n h))
  by_orders (equal h) (equal i) = ap (λ v. better v (stopped e k)) (further_equal c d m n h) ∙ (further_equal (worse c d) e m k (omega arith) ∙ (ap (λ z. stopped z m) (worse_grouped c d e) ∙ sym (ap (better (stopped c m)) (further_equal d e n k i) ∙ further_equal c (worse d e) m n h)))
  by_orders (equal h) (above i) = ap (λ v. better v (stopped e k)) (further_equal c d m n h) ∙ (further_above (worse c d) e m k (omega arith) ∙ sym (ap (better (stopped c m)) (further_above d e n k i) ∙ further_above c e m k (omega arith)))
  by_orders (above h) (below i) = ap (λ v. better v (stopped e k)) (further_above c d m n h) ∙ (further_below d e n k i ∙ sym (ap (better (stopped c m)) (further_below d e n k i) ∙ further_above c d m n h))
  by_orders (above h) (equal i) = ap (λ v. better v (stopped e k)) (further_above c d m n h) ∙ (further_equal d e n k i ∙ sym (ap (better (stopped c m)) (further_equal d e n k i) ∙ further_above c (worse d e) m n h))
  by_orders (above h) (above i) = ap (λ v. better v (stopped e k)) (further_above c d m n h) ∙ (further_above d e n k i ∙ sym (ap (better (stopped c m)) (further_above d e n k i) ∙ further_above c e m k (omega arith)))

pub better_grouped : (a b v : Answer) → better (better a b) v ≡ better a (better b v)
better_grouped (read es) b v = refl
better_grouped (stopped c m) (read es) v = refl
better_grouped (stopped c m) (stopped d n) (read es) = stops_read c d m n es
better_grouped (stopped c m) (stopped d n) (stopped e k) = by_orders c d e m n k (order m n) (order n k)

-- a fault on either side
pub better_turned : (c : Cause) (m : ℕ) (v : Answer) → better (stopped c m) v ≡ better v (stopped c m)
better_turned c m (read es) = refl
better_turned c m (stopped d n) = elim (order m n) [
  | below h ↦ further_below c d m n h ∙ sym (further_above d c n m h)
  | equal h ↦ further_equal c d m n h ∙ ((let P : stopped (worse c d) m ≡ stopped (worse d c) n = ap (λ z. stopped z m) (worse_turned c d) ∙ ap (stopped (worse d c)) h in P) ∙ sym (further_equal d c n m (sym h)))
  | above h ↦ further_above c d m n h ∙ sym (further_below d c n m h)
]

pub better_same : (v : Answer) → better v v ≡ v
better_same (read es) = refl
better_same (stopped c m) = further_equal c c m m refl ∙ ap (λ z. stopped z m) (worse_same c)

-- an answer whose fault stands before no more tokens than so many
abbrev pub Within : ℕ → Answer → Type 0
Within l (read es) = Unit {0}
Within l (stopped c m) = m ≤ l

pub first_expected : (l : ℕ) (v : Answer) → Within l v → better (stopped expected l) v ≡ v
first_expected l (read es) h = refl
first_expected l (stopped d n) h = elim (order l n) [
  | below i ↦ absurd (omega arith)
  | equal i ↦ further_equal expected d l n i ∙ ap (stopped d) i
  | above i ↦ further_above expected d l n i
]

pub last_expected : (l : ℕ) (v : Answer) → Within l v → better v (stopped expected l) ≡ v
last_expected l v h = sym (better_turned expected l v) ∙ first_expected l v h

pub within_better : (l : ℕ) (v w : Answer) → Within l v → Within l w → Within l (better v w)
within_better l (read es) w h k = tt
within_better l (stopped c m) (read es) h k = tt
within_better l (stopped c m) (stopped d n) h k = elim (order m n) [
  | below i ↦ subst (Within l) (sym (further_below c d m n i)) h
  | equal i ↦ subst (Within l) (sym (further_equal c d m n i)) h
  | above i ↦ subst (Within l) (sym (further_above c d m n i)) k
]

-- a fault that stands before more tokens than so many
pub record Late (l : ℕ) (v : Answer) : Type 0 where
  pub cause : Cause
  pub left : ℕ
  pub is : v ≡ stopped cause left
  pub late : l < left

pub late_stop : (l : ℕ) (c : Cause) (m : ℕ) → l < m → Late l (stopped c m)
late_stop l c m h = record { cause = c; left = m; is = refl; late = h }

pub late_better : (l : ℕ) (v w : Answer) → Late l v → Late l w → Late l (better v w)
late_better l v w h k = subst (λ z. Late l (better z w)) (sym h.is) (subst (λ z. Late l (better (stopped h.cause h.left) z)) (sym k.is) (by_order (order h.left k.left)))
  where
    by_order : Order h.left k.left → Late l (further h.cause h.left k.cause k.left)
    by_order (below i) = subst (Late l) (sym (further_below h.cause k.cause h.left k.left i)) (late_stop l h.cause h.left h.late)
    by_order (equal i) = subst (Late l) (sym (further_equal h.cause k.cause h.left k.left i)) (late_stop l (worse h.cause k.cause) h.left h.late)
    by_order (above i) = subst (Late l) (sym (further_above h.cause k.cause h.left k.left i)) (late_stop l k.cause k.left k.late)

pub late_part : (l : ℕ) (b : Part) (v : Answer) → Late l v → Late l (behind_part b v)
late_part l b v h = subst (λ z. Late l (behind_part b z)) (sym h.is) (late_stop l h.cause h.left h.late)

-- it loses against one that stands further on
pub late_loses : (l : ℕ) (v w : Answer) → Within l v → Late l w → better v w ≡ v
late_loses l (read es) w h k = refl
late_loses l (stopped c m) w h k = ap (better (stopped c m)) k.is ∙ further_below c k.cause m k.left (let z = k.late in omega arith)

pub late_loses_first : (l : ℕ) (v w : Answer) → Within l v → Late l w → better w v ≡ v
late_loses_first l v w h k = ap (λ z. better z v) k.is ∙ (better_turned k.cause k.left v ∙ (ap (better v) (sym k.is) ∙ late_loses l v w h k))

-- parts before an answer
pub part_better : (b : Part) (v : Answer) (c : Cause) (m : ℕ) → behind_part b (better v (stopped c m)) ≡ better (behind_part b v) (stopped c m)
part_better b (read es) c m = refl
part_better b (stopped d n) c m = elim (order n m) [
  | below h ↦ ap (behind_part b) (further_below d c n m h) ∙ sym (further_below d c n m h)
  | equal h ↦ ap (behind_part b) (further_equal d c n m h) ∙ sym (further_equal d c n m h)
  | above h ↦ ap (behind_part b) (further_above d c n m h) ∙ sym (further_above d c n m h)
]

pub parts_better : (bs : List Part) (v : Answer) (c : Cause) (m : ℕ) → behind_parts bs (better v (stopped c m)) ≡ better (behind_parts bs v) (stopped c m)
parts_better [] v c m = refl
parts_better (b ∷ bs) v c m = ap (behind_part b) (parts_better bs v c m) ∙ part_better b (behind_parts bs v) c m

pub parts_more : (bs : List Part) (b : Part) (v : Answer) → behind_parts (bs ++ b ∷ []) v ≡ behind_parts bs (behind_part b v)
parts_more [] b v = refl
parts_more (a ∷ bs) b v = ap (behind_part a) (parts_more bs b v)

pub parts_read : (bs es : List Part) → behind_parts bs (read es) ≡ read (bs ++ es)
parts_read [] es = refl
parts_read (b ∷ bs) es = ap (behind_part b) (parts_read bs es)

pub parts_stopped : (bs : List Part) (c : Cause) (m : ℕ) → behind_parts bs (stopped c m) ≡ stopped c m
parts_stopped [] c m = refl
parts_stopped (b ∷ bs) c m = ap (behind_part b) (parts_stopped bs c m)

pub part_within : (l : ℕ) (b : Part) (v : Answer) → Within l v → Within l (behind_part b v)
part_within l b (read es) h = tt
part_within l b (stopped c m) h = h

-- the answers of the theory
answer_cond : (b : Bool) (v w : Verdict Token (List Part)) → answer_of (cond b v w) ≡ cond b (answer_of v) (answer_of w)
answer_cond true v w = refl
answer_cond false v w = refl

pub answer_best : (v w : Verdict Token (List Part)) → answer_of (best v w) ≡ better (answer_of v) (answer_of w)
answer_best (found es r) w = refl
answer_best (fault c r) (found es s) = refl
answer_best (fault c r) (fault d s) =
    answer_cond (nat_lt (length r) (length s)) (fault c r) (cond (nat_lt (length s) (length r)) (fault d s) (fault (worse c d) r))
    ∙ ap (cond (nat_lt (length r) (length s)) (stopped c (length r))) (answer_cond (nat_lt (length s) (length r)) (fault d s) (fault (worse c d) r))

pub answer_joined : (b : Part) (v : Verdict Token (List Part)) → answer_of (joined more_of b v) ≡ behind_part b (answer_of v)
answer_joined b (found es r) = refl
answer_joined b (fault c r) = refl
