-- The last SYNC IMAGES of the images, tried one after the other.
use Rattle.std.proofs.Common.{◌≡◌, ℕ, zero, suc, ◌+◌, ◌-◌, ◌<◌, ◌≤◌, Bool, true, false, ◌&&◌, ◌||◌, not, nat_le, cond, List, [], ◌∷◌, inl, inr, length, refl, ap, sym, ◌∙◌, arith, length-set}
use Rattle.std.specs.Prelude.{slice_index, slice_index_or, slice_set}
use Rattle.std.specs.List.{list_any, list_all, range_with_len}
use Rattle.std.proofs.lemmas.Bool.{cases_eq, cases_lt, le-leb, lt-leb}
use Rattle.object_rules.specs.TeamRounds.{status_of}
use Rattle.failure_status.specs.Endings.{Ended, flag_of, has_ended_in}
use Rattle.image_sync.specs.PairStates.{PairRow, no_row, row_of, row_with, names_in, count_in, has_partner_in, is_met_in, paired_in, is_missed_in, is_lost_in, status_in_pairs, closed_now, tried_row, AreTried, AreTriedTo, AreSquare, AreCounted}

-- ---- rows in their places
row_set_same : (rows : List PairRow) (k : ℕ) (r : PairRow) → k < length rows → slice_index_or (slice_set rows k r) k no_row ≡ r
row_set_same [] k r h = absurd (omega arith)
row_set_same (x ∷ xs) zero r h = refl
row_set_same (x ∷ xs) (suc k) r h = row_set_same xs k r (omega arith)

row_set_other : (rows : List PairRow) (k j : ℕ) (r : PairRow) → (k ≡ j → ⊥) → slice_index_or (slice_set rows k r) j no_row ≡ slice_index_or rows j no_row
row_set_other [] k j r n = refl
row_set_other (x ∷ xs) zero zero r n = absurd (n refl)
row_set_other (x ∷ xs) zero (suc j) r n = refl
row_set_other (x ∷ xs) (suc k) zero r n = refl
row_set_other (x ∷ xs) (suc k) (suc j) r n = row_set_other xs k j r (λ e. n (ap suc e))

pub set_back : (rows : List PairRow) (k : ℕ) → slice_set rows k (slice_index_or rows k no_row) ≡ rows
set_back [] k = refl
set_back (x ∷ xs) zero = refl
set_back (x ∷ xs) (suc k) = ap (λ l. x ∷ l) (set_back xs k)

place_of : (rows : List PairRow) (k : ℕ) → row_of rows (suc k) ≡ slice_index_or rows k no_row
place_of rows k = let e : suc k - 1 ≡ k = omega arith in ap (λ j. slice_index_or rows j no_row) e

-- ---- tests over the images of a run that agree
all_same : (p q : ℕ → Bool) (a n : ℕ) → ((j : ℕ) → a ≤ j → j < a + n → p j ≡ q j) → list_all p (range_with_len a n) ≡ list_all q (range_with_len a n)
all_same p q a zero e = refl
all_same p q a (suc n) e = ap (λ b. b && list_all p (range_with_len (a + 1) n)) (e a (omega arith) (omega arith)) ∙ ap (λ b. q a && b) (all_same p q (a + 1) n (λ j l h. e j (omega arith) (omega arith)))

any_same : (p q : ℕ → Bool) (a n : ℕ) → ((j : ℕ) → a ≤ j → j < a + n → p j ≡ q j) → list_any p (range_with_len a n) ≡ list_any q (range_with_len a n)
any_same p q a zero e = refl
any_same p q a (suc n) e = ap (λ b. b || list_any p (range_with_len (a + 1) n)) (e a (omega arith) (omega arith)) ∙ ap (λ b. q a || b) (any_same p q (a + 1) n (λ j l h. e j (omega arith) (omega arith)))

or_false : (b : Bool) → (b || false) ≡ b
or_false true = refl
or_false false = refl

or_assoc : (a b c : Bool) → (a || (b || c)) ≡ ((a || b) || c)
or_assoc true b c = refl
or_assoc false b c = refl

any_next : (p : ℕ → Bool) (a n : ℕ) → list_any p (range_with_len a (suc n)) ≡ (list_any p (range_with_len a n) || p (a + n))
any_next p a zero = let e : a + 0 ≡ a = omega arith in or_false (p a) ∙ ap p (sym e)
any_next p a (suc n) =
    let e : a + 1 + n ≡ a + suc n = omega arith in
    ap (λ b. p a || b) (any_next p (a + 1) n ∙ ap (λ k. list_any p (range_with_len (a + 1) n) || p k) e) ∙ or_assoc (p a) (list_any p (range_with_len (a + 1) n)) (p (a + suc n))

-- a flag that rises at an image of which a test holds
pub found_next : (p : ℕ → Bool) (k next : ℕ) (was now test : Bool) → next ≡ k + 1 → was ≡ list_any p (range_with_len 1 k) → test ≡ p (k + 1) → now ≡ cond test true was → now ≡ list_any p (range_with_len 1 next)
found_next p k next was now test e w t n =
    let f : next ≡ suc k = omega arith in
    let g : k + 1 ≡ 1 + k = omega arith in
    n ∙ flag test was ∙ ap (λ b. b || test) w ∙ ap (λ b. list_any p (range_with_len 1 k) || b) (t ∙ ap p g) ∙ sym (ap (λ m. list_any p (range_with_len 1 m)) f ∙ any_next p 1 k)
  where
    flag : (m w : Bool) → cond m true w ≡ (w || m)
    flag true true = refl
    flag true false = refl
    flag false true = refl
    flag false false = refl

-- ---- rows that agree but for who has closed
module _ (n : ℕ) (rows rows' : List PairRow) (ended : Ended) (same : (i : ℕ) → 0 < i → i ≤ n → ((row_of rows' i).named ≡ (row_of rows i).named) × ((row_of rows' i).counts ≡ (row_of rows i).counts)) where
  names_same : (i j : ℕ) → 0 < i → i ≤ n → names_in rows' i j ≡ names_in rows i j
  names_same i j a b = ap (λ m. flag_of m j) (same i a b).0

  partner_same : (i j : ℕ) → 0 < i → i ≤ n → 0 < j → j ≤ n → has_partner_in rows' i j ≡ has_partner_in rows i j
  partner_same i j a b c d = ap (λ m. nat_le (slice_index m (j - 1)) (count_in rows' j i)) (same i a b).1 ∙ ap (λ m. nat_le (count_in rows i j) (slice_index m (i - 1))) (same j c d).1

  paired_same : (i : ℕ) → 0 < i → i ≤ n → paired_in rows' ended n i ≡ paired_in rows ended n i
  paired_same i a b = all_same (λ j. is_met_in rows' ended i j) (λ j. is_met_in rows ended i j) 1 n (λ j l h. (
      let low : 0 < j = omega arith in let high : j ≤ n = omega arith in
      ap (λ t. not t || (has_partner_in rows' i j || has_ended_in ended j)) (names_same i j a b) ∙ ap (λ t. not (names_in rows i j) || (t || has_ended_in ended j)) (partner_same i j a b low high)))

  missed_same : (i : ℕ) → 0 < i → i ≤ n → list_any (λ j. is_missed_in rows' ended i j) (range_with_len 1 n) ≡ list_any (λ j. is_missed_in rows ended i j) (range_with_len 1 n)
  missed_same i a b = any_same (λ j. is_missed_in rows' ended i j) (λ j. is_missed_in rows ended i j) 1 n (λ j l h. (
      let low : 0 < j = omega arith in let high : j ≤ n = omega arith in
      ap (λ t. t && (flag_of ended.stopped j && not (has_partner_in rows' i j))) (names_same i j a b) ∙ ap (λ t. names_in rows i j && (flag_of ended.stopped j && not t)) (partner_same i j a b low high)))

  lost_same : (i : ℕ) → 0 < i → i ≤ n → list_any (λ j. is_lost_in rows' ended i j) (range_with_len 1 n) ≡ list_any (λ j. is_lost_in rows ended i j) (range_with_len 1 n)
  lost_same i a b = any_same (λ j. is_lost_in rows' ended i j) (λ j. is_lost_in rows ended i j) 1 n (λ j l h. ap (λ t. t && flag_of ended.failed j) (names_same i j a b))

  status_same : (i : ℕ) → 0 < i → i ≤ n → status_in_pairs rows' ended n i ≡ status_in_pairs rows ended n i
  status_same i a b = ap (λ s. status_of s (list_any (λ j. is_lost_in rows' ended i j) (range_with_len 1 n))) (missed_same i a b) ∙ ap (status_of (list_any (λ j. is_missed_in rows ended i j) (range_with_len 1 n))) (lost_same i a b)

  tried_same : (i : ℕ) → 0 < i → i ≤ n → row_of rows' i ≡ row_of rows i → tried_row rows' ended n i ≡ tried_row rows ended n i
  tried_same i a b e =
      ap (λ (r : PairRow). row_with r (closed_now r.closed (paired_in rows' ended n i) (status_in_pairs rows' ended n i))) e
      ∙ ap (λ t. row_with (row_of rows i) (closed_now (row_of rows i).closed t (status_in_pairs rows' ended n i))) (paired_same i a b)
      ∙ ap (λ s. row_with (row_of rows i) (closed_now (row_of rows i).closed (paired_in rows ended n i) s)) (status_same i a b)

-- ---- one row tried after the other
kept_in : (rows after : List PairRow) (ended : Ended) (n i : ℕ) (b : Bool) → row_of after i ≡ cond b (tried_row rows ended n i) (row_of rows i)
    → ((row_of after i).named ≡ (row_of rows i).named) × ((row_of after i).counts ≡ (row_of rows i).counts) × ((row_of after i).begun ≡ (row_of rows i).begun)
kept_in rows after ended n i true e = (ap (λ r. r.named) e, ap (λ r. r.counts) e, ap (λ r. r.begun) e)
kept_in rows after ended n i false e = (ap (λ r. r.named) e, ap (λ r. r.counts) e, ap (λ r. r.begun) e)

pub none_tried : (n : ℕ) (rows : List PairRow) (ended : Ended) → AreTriedTo 0 n rows ended rows
none_tried n rows ended i low high = rw (lt-leb i 0 low) refl

tried_more : (k next n : ℕ) (rows now after : List PairRow) (ended : Ended) → next ≡ k + 1 → k < n → length now ≡ n → AreTriedTo k n rows ended now → after ≡ slice_set now k (tried_row now ended n next) → AreTriedTo next n rows ended after
tried_more k next n rows now after ended e below as_many t is i low high = elim (cases_eq next i) [
  | inl same ↦ (
      let here : i - 1 ≡ k = omega arith in
      let behind : nat_le i k ≡ false = lt-leb i k (omega arith) in
      let within : nat_le i next ≡ true = le-leb i next (omega arith) in
      ap (λ l. row_of l i) is ∙ ap (λ j. slice_index_or (slice_set now k (tried_row now ended n next)) j no_row) here ∙ row_set_same now k (tried_row now ended n next) (omega arith)
      ∙ ap (tried_row now ended n) same
      ∙ tried_same n rows now ended (λ j a b. (let q = kept_in rows now ended n j (nat_le j k) (t j a b) in (q.0, q.1))) i low high (t i low high ∙ ap (λ b. cond b (tried_row rows ended n i) (row_of rows i)) behind)
      ∙ sym (ap (λ b. cond b (tried_row rows ended n i) (row_of rows i)) within))
  | inr other ↦ (
      let there : k ≡ i - 1 → ⊥ = (λ q. other (omega arith)) in
      let as_before : nat_le i k ≡ nat_le i next = same_le i k next other e in
      ap (λ l. row_of l i) is ∙ row_set_other now k (i - 1) (tried_row now ended n next) there ∙ t i low high ∙ ap (λ b. cond b (tried_row rows ended n i) (row_of rows i)) as_before)
]
  where
    same_le : (i k next : ℕ) → (next ≡ i → ⊥) → next ≡ k + 1 → nat_le i k ≡ nat_le i next
    same_le i k next o e = elim (cases_lt k i) [
      | inl l ↦ (lt-leb i k l ∙ sym (lt-leb i next (let n : (next ≡ i → ⊥) = o in omega arith)))
      | inr g ↦ (le-leb i k g ∙ sym (le-leb i next (omega arith)))
    ]

-- the same as a loop has it
pub tried_step : (k n : ℕ) (rows now after : List PairRow) (ended : Ended) → k < n → length now ≡ n → AreTriedTo k n rows ended now → after ≡ slice_set now (k + 1 - 1) (tried_row now ended (length now) (k + 1))
    → (length after ≡ n) × AreTriedTo (k + 1) n rows ended after
tried_step k n rows now after ended below as_many t is =
    let there : k + 1 - 1 ≡ k = omega arith in
    let set_there : after ≡ slice_set now k (tried_row now ended n (k + 1)) = is ∙ ap (λ j. slice_set now j (tried_row now ended (length now) (k + 1))) there ∙ ap (λ m. slice_set now k (tried_row now ended m (k + 1))) as_many in
    (ap length set_there ∙ length-set now k (tried_row now ended n (k + 1)) ∙ as_many, tried_more k (k + 1) n rows now after ended refl below as_many t set_there)

-- what the tries keep
pub square_tried : (to n : ℕ) (rows after : List PairRow) (ended : Ended) → AreTriedTo to n rows ended after → AreSquare n rows → AreSquare n after
square_tried to n rows after ended t s k h =
    let q = kept_in rows after ended n (suc k) (nat_le (suc k) to) (t (suc k) (omega arith) (omega arith)) in
    let r = s k h in (
      ap (λ (x : PairRow). length x.named) (sym (place_of after k)) ∙ ap length q.0 ∙ ap (λ (x : PairRow). length x.named) (place_of rows k) ∙ r.0,
      ap (λ (x : PairRow). length x.counts) (sym (place_of after k)) ∙ ap length q.1 ∙ ap (λ (x : PairRow). length x.counts) (place_of rows k) ∙ r.1,
    )

pub counted_tried : (to n : ℕ) (rows after : List PairRow) (ended : Ended) → length after ≡ n → length rows ≡ n → AreTriedTo to n rows ended after → AreCounted rows → AreCounted after
counted_tried to n rows after ended m l t s k j h =
    let q = kept_in rows after ended n (suc k) (nat_le (suc k) to) (t (suc k) (omega arith) (omega arith)) in
    let r = s k j (omega arith) in
    let x : slice_index (slice_index_or after k no_row).counts j ≡ slice_index (slice_index_or rows k no_row).counts j = ap (λ (x : PairRow). slice_index x.counts j) (sym (place_of after k)) ∙ ap (λ c. slice_index c j) q.1 ∙ ap (λ (x : PairRow). slice_index x.counts j) (place_of rows k) in
    let y : (slice_index_or after k no_row).begun ≡ (slice_index_or rows k no_row).begun = ap (λ (x : PairRow). x.begun) (sym (place_of after k)) ∙ q.2 ∙ ap (λ (x : PairRow). x.begun) (place_of rows k) in
    omega arith

-- all are tried
pub are_tried : (to n : ℕ) (rows after : List PairRow) (ended : Ended) → to ≡ n → AreTriedTo to n rows ended after → AreTried n rows ended after
are_tried to n rows after ended e t i low high = t i low high ∙ ap (λ b. cond b (tried_row rows ended n i) (row_of rows i)) (le-leb i to (omega arith))
