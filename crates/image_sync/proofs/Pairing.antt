-- The state of SYNC IMAGES, when one thing more happens.
use Rattle.std.proofs.Common.{◌≡◌, ℕ, zero, suc, ◌+◌, ◌<◌, ◌≤◌, Bool, true, false, ◌&&◌, ◌||◌, not, nat_eq, nat_le, cond, List, [], ◌∷◌, ◌++◌, inl, inr, refl, ap, sym, ◌∙◌, subst, arith, add_assoc}
use Rattle.std.specs.Prelude.{ℤ, Option, Some, None}
use Rattle.std.specs.List.{list_all, range_with_len}
use Rattle.std.proofs.lemmas.Bool.{cases_eq, cases_Bool, eq-eqb, ne_eqb, eqb-true, and_parts, or_cases}
use Rattle.object_rules.specs.Scans.{or_else, front_where}
use Rattle.object_rules.specs.Happenings.{Happening, has_stopped, has_ended}
use Rattle.object_rules.specs.ImagePairs.{names, is_pair, is_naming, pairs_of, naming, named_after, last_named_from, last_named, has_partner, has_paired, at_pairing, pairing_status}
use Rattle.object_rules.proofs.Growing.{first_front_more}
use Rattle.failure_status.specs.Endings.{Ended, flag_of, has_ended_in, TellsEnded}
use Rattle.image_sync.specs.PairStates.{PairRow, names_in, count_in, has_partner_in, paired_in, closed_now, status_paired}

-- ---- one thing more
pub pairs_more : (i : ℕ) (hs : List Happening) (x : Happening) → pairs_of i (hs ++ x ∷ []) ≡ pairs_of i hs + cond (is_pair i x) 1 0
pairs_more i [] x = omega arith
pairs_more i (y ∷ ys) x = ap (λ n. cond (is_pair i y) 1 0 + n) (pairs_more i ys x) ∙ sym (add_assoc (cond (is_pair i y) 1 0) (pairs_of i ys) (cond (is_pair i x) 1 0))

pub naming_more : (i j : ℕ) (hs : List Happening) (x : Happening) → naming i j (hs ++ x ∷ []) ≡ naming i j hs + cond (is_naming i j x) 1 0
naming_more i j [] x = omega arith
naming_more i j (y ∷ ys) x = ap (λ n. cond (is_naming i j y) 1 0 + n) (naming_more i j ys x) ∙ sym (add_assoc (cond (is_naming i j y) 1 0) (naming i j ys) (cond (is_naming i j x) 1 0))

last_from_more : (i : ℕ) (js : List ℕ) (hs : List Happening) (x : Happening) → last_named_from i js (hs ++ x ∷ []) ≡ named_after i (last_named_from i js hs) x
last_from_more i js [] x = refl
last_from_more i js (y ∷ ys) x = last_from_more i (named_after i js y) ys x

pub last_named_more : (i : ℕ) (hs : List Happening) (x : Happening) → last_named i (hs ++ x ∷ []) ≡ named_after i (last_named i hs) x
last_named_more i hs x = last_from_more i [] hs x

test : ℕ → ℕ → List Happening → Bool
test i n f = nat_eq (pairs_of i f) n && has_paired i f

pub at_pairing_more : (i n : ℕ) (hs : List Happening) (x : Happening) → at_pairing i n (hs ++ x ∷ []) ≡ or_else (at_pairing i n hs) (front_where (λ f. nat_eq (pairs_of i f) n && has_paired i f) (hs ++ x ∷ []))
at_pairing_more i n hs x = first_front_more (λ f. nat_eq (pairs_of i f) n && has_paired i f) hs x

-- one that isn't begun yet hasn't closed
pub not_begun_more : (i n : ℕ) (hs : List Happening) (x : Happening) → at_pairing i n hs ≡ None → pairs_of i (hs ++ x ∷ []) < n → at_pairing i n (hs ++ x ∷ []) ≡ None
not_begun_more i n hs x u few =
    let ne : nat_eq (pairs_of i (hs ++ x ∷ [])) n ≡ false = ne_eqb (pairs_of i (hs ++ x ∷ [])) n (λ e. absurd (omega arith)) in
    at_pairing_more i n hs x ∙ ap (λ o. or_else o (front_where (λ f. nat_eq (pairs_of i f) n && has_paired i f) (hs ++ x ∷ []))) u ∙ rw ne refl

-- ---- over the set, or over all images of the run
module _ (p : ℕ → Bool) where
  all_at : (js : List ℕ) (j : ℕ) → list_all p js ≡ true → names j js ≡ true → p j ≡ true
  all_at [] j h m = absurd (cc)
  all_at (k ∷ ks) j h m = elim (cases_eq j k) [
    | inl same ↦ subst (λ q. p q ≡ true) (sym same) (and_parts (p k) (list_all p ks) h).0
    | inr other ↦ all_at ks j (and_parts (p k) (list_all p ks) h).1 (sym (ap (λ b. b || names j ks) (ne_eqb j k other)) ∙ m)
  ]

  all_from : (js : List ℕ) → ((j : ℕ) → names j js ≡ true → p j ≡ true) → list_all p js ≡ true
  all_from [] h = refl
  all_from (k ∷ ks) h =
      let first : p k ≡ true = h k (ap (λ b. b || names k ks) (eq-eqb k k refl)) in
      rw first (all_from ks (λ j m. h j (elim (cases_Bool (nat_eq j k)) [ inl t ↦ rw t refl | inr f ↦ rw f m ])))

range_names : (a n j : ℕ) → a ≤ j → j < a + n → names j (range_with_len a n) ≡ true
range_names a zero j low high = absurd (omega arith)
range_names a (suc n) j low high = elim (cases_eq j a) [
  | inl same ↦ rw (eq-eqb j a same) refl
  | inr other ↦ rw (ne_eqb j a other) (range_names (a + 1) n j (omega arith) (omega arith))
]

range_within : (a n j : ℕ) → names j (range_with_len a n) ≡ true → (a ≤ j) × (j < a + n)
range_within a zero j h = absurd (cc)
range_within a (suc n) j h = elim (or_cases (nat_eq j a) (names j (range_with_len (a + 1) n)) h) [
  | inl e ↦ (let s = eqb-true j a e in (omega arith, omega arith))
  | inr t ↦ (let r = range_within (a + 1) n j t in (omega arith, omega arith))
]

both_true : (a b : Bool) → (a ≡ true → b ≡ true) → (b ≡ true → a ≡ true) → a ≡ b
both_true true b f g = sym (f refl)
both_true false true f g = g refl
both_true false false f g = refl

-- all of the set, and all images of the run but those that aren't in it
pub all_over : (p q : ℕ → Bool) (n : ℕ) (set : List ℕ) → ((j : ℕ) → names j set ≡ true → (0 < j) × (j ≤ n)) → ((j : ℕ) → 0 < j → j ≤ n → q j ≡ (not (names j set) || p j)) → list_all q (range_with_len 1 n) ≡ list_all p set
all_over p q n set within same = both_true (list_all q (range_with_len 1 n)) (list_all p set)
    (λ h. all_from p set (λ j m. (
    let w = within j m in
    let there = all_at q (range_with_len 1 n) j h (range_names 1 n j (omega arith) (omega arith)) in
    let e : (not (names j set) || p j) ≡ true = sym (same j w.0 w.1) ∙ there in
    ap (λ b. not b || p j) (sym m) ∙ e)))
    (λ h. all_from q (range_with_len 1 n) (λ j m. (
    let w = range_within 1 n j m in
    same j (omega arith) (omega arith) ∙ elim (cases_Bool (names j set)) [
      | inl t ↦ rw (t, all_at p set j h t) refl
      | inr f ↦ rw f refl
    ])))

-- ---- the tests by the state are those by what has happened
module _ (n : ℕ) (rows : List PairRow) (ended : Ended) (hs : List Happening) (i : ℕ) (low : 0 < i) (high : i ≤ n)
    (counts : (a b : ℕ) → 0 < a → a ≤ n → 0 < b → b ≤ n → count_in rows a b ≡ naming a b hs)
    (named : (j : ℕ) → 0 < j → j ≤ n → names_in rows i j ≡ names j (last_named i hs))
    (within : (j : ℕ) → names j (last_named i hs) ≡ true → (0 < j) × (j ≤ n)) (ends : TellsEnded n ended hs) where
  partner_is : (j : ℕ) → 0 < j → j ≤ n → has_partner_in rows i j ≡ has_partner i hs j
  partner_is j a b = ap (λ k. nat_le k (count_in rows j i)) (counts i j low high a b) ∙ ap (nat_le (naming i j hs)) (counts j i a b low high)

  ended_is : (j : ℕ) → 0 < j → j ≤ n → has_ended_in ended j ≡ has_ended j hs
  ended_is j a b = ap (λ c. c || flag_of ended.failed j) (ends.stopped_are j a b) ∙ ap (λ c. has_stopped j hs || c) (ends.failed_are j a b)

  pub paired_is : paired_in rows ended n i ≡ has_paired i hs
  paired_is = all_over (λ j. has_partner i hs j || has_ended j hs) (λ j. not (names_in rows i j) || (has_partner_in rows i j || has_ended_in ended j)) n (last_named i hs) within
      (λ j a b. ap (λ c. not c || (has_partner_in rows i j || has_ended_in ended j)) (named j a b)
      ∙ ap (λ c. not (names j (last_named i hs)) || (c || has_ended_in ended j)) (partner_is j a b)
      ∙ ap (λ c. not (names j (last_named i hs)) || (has_partner i hs j || c)) (ended_is j a b))

-- the status of the last one, when one thing more happens: it stays where it was closed, and else is that of now
closed_by : (i : ℕ) (hs : List Happening) (o : Option (List Happening)) (t : List Happening → Bool) (closed : Option ℤ) (b : Bool) (status : ℤ) → closed ≡ status_paired i o → b ≡ t hs → status ≡ pairing_status i hs
    → closed_now closed b status ≡ status_paired i (or_else o (front_where t hs))
closed_by i hs None t closed b status c e s = rw (c, e, s) (elim (cases_Bool (t hs)) [ inl y ↦ rw y refl | inr z ↦ rw z refl ])
closed_by i hs (Some f) t closed b status c e s = rw c refl

-- an image whose last SYNC IMAGES is the same as before: what it is told now is what closed it before, or what closes
-- it now
pub closed_more : (i n : ℕ) (hs : List Happening) (x : Happening) (closed : Option ℤ) (b : Bool) (status : ℤ) → pairs_of i (hs ++ x ∷ []) ≡ n → closed ≡ status_paired i (at_pairing i n hs)
    → b ≡ has_paired i (hs ++ x ∷ []) → status ≡ pairing_status i (hs ++ x ∷ []) → closed_now closed b status ≡ status_paired i (at_pairing i n (hs ++ x ∷ []))
closed_more i n hs x closed b status e was now s =
    closed_by i (hs ++ x ∷ []) (at_pairing i n hs) (λ f. nat_eq (pairs_of i f) n && has_paired i f) closed b status was
    (now ∙ sym (ap (λ c. c && has_paired i (hs ++ x ∷ [])) (eq-eqb (pairs_of i (hs ++ x ∷ [])) n e))) s
    ∙ ap (status_paired i) (sym (at_pairing_more i n hs x))
