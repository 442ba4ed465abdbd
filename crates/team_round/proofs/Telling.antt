-- The state of a team's rounds, when one thing more happens.
use Rattle.std.proofs.Common.{◌≡◌, ℕ, zero, suc, ◌+◌, ◌<◌, ◌≤◌, Bool, true, false, ◌&&◌, ◌||◌, nat_le, nat_lt, cond, List, [], ◌∷◌, ◌++◌, inl, inr, length, refl, ap, sym, ◌∙◌, subst, arith}
use Rattle.std.specs.Prelude.{◌⊎◌, ℤ, slice_get, Option, Some, None}
use Rattle.std.specs.List.{list_any, list_all, AllByRecursion}
use Rattle.std.proofs.lemmas.Bool.{cases_eq, cases_lt, cases_Bool, ne_eqb, le-leb, lt-leb, and_left, lt-ltb}
use Rattle.std.proofs.lemmas.List.Elements.{recursion_from_All}
use Rattle.caf_base.specs.declared.place.ImageNo.{ImageNo}
use Rattle.object_rules.specs.Scans.{or_else, front_where}
use Rattle.object_rules.specs.Happenings.{Happening, stops, fails, is_stop, is_failure, has_stopped, has_failed, has_ended, numbers_of}
use Rattle.object_rules.specs.TeamRounds.{is_arrival, arrivals, has_arrived, has_closed, at_close, joins_round, opening_of, missed_by, status_of}
use Rattle.object_rules.proofs.Growing.{or_else_none, arrivals_more, any_more, at_close_more, close_stays, opening_more}
use Rattle.failure_status.specs.Endings.{Ended, AreWithin, flag_of, has_ended_in, status_in, end_of, TellsEnded}
use Rattle.team_round.specs.declared.round.Round.{Round}
use Rattle.team_round.specs.TeamStates.{TeamState, joined_by, any_arrived, all_done, closes_by, closed_with, tried, IsTried, missed_status, status_at, TellsRound, Tells}
use Rattle.team_round.proofs.Trying.{get_within}

pub any_same : {A : Type 0} (p q : A → Bool) → ((a : A) → p a ≡ q a) → (xs : List A) → list_any p xs ≡ list_any q xs
any_same p q h [] = refl
any_same p q h (x ∷ xs) = ap (λ b. b || list_any p xs) (h x) ∙ ap (λ b. q x || b) (any_same p q h xs)

pub all_same : {A : Type 0} (p q : A → Bool) → ((a : A) → p a ≡ q a) → (xs : List A) → list_all p xs ≡ list_all q xs
all_same p q h [] = refl
all_same p q h (x ∷ xs) = ap (λ b. b && list_all p xs) (h x) ∙ ap (λ b. q x && b) (all_same p q h xs)

any_none : {A : Type 0} (p : A → Bool) → ((a : A) → p a ≡ false) → (xs : List A) → list_any p xs ≡ false
any_none p h [] = refl
any_none p h (x ∷ xs) = ap (λ b. b || list_any p xs) (h x) ∙ any_none p h xs

or_false : (b : Bool) → (b || false) ≡ b
or_false true = refl
or_false false = refl

-- ---- the tests by the state are those by what has happened
module _ (t n : ℕ) (joined : List ℕ) (ended : Ended) (hs : List Happening) (counts : (i : ℕ) → 0 < i → i ≤ n → joined_by joined i ≡ arrivals t i hs) (ends : TellsEnded n ended hs) where
  In : ImageNo → Type 0
  In m = (0 < m.0) × (m.0 ≤ n)

  any_is : (r : ℕ) (ms : List ImageNo) → AllByRecursion (λ m. (0 < m.0) × (m.0 ≤ n)) ms → any_arrived joined r ms ≡ list_any (λ m. has_arrived t r m hs) (numbers_of ms)
  any_is r [] w = refl
  any_is r (m ∷ ms) w =
      ap (λ k. nat_le r k || any_arrived joined r ms) (counts m.0 w.0.0 w.0.1)
      ∙ ap (λ b. has_arrived t r m.0 hs || b) (any_is r ms w.1)

  done_is : (r : ℕ) (ms : List ImageNo) → AllByRecursion (λ m. (0 < m.0) × (m.0 ≤ n)) ms → all_done joined ended r ms ≡ list_all (λ m. has_arrived t r m hs || has_ended m hs) (numbers_of ms)
  done_is r [] w = refl
  done_is r (m ∷ ms) w =
      ap (λ k. (nat_le r k || has_ended_in ended m.0) && all_done joined ended r ms) (counts m.0 w.0.0 w.0.1)
      ∙ ap (λ b. (has_arrived t r m.0 hs || (b || flag_of ended.failed m.0)) && all_done joined ended r ms) (ends.stopped_are m.0 w.0.0 w.0.1)
      ∙ ap (λ b. (has_arrived t r m.0 hs || (has_stopped m.0 hs || b)) && all_done joined ended r ms) (ends.failed_are m.0 w.0.0 w.0.1)
      ∙ ap (λ b. (has_arrived t r m.0 hs || has_ended m.0 hs) && b) (done_is r ms w.1)

  pub closes_is : (r : ℕ) (ms : List ImageNo) → AreWithin n ms → closes_by ms joined ended r ≡ has_closed (numbers_of ms) t r hs
  closes_is r ms w =
      let v = recursion_from_All (λ m. (0 < m.0) × (m.0 ≤ n)) ms w in
      ap (λ b. b && all_done joined ended r ms) (any_is r ms v) ∙ ap (λ b. list_any (λ m. has_arrived t r m hs) (numbers_of ms) && b) (done_is r ms v)

  stopped_is : (ms : List ImageNo) → AllByRecursion (λ m. (0 < m.0) × (m.0 ≤ n)) ms → list_any (λ m. flag_of ended.stopped m.0) ms ≡ list_any (λ m. has_stopped m hs) (numbers_of ms)
  stopped_is [] w = refl
  stopped_is (m ∷ ms) w = ap (λ b. b || list_any (λ m. flag_of ended.stopped m.0) ms) (ends.stopped_are m.0 w.0.0 w.0.1) ∙ ap (λ b. has_stopped m.0 hs || b) (stopped_is ms w.1)

  failed_is : (ms : List ImageNo) → AllByRecursion (λ m. (0 < m.0) × (m.0 ≤ n)) ms → list_any (λ m. flag_of ended.failed m.0) ms ≡ list_any (λ m. has_failed m hs) (numbers_of ms)
  failed_is [] w = refl
  failed_is (m ∷ ms) w = ap (λ b. b || list_any (λ m. flag_of ended.failed m.0) ms) (ends.failed_are m.0 w.0.0 w.0.1) ∙ ap (λ b. has_failed m.0 hs || b) (failed_is ms w.1)

  pub status_is : (ms : List ImageNo) → AreWithin n ms → status_in ended ms ≡ missed_status (missed_by (numbers_of ms) hs)
  status_is ms w =
      let v = recursion_from_All (λ m. (0 < m.0) × (m.0 ≤ n)) ms w in
      ap (λ b. status_of b (list_any (λ m. flag_of ended.failed m.0) ms)) (stopped_is ms v) ∙ ap (status_of (list_any (λ m. has_stopped m hs) (numbers_of ms))) (failed_is ms v)

-- ---- a round that is tried
tried_by : (ms : List ℕ) (hs : List Happening) (o : Option (List Happening)) (test : List Happening → Bool) (closed : Option ℤ) (b : Bool) (status : ℤ) → closed ≡ status_at ms o → b ≡ test hs → status ≡ missed_status (missed_by ms hs) → closed_with closed b status ≡ status_at ms (or_else o (front_where test hs))
tried_by ms hs None test closed b status c e s = rw (c, e, s) (elim (cases_Bool (test hs)) [ inl y ↦ rw y refl | inr z ↦ rw z refl ])
tried_by ms hs (Some f) test closed b status c e s = rw c refl

-- what is known of a round in which someone arrives, or that an end may close: it is opened, and was closed as before
pub record MayClose (t : ℕ) (ms : List ℕ) (hs : List Happening) (x : Happening) (r : ℕ) (y : Round) : Type 0 where
  pub opened : opening_of t r (hs ++ x ∷ []) ≡ Some (record { kind = y.kind; image = y.image.0; line = y.line })
  pub was : y.closed ≡ status_at ms (at_close ms t r hs)

pub tells_tried : (t n : ℕ) (ms : List ImageNo) (joined : List ℕ) (ended : Ended) (hs : List Happening) (x : Happening) (r : ℕ) (y : Round)
    → ((i : ℕ) → 0 < i → i ≤ n → joined_by joined i ≡ arrivals t i (hs ++ x ∷ [])) → TellsEnded n ended (hs ++ x ∷ []) → AreWithin n ms
    → MayClose t (numbers_of ms) hs x r y → TellsRound t (numbers_of ms) (hs ++ x ∷ []) r (tried ms joined ended r y)
tells_tried t n ms joined ended hs x r y counts ends w m = record {
  opened = m.opened;
  closed =
      tried_by (numbers_of ms) (hs ++ x ∷ []) (at_close (numbers_of ms) t r hs) (has_closed (numbers_of ms) t r) y.closed (closes_by ms joined ended r) (status_in ended ms) m.was
      (closes_is t n joined ended (hs ++ x ∷ []) counts ends r ms w) (status_is t n joined ended (hs ++ x ∷ []) counts ends ms w)
      ∙ ap (status_at (numbers_of ms)) (sym (at_close_more (numbers_of ms) t r hs x));
}

-- a round that nothing touches
pub tells_same : (t : ℕ) (ms : List ℕ) (hs : List Happening) (x : Happening) (r : ℕ) (y : Round) → joins_round t r hs x ≡ None → has_closed ms t r (hs ++ x ∷ []) ≡ has_closed ms t r hs → TellsRound t ms hs r y → TellsRound t ms (hs ++ x ∷ []) r y
tells_same t ms hs x r y j e told = record {
  opened = opening_more t r hs x ∙ ap (or_else (opening_of t r hs)) j ∙ or_else_none (opening_of t r hs) ∙ told.opened;
  closed = told.closed ∙ ap (status_at ms) (sym (close_stays ms t r hs x e));
}

-- a round in which nobody has arrived hasn't closed
pub none_closed : (ms : List ℕ) (t r : ℕ) (hs : List Happening) → ((i : ℕ) → arrivals t i hs < r) → has_closed ms t r hs ≡ false
none_closed ms t r hs few = and_left _ _ (any_none (λ m. has_arrived t r m hs) (λ m. lt-leb r (arrivals t m hs) (few m)) ms)

pub unclosed_more : (ms : List ℕ) (t r : ℕ) (hs : List Happening) (x : Happening) → at_close ms t r hs ≡ None → ((i : ℕ) → arrivals t i (hs ++ x ∷ []) < r) → at_close ms t r (hs ++ x ∷ []) ≡ None
unclosed_more ms t r hs x u few =
    let none = none_closed ms t r (hs ++ x ∷ []) few in
    at_close_more ms t r hs x ∙ ap (λ o. or_else o (front_where (has_closed ms t r) (hs ++ x ∷ []))) u ∙ rw none refl

-- ---- an image stops or fails
no_arrival : (t j i : ℕ) (failed : Bool) → is_arrival t j (end_of i failed) ≡ false
no_arrival t j i true = refl
no_arrival t j i false = refl

pub joins_none : (t r i : ℕ) (failed : Bool) (hs : List Happening) → joins_round t r hs (end_of i failed) ≡ None
joins_none t r i true hs = refl
joins_none t r i false hs = refl

pub end_counts : (t j i : ℕ) (failed : Bool) (hs : List Happening) → arrivals t j (hs ++ end_of i failed ∷ []) ≡ arrivals t j hs
end_counts t j i failed hs =
    let a = arrivals_more t j hs (end_of i failed) ∙ ap (λ b. arrivals t j hs + cond b 1 0) (no_arrival t j i failed) in
    omega arith

ended_other : (j i : ℕ) (failed : Bool) (hs : List Happening) → (i ≡ j → ⊥) → has_ended j (hs ++ end_of i failed ∷ []) ≡ has_ended j hs
ended_other j i true hs n =
    ap (λ b. b || has_failed j (hs ++ fails i ∷ [])) (any_more (is_stop j) hs (fails i) ∙ or_false (has_stopped j hs))
    ∙ ap (λ b. has_stopped j hs || b) (any_more (is_failure j) hs (fails i) ∙ ap (λ b. has_failed j hs || b) (ne_eqb i j n) ∙ or_false (has_failed j hs))
ended_other j i false hs n =
    ap (λ b. b || has_failed j (hs ++ stops i ∷ [])) (any_more (is_stop j) hs (stops i) ∙ ap (λ b. has_stopped j hs || b) (ne_eqb i j n) ∙ or_false (has_stopped j hs))
    ∙ ap (λ b. has_stopped j hs || b) (any_more (is_failure j) hs (stops i) ∙ or_false (has_failed j hs))

-- a round that the image has joined doesn't wait for its end
pub end_closed : (ms : List ℕ) (t r i : ℕ) (failed : Bool) (hs : List Happening) → r ≤ arrivals t i hs → has_closed ms t r (hs ++ end_of i failed ∷ []) ≡ has_closed ms t r hs
end_closed ms t r i failed hs joined =
    ap (λ b. b && list_all (λ m. has_arrived t r m (hs ++ end_of i failed ∷ []) || has_ended m (hs ++ end_of i failed ∷ [])) ms)
    (any_same (λ m. has_arrived t r m (hs ++ end_of i failed ∷ [])) (λ m. has_arrived t r m hs) (λ m. ap (nat_le r) (end_counts t m i failed hs)) ms)
    ∙ ap (λ b. list_any (λ m. has_arrived t r m hs) ms && b)
    (all_same (λ m. has_arrived t r m (hs ++ end_of i failed ∷ []) || has_ended m (hs ++ end_of i failed ∷ [])) (λ m. has_arrived t r m hs || has_ended m hs) each ms)
  where
    each : (m : ℕ) → (has_arrived t r m (hs ++ end_of i failed ∷ []) || has_ended m (hs ++ end_of i failed ∷ [])) ≡ (has_arrived t r m hs || has_ended m hs)
    each m =
        ap (λ k. nat_le r k || has_ended m (hs ++ end_of i failed ∷ [])) (end_counts t m i failed hs)
        ∙ elim (cases_eq i m) [
          | inl same ↦ (let there : nat_le r (arrivals t m hs) ≡ true = le-leb r (arrivals t m hs) (subst (λ j. r ≤ arrivals t j hs) same joined) in rw there refl)
          | inr other ↦ ap (λ b. has_arrived t r m hs || b) (ended_other m i failed hs other)
        ]

cond_parts : (from k to : ℕ) → k < to → ((k < from) × ((nat_le from k && nat_lt k to) ≡ false)) ⊎ ((from ≤ k) × ((nat_le from k && nat_lt k to) ≡ true))
cond_parts from k to h = elim (cases_lt k from) [
  | inl l ↦ inl (l, rw (lt-leb from k l) refl)
  | inr g ↦ inr (g, rw (le-leb from k g, lt-ltb k to h) refl)
]

pub get_back : {A : Type 0} (xs : List A) (k : ℕ) → k < length xs → (x : A) × (slice_get xs k ≡ Some x)
get_back [] k h = absurd (omega arith)
get_back (x ∷ xs) zero h = (x, refl)
get_back (x ∷ xs) (suc k) h = get_back xs k (omega arith)

pub same_some : {A : Type 0} (x y : A) → Some x ≡ Some y → x ≡ y
same_some x y h = cc

-- what an image's end makes of the rounds of a team
pub tells_end : (t n : ℕ) (s s' : TeamState) (ended : Ended) (hs : List Happening) (i : ℕ) (failed : Bool) → 0 < i → i ≤ n → length s.joined ≡ n → AreWithin n s.members → Tells t s hs
    → TellsEnded n ended (hs ++ end_of i failed ∷ []) → s'.members ≡ s.members → s'.joined ≡ s.joined
    → IsTried s.members s.joined ended (joined_by s.joined i) (length s.rounds) s.rounds s'.rounds → Tells t s' (hs ++ end_of i failed ∷ [])
tells_end t n s s' ended hs i failed low high size w told ends members joined by = record {
  counts = λ j a b. ap (λ l. joined_by l j) joined ∙ counts_now j a (subst (λ l. j ≤ length l) joined b);
  rounds = λ k y at. subst (λ ms. TellsRound t (numbers_of ms) (hs ++ end_of i failed ∷ []) (suc k) y) (sym members) (round_now k y at);
  no_more = λ k h. opening_more t (suc k) hs (end_of i failed) ∙ ap (or_else (opening_of t (suc k) hs)) (joins_none t (suc k) i failed hs) ∙ or_else_none (opening_of t (suc k) hs) ∙ told.no_more k (fewer k h);
  unclosed = λ k h. subst (λ ms. at_close (numbers_of ms) t (suc k) (hs ++ end_of i failed ∷ []) ≡ None) (sym members) (
      unclosed_more (numbers_of s.members) t (suc k) hs (end_of i failed) (told.unclosed k (fewer k h)) (λ j. (let f = told.few j in let g = end_counts t j i failed hs in let l = fewer k h in omega arith)));
  few = λ j. (let f = told.few j in let g = end_counts t j i failed hs in let c = by.as_many in omega arith);
}
  where
    fewer : (k : ℕ) → length s'.rounds ≤ k → length s.rounds ≤ k
    fewer k h = let c = by.as_many in omega arith

    counts_now : (j : ℕ) → 0 < j → j ≤ length s.joined → joined_by s.joined j ≡ arrivals t j (hs ++ end_of i failed ∷ [])
    counts_now j a b = told.counts j a b ∙ sym (end_counts t j i failed hs)

    round_from : (k : ℕ) (z y : Round) → slice_get s.rounds k ≡ Some z → slice_get s'.rounds k ≡ Some y → TellsRound t (numbers_of s.members) (hs ++ end_of i failed ∷ []) (suc k) y
    round_from k z y h at =
        let was = told.rounds k z h in
        let now = by.each k z h in
        let from = joined_by s.joined i in
        elim (cond_parts from k (length s.rounds) (get_within s.rounds k z h)) [
          | inl l ↦ (
              let e : y ≡ z = same_some y z (sym at ∙ now ∙ ap (λ b. Some (cond b (tried s.members s.joined ended (suc k) z) z)) l.1) in
              let joined_it : suc k ≤ arrivals t i hs = subst (λ c. k < c) (told.counts i low (omega arith)) l.0 in
              subst (TellsRound t (numbers_of s.members) (hs ++ end_of i failed ∷ []) (suc k)) (sym e)
              (tells_same t (numbers_of s.members) hs (end_of i failed) (suc k) z (joins_none t (suc k) i failed hs) (end_closed (numbers_of s.members) t (suc k) i failed hs joined_it) was))
          | inr g ↦ (
              let e : y ≡ tried s.members s.joined ended (suc k) z = same_some y (tried s.members s.joined ended (suc k) z) (sym at ∙ now ∙ ap (λ b. Some (cond b (tried s.members s.joined ended (suc k) z) z)) g.1) in
              subst (TellsRound t (numbers_of s.members) (hs ++ end_of i failed ∷ []) (suc k)) (sym e)
              (tells_tried t n s.members s.joined ended hs (end_of i failed) (suc k) z (λ j a b. counts_now j a (omega arith)) ends w (record {
                opened = opening_more t (suc k) hs (end_of i failed) ∙ ap (or_else (opening_of t (suc k) hs)) (joins_none t (suc k) i failed hs) ∙ or_else_none (opening_of t (suc k) hs) ∙ was.opened;
                was = was.closed;
              })))
        ]

    round_now : (k : ℕ) (y : Round) → slice_get s'.rounds k ≡ Some y → TellsRound t (numbers_of s.members) (hs ++ end_of i failed ∷ []) (suc k) y
    round_now k y at =
        let b = get_within s'.rounds k y at in
        let c = by.as_many in
        let z = get_back s.rounds k (omega arith) in
        round_from k z.0 y z.1 at
