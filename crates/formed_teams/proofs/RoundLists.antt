-- The rounds of a team that have closed are its first ones: lists of their numbers.
use Rattle.std.proofs.Common.{◌≡◌, ℕ, zero, suc, ◌+◌, ◌<◌, ◌≤◌, Bool, true, false, ◌&&◌, ◌||◌, not, cond, List, [], ◌∷◌, ◌++◌, inl, inr, refl, ap, sym, ◌∙◌, arith}
use Rattle.std.specs.List.{list_any, list_all, filter, range_with_len}
use Rattle.std.proofs.lemmas.Bool.{cases_Bool, both_ways, and_parts, and_from, or_cases, or_left, or_right, le-leb, leb-true}
use Rattle.object_rules.specs.Happenings.{Happening, has_ended}
use Rattle.object_rules.specs.TeamRounds.{arrivals, has_arrived, has_closed}
use Rattle.object_rules.specs.BoardTeams.{most_joined}
use Rattle.team_laws.proofs.Lists.{any_by, all_by, any_there}

-- what holds of a number holds of those below it
abbrev pub Falls : (ℕ → Bool) → Type 0
Falls p = (j k : ℕ) → j ≤ k → p k ≡ true → p j ≡ true

pub filter_none : (p : ℕ → Bool) (k m : ℕ) → ((j : ℕ) → k ≤ j → p j ≡ false) → filter p (range_with_len k m) ≡ []
filter_none p k zero h = refl
filter_none p k (suc m) h = let f = h k (omega arith) in rw f (filter_none p (k + 1) m (λ j l. h j (omega arith)))

filter_same : (p q : ℕ → Bool) (k m : ℕ) → ((j : ℕ) → k ≤ j → p j ≡ q j) → filter p (range_with_len k m) ≡ filter q (range_with_len k m)
filter_same p q k zero h = refl
filter_same p q k (suc m) h =
    ap (λ b. cond b (k ∷ filter p (range_with_len (k + 1) m)) (filter p (range_with_len (k + 1) m))) (h k (omega arith))
    ∙ ap (λ z. cond (q k) (k ∷ z) z) (filter_same p q (k + 1) m (λ j l. h j (omega arith)))

-- numbers of which it doesn't hold may come behind
pub filter_more : (p : ℕ → Bool) (k a b : ℕ) → a ≤ b → ((j : ℕ) → k + a ≤ j → p j ≡ false) → filter p (range_with_len k b) ≡ filter p (range_with_len k a)
filter_more p k zero b l h = filter_none p k b (λ j m. h j (omega arith))
filter_more p k (suc a) zero l h = absurd (omega arith)
filter_more p k (suc a) (suc b) l h = ap (λ z. cond (p k) (k ∷ z) z) (filter_more p (k + 1) a b (omega arith) (λ j m. h j (omega arith)))

-- Where more numbers hold, the new ones come behind the old ones.
pub filter_grows : (p q : ℕ → Bool) → Falls p → ((j : ℕ) → p j ≡ true → q j ≡ true) → (k m : ℕ) → filter q (range_with_len k m) ≡ filter p (range_with_len k m) ++ filter (λ j. not (p j) && q j) (range_with_len k m)
filter_grows p q falls more k zero = refl
filter_grows p q falls more k (suc m) = elim (cases_Bool (p k)) [
  | inl t ↦ (let u = more k t in rw (t, u) (ap (λ z. k ∷ z) (filter_grows p q falls more (k + 1) m)))
  | inr f ↦ (
      let off : (j : ℕ) → k ≤ j → p j ≡ false = λ j l. elim (cases_Bool (p j)) [ inl y ↦ absurd (both_ways (p k) f (falls k j l y)) | inr n ↦ n ] in
      let none = filter_none p k (suc m) off in
      filter_same q (λ j. not (p j) && q j) k (suc m) (λ j l. sym (ap (λ b. not b && q j) (off j l)))
      ∙ sym (ap (λ z. z ++ filter (λ j. not (p j) && q j) (range_with_len k (suc m))) none))
]

module _ (ms : List ℕ) (team : ℕ) (hs : List Happening) where
  arrived_falls : (j k m : ℕ) → j ≤ k → has_arrived team k m hs ≡ true → has_arrived team j m hs ≡ true
  arrived_falls j k m l h = let a = leb-true k (arrivals team m hs) h in le-leb j (arrivals team m hs) (omega arith)

  -- where a round has closed, so have those before it
  pub closed_falls : Falls (λ r. has_closed ms team r hs)
  closed_falls j k l h =
      let p = and_parts (list_any (λ m. has_arrived team k m hs) ms) (list_all (λ m. has_arrived team k m hs || has_ended m hs) ms) h in
      and_from (list_any (λ m. has_arrived team j m hs) ms) (list_all (λ m. has_arrived team j m hs || has_ended m hs) ms)
      (any_by (λ m. has_arrived team k m hs) (λ m. has_arrived team j m hs) (λ m. arrived_falls j k m l) ms p.0)
      (all_by (λ m. has_arrived team k m hs || has_ended m hs) (λ m. has_arrived team j m hs || has_ended m hs) (λ m q. elim (or_cases (has_arrived team k m hs) (has_ended m hs) q) [
        | inl a ↦ or_left (has_arrived team j m hs) (has_ended m hs) (arrived_falls j k m l a)
        | inr b ↦ or_right (has_arrived team j m hs) (has_ended m hs) b
      ]) ms p.1)

  -- a member has arrived in a round that has closed
  pub closed_arrived : (r : ℕ) → has_closed ms team r hs ≡ true → list_any (λ m. has_arrived team r m hs) ms ≡ true
  closed_arrived r h = (and_parts (list_any (λ m. has_arrived team r m hs) ms) (list_all (λ m. has_arrived team r m hs || has_ended m hs) ms) h).0

arrived_most : (team r : ℕ) (ms : List ℕ) (hs : List Happening) → list_any (λ m. has_arrived team r m hs) ms ≡ true → r ≤ most_joined team ms hs
arrived_most team r [] hs h = absurd (cc)
arrived_most team r (m ∷ ms) hs h = elim (or_cases (has_arrived team r m hs) (list_any (λ k. has_arrived team r k hs) ms) h) [
  | inl a ↦ (let l = leb-true r (arrivals team m hs) a in omega arith)
  | inr b ↦ (let l = arrived_most team r ms hs b in omega arith)
]

-- no round has closed that no member has joined
pub past_most : (team r : ℕ) (ms : List ℕ) (hs : List Happening) → most_joined team ms hs < r → has_closed ms team r hs ≡ false
past_most team r ms hs l = elim (cases_Bool (has_closed ms team r hs)) [
  | inl y ↦ absurd (let w = arrived_most team r ms hs (closed_arrived ms team hs r y) in omega arith)
  | inr n ↦ n
]

-- before anything happened none has
pub none_closed : (team r : ℕ) (ms : List ℕ) → 1 ≤ r → has_closed ms team r [] ≡ false
none_closed team r ms low = elim (cases_Bool (has_closed ms team r [])) [
  | inl y ↦ absurd (
      let a = any_there (λ m. has_arrived team r m []) ms (closed_arrived ms team [] r y) in
      let l = leb-true r 0 a.1 in
      omega arith)
  | inr n ↦ n
]

pub most_more : (team : ℕ) (ms : List ℕ) (hs gs : List Happening) → ((m : ℕ) → arrivals team m hs ≤ arrivals team m gs) → most_joined team ms hs ≤ most_joined team ms gs
most_more team [] hs gs f = omega arith
most_more team (m ∷ ms) hs gs f = let a = f m in let b = most_more team ms hs gs f in omega arith
