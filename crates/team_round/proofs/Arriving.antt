-- The state of a team's rounds, when an image arrives.
use Rattle.std.proofs.Common.{◌≡◌, ℕ, zero, suc, ◌+◌, ◌-◌, ◌<◌, ◌≤◌, Bool, true, false, ◌&&◌, ◌||◌, nat_le, List, [], ◌∷◌, ◌++◌, inl, inr, length, refl, ap, sym, ◌∙◌, subst, arith, length-set, length-append}
use Rattle.std.specs.Prelude.{slice_get, slice_set, slice_index_or, Some, None}
use Rattle.std.specs.List.{list_any, list_all}
use Rattle.std.proofs.lemmas.Bool.{cases_eq, cases_lt, eq-eqb, ne_eqb, le-leb, lt-leb}
use Rattle.std.proofs.lemmas.List.{get_or-set_same, get_or-set_other}
use Rattle.caf_events.specs.declared.round.RoundKind.{RoundKind}
use Rattle.object_rules.specs.Scans.{or_else}
use Rattle.object_rules.specs.Happenings.{Happening, arrives, is_stop, is_failure, has_stopped, has_failed, has_ended, numbers_of}
use Rattle.object_rules.specs.TeamRounds.{arrivals, has_arrived, has_closed, at_close, joins_round, opening_of}
use Rattle.object_rules.proofs.Growing.{or_else_none, arrivals_more, any_more, opening_more}
use Rattle.failure_status.specs.Endings.{Ended, AreWithin, TellsEnded}
use Rattle.failure_status.proofs.Noted.{tells_same as ended_same}
use Rattle.team_round.specs.declared.round.Round.{Round}
use Rattle.team_round.specs.TeamStates.{TeamState, joined_by, tried, status_at, TellsRound, Tells}
use Rattle.team_round.proofs.Trying.{get_same, get_other, get_index}
use Rattle.team_round.proofs.Telling.{any_same, all_same, MayClose, tells_tried, tells_same, unclosed_more, same_some, get_back}

or_false : (b : Bool) → (b || false) ≡ b
or_false true = refl
or_false false = refl

module _ (t i : ℕ) (kind : RoundKind) (line : ℕ) (hs : List Happening) where
  here : Happening
  here = arrives t i kind line

  pub count_mine : arrivals t i (hs ++ arrives t i kind line ∷ []) ≡ arrivals t i hs + 1
  count_mine = arrivals_more t i hs (arrives t i kind line) ∙ rw (eq-eqb t t refl, eq-eqb i i refl) refl

  pub count_other : (j : ℕ) → (i ≡ j → ⊥) → arrivals t j (hs ++ arrives t i kind line ∷ []) ≡ arrivals t j hs
  count_other j n =
      let a : arrivals t j (hs ++ arrives t i kind line ∷ []) ≡ arrivals t j hs + 0 = arrivals_more t j hs (arrives t i kind line) ∙ rw (eq-eqb t t refl, ne_eqb i j n) refl in
      omega arith

  pub ended_stays : (m : ℕ) → has_ended m (hs ++ arrives t i kind line ∷ []) ≡ has_ended m hs
  ended_stays m =
      ap (λ b. b || has_failed m (hs ++ arrives t i kind line ∷ [])) (any_more (is_stop m) hs (arrives t i kind line) ∙ or_false (has_stopped m hs))
      ∙ ap (λ b. has_stopped m hs || b) (any_more (is_failure m) hs (arrives t i kind line) ∙ or_false (has_failed m hs))

  -- other rounds don't hear of the arrival
  arrived_other : (r m : ℕ) → (suc (arrivals t i hs) ≡ r → ⊥) → has_arrived t r m (hs ++ arrives t i kind line ∷ []) ≡ has_arrived t r m hs
  arrived_other r m n = elim (cases_eq i m) [
    | inl same ↦ subst (λ j. has_arrived t r j (hs ++ arrives t i kind line ∷ []) ≡ has_arrived t r j hs) same (ap (nat_le r) count_mine ∙ apart)
    | inr other ↦ ap (nat_le r) (count_other m other)
  ]
    where
      apart : nat_le r (arrivals t i hs + 1) ≡ nat_le r (arrivals t i hs)
      apart = elim (cases_lt (arrivals t i hs) r) [
        | inl l ↦ lt-leb r (arrivals t i hs + 1) (let e : (suc (arrivals t i hs) ≡ r → ⊥) = n in omega arith) ∙ sym (lt-leb r (arrivals t i hs) l)
        | inr g ↦ le-leb r (arrivals t i hs + 1) (omega arith) ∙ sym (le-leb r (arrivals t i hs) g)
      ]

  pub closed_other : (ms : List ℕ) (r : ℕ) → (suc (arrivals t i hs) ≡ r → ⊥) → has_closed ms t r (hs ++ arrives t i kind line ∷ []) ≡ has_closed ms t r hs
  closed_other ms r n =
      ap (λ b. b && list_all (λ m. has_arrived t r m (hs ++ arrives t i kind line ∷ []) || has_ended m (hs ++ arrives t i kind line ∷ [])) ms)
      (any_same (λ m. has_arrived t r m (hs ++ arrives t i kind line ∷ [])) (λ m. has_arrived t r m hs) (λ m. arrived_other r m n) ms)
      ∙ ap (λ b. list_any (λ m. has_arrived t r m hs) ms && b)
      (all_same (λ m. has_arrived t r m (hs ++ arrives t i kind line ∷ []) || has_ended m (hs ++ arrives t i kind line ∷ [])) (λ m. has_arrived t r m hs || has_ended m hs)
      (λ m. ap (λ b. b || has_ended m (hs ++ arrives t i kind line ∷ [])) (arrived_other r m n) ∙ ap (λ b. has_arrived t r m hs || b) (ended_stays m)) ms)

  joins_other : (r : ℕ) → (suc (arrivals t i hs) ≡ r → ⊥) → joins_round t r hs (arrives t i kind line) ≡ None
  joins_other r n = rw (eq-eqb t t refl, ne_eqb (suc (arrivals t i hs)) r n) refl

  pub joins_here : (r : ℕ) → suc (arrivals t i hs) ≡ r → joins_round t r hs (arrives t i kind line) ≡ Some (record { kind = kind; image = i; line = line })
  joins_here r e = rw (eq-eqb t t refl, eq-eqb (suc (arrivals t i hs)) r e) refl

  -- the rounds in which one is ready to be tried: the one that the image joins
  pub record IsEntered (s : TeamState) (mid : List Round) (place : ℕ) : Type 0 where
    pub is_next : place ≡ arrivals t i hs
    pub within : place < length mid
    pub no_fewer : length s.rounds ≤ length mid
    pub others : (k : ℕ) (y : Round) → slice_get mid k ≡ Some y → (place ≡ k → ⊥) → slice_get s.rounds k ≡ Some y
    pub entered : (y : Round) → slice_get mid place ≡ Some y → MayClose t (numbers_of s.members) hs (arrives t i kind line) (suc place) y

  -- what an arrival makes of the rounds of its team
  pub tells_arrival : (n : ℕ) (s s' : TeamState) (ended : Ended) (mid : List Round) (place : ℕ) (d : Round) → 0 < i → i ≤ n → length s.joined ≡ n → AreWithin n s.members → Tells t s hs
      → TellsEnded n ended hs → IsEntered s mid place → s'.members ≡ s.members → s'.joined ≡ slice_set s.joined (i - 1) (place + 1)
      → s'.rounds ≡ slice_set mid place (tried s.members s'.joined ended (suc place) (slice_index_or mid place d)) → Tells t s' (hs ++ arrives t i kind line ∷ [])
  tells_arrival n s s' ended mid place d low high size w told ends in_ members joined rounds = record {
    counts = λ j a b. counts_now j a (let l = length-set s.joined (i - 1) (place + 1) in subst (λ c. j ≤ c) size (subst (λ c. j ≤ c) l (subst (λ js. j ≤ length js) joined b)));
    rounds = λ k y at. subst (λ ms. TellsRound t (numbers_of ms) (hs ++ arrives t i kind line ∷ []) (suc k) y) (sym members) (round_now k y at);
    no_more = λ k h. opening_more t (suc k) hs (arrives t i kind line) ∙ ap (or_else (opening_of t (suc k) hs)) (joins_other (suc k) (past k h)) ∙ or_else_none (opening_of t (suc k) hs) ∙ told.no_more k (fewer k h);
    unclosed = λ k h. subst (λ ms. at_close (numbers_of ms) t (suc k) (hs ++ arrives t i kind line ∷ []) ≡ None) (sym members) (
        unclosed_more (numbers_of s.members) t (suc k) hs (arrives t i kind line) (told.unclosed k (fewer k h)) (λ j. (let f = few_now j in let l = wide in omega arith)));
    few = λ j. (let f = few_now j in let l = wide in omega arith);
  }
    where
      wide : length s'.rounds ≡ length mid
      wide = ap length rounds ∙ length-set mid place _

      fewer : (k : ℕ) → length s'.rounds ≤ k → length s.rounds ≤ k
      fewer k h = let a = wide in let b = in_.no_fewer in omega arith

      past : (k : ℕ) → length s'.rounds ≤ k → suc (arrivals t i hs) ≡ suc k → ⊥
      past k h e = let a = wide in let b = in_.within in let c = in_.is_next in omega arith

      few_now : (j : ℕ) → arrivals t j (hs ++ arrives t i kind line ∷ []) ≤ length mid
      few_now j = elim (cases_eq i j) [
        | inl same ↦ subst (λ q. arrivals t q (hs ++ arrives t i kind line ∷ []) ≤ length mid) same (let a = count_mine in let b = in_.within in let c = in_.is_next in omega arith)
        | inr other ↦ (let a = count_other j other in let b = told.few j in let c = in_.no_fewer in omega arith)
      ]

      counts_now : (j : ℕ) → 0 < j → j ≤ n → joined_by s'.joined j ≡ arrivals t j (hs ++ arrives t i kind line ∷ [])
      counts_now j a b = ap (λ l. joined_by l j) joined ∙ elim (cases_eq i j) [
        | inl same ↦ subst (λ q. slice_index_or (slice_set s.joined (i - 1) (place + 1)) (q - 1) 0 ≡ arrivals t q (hs ++ arrives t i kind line ∷ [])) same
            (get_or-set_same s.joined (i - 1) (place + 1) 0 (omega arith) ∙ ap (λ p. p + 1) in_.is_next ∙ sym count_mine)
        | inr other ↦ get_or-set_other s.joined (i - 1) (j - 1) (place + 1) 0 (λ e. other (omega arith)) ∙ told.counts j a (omega arith) ∙ sym (count_other j other)
      ]

      here_now : (y z : Round) → slice_get mid place ≡ Some z → slice_get s'.rounds place ≡ Some y → TellsRound t (numbers_of s.members) (hs ++ arrives t i kind line ∷ []) (suc place) y
      here_now y z h at =
          let e : y ≡ tried s.members s'.joined ended (suc place) z =
          same_some y _ (sym at ∙ ap (λ rs. slice_get rs place) rounds ∙ get_same mid place _ in_.within ∙ ap (λ q. Some (tried s.members s'.joined ended (suc place) q)) (get_index mid place z d h)) in
          subst (TellsRound t (numbers_of s.members) (hs ++ arrives t i kind line ∷ []) (suc place)) (sym e)
          (tells_tried t n s.members s'.joined ended hs (arrives t i kind line) (suc place) z counts_now (ended_same n ended hs (arrives t i kind line) (λ j. refl) (λ j. refl) ends) w (in_.entered z h))

      round_now : (k : ℕ) (y : Round) → slice_get s'.rounds k ≡ Some y → TellsRound t (numbers_of s.members) (hs ++ arrives t i kind line ∷ []) (suc k) y
      round_now k y at = elim (cases_eq place k) [
        | inl same ↦ (
            let z = get_back mid place in_.within in
            subst (λ q. TellsRound t (numbers_of s.members) (hs ++ arrives t i kind line ∷ []) (suc q) y) same (here_now y z.0 z.1 (ap (slice_get s'.rounds) same ∙ at)))
        | inr other ↦ (
            let was : slice_get mid k ≡ Some y = sym (ap (λ rs. slice_get rs k) rounds ∙ get_other mid place k _ other) ∙ at in
            let next = in_.is_next in
            tells_same t (numbers_of s.members) hs (arrives t i kind line) (suc k) y (joins_other (suc k) (λ e. other (omega arith))) (closed_other (numbers_of s.members) (suc k) (λ e. other (omega arith)))
            (told.rounds k y (in_.others k y was other)))
      ]

  -- it joins a round that has an arrival
  pub enters_round : (s : TeamState) (place : ℕ) → place ≡ arrivals t i hs → place < length s.rounds → Tells t s hs → IsEntered s s.rounds place
  enters_round s place next h told = record {
    is_next = next;
    within = h;
    no_fewer = omega arith;
    others = λ k y at n. at;
    entered = λ y at. (
        let r = told.rounds place y at in
        record {
          opened = opening_more t (suc place) hs (arrives t i kind line) ∙ ap (λ o. or_else o (joins_round t (suc place) hs (arrives t i kind line))) r.opened ∙ sym refl;
          was = r.closed;
        });
  }

  last_is : (rs : List Round) (y : Round) (k : ℕ) (z : Round) → slice_get (rs ++ y ∷ []) k ≡ Some z → (length rs ≡ k → ⊥) → slice_get rs k ≡ Some z
  last_is [] y zero z h n = absurd (n refl)
  last_is [] y (suc k) z h n = h
  last_is (x ∷ xs) y zero z h n = h
  last_is (x ∷ xs) y (suc k) z h n = last_is xs y k z h (λ e. n (ap suc e))

  at_last : (rs : List Round) (y : Round) → slice_get (rs ++ y ∷ []) (length rs) ≡ Some y
  at_last [] y = refl
  at_last (x ∷ xs) y = at_last xs y

  -- it opens a round
  pub opens_round : (s : TeamState) (place : ℕ) → place ≡ arrivals t i hs → length s.rounds ≤ place → Tells t s hs
      → IsEntered s (s.rounds ++ record { kind = kind; image = record { 0 = i }; line = line; closed = None } ∷ []) place
  opens_round s place next h told =
      let f = told.few i in
      let size : place ≡ length s.rounds = omega arith in
      record {
        is_next = next;
        within = (let l = length-append s.rounds (record { kind = kind; image = record { 0 = i }; line = line; closed = None } ∷ []) in omega arith);
        no_fewer = (let l = length-append s.rounds (record { kind = kind; image = record { 0 = i }; line = line; closed = None } ∷ []) in omega arith);
        others = λ k y at n. last_is s.rounds _ k y at (λ e. n (size ∙ e));
        entered = λ y at. (
            let e = same_some _ y (sym (ap (slice_get (s.rounds ++ record { kind = kind; image = record { 0 = i }; line = line; closed = None } ∷ [])) size ∙ at_last s.rounds _) ∙ at) in
            subst (MayClose t (numbers_of s.members) hs (arrives t i kind line) (suc place)) e (record {
              opened = opening_more t (suc place) hs (arrives t i kind line) ∙ ap (λ o. or_else o (joins_round t (suc place) hs (arrives t i kind line))) (told.no_more place h) ∙ joins_here (suc place) (ap suc (sym next));
              was = ap (status_at (numbers_of s.members)) (sym (told.unclosed place h));
            }));
      }
