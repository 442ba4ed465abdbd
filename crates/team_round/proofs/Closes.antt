-- Which rounds close by an arrival or by an end, by the state and by what has happened.
use Rattle.std.proofs.Common.{◌≡◌, ℕ, suc, ◌+◌, ◌-◌, ◌<◌, ◌≤◌, Bool, true, false, ◌&&◌, ◌||◌, not, nat_eq, nat_le, cond, List, [], ◌∷◌, ◌++◌, inl, inr, length, refl, ap, sym, ◌∙◌, subst, arith}
use Rattle.std.specs.Prelude.{slice_set, slice_index_or, Option, Some, None}
use Rattle.std.specs.List.{list_any, list_all, AllByRecursion}
use Rattle.std.proofs.lemmas.Bool.{cases_eq, eq-eqb, ne_eqb, le-leb}
use Rattle.std.proofs.lemmas.List.{get_or-set_same, get_or-set_other}
use Rattle.std.proofs.lemmas.List.Elements.{recursion_from_All}
use Rattle.caf_base.specs.declared.place.ImageNo.{ImageNo}
use Rattle.caf_events.specs.declared.round.RoundKind.{RoundKind}
use Rattle.object_rules.specs.Happenings.{Happening, arrives, numbers_of}
use Rattle.object_rules.specs.TeamRounds.{arrivals, has_closed, missed_by}
use Rattle.failure_status.specs.Endings.{Ended, AreWithin, flag_of, marked, has_ended_in, status_in, end_of, ended_with, TellsEnded}
use Rattle.failure_status.proofs.Noted.{flag_with, tells_end as ended_end, tells_same as ended_same}
use Rattle.team_round.specs.TeamStates.{TeamState, joined_by, any_arrived, all_done, any_but, all_but, closes_by, missed_status, closing_at, Tells, IsTold}
use Rattle.team_round.proofs.Telling.{closes_is, status_is, end_counts}
use Rattle.team_round.proofs.Arriving.{count_mine, count_other}

-- ---- the image that arrives
joined_now : (joined : List ℕ) (i r j : ℕ) → 0 < i → i ≤ length joined → 0 < j → (nat_eq j i || nat_le r (joined_by joined j)) ≡ nat_le r (joined_by (slice_set joined (i - 1) r) j)
joined_now joined i r j low high first = elim (cases_eq i j) [
  | inl same ↦ (
      let e : joined_by (slice_set joined (i - 1) r) j ≡ r = ap (joined_by (slice_set joined (i - 1) r)) (sym same) ∙ get_or-set_same joined (i - 1) r 0 (omega arith) in
      rw (eq-eqb j i (sym same), e) (sym (le-leb r r (omega arith))))
  | inr other ↦ (
      let e : joined_by (slice_set joined (i - 1) r) j ≡ joined_by joined j = get_or-set_other joined (i - 1) (j - 1) r 0 (λ q. other (omega arith)) in
      rw (ne_eqb j i (λ q. other (sym q)), e) refl)
]

any_joined : (joined : List ℕ) (i r : ℕ) (ms : List ImageNo) → 0 < i → i ≤ length joined → AllByRecursion (λ m. (0 < m.0) × (m.0 ≤ length joined)) ms → any_but joined i r ms ≡ any_arrived (slice_set joined (i - 1) r) r ms
any_joined joined i r [] low high w = refl
any_joined joined i r (m ∷ ms) low high w =
    ap (λ b. b || any_but joined i r ms) (joined_now joined i r m.0 low high w.0.0)
    ∙ ap (λ b. nat_le r (joined_by (slice_set joined (i - 1) r) m.0) || b) (any_joined joined i r ms low high w.1)

or_three : (a b c : Bool) → (a || (b || c)) ≡ ((a || b) || c)
or_three true b c = refl
or_three false b c = refl

all_joined : (joined : List ℕ) (ended : Ended) (i r : ℕ) (ms : List ImageNo) → 0 < i → i ≤ length joined → AllByRecursion (λ m. (0 < m.0) × (m.0 ≤ length joined)) ms → all_but joined ended i r ms ≡ all_done (slice_set joined (i - 1) r) ended r ms
all_joined joined ended i r [] low high w = refl
all_joined joined ended i r (m ∷ ms) low high w =
    ap (λ b. b && all_but joined ended i r ms) (or_three (nat_eq m.0 i) (nat_le r (joined_by joined m.0)) (has_ended_in ended m.0) ∙ ap (λ b. b || has_ended_in ended m.0) (joined_now joined i r m.0 low high w.0.0))
    ∙ ap (λ b. (nat_le r (joined_by (slice_set joined (i - 1) r) m.0) || has_ended_in ended m.0) && b) (all_joined joined ended i r ms low high w.1)

-- ---- the image that ends
last_in : (e a s f : Bool) → (e || (a || (s || f))) ≡ (a || (s || (e || f)))
last_in true true s f = refl
last_in true false true f = refl
last_in true false false f = refl
last_in false a s f = refl

first_in : (e a s f : Bool) → (e || (a || (s || f))) ≡ (a || ((e || s) || f))
first_in true true s f = refl
first_in true false s f = refl
first_in false a s f = refl

end_one : (ended : Ended) (i j : ℕ) (failed a : Bool) → 0 < i → 0 < j → i ≤ length ended.stopped → i ≤ length ended.failed → (nat_eq j i || (a || has_ended_in ended j)) ≡ (a || has_ended_in (ended_with ended i failed) j)
end_one ended i j true a low first s f = last_in (nat_eq j i) a (flag_of ended.stopped j) (flag_of ended.failed j) ∙ ap (λ b. a || (flag_of ended.stopped j || b)) (flag_with ended.failed i j low first f)
end_one ended i j false a low first s f = first_in (nat_eq j i) a (flag_of ended.stopped j) (flag_of ended.failed j) ∙ ap (λ b. a || (b || flag_of ended.failed j)) (flag_with ended.stopped i j low first s)

all_ending : (n : ℕ) (joined : List ℕ) (ended : Ended) (i r : ℕ) (failed : Bool) (ms : List ImageNo) → 0 < i → i ≤ length ended.stopped → i ≤ length ended.failed → AllByRecursion (λ m. (0 < m.0) × (m.0 ≤ n)) ms
    → all_but joined ended i r ms ≡ all_done joined (ended_with ended i failed) r ms
all_ending n joined ended i r failed [] low s f w = refl
all_ending n joined ended i r failed (m ∷ ms) low s f w =
    ap (λ b. b && all_but joined ended i r ms) (end_one ended i m.0 failed (nat_le r (joined_by joined m.0)) low w.0.0 s f)
    ∙ ap (λ b. (nat_le r (joined_by joined m.0) || has_ended_in (ended_with ended i failed) m.0) && b) (all_ending n joined ended i r failed ms low s f w.1)

-- ---- the status of a close
and_three : (a b c : Bool) → (a && b && c) ≡ (a && (b && c))
and_three true b c = refl
and_three false b c = refl

chosen : (was now : Bool) (ms : List ℕ) (t r : ℕ) (before after : List Happening) (status : _) → was ≡ has_closed ms t r before → now ≡ has_closed ms t r after → status ≡ missed_status (missed_by ms after)
    → cond (not was && now) (Some status) None ≡ closing_at ms t before after r
chosen was now ms t r before after status a b c = rw (a, b, c) refl

module _ (t : ℕ) (s : TeamState) (ended : Ended) (hs : List Happening) (i : ℕ) (low : 0 < i) (high : i ≤ length s.joined) (w : AreWithin (length s.joined) s.members) (told : IsTold t s ended hs) where
  counts_now : (kind : RoundKind) (line j : ℕ) → 0 < j → j ≤ length s.joined → joined_by (slice_set s.joined (i - 1) (joined_by s.joined i + 1)) j ≡ arrivals t j (hs ++ arrives t i kind line ∷ [])
  counts_now kind line j a b = elim (cases_eq i j) [
    | inl same ↦ subst (λ q. joined_by (slice_set s.joined (i - 1) (joined_by s.joined i + 1)) q ≡ arrivals t q (hs ++ arrives t i kind line ∷ [])) same
        (get_or-set_same s.joined (i - 1) (joined_by s.joined i + 1) 0 (omega arith) ∙ ap (λ p. p + 1) (told.team_told.counts i low high) ∙ sym (count_mine t i kind line hs))
    | inr other ↦ get_or-set_other s.joined (i - 1) (j - 1) (joined_by s.joined i + 1) 0 (λ e. other (omega arith)) ∙ told.team_told.counts j a b ∙ sym (count_other t i kind line hs j other)
  ]

  -- a round that closes by an arrival
  pub arrival_closes : (kind : RoundKind) (line r : ℕ) → r ≡ joined_by s.joined i + 1
      → cond (not (closes_by s.members s.joined ended r) && any_but s.joined i r s.members && all_but s.joined ended i r s.members) (Some (status_in ended s.members)) None
      ≡ closing_at (numbers_of s.members) t hs (hs ++ arrives t i kind line ∷ []) (arrivals t i hs + 1)
  arrival_closes kind line r is =
      let v = recursion_from_All (λ m. (0 < m.0) × (m.0 ≤ length s.joined)) s.members w in
      let ends = ended_same (length s.joined) ended hs (arrives t i kind line) (λ j. refl) (λ j. refl) told.ended_told in
      let count : r ≡ arrivals t i hs + 1 = is ∙ ap (λ c. c + 1) (told.team_told.counts i low high) in
      let joins : (any_but s.joined i r s.members && all_but s.joined ended i r s.members) ≡ closes_by s.members (slice_set s.joined (i - 1) r) ended r =
      ap (λ b. b && all_but s.joined ended i r s.members) (any_joined s.joined i r s.members low high v) ∙ ap (λ b. any_arrived (slice_set s.joined (i - 1) r) r s.members && b) (all_joined s.joined ended i r s.members low high v) in
      let now : closes_by s.members (slice_set s.joined (i - 1) r) ended r ≡ has_closed (numbers_of s.members) t r (hs ++ arrives t i kind line ∷ []) =
      closes_is t (length s.joined) (slice_set s.joined (i - 1) r) ended (hs ++ arrives t i kind line ∷ []) (subst (λ q. (j : ℕ) → 0 < j → j ≤ length s.joined → joined_by (slice_set s.joined (i - 1) q) j ≡ arrivals t j (hs ++ arrives t i kind line ∷ [])) (sym is) (counts_now kind line)) ends r s.members w in
      ap (λ b. cond b (Some (status_in ended s.members)) None) (and_three (not (closes_by s.members s.joined ended r)) (any_but s.joined i r s.members) (all_but s.joined ended i r s.members))
      ∙ chosen _ _ (numbers_of s.members) t r hs (hs ++ arrives t i kind line ∷ []) (status_in ended s.members)
      (closes_is t (length s.joined) s.joined ended hs told.team_told.counts told.ended_told r s.members w) (joins ∙ now)
      (status_is t (length s.joined) (slice_set s.joined (i - 1) r) ended (hs ++ arrives t i kind line ∷ []) (subst (λ q. (j : ℕ) → 0 < j → j ≤ length s.joined → joined_by (slice_set s.joined (i - 1) q) j ≡ arrivals t j (hs ++ arrives t i kind line ∷ [])) (sym is) (counts_now kind line)) ends s.members w)
      ∙ ap (closing_at (numbers_of s.members) t hs (hs ++ arrives t i kind line ∷ [])) count

  -- a round that closes by an end
  pub end_closes : (r : ℕ) (failed : Bool) → length ended.stopped ≡ length s.joined → length ended.failed ≡ length s.joined
      → cond (not (closes_by s.members s.joined ended r) && any_arrived s.joined r s.members && all_but s.joined ended i r s.members) (Some (status_in (ended_with ended i failed) s.members)) None
      ≡ closing_at (numbers_of s.members) t hs (hs ++ end_of i failed ∷ []) r
  end_closes r failed sc fc =
      let v = recursion_from_All (λ m. (0 < m.0) × (m.0 ≤ length s.joined)) s.members w in
      let ends = ended_end (length s.joined) ended hs i failed low high told.ended_told in
      let counts : (j : ℕ) → 0 < j → j ≤ length s.joined → joined_by s.joined j ≡ arrivals t j (hs ++ end_of i failed ∷ []) = (λ j a b. told.team_told.counts j a b ∙ sym (end_counts t j i failed hs)) in
      let waits : (any_arrived s.joined r s.members && all_but s.joined ended i r s.members) ≡ closes_by s.members s.joined (ended_with ended i failed) r =
      ap (λ b. any_arrived s.joined r s.members && b) (all_ending (length s.joined) s.joined ended i r failed s.members low (omega arith) (omega arith) v) in
      ap (λ b. cond b (Some (status_in (ended_with ended i failed) s.members)) None) (and_three (not (closes_by s.members s.joined ended r)) (any_arrived s.joined r s.members) (all_but s.joined ended i r s.members))
      ∙ chosen _ _ (numbers_of s.members) t r hs (hs ++ end_of i failed ∷ []) (status_in (ended_with ended i failed) s.members)
      (closes_is t (length s.joined) s.joined ended hs told.team_told.counts told.ended_told r s.members w)
      (waits ∙ closes_is t (length s.joined) s.joined (ended_with ended i failed) (hs ++ end_of i failed ∷ []) counts ends r s.members w)
      (status_is t (length s.joined) s.joined (ended_with ended i failed) (hs ++ end_of i failed ∷ []) counts ends s.members w)
