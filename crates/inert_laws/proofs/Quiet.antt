-- Entries that close no round, and that the asks of the other images don't hear of.
use Rattle.std.proofs.Common.{◌≡◌, ℕ, suc, ◌+◌, Bool, true, false, ◌&&◌, List, [], ◌∷◌, ◌++◌, inl, inr, length, refl, ap, sym, ◌∙◌, subst, arith}
use Rattle.std.specs.Prelude.{not, nat_le, Option, Some, None, is_some, slice_get}
use Rattle.std.specs.List.{list_all, filter, range_with_len}
use Rattle.std.proofs.lemmas.List.{append-nil}
use Rattle.std.proofs.lemmas.Bool.{cases_Bool}
use Rattle.caf_events.specs.declared.ask.Ask.{Ask}
use Rattle.caf_events.specs.declared.ask.Ask.TheVariants as asks
use Rattle.caf_events.specs.declared.event.Entry.{Entry}
use Rattle.object_rules.specs.Scans.{or_else, front_where, first_front}
use Rattle.object_rules.specs.Happenings.{Class, control, collective, images, happened}
use Rattle.object_rules.specs.TeamRounds.{arrivals, has_closed}
use Rattle.object_rules.specs.ImagePairs.{names, pairs_of, at_pairing}
use Rattle.object_rules.specs.Constructs.{construct_after}
use Rattle.object_rules.specs.Folds.{is_of_kind}
use Rattle.object_rules.specs.BoardTeams.{Team, most_joined, closes_now, made_in_rounds, made_in_team, made_by, teams_after, members_at, closing}
use Rattle.object_rules.specs.BoardRules.{is_image, is_gathered, is_root, has_joined, fits_board, is_open, can_come, board_ready}
use Rattle.object_rules.proofs.Growing.{first_front_more, none_now}
use Rattle.team_laws.proofs.Teams.{teams_more, members_of_team}
use Rattle.inert_steps.specs.Inert.{IsInert}

-- each round of a team that is closed after the entry was so before it
abbrev pub NoneCloses : Class → ℕ → List Entry → Entry → Type 0
NoneCloses class n h e = (t r : ℕ) → has_closed (members_at (teams_after n h) t) t r (happened class (h ++ e ∷ [])) ≡ true → has_closed (members_at (teams_after n h) t) t r (happened class h) ≡ true

-- no other image has joined a round by the entry
abbrev pub NoneJoins : Class → List Entry → Entry → Type 0
NoneJoins class h e = (t j : ℕ) → (j ≡ e.image.0 → ⊥) → arrivals t j (happened class (h ++ e ∷ [])) ≡ arrivals t j (happened class h)

-- all that the asks of the other images stand on is as before the entry
pub record IsQuiet (n : ℕ) (h : List Entry) (e : Entry) : Type 0 where
  pub control_closes : NoneCloses control n h e
  pub collective_closes : NoneCloses collective n h e
  pub control_joins : NoneJoins control h e
  pub collective_joins : NoneJoins collective h e
  pub pairs : happened images (h ++ e ∷ []) ≡ happened images h
  pub constructs : (c : ℕ) → construct_after c (h ++ e ∷ []) ≡ construct_after c h

-- ---- such an entry makes no teams
not_now : (before now : Bool) → (now ≡ true → before ≡ true) → (not before && now) ≡ false
not_now true now k = refl
not_now false true k = absurd (let w : false ≡ true = k refl in cc)
not_now false false k = refl

filter_none : (p : ℕ → Bool) → ((x : ℕ) → p x ≡ false) → (xs : List ℕ) → filter p xs ≡ []
filter_none p h [] = refl
filter_none p h (x ∷ xs) = rw (h x) (filter_none p h xs)

module _ (h : List Entry) (e : Entry) where
  -- each round of these members that is closed after the entry was so before it
  abbrev StaysOpen : List ℕ → ℕ → Type 0
  StaysOpen ms t = (r : ℕ) → has_closed ms t r (happened control (h ++ e ∷ [])) ≡ true → has_closed ms t r (happened control h) ≡ true

  none_in_team : (t : ℕ) (ms : List ℕ) → StaysOpen ms t → made_in_team t ms h e ≡ []
  none_in_team t ms k =
      ap (made_in_rounds t ms (h ++ e ∷ []))
      (filter_none (closes_now t ms (happened control h) (happened control (h ++ e ∷ [])))
      (λ r. not_now (has_closed ms t r (happened control h)) (has_closed ms t r (happened control (h ++ e ∷ []))) (k r))
      (range_with_len 1 (most_joined t ms (happened control (h ++ e ∷ [])))))

  none_made : (t : ℕ) (xs : List Team) → ((k : ℕ) (x : Team) (u : ℕ) → u ≡ t + k → slice_get xs k ≡ Some x → StaysOpen x.members u) → made_by t xs h e ≡ []
  none_made t [] k = refl
  none_made t (x ∷ xs) k =
      ap (λ z. z ++ made_by (suc t) xs h e) (none_in_team t x.members (k 0 x t (omega arith) refl))
      ∙ none_made (suc t) xs (λ j y u at there. k (suc j) y u (omega arith) there)

module _ (n : ℕ) (h : List Entry) (e : Entry) where
  teams_same : NoneCloses control n h e → teams_after n (h ++ e ∷ []) ≡ teams_after n h
  teams_same k =
      teams_more n h e
      ∙ ap (λ z. teams_after n h ++ z) (none_made h e 1 (teams_after n h) (λ j x u at there. (
      let number : u ≡ suc j = omega arith in
      let is : members_at (teams_after n h) u ≡ x.members = ap (members_at (teams_after n h)) number ∙ members_of_team (teams_after n h) j x there in
      subst (λ ms. StaysOpen h e ms u) is (k u))))
      ∙ append-nil (teams_after n h)

-- ---- and closes no round
front_same : (test : List Entry → Bool) (h : List Entry) (e : Entry) → (test (h ++ e ∷ []) ≡ true → test h ≡ true) → first_front test (h ++ e ∷ []) ≡ first_front test h
front_same test h e k = first_front_more test h e ∙ by (first_front test h) refl
  where
    by : (o : Option (List Entry)) → first_front test h ≡ o → or_else o (front_where test (h ++ e ∷ [])) ≡ o
    by (Some f) q = refl
    by None q = elim (cases_Bool (test (h ++ e ∷ []))) [
      | inl holds ↦ absurd (let w : false ≡ true = sym (none_now test h q) ∙ k holds in cc)
      | inr not ↦ rw not refl
    ]

-- ---- so the asks of the other images are as ready as before
module _ (n : ℕ) (h : List Entry) (e : Entry) (q : IsQuiet n h e) (j : ℕ) (other : j ≡ e.image.0 → ⊥) where
  abbrev now : List Entry
  now = h ++ e ∷ []

  teams_stay : teams_after n now ≡ teams_after n h
  teams_stay = teams_same n h e q.control_closes

  members_stay : (t : ℕ) → members_at (teams_after n now) t ≡ members_at (teams_after n h) t
  members_stay t = ap (λ ts. members_at ts t) teams_stay

  joined_stays : (class : Class) (t r : ℕ) → NoneJoins class h e → has_joined class n now j t r ≡ has_joined class n h j t r
  joined_stays class t r k =
      ap (λ ms. names j ms && nat_le 1 r && nat_le r (arrivals t j (happened class now))) (members_stay t)
      ∙ ap (λ a. names j (members_at (teams_after n h) t) && nat_le 1 r && nat_le r a) (k t j other)

  closing_stays : (class : Class) (t r : ℕ) → NoneCloses class n h e → closing class t r (members_at (teams_after n now) t) now ≡ closing class t r (members_at (teams_after n h) t) h
  closing_stays class t r k = ap (λ ms. closing class t r ms now) (members_stay t) ∙ front_same (λ f. has_closed (members_at (teams_after n h) t) t r (happened class f)) h e (k t r)

  fits_stays : (ask : Ask) → fits_board n now j ask ≡ fits_board n h j ask
  fits_stays (asks.Arrive team arriving) = ap (names j) (members_stay team.0)
  fits_stays (asks.Leave team round) = joined_stays control team.0 round q.control_joins
  fits_stays (asks.Gather team op root kind values) =
      ap (λ ms. names j ms && is_gathered op kind && is_root op (length ms) root && list_all (is_of_kind kind) values) (members_stay team.0)
  fits_stays (asks.Take team round) = joined_stays collective team.0 round q.collective_joins
  fits_stays asks.Unpair = ap (λ hs. nat_le 1 (pairs_of j hs)) q.pairs
  fits_stays (asks.Failed team) = ap (names j) (members_stay team.0)
  fits_stays (asks.Stopped team) = ap (names j) (members_stay team.0)
  fits_stays (asks.Status team index) = ap (λ ms. names j ms && nat_le 1 index && nat_le index (length ms)) (members_stay team.0)
  fits_stays ask = refl

  comes_stays : (ask : Ask) → can_come n now j ask ≡ can_come n h j ask
  comes_stays (asks.Leave team round) = ap is_some (closing_stays control team.0 round q.control_closes)
  comes_stays (asks.Take team round) = ap is_some (closing_stays collective team.0 round q.collective_closes)
  comes_stays asks.Unpair = ap (λ hs. is_some (at_pairing j (pairs_of j hs) hs)) q.pairs
  comes_stays (asks.Enter construct) = ap is_open (q.constructs construct)
  comes_stays ask = refl

  ready_stays : (ask : Ask) → board_ready n now j ask ≡ board_ready n h j ask
  ready_stays ask =
      ap (λ b. is_image n j && b && can_come n now j ask) (fits_stays ask)
      ∙ ap (λ b. is_image n j && fits_board n h j ask && b) (comes_stays ask)

pub inert_by : (n : ℕ) (h : List Entry) (e : Entry) → IsQuiet n h e → IsInert board_ready n h e
inert_by n h e q j ask other = ready_stays n h e q j other ask
