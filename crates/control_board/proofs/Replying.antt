-- The replies that are made are those that are due.
use Rattle.std.proofs.Common.{◌≡◌, ℕ, zero, suc, ◌+◌, ◌-◌, ◌<◌, ◌≤◌, Bool, true, false, ◌&&◌, not, nat_eq, cond, List, [], ◌∷◌, ◌++◌, inl, inr, length, map, take, refl, ap, sym, ◌∙◌, subst, arith, append_assoc}
use Rattle.std.specs.Prelude.{ℤ, Option, Some, None, is_some, slice_get, slice_index_or}
use Rattle.std.proofs.lemmas.Bool.{cases_Bool}
use Rattle.std.proofs.lemmas.List.{append-nil}
use Rattle.caf_base.specs.declared.place.ImageNo.{ImageNo}
use Rattle.caf_events.specs.declared.reply.FormedTeam.{FormedTeam}
use Rattle.caf_events.specs.declared.reply.Reply.TheVariants as replies
use Rattle.caf_events.specs.declared.event.Entry.{Entry}
use Rattle.object_rules.specs.Happenings.{Happening, Class, control, happened, has_stopped, numbers_of}
use Rattle.object_rules.specs.TeamRounds.{at_close, Opening, opening_of, missed_by, result_of, status_of}
use Rattle.object_rules.specs.FormedTeams.{is_bad_form}
use Rattle.object_rules.specs.BoardTeams.{Team, teams_after, members_at, closing, is_form, is_form_kind, form_args, round_of, made_teams, told_team}
use Rattle.object_rules.specs.BoardRules.{indices_from, image_status, control_result, leave_reply}
use Rattle.failure_status.specs.Endings.{AreWithin, Ended, flag_of, marked_from, TellsEnded}
use Rattle.team_round.specs.TeamStates.{TeamState, Tells, closed_at}
use Rattle.team_round.proofs.Closings.{happened_by, closing_is}
use Rattle.team_round.proofs.NewTeams.{closes_is}
use Rattle.team_round.proofs.Statuses.{status_is}
use Rattle.team_tree.specs.KnownTeams.{KnownTeam, no_team, team_of, known, all_known}
use Rattle.control_board.specs.declared.parts.Parts.{Parts}
use Rattle.control_board.specs.Boards.{IsBoard, class_of, rounds_in, marks_of, ended_as, is_listed, was_bad}
use Rattle.control_board.proofs.Members.{rounds_members, teams_count}
use Rattle.control_board.proofs.Rounds.{close_opens}
use Rattle.control_board.proofs.Made.{take_last}
use Rattle.control_board.proofs.Bad.{result_bad}

-- ---- who has ended
module _ (n : ℕ) (ended : Ended) (hs : List Happening) (told : TellsEnded n ended hs) where
  flag_is : (failed : Bool) (i : ℕ) → 0 < i → i ≤ n → flag_of (marks_of ended failed) i ≡ ended_as failed i hs
  flag_is true i low high = told.failed_are i low high
  flag_is false i low high = told.stopped_are i low high

  pub marks_count : (failed : Bool) → length (marks_of ended failed) ≡ n
  marks_count true = told.failed_count
  marks_count false = told.stopped_count

  pub marked_law : (failed : Bool) (k : ℕ) (ms : List ImageNo) → AreWithin n ms → marked_from k (marks_of ended failed) ms ≡ indices_from k (λ m. ended_as failed m hs) (numbers_of ms)
  marked_law failed k [] w = refl
  marked_law failed k (m ∷ ms) w =
      let here : (0 < m.0) × (m.0 ≤ n) = w 0 m (omega arith) in
      let next : k + 1 ≡ suc k = omega arith in
      ap (λ b. cond b (k ∷ []) [] ++ marked_from (k + 1) (marks_of ended failed) ms) (flag_is failed m.0 here.0 here.1)
      ∙ ap (λ j. cond (ended_as failed m.0 hs) (k ∷ []) [] ++ marked_from j (marks_of ended failed) ms) next
      ∙ ap (λ l. cond (ended_as failed m.0 hs) (k ∷ []) [] ++ l) (marked_law failed (suc k) ms (λ j d l. w (suc j) d (omega arith)))

  number_at : (ms : List ImageNo) (at : ℕ) (d : ImageNo) → at < length ms → slice_get (numbers_of ms) at ≡ Some (slice_index_or ms at d).0
  number_at [] at d l = absurd (omega arith)
  number_at (m ∷ ms) zero d l = refl
  number_at (m ∷ ms) (suc at) d l = number_at ms at d (omega arith)

  pub status_law : (ms : List ImageNo) (at : ℕ) (d : ImageNo) (stopped failed : Bool) → AreWithin n ms → at < length ms
      → stopped ≡ flag_of ended.stopped (slice_index_or ms at d).0 → failed ≡ flag_of ended.failed (slice_index_or ms at d).0 → status_of stopped failed ≡ image_status hs (slice_get (numbers_of ms) at)
  status_law ms at d stopped failed w l s f =
      let here : (0 < (slice_index_or ms at d).0) × ((slice_index_or ms at d).0 ≤ n) = w at d l in
      ap (λ b. status_of b failed) (s ∙ told.stopped_are (slice_index_or ms at d).0 here.0 here.1)
      ∙ ap (λ b. status_of (has_stopped (slice_index_or ms at d).0 hs) b) (f ∙ told.failed_are (slice_index_or ms at d).0 here.0 here.1)
      ∙ ap (image_status hs) (sym (number_at ms at d l))

-- ---- a round that has closed
some_kept : (c : Class) (o : Option (List Entry)) → is_some (happened_by c o) ≡ is_some o
some_kept c None = refl
some_kept c (Some f) = refl

pub close_law : (c : Class) (t r : ℕ) (ms : List ℕ) (h : List Entry) → is_some (at_close ms t r (happened c h)) ≡ is_some (closing c t r ms h)
close_law c t r ms h = ap is_some (sym (closing_is c t r ms h)) ∙ some_kept c (closing c t r ms h)

module _ (n : ℕ) (h : List Entry) (p : Parts) (b : IsBoard n h p) (t r : ℕ) (low : 0 < t) (first : 0 < r) where
  -- its status is there, in the team's rounds
  pub closed_there : (c : Bool) → is_some (closing (class_of c) t r (members_at (teams_after n h) t) h) ≡ true → (x : TeamState) → slice_get (rounds_in p c).teams (t - 1) ≡ Some x → is_some (closed_at x.rounds (r - 1)) ≡ true
  closed_there c closed x at =
      let number : suc (t - 1) ≡ t = omega arith in
      let told = subst (λ u. Tells u x (happened (class_of c) h)) number ((b.rounds c).told (t - 1) x at) in
      closes_is (numbers_of x.members) (at_close (numbers_of x.members) t r (happened (class_of c) h)) (closed_at x.rounds (r - 1)) (status_is t r x (happened (class_of c) h) first told)
      ∙ ap (λ ms. is_some (at_close ms t r (happened (class_of c) h))) (rounds_members n h p b c t x low at) ∙ close_law (class_of c) t r (members_at (teams_after n h) t) h ∙ closed

  form_result : (o : Option Opening) → is_some o ≡ true → (f : List Entry) (bad : Bool) → bad ≡ is_form o && (not (missed_by (members_at (teams_after n h) t) (happened control f)).stopped && (not (missed_by (members_at (teams_after n h) t) (happened control f)).failed && is_bad_form (form_args (round_of control t r (members_at (teams_after n h) t) f))))
      → result_of (missed_by (members_at (teams_after n h) t) (happened control f)) bad ≡ control_result t r (members_at (teams_after n h) t) f o
  form_result None s f bad e = absurd (cc)
  form_result (Some o) s f bad e =
      ap (result_of (missed_by (members_at (teams_after n h) t) (happened control f))) e
      ∙ result_bad (missed_by (members_at (teams_after n h) t) (happened control f)) (is_form_kind o.kind) (is_bad_form (form_args (round_of control t r (members_at (teams_after n h) t) f)))

  left_by : (status : ℤ) (bad : Bool) (teams : List FormedTeam) (o : Option (List Entry)) → closing control t r (members_at (teams_after n h) t) h ≡ o → is_some o ≡ true
      → ((f : List Happening) → at_close (members_at (teams_after n h) t) t r (happened control h) ≡ Some f → status ≡ result_of (missed_by (members_at (teams_after n h) t) f) bad)
      → bad ≡ was_bad t r (members_at (teams_after n h) t) o → teams ≡ made_teams t r 1 (teams_after n h) → replies.Left status teams ≡ leave_reply n h t r o
  left_by status bad teams None e s is listed made = absurd (cc)
  left_by status bad teams (Some f) e s is listed made =
      let ms = members_at (teams_after n h) t in
      let close : at_close ms t r (happened control h) ≡ Some (happened control f) = sym (closing_is control t r ms h) ∙ ap (happened_by control) e in
      let opened = close_opens ms t r (happened control h) (happened control f) first close in
      ap (λ s. replies.Left s teams) (is (happened control f) close ∙ form_result (opening_of t r (happened control f)) opened.0 f bad listed)
      ∙ ap (replies.Left (control_result t r ms f (opening_of t r (happened control f)))) made

  pub left_law : (status : ℤ) (bad : Bool) (teams : List FormedTeam) → is_some (closing control t r (members_at (teams_after n h) t) h) ≡ true
      → ((f : List Happening) → at_close (members_at (teams_after n h) t) t r (happened control h) ≡ Some f → status ≡ result_of (missed_by (members_at (teams_after n h) t) f) bad)
      → bad ≡ is_listed p.bad.items t r → teams ≡ made_teams t r 1 (teams_after n h)
      → replies.Left status teams ≡ leave_reply n h t r (closing control t r (members_at (teams_after n h) t) h)
  left_law status bad teams closed is listed made = left_by status bad teams (closing control t r (members_at (teams_after n h) t) h) refl closed is (listed ∙ b.bad t r first) made

-- ---- the teams that a round made
made_last : (t r k : ℕ) (ts : List Team) (x : Team) → made_teams t r k (ts ++ x ∷ []) ≡ made_teams t r k ts ++ cond (nat_eq x.parent t && nat_eq x.round r) (told_team (k + length ts) x ∷ []) []
made_last t r k [] x =
    let q : k + 0 ≡ k = omega arith in
    append-nil (cond (nat_eq x.parent t && nat_eq x.round r) (told_team k x ∷ []) []) ∙ ap (λ j. cond (nat_eq x.parent t && nat_eq x.round r) (told_team j x ∷ []) []) (sym q)
made_last t r k (y ∷ ys) x =
    let q : suc k + length ys ≡ k + suc (length ys) = omega arith in
    ap (λ l. cond (nat_eq y.parent t && nat_eq y.round r) (told_team k y ∷ []) [] ++ l) (made_last t r (suc k) ys x)
    ∙ sym (append_assoc (cond (nat_eq y.parent t && nat_eq y.round r) (told_team k y ∷ []) []) (made_teams t r (suc k) ys) _)
    ∙ ap (λ j. (cond (nat_eq y.parent t && nat_eq y.round r) (told_team k y ∷ []) [] ++ made_teams t r (suc k) ys) ++ cond (nat_eq x.parent t && nat_eq x.round r) (told_team j x ∷ []) []) q

births_at : (ts : List Team) (k : ℕ) (x : Team) → slice_get ts k ≡ Some x → slice_index_or (map (λ (y : Team). y.round) ts) k 0 ≡ x.round
births_at [] k x e = absurd (cc)
births_at (y ∷ ys) zero x e = cc
births_at (y ∷ ys) (suc k) x e = births_at ys k x e

known_got : (ts : List Team) (k : ℕ) (x : Team) → slice_get ts k ≡ Some x → slice_index_or (all_known ts) k no_team ≡ known x
known_got [] k x e = absurd (cc)
known_got (y ∷ ys) zero x e = cc
known_got (y ∷ ys) (suc k) x e = known_got ys k x e

-- one team further: it is told where the round made it
pub teams_more_told : (n : ℕ) (h : List Entry) (p : Parts) → IsBoard n h p → (t r k : ℕ) (was now : List FormedTeam) (test : Bool) (told : FormedTeam) → k < length p.teams.teams
    → was ≡ made_teams t r 1 (take k (teams_after n h)) → test ≡ (nat_eq (team_of p.teams.teams (k + 1)).parent t && nat_eq (slice_index_or p.births.items k 0) r)
    → (test ≡ true → told ≡ record { team = record { 0 = k + 1 }; number = (team_of p.teams.teams (k + 1)).number; members = (team_of p.teams.teams (k + 1)).members })
    → now ≡ was ++ cond test (told ∷ []) [] → now ≡ made_teams t r 1 (take (k + 1) (teams_after n h))
teams_more_told n h p b t r k was now test told low is tested tells goes =
    let c = teams_count n h p b in
    let x = take_last (teams_after n h) k (omega arith) in
    let s : k + 1 - 1 ≡ k = omega arith in
    let there : team_of p.teams.teams (k + 1) ≡ known x.0 = ap (λ ts. team_of ts (k + 1)) b.teams ∙ ap (λ j. slice_index_or (all_known (teams_after n h)) j no_team) s ∙ known_got (teams_after n h) k x.0 x.1 in
    let born : slice_index_or p.births.items k 0 ≡ x.0.round = ap (λ l. slice_index_or l k 0) b.births ∙ births_at (teams_after n h) k x.0 x.1 in
    let same : test ≡ (nat_eq x.0.parent t && nat_eq x.0.round r) = tested ∙ ap (λ (y : KnownTeam). nat_eq y.parent t && nat_eq (slice_index_or p.births.items k 0) r) there ∙ ap (λ j. nat_eq x.0.parent t && nat_eq j r) born in
    let place : 1 + length (take k (teams_after n h)) ≡ k + 1 = omega (arith, x.3) in
    let item : cond test (told ∷ []) [] ≡ cond test (told_team (k + 1) x.0 ∷ []) [] = elim (cases_Bool test) [
      | inl y ↦ rw y (ap (λ z. z ∷ []) (tells y ∙ ap (λ (z : KnownTeam). record { team = record { 0 = k + 1 }; number = z.number; members = z.members }) there))
      | inr z ↦ rw z refl
    ] in
    goes ∙ ap (λ l. l ++ cond test (told ∷ []) []) is
    ∙ ap (λ l. made_teams t r 1 (take k (teams_after n h)) ++ l) (item ∙ ap (λ z. cond z (told_team (k + 1) x.0 ∷ []) []) same ∙ ap (λ j. cond (nat_eq x.0.parent t && nat_eq x.0.round r) (told_team j x.0 ∷ []) []) (sym place))
    ∙ sym (ap (made_teams t r 1) x.2 ∙ made_last t r 1 (take k (teams_after n h)) x.0)
