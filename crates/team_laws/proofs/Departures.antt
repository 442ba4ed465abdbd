-- What a departure is told: the status of its round, and the teams that it made.
use Rattle.std.proofs.Common.{◌≡◌, ℕ, suc, ◌≤◌, Bool, true, false, ◌&&◌, ◌||◌, cond, List, [], ◌∷◌, ◌++◌, ◌⊎◌, inl, inr, length, refl, ap, sym, ◌∙◌, subst, arith}
use Rattle.std.specs.Prelude.{pos, nat_le, not, map, Option, Some, None}
use Rattle.std.specs.List.{list_all}
use Rattle.std.proofs.lemmas.List.{length-map}
use Rattle.std.proofs.lemmas.Bool.{cases_Bool, and_from}
use Rattle.caf_base.specs.declared.place.ImageNo.{ImageNo}
use Rattle.caf_events.specs.declared.reply.FormedTeam.{FormedTeam}
use Rattle.caf_events.specs.declared.event.Entry.{Entry}
use Rattle.object_rules.specs.Happenings.{control, happened}
use Rattle.object_rules.specs.TeamRounds.{Opening, Missed, opening_of, missed_by, result_of}
use Rattle.object_rules.specs.ImagePairs.{names}
use Rattle.object_rules.specs.FormedTeams.{FormArg, Members, numbers_given, teams_of, is_bad_form}
use Rattle.object_rules.specs.BoardTeams.{Team, made_teams, teams_made, is_form, is_form_kind, round_of, form_args}
use Rattle.object_rules.specs.BoardRules.{all_differ, control_result}
use Rattle.object_rules.specs.Answering.{all_members, are_teams, is_one_of}
use Rattle.team_laws.proofs.Times.{times, all_differ_by, all_named_by}
use Rattle.team_laws.proofs.NamedTeams.{numbers_back}
use Rattle.team_laws.proofs.Formed.{images_of, has_members, formed_there}
use Rattle.team_laws.proofs.FormArgs.{formed_few}
use Rattle.team_laws.proofs.MadeTeams.{is_of_round, of_round}

-- the members of all these teams
abbrev members_of_all : List Team → List ℕ
members_of_all [] = []
members_of_all (x ∷ xs) = x.members ++ members_of_all xs

abbrev has_member : Team → Bool
has_member x = nat_le 1 (length x.members)

abbrev has_one : FormedTeam → Bool
has_one x = nat_le 1 (length x.members)

module _ (team round : ℕ) where
  -- the reply names those that the round made, and with their members
  told_members : (t : ℕ) (xs : List Team) → all_members (made_teams team round t xs) ≡ members_of_all (of_round team round xs)
  told_members t [] = refl
  told_members t (x ∷ xs) = elim (cases_Bool (is_of_round team round x)) [
    | inl y ↦ rw y (ap (λ z. z ++ all_members (made_teams team round (suc t) xs)) (numbers_back x.members) ∙ ap (λ z. x.members ++ z) (told_members (suc t) xs))
    | inr f ↦ rw f (told_members (suc t) xs)
  ]

  told_sizes : (t : ℕ) (xs : List Team) → list_all has_one (made_teams team round t xs) ≡ list_all has_member (of_round team round xs)
  told_sizes t [] = refl
  told_sizes t (x ∷ xs) = elim (cases_Bool (is_of_round team round x)) [
    | inl y ↦ rw (y, length-map {B = ImageNo} x.members (λ i. record { 0 = i })) (ap (λ z. nat_le 1 (length x.members) && z) (told_sizes (suc t) xs))
    | inr f ↦ rw f (told_sizes (suc t) xs)
  ]

  pub told_none : (t : ℕ) (xs : List Team) → of_round team round xs ≡ [] → made_teams team round t xs ≡ []
  told_none t [] h = refl
  told_none t (x ∷ xs) h = elim (cases_Bool (is_of_round team round x)) [
    | inl y ↦ absurd (let w : x ∷ of_round team round xs ≡ [] = rw y at h in cc)
    | inr f ↦ rw f (told_none (suc t) xs (rw f at h))
  ]

-- the statuses of a closed round
result_is : (m : Missed) (bad : Bool) → is_one_of (pos 0 ∷ pos 6000 ∷ pos 6001 ∷ pos 6006 ∷ []) (result_of m bad) ≡ true
result_is m bad = by m.stopped m.failed bad
  where
    by : (stopped failed b : Bool) → is_one_of (pos 0 ∷ pos 6000 ∷ pos 6001 ∷ pos 6006 ∷ []) (cond stopped (pos 6000) (cond failed (pos 6001) (cond b (pos 6006) (pos 0)))) ≡ true
    by true failed b = refl
    by false true b = refl
    by false false true = refl
    by false false false = refl

module _ (team round : ℕ) (ms : List ℕ) (f : List Entry) where
  abbrev missed : Missed
  missed = missed_by ms (happened control f)

  abbrev args : List FormArg
  args = form_args (round_of control team round ms f)

  abbrev pub as_team : Members → Team
  as_team x = record { parent = team; round = round; number = x.number; members = x.images }

  as_members : (xs : List Members) → members_of_all (map as_team xs) ≡ images_of xs
  as_members [] = refl
  as_members (x ∷ xs) = ap (λ z. x.images ++ z) (as_members xs)

  as_sizes : (xs : List Members) → list_all has_member (map as_team xs) ≡ list_all has_members xs
  as_sizes [] = refl
  as_sizes (x ∷ xs) = ap (λ z. nat_le 1 (length x.images) && z) (as_sizes xs)

  -- a round of FORM TEAM that made teams: no member stopped, and an argument is bad only where one failed
  pub record Forms : Type 0 where
    pub form : is_form (opening_of team round (happened control f)) ≡ true
    pub good : (missed.stopped || (not missed.failed && is_bad_form args)) ≡ false

  pub made_or_none : (teams_made team round ms f ≡ []) ⊎ Forms
  made_or_none = elim (cases_Bool (is_form (opening_of team round (happened control f)))) [
    | inl t ↦ elim (cases_Bool (missed.stopped || (not missed.failed && is_bad_form args))) [
      | inl b ↦ inl (rw (t, b) refl)
      | inr g ↦ inr (record { form = t; good = g })
    ]
    | inr n ↦ inl (rw n refl)
  ]

  pub forms_made : Forms → teams_made team round ms f ≡ map as_team (teams_of (numbers_given args) args)
  forms_made h = rw (h.form, h.good) refl

  -- each team has a member, they are members of the parent, and none stands twice
  pub made_are_teams : Forms → ((m : ℕ) → times m ms ≤ 1) → (t : ℕ) (ts : List Team) → of_round team round ts ≡ teams_made team round ms f → are_teams ms (made_teams team round t ts) ≡ true
  made_are_teams h once t ts made =
      let ns = teams_of (numbers_given args) args in
      let own : of_round team round ts ≡ map as_team ns = made ∙ forms_made h in
      let all : all_members (made_teams team round t ts) ≡ images_of ns = told_members team round t ts ∙ ap members_of_all own ∙ as_members ns in
      let sizes : list_all has_one (made_teams team round t ts) ≡ true = told_sizes team round t ts ∙ ap (list_all has_member) own ∙ as_sizes ns ∙ formed_there args in
      let few : (m : ℕ) → times m (images_of ns) ≤ times m ms = λ m. subst (λ b. times m (images_of (cond b [] ns)) ≤ times m ms) h.good (formed_few m missed.stopped missed.failed team round ms f) in
      let named = all_named_by (images_of ns) ms few in
      let differ = all_differ_by (images_of ns) (λ m. (let a = few m in let b = once m in omega arith)) in
      and_from (list_all has_one (made_teams team round t ts)) (list_all (λ m. names m ms) (all_members (made_teams team round t ts)) && all_differ (all_members (made_teams team round t ts))) sizes
      (and_from (list_all (λ m. names m ms) (all_members (made_teams team round t ts))) (all_differ (all_members (made_teams team round t ts)))
      (subst (λ z. list_all (λ m. names m ms) z ≡ true) (sym all) named) (subst (λ z. all_differ z ≡ true) (sym all) differ))

  -- its status is 0, or that a member failed
  good_status : (stopped failed bad : Bool) → (stopped || (not failed && bad)) ≡ false → is_one_of (pos 0 ∷ pos 6001 ∷ []) (cond stopped (pos 6000) (cond failed (pos 6001) (cond bad (pos 6006) (pos 0)))) ≡ true
  good_status true failed bad h = absurd (cc)
  good_status false true bad h = refl
  good_status false false true h = absurd (cc)
  good_status false false false h = refl

  -- the opening, where the round is one of FORM TEAM
  form_opening : (o : Option Opening) → is_form o ≡ true → (p : Opening) × (o ≡ Some p) × (is_form_kind p.kind ≡ true)
  form_opening None h = absurd (cc)
  form_opening (Some p) h = (p, refl, h)

  pub forms_opening : Forms → (p : Opening) × (opening_of team round (happened control f) ≡ Some p) × (is_form_kind p.kind ≡ true)
  forms_opening h = form_opening (opening_of team round (happened control f)) h.form

  pub forms_status : Forms → is_one_of (pos 0 ∷ pos 6001 ∷ []) (control_result team round ms f (opening_of team round (happened control f))) ≡ true
  forms_status h =
      let o = forms_opening h in
      subst (λ z. is_one_of (pos 0 ∷ pos 6001 ∷ []) (control_result team round ms f z) ≡ true) (sym o.1)
      (subst (λ b. is_one_of (pos 0 ∷ pos 6001 ∷ []) (result_of missed (b && is_bad_form args)) ≡ true) (sym o.2) (good_status missed.stopped missed.failed (is_bad_form args) h.good))

  pub status_there : (o : Option Opening) → is_one_of (pos 0 ∷ pos 6000 ∷ pos 6001 ∷ pos 6006 ∷ []) (control_result team round ms f o) ≡ true
  status_there None = refl
  status_there (Some o) = result_is missed (is_form_kind o.kind && is_bad_form args)
