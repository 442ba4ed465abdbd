-- How a team came to be: the entry that made it closed its round of FORM TEAM, and each of its members had arrived in
-- that round by then.
use Rattle.std.proofs.Common.{◌≡◌, ℕ, suc, ◌+◌, ◌≤◌, Bool, true, false, nat_eq, ◌&&◌, ◌||◌, not, cond, List, [], ◌∷◌, ◌++◌, map, inl, inr, refl, ap, sym, ◌∙◌, subst, arith, append_assoc}
use Rattle.std.specs.Prelude.{Option, Some, None, is_some, slice_get}
use Rattle.std.specs.List.{filter, cons_option, range_with_len}
use Rattle.std.proofs.lemmas.Bool.{cases_Bool, eqb-true}
use Rattle.caf_events.specs.declared.ask.Ask.{Ask}
use Rattle.caf_events.specs.declared.ask.Ask.TheVariants as asks
use Rattle.caf_events.specs.declared.round.Arriving.TheVariants as arrivings
use Rattle.caf_events.specs.declared.event.Entry.{Entry}
use Rattle.trace_theory.specs.Entries.{Each}
use Rattle.object_rules.specs.Happenings.{control, happened}
use Rattle.object_rules.specs.TeamRounds.{opening_of, missed_by}
use Rattle.object_rules.specs.ImagePairs.{names}
use Rattle.object_rules.specs.FormedTeams.{FormArg, Members, formed, numbers_given, teams_of, is_bad_form}
use Rattle.object_rules.specs.BoardTeams.{Team, nth_arrival, round_of, form_arg, form_args, is_form, teams_made, most_joined, closes_now, made_in_rounds, made_in_team, made_by, teams_after}
use Rattle.team_laws.proofs.Lists.{grown, each_append, each_get, each_from, each_by, each_mapped, get_either}
use Rattle.team_laws.proofs.Times.{times, times_append}
use Rattle.team_laws.proofs.Teams.{teams_more}
use Rattle.team_laws.proofs.Arrivals.{joined_image, nth_at}
use Rattle.team_laws.proofs.Formed.{givers, images_of, formed_times}

named_times : (m : ℕ) (xs : List ℕ) → names m xs ≡ true → 1 ≤ times m xs
named_times m [] h = absurd (cc)
named_times m (x ∷ xs) h = elim (cases_Bool (nat_eq m x)) [
  | inl t ↦ rw t (omega arith)
  | inr f ↦ (let r = named_times m xs (rw f at h) in rw f (omega arith))
]

form_image : (i : ℕ) (a : Ask) (x : FormArg) → form_arg i a ≡ Some x → x.image ≡ i
form_image i (asks.Arrive t (arrivings.Form number new_index)) x e = cc
form_image i a x e = absurd (cc)

-- the k-th arrival of an image is its own
nth_image : (team image k : ℕ) (f : List Entry) (e : Entry) → nth_arrival control team image k f ≡ Some e → e.image.0 ≡ image
nth_image team image k f e h = let r = nth_at control team image k f e h in joined_image control team image e.image.0 e.event.line e.event.ask e.event.reply r.joins

-- image m has arrived in the round
abbrev pub Arrived : ℕ → ℕ → List Entry → ℕ → Type 0
Arrived team round f m = is_some (nth_arrival control team m round f) ≡ true

module _ (team round : ℕ) (f : List Entry) (m : ℕ) where
  arg_there : (k : ℕ) (rest : List FormArg) (p : Option FormArg) → ((x : FormArg) → p ≡ Some x → x.image ≡ k) → (m ≡ k → Arrived team round f m) → (1 ≤ times m (givers rest) → Arrived team round f m) → 1 ≤ times m (givers (cons_option p rest)) → Arrived team round f m
  arg_there k rest None own here later h = later h
  arg_there k rest (Some x) own here later h = elim (cases_Bool (nat_eq m x.image)) [
    | inl t ↦ here (eqb-true m x.image t ∙ own x refl)
    | inr off ↦ later (let w : 1 ≤ 0 + times m (givers rest) = rw off at h in omega arith)
  ]

  entry_there : (k : ℕ) (es : List Entry) (o : Option Entry) → nth_arrival control team k round f ≡ o → (1 ≤ times m (givers (form_args es)) → Arrived team round f m) → 1 ≤ times m (givers (form_args (cons_option o es))) → Arrived team round f m
  entry_there k es None is later h = later h
  entry_there k es (Some e) is later h =
      arg_there k (form_args es) (form_arg e.image.0 e.event.ask) (λ x q. form_image e.image.0 e.event.ask x q ∙ nth_image team k round f e is) (λ q. subst (λ z. Arrived team round f z) (sym q) (ap is_some is)) later h

  -- who gives a number in a round has arrived in it
  args_there : (ms : List ℕ) → 1 ≤ times m (givers (form_args (round_of control team round ms f))) → Arrived team round f m
  args_there [] h = absurd (omega arith)
  args_there (k ∷ ks) h = entry_there k (round_of control team round ks f) (nth_arrival control team k round f) refl (args_there ks) h

  -- nobody stands oftener in a team that a round makes than among those who give a number
  each_few : (bound : ℕ) (xs : List Members) → times m (images_of xs) ≤ bound → Each (λ (x : Members). times m x.images ≤ bound) xs
  each_few bound [] h = tt
  each_few bound (x ∷ xs) h = let a = times_append m x.images (images_of xs) in (omega arith, each_few bound xs (omega arith))

  formed_few : (stopped failed : Bool) (args : List FormArg) → times m (images_of (formed stopped failed args)) ≤ times m (givers args)
  formed_few stopped failed args =
      let t = formed_times m args in
      elim (stopped || (not failed && is_bad_form args)) as (λ b. times m (images_of (cond b [] (teams_of (numbers_given args) args))) ≤ times m (givers args)) [ true ↦ omega arith | false ↦ omega arith ]

-- a team that this round made: each of its members has arrived in the round
record IsFormed (team round : ℕ) (f : List Entry) (x : Team) : Type 0 where
  parent : x.parent ≡ team
  round_is : x.round ≡ round
  arrived : (m : ℕ) → names m x.members ≡ true → Arrived team round f m

each_formed : (team round : ℕ) (ms : List ℕ) (f : List Entry) → Each (IsFormed team round f) (teams_made team round ms f)
each_formed team round ms f =
    let missed = missed_by ms (happened control f) in
    let args = form_args (round_of control team round ms f) in
    let xs = formed missed.stopped missed.failed args in
    let as_team : Members → Team = λ x. record { parent = team; round = round; number = x.number; members = x.images } in
    let all : Each (λ (x : Members). (m : ℕ) → names m x.images ≡ true → Arrived team round f m) xs = each_from (λ (x : Members). (m : ℕ) → names m x.images ≡ true → Arrived team round f m) xs
    (λ k x e m w. (
    let few = each_get (λ (y : Members). times m y.images ≤ times m (givers args)) xs k x (each_few team round f m (times m (givers args)) xs (formed_few team round f m missed.stopped missed.failed args)) e in
    let one = named_times m x.images w in
    args_there team round f m ms (omega arith))) in
    let each : Each (λ (x : Members). IsFormed team round f (record { parent = team; round = round; number = x.number; members = x.images })) xs =
    each_by (λ (x : Members). (m : ℕ) → names m x.images ≡ true → Arrived team round f m) (λ (x : Members). IsFormed team round f (record { parent = team; round = round; number = x.number; members = x.images })) (λ x h. record { parent = refl; round_is = refl; arrived = h }) xs all in
    elim (is_form (opening_of team round (happened control f))) as (λ b. Each (IsFormed team round f) (cond b (map (λ (x : Members). record { parent = team; round = round; number = x.number; members = x.images }) xs) [])) [
      | true ↦ each_mapped (IsFormed team round f) (λ (x : Members). record { parent = team; round = round; number = x.number; members = x.images }) xs each
      | false ↦ tt
    ]

-- one of these rounds of the team made it, and each of its members has arrived in that round
record IsOfRounds (t : ℕ) (test : ℕ → Bool) (f : List Entry) (x : Team) : Type 0 where
  parent : x.parent ≡ t
  tested : test x.round ≡ true
  arrived : (m : ℕ) → names m x.members ≡ true → Arrived t x.round f m

rounds_formed : (t : ℕ) (ms : List ℕ) (f : List Entry) (test : ℕ → Bool) (rs : List ℕ) → Each (λ r. test r ≡ true) rs → Each (IsOfRounds t test f) (made_in_rounds t ms f rs)
rounds_formed t ms f test [] h = tt
rounds_formed t ms f test (r ∷ rs) h =
    each_append (IsOfRounds t test f) (teams_made t r ms f) (made_in_rounds t ms f rs)
    (each_by (IsFormed t r f) (IsOfRounds t test f)
    (λ x k. record { parent = k.parent; tested = ap test k.round_is ∙ h.0; arrived = λ m w. subst (λ z. Arrived t z f m) (sym k.round_is) (k.arrived m w) })
    (teams_made t r ms f) (each_formed t r ms f))
    (rounds_formed t ms f test rs h.1)

filter_tested : (test : ℕ → Bool) (rs : List ℕ) → Each (λ r. test r ≡ true) (filter test rs)
filter_tested test [] = tt
filter_tested test (r ∷ rs) = elim (cases_Bool (test r)) [ inl t ↦ rw t (t, filter_tested test rs) | inr f ↦ rw f (filter_tested test rs) ]

-- The entry e, behind those before it, made the team, whose parent is one of these, of which the first has the own
-- number t: it closed the team's round, in which each of its members has arrived.
pub record IsBorn (t : ℕ) (ts : List Team) (before : List Entry) (e : Entry) (x : Team) : Type 0 where
  pub place : ℕ
  pub parent : Team
  pub number : t + place ≡ x.parent
  pub there : slice_get ts place ≡ Some parent
  pub closes : closes_now x.parent parent.members (happened control before) (happened control (before ++ e ∷ [])) x.round ≡ true
  pub arrived : (m : ℕ) → names m x.members ≡ true → Arrived x.parent x.round (before ++ e ∷ []) m

born : (t : ℕ) (xs : List Team) (before : List Entry) (e : Entry) → Each (IsBorn t xs before e) (made_by t xs before e)
born t [] before e = tt
born t (x ∷ xs) before e =
    let now = happened control (before ++ e ∷ []) in
    let test = closes_now t x.members (happened control before) now in
    each_append (IsBorn t (x ∷ xs) before e) (made_in_team t x.members before e) (made_by (suc t) xs before e)
    (each_by (IsOfRounds t test (before ++ e ∷ [])) (IsBorn t (x ∷ xs) before e)
    (λ y k. record {
      place = 0;
      parent = x;
      number = (let p = k.parent in omega arith);
      there = refl;
      closes = subst (λ z. closes_now z x.members (happened control before) now y.round ≡ true) (sym k.parent) k.tested;
      arrived = λ m w. subst (λ z. Arrived z y.round (before ++ e ∷ []) m) (sym k.parent) (k.arrived m w);
    })
    (made_in_team t x.members before e) (rounds_formed t x.members (before ++ e ∷ []) test (filter test (range_with_len 1 (most_joined t x.members now))) (filter_tested test (range_with_len 1 (most_joined t x.members now)))))
    (each_by (IsBorn (suc t) xs before e) (IsBorn t (x ∷ xs) before e)
    (λ y k. record { place = suc k.place; parent = k.parent; number = (let p = k.number in omega arith); there = k.there; closes = k.closes; arrived = k.arrived })
    (made_by (suc t) xs before e) (born (suc t) xs before e))

-- the entry of a history that made the team which has this place
pub record Birth (n : ℕ) (h : List Entry) (k : ℕ) (x : Team) : Type 0 where
  pub before : List Entry
  pub entry : Entry
  pub after : List Entry
  pub split : h ≡ before ++ entry ∷ after
  pub there : slice_get (teams_after n (before ++ entry ∷ [])) k ≡ Some x
  pub born : IsBorn 1 (teams_after n before) before entry x

birth_more : (n : ℕ) (h : List Entry) (e : Entry) → ((k : ℕ) (x : Team) → slice_get (teams_after n h) (suc k) ≡ Some x → Birth n h (suc k) x) → (k : ℕ) (x : Team) → slice_get (teams_after n (h ++ e ∷ [])) (suc k) ≡ Some x → Birth n (h ++ e ∷ []) (suc k) x
birth_more n h e old k x is =
    let ts = teams_after n h in
    let new = made_by 1 ts h e in
    elim (get_either ts new (suc k) x (sym (ap (λ z. slice_get z (suc k)) (teams_more n h e)) ∙ is)) [
      | inl was ↦ (let b = old k x was in record { before = b.before; entry = b.entry; after = b.after ++ e ∷ []; split = ap (λ z. z ++ e ∷ []) b.split ∙ append_assoc b.before (b.entry ∷ b.after) (e ∷ []); there = b.there; born = b.born })
      | inr now ↦ record { before = h; entry = e; after = []; split = refl; there = is; born = each_get (IsBorn 1 ts h e) new now.0 x (born 1 ts h e) now.1 }
    ]

pub birth : (n : ℕ) (h : List Entry) (k : ℕ) (x : Team) → slice_get (teams_after n h) (suc k) ≡ Some x → Birth n h (suc k) x
birth n h k x is = grown (λ g. (k : ℕ) (x : Team) → slice_get (teams_after n g) (suc k) ≡ Some x → Birth n g (suc k) x) (birth_more n) [] h (λ k x none. absurd (cc)) k x is
