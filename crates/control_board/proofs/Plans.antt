-- What is planned is what the definitions say that an entry makes.
use Rattle.std.proofs.Common.{◌≡◌, ◌⊎◌, ℕ, suc, ◌+◌, ◌-◌, ◌<◌, ◌≤◌, Bool, true, false, ◌&&◌, not, cond, List, [], ◌∷◌, ◌++◌, inl, inr, length, map, refl, ap, sym, ◌∙◌, subst, arith}
use Rattle.std.specs.Prelude.{ℤ, pos, Option, Some, None}
use Rattle.std.specs.Ordering.{int_eq}
use Rattle.std.proofs.lemmas.Bool.{cases_Bool}
use Rattle.caf_base.specs.declared.place.ImageNo.{ImageNo}
use Rattle.caf_base.specs.declared.place.TeamNo.{TeamNo}
use Rattle.caf_events.specs.declared.ask.Ask.TheVariants as asks
use Rattle.caf_events.specs.declared.round.Arriving.{Arriving}
use Rattle.caf_events.specs.declared.round.Arriving.TheVariants as arrivings
use Rattle.caf_events.specs.declared.round.RoundKind.{RoundKind}
use Rattle.caf_events.specs.declared.round.RoundKind.TheVariants as kinds
use Rattle.caf_events.specs.declared.event.Entry.{Entry}
use Rattle.object_rules.specs.Kinds.{same_kind}
use Rattle.object_rules.specs.Scans.{or_else}
use Rattle.object_rules.specs.Happenings.{Happening, arrives, control, happens, happened, kind_of, numbers_of}
use Rattle.object_rules.specs.TeamRounds.{arrivals, Opening, opening_of, joins_round, Missed, missed_by}
use Rattle.object_rules.specs.FormedTeams.{formed, is_bad_form}
use Rattle.object_rules.specs.BoardTeams.{closes_now, is_form, is_form_kind, arrives_there, form_args, round_of, teams_made, made_by, teams_after, members_at}
use Rattle.object_rules.specs.BoardRules.{board_reply}
use Rattle.object_rules.proofs.Growing.{opening_more}
use Rattle.failure_status.specs.Endings.{end_of}
use Rattle.team_round.specs.TeamStates.{missed_status, closing_at, told_arrival, kind_told}
use Rattle.team_round.specs.declared.round.Arrival.TheVariants as arrived
use Rattle.team_round.proofs.Arriving.{joins_here}
use Rattle.team_round.proofs.Telling.{joins_none}
use Rattle.team_round.proofs.Making.{happened_some, made_none}
use Rattle.object_rules.proofs.Growing.{or_else_none}
use Rattle.team_tree.specs.declared.arg.FormArg.{FormArg as GivenArg}
use Rattle.team_tree.specs.Args.{plain_arg, plain_args}
use Rattle.team_tree.specs.Orders.{given_by, in_order}
use Rattle.control_board.specs.declared.forming.Formation.{Formation}
use Rattle.control_board.specs.declared.parts.Parts.{Parts}
use Rattle.control_board.specs.Boards.{IsBoard, IsFormed, MakesFor, Ends, team_with, made_by_one, bad_of, args_in, args_of, given_at, made_at, bad_now, is_bad_round, due}
use Rattle.control_board.proofs.Forms.{forms_none, forms_arrival, args_with, round_args}
use Rattle.control_board.proofs.Made.{arrival_makes}
use Rattle.control_board.proofs.Bad.{bad_none}
use Rattle.control_board.proofs.Arrivals.{told_is}
use Rattle.control_board.proofs.Steps.{joined_number, end_arrives}
use Rattle.control_board.proofs.Members.{get_there, teams_count}

-- ---- the arguments in the order of the members
pub plain_order : (ms : List ImageNo) (as_ : List GivenArg) → plain_args (in_order ms as_) ≡ args_of as_ (numbers_of ms)
plain_order [] as_ = refl
plain_order (m ∷ ms) as_ = by (given_by as_ m.0) refl (plain_order ms as_)
  where
    by : (o : Option GivenArg) → given_by as_ m.0 ≡ o → plain_args (in_order ms as_) ≡ args_of as_ (numbers_of ms) → plain_args (in_order (m ∷ ms) as_) ≡ args_of as_ (numbers_of (m ∷ ms))
    by None q i = rw q i
    by (Some a) q i = rw q (ap (λ l. plain_arg a ∷ l) i)

-- ---- the status of a close
pub status_stopped : (m : Missed) (status : ℤ) (test : Bool) → status ≡ missed_status m → test ≡ int_eq status (pos 6000) → test ≡ m.stopped
status_stopped m status test e t = go m.stopped m.failed refl refl
  where
    go : (a b : Bool) → m.stopped ≡ a → m.failed ≡ b → test ≡ m.stopped
    go true b s f = let w : status ≡ pos 6000 = e ∙ rw s refl in t ∙ ap (λ z. int_eq z (pos 6000)) w ∙ sym s
    go false true s f = let w : status ≡ pos 6001 = e ∙ rw (s, f) refl in t ∙ ap (λ z. int_eq z (pos 6000)) w ∙ sym s
    go false false s f = let w : status ≡ pos 0 = e ∙ rw (s, f) refl in t ∙ ap (λ z. int_eq z (pos 6000)) w ∙ sym s

pub status_failed : (m : Missed) (status : ℤ) (test : Bool) → status ≡ missed_status m → m.stopped ≡ false → test ≡ int_eq status (pos 6001) → test ≡ m.failed
status_failed m status test e s t = go m.failed refl
  where
    go : (b : Bool) → m.failed ≡ b → test ≡ m.failed
    go true f = let w : status ≡ pos 6001 = e ∙ rw (s, f) refl in t ∙ ap (λ z. int_eq z (pos 6001)) w ∙ sym f
    go false f = let w : status ≡ pos 0 = e ∙ rw (s, f) refl in t ∙ ap (λ z. int_eq z (pos 6001)) w ∙ sym f

pub closing_some : (ms : List ℕ) (t r : ℕ) (before after : List Happening) (status : ℤ) → Some status ≡ closing_at ms t before after r → (closes_now t ms before after r ≡ true) × (status ≡ missed_status (missed_by ms after))
closing_some ms t r before after status e = elim (cases_Bool (closes_now t ms before after r)) [
  | inl y ↦ (y, (let w : Some status ≡ Some (missed_status (missed_by ms after)) = e ∙ rw y refl in cc))
  | inr n ↦ absurd (let w : Some status ≡ None = e ∙ rw n refl in cc)
]

pub closing_none : (ms : List ℕ) (t r : ℕ) (before after : List Happening) → None ≡ closing_at ms t before after r → closes_now t ms before after r ≡ false
closing_none ms t r before after e = elim (cases_Bool (closes_now t ms before after r)) [
  | inl y ↦ absurd (let w : None ≡ Some (missed_status (missed_by ms after)) = e ∙ rw y refl in cc)
  | inr n ↦ n
]

-- ---- what a round makes that closes
module _ (t r : ℕ) (ms : List ℕ) (h : List Entry) (e : Entry) (args : List GivenArg) where
  abbrev missed : Missed
  missed = missed_by ms (happened control (h ++ e ∷ []))

  pub formed_at : closes_now t ms (happened control h) (happened control (h ++ e ∷ [])) r ≡ true → is_form (opening_of t r (happened control (h ++ e ∷ []))) ≡ true → form_args (round_of control t r ms (h ++ e ∷ [])) ≡ args_of args ms
      → map (team_with t r) (formed missed.stopped missed.failed (args_of args ms)) ≡ made_at t r ms h e
  formed_at c f a = rw (c, f, a) refl

  pub bad_at : closes_now t ms (happened control h) (happened control (h ++ e ∷ [])) r ≡ true → is_form (opening_of t r (happened control (h ++ e ∷ []))) ≡ true → form_args (round_of control t r ms (h ++ e ∷ [])) ≡ args_of args ms
      → (not missed.stopped && (not missed.failed && is_bad_form (args_of args ms))) ≡ bad_now t r ms h e
  bad_at c f a = rw (c, f, a) refl

pub made_not : (t r : ℕ) (ms : List ℕ) (h : List Entry) (e : Entry) → closes_now t ms (happened control h) (happened control (h ++ e ∷ [])) r ≡ false → ([] ≡ made_at t r ms h e) × (false ≡ bad_now t r ms h e)
made_not t r ms h e n = (rw n refl, rw n refl)

or_other : (a b : Bool) → b ≡ false → (a && b) ≡ false
or_other true b e = e
or_other false b e = refl

cond_same : {A : Type 0} (b : Bool) (x : A) → cond b x x ≡ x
cond_same true x = refl
cond_same false x = refl

pub made_other : (t r : ℕ) (ms : List ℕ) (h : List Entry) (e : Entry) → is_form (opening_of t r (happened control (h ++ e ∷ []))) ≡ false → ([] ≡ made_at t r ms h e) × (false ≡ bad_now t r ms h e)
made_other t r ms h e f = (
  sym (ap (λ l. cond (closes_now t ms (happened control h) (happened control (h ++ e ∷ [])) r) l []) (let q : teams_made t r ms (h ++ e ∷ []) ≡ [] = rw f refl in q) ∙ cond_same (closes_now t ms (happened control h) (happened control (h ++ e ∷ [])) r) []),
  sym (or_other (closes_now t ms (happened control h) (happened control (h ++ e ∷ [])) r) (is_bad_round t r ms (h ++ e ∷ [])) (rw f refl)),
)

-- ---- an arrival: it clashes, or it is of the kind of its round
form_same : (k l : RoundKind) → same_kind k l ≡ true → is_form_kind l ≡ is_form_kind k
form_same kinds.Sync kinds.Sync e = refl
form_same kinds.Form kinds.Form e = refl
form_same kinds.Change kinds.Change e = refl
form_same kinds.End kinds.End e = refl
form_same (kinds.Allocate a) (kinds.Allocate b) e = refl
form_same (kinds.Deallocate a) (kinds.Deallocate b) e = refl
form_same (kinds.Collective op root kind count) (kinds.Collective op' root' kind' count') e = refl
form_same k l e = absurd (cc)

module _ (n : ℕ) (h : List Entry) (i : ImageNo) (team : TeamNo) (arriving : Arriving) (stamp line : ℕ) where
  abbrev here : ℕ
  here = suc (arrivals team.0 i.0 (happened control h))

  abbrev pub Stands : Type 0
  Stands =
      (happens control i.0 line (asks.Arrive team arriving) (board_reply n h i.0 (asks.Arrive team arriving)) ≡ Some (arrives team.0 i.0 (kind_of arriving) line))
      × (is_form (opening_of team.0 here (happened control (h ++ due n h i (asks.Arrive team arriving) stamp line ∷ []))) ≡ is_form_kind (kind_of arriving))

  opened : (o : Option Opening) → opening_of team.0 here (happened control h) ≡ o → happens control i.0 line (asks.Arrive team arriving) (board_reply n h i.0 (asks.Arrive team arriving)) ≡ Some (arrives team.0 i.0 (kind_of arriving) line)
      → opening_of team.0 here (happened control (h ++ due n h i (asks.Arrive team arriving) stamp line ∷ [])) ≡ or_else o (Some (record { kind = kind_of arriving; image = i.0; line = line }))
  opened o q is =
      ap (opening_of team.0 here) (happened_some control h (due n h i (asks.Arrive team arriving) stamp line) (arrives team.0 i.0 (kind_of arriving) line) is)
      ∙ opening_more team.0 here (happened control h) (arrives team.0 i.0 (kind_of arriving) line)
      ∙ ap (λ x. or_else x (joins_round team.0 here (happened control h) (arrives team.0 i.0 (kind_of arriving) line))) q
      ∙ ap (or_else o) (joins_here team.0 i.0 (kind_of arriving) line (happened control h) here refl)

  by_opening : (o : Option Opening) → opening_of team.0 here (happened control h) ≡ o → (happens control i.0 line (asks.Arrive team arriving) (board_reply n h i.0 (asks.Arrive team arriving)) ≡ None) ⊎ Stands
  by_opening None q =
      let reply : happens control i.0 line (asks.Arrive team arriving) (board_reply n h i.0 (asks.Arrive team arriving)) ≡ Some (arrives team.0 i.0 (kind_of arriving) line) = rw q refl in
      inr (reply, ap is_form (opened None q reply))
  by_opening (Some o) q = elim (cases_Bool (same_kind (kind_of arriving) o.kind)) [
    | inl y ↦ (
        let reply : happens control i.0 line (asks.Arrive team arriving) (board_reply n h i.0 (asks.Arrive team arriving)) ≡ Some (arrives team.0 i.0 (kind_of arriving) line) = rw (q, y) refl in
        inr (reply, ap is_form (opened (Some o) q reply) ∙ form_same (kind_of arriving) o.kind y))
    | inr z ↦ inl (rw (q, z) refl)
  ]

  pub arrival_stands : (happens control i.0 line (asks.Arrive team arriving) (board_reply n h i.0 (asks.Arrive team arriving)) ≡ None) ⊎ Stands
  arrival_stands = by_opening (opening_of team.0 here (happened control h)) refl

-- an arrival that clashes makes nothing
module _ (n : ℕ) (h : List Entry) (p : Parts) (b : IsBoard n h p) (i : ImageNo) (team : TeamNo) (arriving : Arriving) where
  pub makes_nothing : (stamp line : ℕ) → happens control i.0 line (asks.Arrive team arriving) (board_reply n h i.0 (asks.Arrive team arriving)) ≡ None
      → (made_by 1 (teams_after n h) h (due n h i (asks.Arrive team arriving) stamp line) ≡ []) × (false ≡ bad_now team.0 (suc (arrivals team.0 i.0 (happened control h))) (members_at (teams_after n h) team.0) h (due n h i (asks.Arrive team arriving) stamp line))
  makes_nothing stamp line q =
      (made_none h (due n h i (asks.Arrive team arriving) stamp line) q 1 (teams_after n h), sym (bad_none team.0 (suc (arrivals team.0 i.0 (happened control h))) (members_at (teams_after n h) team.0) h (due n h i (asks.Arrive team arriving) stamp line) q))

  pub makes_round : (stamp line : ℕ) → 0 < team.0 → team.0 ≤ length p.teams.teams → happens control i.0 line (asks.Arrive team arriving) (board_reply n h i.0 (asks.Arrive team arriving)) ≡ Some (arrives team.0 i.0 (kind_of arriving) line)
      → made_by 1 (teams_after n h) h (due n h i (asks.Arrive team arriving) stamp line) ≡ made_at team.0 (suc (arrivals team.0 i.0 (happened control h))) (members_at (teams_after n h) team.0) h (due n h i (asks.Arrive team arriving) stamp line)
  makes_round stamp line low high is =
      let c = teams_count n h p b in
      let x = get_there (teams_after n h) (team.0 - 1) (omega arith) in
      arrival_makes h (due n h i (asks.Arrive team arriving) stamp line) team.0 i.0 (kind_of arriving) line is (teams_after n h) x.0 low x.1

  -- no arrival at FORM TEAM makes a team
  pub makes_none : is_form_kind (kind_of arriving) ≡ false → 0 < team.0 → team.0 ≤ length p.teams.teams → MakesFor n h i team arriving None
  makes_none f low high = record {
    made = λ stamp line. elim (arrival_stands n h i team arriving stamp line) [
      | inl q ↦ (makes_nothing stamp line q).0
      | inr q ↦ makes_round stamp line low high q.0 ∙ sym (made_other team.0 (suc (arrivals team.0 i.0 (happened control h))) (members_at (teams_after n h) team.0) h (due n h i (asks.Arrive team arriving) stamp line) (q.1 ∙ f)).0
    ];
    bad = λ stamp line. elim (arrival_stands n h i team arriving stamp line) [
      | inl q ↦ (makes_nothing stamp line q).1
      | inr q ↦ (made_other team.0 (suc (arrivals team.0 i.0 (happened control h))) (members_at (teams_after n h) team.0) h (due n h i (asks.Arrive team arriving) stamp line) (q.1 ∙ f)).1
    ];
  }

pub not_form : (i : ImageNo) (arriving : Arriving) → given_at i arriving ≡ None → is_form_kind (kind_of arriving) ≡ false
not_form i (arrivings.Form number new_index) e = absurd (cc)
not_form i arrivings.Sync e = refl
not_form i arrivings.Change e = refl
not_form i arrivings.End e = refl
not_form i (arrivings.Allocate list) e = refl
not_form i (arrivings.Deallocate list) e = refl

pub is_given : (i : ImageNo) (arriving : Arriving) (a : GivenArg) → given_at i arriving ≡ Some a → (arriving ≡ arrivings.Form a.number a.new_index) × (a.image ≡ i)
is_given i (arrivings.Form number new_index) a e = let w : record { image = i; number = number; new_index = new_index } ≡ a = cc in (ap (λ (z : GivenArg). arrivings.Form z.number z.new_index) w, sym (ap (λ (z : GivenArg). z.image) w))
is_given i arrivings.Sync a e = absurd (cc)
is_given i arrivings.Change a e = absurd (cc)
is_given i arrivings.End a e = absurd (cc)
is_given i (arrivings.Allocate list) a e = absurd (cc)
is_given i (arrivings.Deallocate list) a e = absurd (cc)

-- ---- an end
pub opening_end : (t r i : ℕ) (failed : Bool) (h : List Entry) (e : Entry) → Ends e i failed → opening_of t r (happened control (h ++ e ∷ [])) ≡ opening_of t r (happened control h)
opening_end t r i failed h e ends =
    ap (opening_of t r) (happened_some control h e (end_of i failed) ends) ∙ opening_more t r (happened control h) (end_of i failed) ∙ ap (or_else (opening_of t r (happened control h))) (joins_none t r i failed (happened control h)) ∙ or_else_none (opening_of t r (happened control h))

-- ---- the round that an arrival at FORM TEAM joins
module _ (n : ℕ) (h : List Entry) (p : Parts) (b : IsBoard n h p) (team : TeamNo) (round : ℕ) (arg : GivenArg) (e : Entry) (image : e.image ≡ arg.image) (ask : e.event.ask ≡ asks.Arrive team (arrivings.Form arg.number arg.new_index))
    (is : happens control e.image.0 e.event.line e.event.ask e.event.reply ≡ Some (arrives team.0 arg.image.0 kinds.Form e.event.line)) (number : round ≡ arrivals team.0 arg.image.0 (happened control h) + 1)
    (form : is_form (opening_of team.0 round (happened control (h ++ e ∷ []))) ≡ true) where
  now_is : happened control (h ++ e ∷ []) ≡ happened control h ++ arrives team.0 arg.image.0 kinds.Form e.event.line ∷ []
  now_is = happened_some control h e (arrives team.0 arg.image.0 kinds.Form e.event.line) is

  args_are : form_args (round_of control team.0 round (members_at (teams_after n h) team.0) (h ++ e ∷ [])) ≡ args_of (args_in p.forms.items team.0 round ++ arg ∷ []) (members_at (teams_after n h) team.0)
  args_are =
      let next : round ≡ suc (arrivals team.0 arg.image.0 (happened control h)) = omega (arith, number) in
      subst (λ r. form_args (round_of control team.0 r (members_at (teams_after n h) team.0) (h ++ e ∷ [])) ≡ args_of (args_in p.forms.items team.0 r ++ arg ∷ []) (members_at (teams_after n h) team.0)) (sym next)
      (round_args _ (h ++ e ∷ []) (forms_arrival p.forms.items h e arg.image team kinds.Form e.event.line is b.forms (arrivings.Form arg.number arg.new_index) image ask) team.0 (suc (arrivals team.0 arg.image.0 (happened control h))) (omega arith) (members_at (teams_after n h) team.0)
      ∙ ap (λ l. args_of l (members_at (teams_after n h) team.0)) (sym (args_with p.forms.items team.0 (suc (arrivals team.0 arg.image.0 (happened control h))) team arg refl)))

  pub joined_some : (status : ℤ) (o : Option Formation) → Some status ≡ closing_at (members_at (teams_after n h) team.0) team.0 (happened control h) (happened control h ++ arrives team.0 arg.image.0 kinds.Form e.event.line ∷ []) (arrivals team.0 arg.image.0 (happened control h) + 1)
      → IsFormed p team round status (args_in p.forms.items team.0 round ++ arg ∷ []) o
      → (made_by_one o ≡ made_at team.0 round (members_at (teams_after n h) team.0) h e) × (bad_of o ≡ bad_now team.0 round (members_at (teams_after n h) team.0) h e)
  joined_some status o closes formed_by =
      let ms = members_at (teams_after n h) team.0 in
      let c = closing_some ms team.0 (arrivals team.0 arg.image.0 (happened control h) + 1) (happened control h) _ status closes in
      let closed : closes_now team.0 ms (happened control h) (happened control (h ++ e ∷ [])) round ≡ true = ap (λ a. closes_now team.0 ms (happened control h) a round) now_is ∙ ap (closes_now team.0 ms (happened control h) _) number ∙ c.0 in
      let st : status ≡ missed_status (missed_by ms (happened control (h ++ e ∷ []))) = c.1 ∙ ap (λ a. missed_status (missed_by ms a)) (sym now_is) in
      let f = formed_by n h (missed_by ms (happened control (h ++ e ∷ []))) b st in
      (f.0 ∙ formed_at team.0 round ms h e (args_in p.forms.items team.0 round ++ arg ∷ []) closed form args_are, f.1 ∙ bad_at team.0 round ms h e (args_in p.forms.items team.0 round ++ arg ∷ []) closed form args_are)

  pub joined_none : None ≡ closing_at (members_at (teams_after n h) team.0) team.0 (happened control h) (happened control h ++ arrives team.0 arg.image.0 kinds.Form e.event.line ∷ []) (arrivals team.0 arg.image.0 (happened control h) + 1)
      → ([] ≡ made_at team.0 round (members_at (teams_after n h) team.0) h e) × (false ≡ bad_now team.0 round (members_at (teams_after n h) team.0) h e)
  joined_none closes =
      let ms = members_at (teams_after n h) team.0 in
      made_not team.0 round ms h e (ap (λ a. closes_now team.0 ms (happened control h) a round) now_is ∙ ap (closes_now team.0 ms (happened control h) _) number ∙ closing_none ms team.0 (arrivals team.0 arg.image.0 (happened control h) + 1) (happened control h) _ closes)

-- ---- what comes of the arrival
module _ (n : ℕ) (h : List Entry) (p : Parts) (b : IsBoard n h p) (i : ImageNo) (team : TeamNo) (arriving : Arriving) (low : 0 < team.0) (high : team.0 ≤ length p.teams.teams) where
  -- it clashes
  pub clash_makes : (j : ImageNo) (l : ℕ) → arrived.Clash j l ≡ told_arrival same_kind (kind_of arriving) (arrivals team.0 i.0 (happened control h) + 1) (opening_of team.0 (arrivals team.0 i.0 (happened control h) + 1) (happened control h)) → MakesFor n h i team arriving None
  clash_makes j l q =
      let none : (line : ℕ) → happens control i.0 line (asks.Arrive team arriving) (board_reply n h i.0 (asks.Arrive team arriving)) ≡ None = (λ line. ap (happens control i.0 line (asks.Arrive team arriving)) (sym (told_is control h i.0 team.0 (kind_of arriving) (arrived.Clash j l) q))) in
      record { made = λ stamp line. (makes_nothing n h p b i team arriving stamp line (none line)).0; bad = λ stamp line. (makes_nothing n h p b i team arriving stamp line (none line)).1 }

  -- it joins a round
  module _ (round : ℕ) (q : arrived.Joined round ≡ told_arrival same_kind (kind_of arriving) (arrivals team.0 i.0 (happened control h) + 1) (opening_of team.0 (arrivals team.0 i.0 (happened control h) + 1) (happened control h))) where
    pub joins_as : (line : ℕ) → happens control i.0 line (asks.Arrive team arriving) (board_reply n h i.0 (asks.Arrive team arriving)) ≡ Some (arrives team.0 i.0 (kind_of arriving) line)
    joins_as line = ap (happens control i.0 line (asks.Arrive team arriving)) (sym (told_is control h i.0 team.0 (kind_of arriving) (arrived.Joined round) q))

    pub joins_number : round ≡ arrivals team.0 i.0 (happened control h) + 1
    joins_number = joined_number same_kind (kind_of arriving) _ (opening_of team.0 (arrivals team.0 i.0 (happened control h) + 1) (happened control h)) round q

    next_is : round ≡ suc (arrivals team.0 i.0 (happened control h))
    next_is = let k = joins_number in omega (arith, k)

    pub joins_form : (stamp line : ℕ) → is_form (opening_of team.0 round (happened control (h ++ due n h i (asks.Arrive team arriving) stamp line ∷ []))) ≡ is_form_kind (kind_of arriving)
    joins_form stamp line = elim (arrival_stands n h i team arriving stamp line) [
      | inl z ↦ absurd (let w : None ≡ Some (arrives team.0 i.0 (kind_of arriving) line) = sym z ∙ joins_as line in cc)
      | inr s ↦ ap (λ r. is_form (opening_of team.0 r (happened control (h ++ due n h i (asks.Arrive team arriving) stamp line ∷ [])))) next_is ∙ s.1
    ]

    pub joined_makes : (o : Option Formation) → ((stamp line : ℕ) → (made_by_one o ≡ made_at team.0 round (members_at (teams_after n h) team.0) h (due n h i (asks.Arrive team arriving) stamp line)) × (bad_of o ≡ bad_now team.0 round (members_at (teams_after n h) team.0) h (due n h i (asks.Arrive team arriving) stamp line)))
        → MakesFor n h i team arriving o
    joined_makes o f = record {
      made = λ stamp line. makes_round n h p b i team arriving stamp line low high (joins_as line)
          ∙ ap (λ r. made_at team.0 r (members_at (teams_after n h) team.0) h (due n h i (asks.Arrive team arriving) stamp line)) (sym next_is) ∙ sym (f stamp line).0;
      bad = λ stamp line. (f stamp line).1 ∙ ap (λ r. bad_now team.0 r (members_at (teams_after n h) team.0) h (due n h i (asks.Arrive team arriving) stamp line)) next_is;
    }

-- ---- the rounds that an end closes
module _ (n : ℕ) (h : List Entry) (p : Parts) (b : IsBoard n h p) (team : TeamNo) (round i : ℕ) (failed : Bool) (first : 0 < round) (e : Entry) (ends : Ends e i failed) where
  end_now : happened control (h ++ e ∷ []) ≡ happened control h ++ end_of i failed ∷ []
  end_now = happened_some control h e (end_of i failed) ends

  end_args : form_args (round_of control team.0 round (members_at (teams_after n h) team.0) (h ++ e ∷ [])) ≡ args_of (args_in p.forms.items team.0 round) (members_at (teams_after n h) team.0)
  end_args = round_args p.forms.items (h ++ e ∷ []) (forms_none p.forms.items h e (λ t m. ap (arrives_there t m) ends ∙ end_arrives t m i failed) b.forms) team.0 round first (members_at (teams_after n h) team.0)

  pub end_some : (status : ℤ) (o : Option Formation) → is_form (opening_of team.0 round (happened control h)) ≡ true → Some status ≡ closing_at (members_at (teams_after n h) team.0) team.0 (happened control h) (happened control h ++ end_of i failed ∷ []) round
      → IsFormed p team round status (args_in p.forms.items team.0 round) o → made_by_one o ≡ made_at team.0 round (members_at (teams_after n h) team.0) h e
  end_some status o form closes formed_by =
      let ms = members_at (teams_after n h) team.0 in
      let c = closing_some ms team.0 round (happened control h) _ status closes in
      let closed : closes_now team.0 ms (happened control h) (happened control (h ++ e ∷ [])) round ≡ true = ap (λ a. closes_now team.0 ms (happened control h) a round) end_now ∙ c.0 in
      let st : status ≡ missed_status (missed_by ms (happened control (h ++ e ∷ []))) = c.1 ∙ ap (λ a. missed_status (missed_by ms a)) (sym end_now) in
      let f = formed_by n h (missed_by ms (happened control (h ++ e ∷ []))) b st in
      f.0 ∙ formed_at team.0 round ms h e (args_in p.forms.items team.0 round) closed (ap is_form (opening_end team.0 round i failed h e ends) ∙ form) end_args

  pub end_none : None ≡ closing_at (members_at (teams_after n h) team.0) team.0 (happened control h) (happened control h ++ end_of i failed ∷ []) round → [] ≡ made_at team.0 round (members_at (teams_after n h) team.0) h e
  end_none closes =
      let ms = members_at (teams_after n h) team.0 in
      (made_not team.0 round ms h e (ap (λ a. closes_now team.0 ms (happened control h) a round) end_now ∙ closing_none ms team.0 round (happened control h) _ closes)).0

  pub end_other : is_form (opening_of team.0 round (happened control h)) ≡ false → [] ≡ made_at team.0 round (members_at (teams_after n h) team.0) h e
  end_other form = (made_other team.0 round (members_at (teams_after n h) team.0) h e (ap is_form (opening_end team.0 round i failed h e ends) ∙ form)).0

-- ---- the kind that is kept of a round
pub form_some : (o : Option Opening) (k : RoundKind) → kind_told o ≡ Some k → is_form_kind k ≡ is_form o
form_some None k e = absurd (cc)
form_some (Some o) k e = let w : o.kind ≡ k = cc in ap is_form_kind (sym w)

pub form_none : (o : Option Opening) → kind_told o ≡ None → false ≡ is_form o
form_none None e = refl
form_none (Some o) e = absurd (cc)
