use Rattle.std.proofs.Common.{◌≡◌, ℕ, suc, ◌+◌, ◌-◌, ◌<◌, ◌≤◌, Bool, true, false, ◌&&◌, ◌||◌, nat_eq, List, [], ◌∷◌, ◌++◌, inl, inr, length, refl, ap, sym, ◌∙◌, subst, arith, IsTrue}
use Rattle.std.specs.Prelude.{Option, Some, None, slice_index_or}
use Rattle.std.specs.Global.{Vec}
use Rattle.std.proofs.lemmas.Bool.{and_parts, cases_Bool, cases_eq, eqb-true}
use Rattle.caf_base.specs.declared.place.ImageNo.{ImageNo}
use Rattle.caf_base.specs.declared.place.TeamNo.{TeamNo}
use Rattle.caf_base.specs.declared.value.Kind.{Kind}
use Rattle.caf_base.specs.declared.value.Value.{Value}
use Rattle.caf_events.specs.Histories.{last_stamp_of}
use Rattle.caf_events.specs.declared.ask.Ask.{Ask}
use Rattle.caf_events.specs.declared.ask.Ask.TheVariants as asks
use Rattle.caf_events.specs.declared.reply.Reply.{Reply}
use Rattle.caf_events.specs.declared.reply.Reply.TheVariants as replies
use Rattle.caf_events.specs.declared.round.Arriving.{Arriving}
use Rattle.caf_events.specs.declared.round.GatherOp.{GatherOp}
use Rattle.caf_events.specs.declared.round.RoundKind.{RoundKind}
use Rattle.caf_events.specs.declared.round.RoundKind.TheVariants as kinds
use Rattle.caf_events.specs.declared.event.Entry.{Entry}
use Rattle.object_rules.specs.Kinds.{same_kind}
use Rattle.object_rules.specs.Happenings.{Happening, arrives, pairs, control, collective, images, joining, happens, happened, kind_of, numbers_of}
use Rattle.object_rules.specs.TeamRounds.{is_arrival, arrivals, Opening, opening_of}
use Rattle.object_rules.specs.ImagePairs.{names}
use Rattle.object_rules.specs.Constructs.{Hold, construct_turn}
use Rattle.object_rules.specs.BoardTeams.{arrives_there, teams_after, members_at}
use Rattle.object_rules.specs.BoardRules.{is_image, fits_board, can_come, board_ready, board_reply}
use Rattle.failure_status.specs.Endings.{end_of}
use Rattle.team_round.specs.declared.round.Arrival.{Arrival}
use Rattle.team_round.specs.declared.round.Arrival.TheVariants as arrived
use Rattle.team_round.specs.TeamStates.{RoundsState, members_in, TellsAll, told_arrival, happened_with}
use Rattle.team_round.proofs.Making.{happened_none, happened_some}
use Rattle.team_tree.specs.declared.arg.FormArg.{FormArg as GivenArg}
use Rattle.team_tree.specs.KnownTeams.{TeamsState}
use Rattle.image_sync.specs.Holds.{CriticalsState, hold_in}
use Rattle.image_sync.specs.PairStates.{TellsSyncs}
use Rattle.control_board.specs.Values.{BroughtState}
use Rattle.control_board.specs.declared.forming.Given.{Given}
use Rattle.control_board.specs.declared.forming.BadRound.{BadRound}
use Rattle.control_board.specs.declared.parts.Parts.{Parts}
use Rattle.control_board.specs.Boards.{IsBoard, IsKeptIn, PlanFits, Planned, IsEnacted, class_of, rounds_in, brings, brought, values_of, table_of, given_at, given_with, is_listed, listed_with, bad_now, due, reply_to, StepsTo, StepBy}
use Rattle.control_board.proofs.Members.{image_within, member_there, tables_there, teams_count}
use Rattle.control_board.proofs.Forms.{AreForms, forms_none, forms_arrival}
use Rattle.control_board.proofs.Bad.{bad_none, bad_end, other_round, listed_arrival}
use Rattle.control_board.proofs.Keeping.{both, kept, Middle, enacted}
use Rattle.control_board.proofs.Arrivals.{told_is, happened_arrival, happened_gather}
use Rattle.control_board.proofs.Bringing.{brought_none, kept_count, kept_values, other_values, tables_other, tables_count, bringers_same, gather_member}

pub ready_parts : (n : ℕ) (h : List Entry) (i : ℕ) (a : Ask) → IsTrue (board_ready n h i a) → (is_image n i ≡ true) × (fits_board n h i a ≡ true) × (can_come n h i a ≡ true)
ready_parts n h i a r =
    let q = and_parts (is_image n i && fits_board n h i a) (can_come n h i a) r in
    let f = and_parts (is_image n i) (fits_board n h i a) q.0 in
    (f.0, f.1, q.1)

-- ---- who arrives is a member
joins : (r : Reply) (x : Happening) (t m : ℕ) → arrives_there t m (joining r x) ≡ true → is_arrival t m x ≡ true
joins (replies.Round k) x t m y = y
joins r x t m y = absurd (let w : false ≡ true = y in cc)

same_member : (n : ℕ) (h : List Entry) (u i t m : ℕ) → names i (members_at (teams_after n h) u) ≡ true → (nat_eq u t && nat_eq i m) ≡ true → names m (members_at (teams_after n h) t) ≡ true
same_member n h u i t m f y =
    let p = and_parts (nat_eq u t) (nat_eq i m) y in
    ap (λ k. names k (members_at (teams_after n h) t)) (sym (eqb-true i m p.1)) ∙ ap (λ k. names i (members_at (teams_after n h) k)) (sym (eqb-true u t p.0)) ∙ f

arrivers : (n : ℕ) (h : List Entry) (i : ℕ) (a : Ask) (r : Reply) (line : ℕ) (c : Bool) (t m : ℕ) → fits_board n h i a ≡ true → arrives_there t m (happens (class_of c) i line a r) ≡ true → names m (members_at (teams_after n h) t) ≡ true
arrivers n h i (asks.Arrive team arriving) r line false t m fits y = same_member n h team.0 i t m fits (joins r (arrives team.0 i (kind_of arriving) line) t m y)
arrivers n h i (asks.Gather team op root kind values) r line true t m fits y =
    same_member n h team.0 i t m (gather_member n h i team op root kind values fits) (joins r (arrives team.0 i (kinds.Collective op root kind (length values)) line) t m y)
arrivers n h i a r line true t m fits y = absurd (let w : false ≡ true = y in cc)
arrivers n h i a r line false t m fits y = absurd (let w : false ≡ true = y in cc)

-- the entry of a step, whatever its reply
abbrev pub entry_by : ImageNo → Ask → Reply → ℕ → ℕ → Entry
entry_by i a r stamp line = record { image = i; event = record { ask = a; reply = r; stamp = stamp; line = line } }

-- ---- a step by what it makes of rounds, values, pairs and constructs
module _ (p q : Parts) (i : ImageNo) (a : Ask) (line : ℕ) where
  -- a step that makes no team
  pub record Quiet : Type 0 where
    pub none : (r : Reply) → happens control i.0 line a r ≡ None
    pub same : q.images ≡ p.images
    pub teams : q.teams ≡ p.teams
    pub births : q.births ≡ p.births
    pub forms : q.forms ≡ p.forms
    pub bad : q.bad ≡ p.bad

  pub steps_by : Quiet → ((c : Bool) → (rounds_in q c).images ≡ (rounds_in p c).images) → ((c : Bool) → members_in (rounds_in q c).teams ≡ members_in (rounds_in p c).teams)
      → ((c : Bool) (n : ℕ) (h : List Entry) (stamp : ℕ) → TellsAll n (rounds_in p c) (happened (class_of c) h) → TellsAll n (rounds_in q c) (happened (class_of c) (h ++ entry_by i a (board_reply n h i.0 a) stamp line ∷ [])))
      → length q.brought.items ≡ length p.brought.items
      → ((n : ℕ) (h : List Entry) → IsBoard n h p → IsTrue (board_ready n h i.0 a) → (t : ℕ) → 0 < t → t ≤ length p.brought.items → length (table_of q.brought.items t) ≡ n)
      → ((n : ℕ) (h : List Entry) (stamp : ℕ) → IsBoard n h p → IsTrue (board_ready n h i.0 a) → (t j : ℕ) → 0 < t → t ≤ length p.brought.items → 0 < j → j ≤ n → values_of (table_of q.brought.items t) j ≡ brought t j (h ++ entry_by i a (board_reply n h i.0 a) stamp line ∷ []))
      → ((n : ℕ) (h : List Entry) (stamp : ℕ) → TellsSyncs n p.pairs (happened images h) → TellsSyncs n q.pairs (happened images (h ++ entry_by i a (board_reply n h i.0 a) stamp line ∷ [])))
      → ((c : ℕ) → hold_in q.criticals.constructs c ≡ construct_turn c (hold_in p.criticals.constructs c) i.0 a)
      → StepsTo p i a line q
  steps_by quiet runs members rounds count bringers values syncs turned n h stamp b ready planned late =
      kept n h p q (due n h i a stamp line) b (quiet.none (board_reply n h i.0 a)) late quiet.same runs (ap (λ (x : TeamsState). x.teams) quiet.teams) quiet.births members (λ c. rounds c n h stamp (b.rounds c)) count (bringers n h b ready)
      (values n h stamp b ready) quiet.forms quiet.bad (syncs n h stamp b.syncs) turned
      (λ c t m. arrivers n h i.0 a (board_reply n h i.0 a) line c t m (ready_parts n h i.0 a ready).1)

  -- it is nothing to rounds, brings nothing, or is nothing to pairs
  pub rounds_stay : (c : Bool) → ((r : Reply) → happens (class_of c) i.0 line a r ≡ None) → rounds_in q c ≡ rounds_in p c → (n : ℕ) (h : List Entry) (stamp : ℕ) → TellsAll n (rounds_in p c) (happened (class_of c) h)
      → TellsAll n (rounds_in q c) (happened (class_of c) (h ++ entry_by i a (board_reply n h i.0 a) stamp line ∷ []))
  rounds_stay c none same n h stamp told = subst (λ s. TellsAll n s (happened (class_of c) (h ++ entry_by i a (board_reply n h i.0 a) stamp line ∷ []))) (sym same)
      (subst (TellsAll n (rounds_in p c)) (sym (happened_none (class_of c) h (entry_by i a (board_reply n h i.0 a) stamp line) (none (board_reply n h i.0 a)))) told)

  pub bringers_stay : q.brought ≡ p.brought → (n : ℕ) (h : List Entry) → IsBoard n h p → IsTrue (board_ready n h i.0 a) → (t : ℕ) → 0 < t → t ≤ length p.brought.items → length (table_of q.brought.items t) ≡ n
  bringers_stay same n h b ready t low high = ap (λ (v : Vec (List BroughtState)). length (table_of v.items t)) same ∙ b.bringers t low high

  pub values_stay : ((r : Reply) (t j stamp : ℕ) → brings t j (entry_by i a r stamp line) ≡ None) → q.brought ≡ p.brought → (n : ℕ) (h : List Entry) (stamp : ℕ) → IsBoard n h p → IsTrue (board_ready n h i.0 a)
      → (t j : ℕ) → 0 < t → t ≤ length p.brought.items → 0 < j → j ≤ n → values_of (table_of q.brought.items t) j ≡ brought t j (h ++ entry_by i a (board_reply n h i.0 a) stamp line ∷ [])
  values_stay none same n h stamp b ready t j low high first last =
      ap (λ (v : Vec (List BroughtState)). values_of (table_of v.items t) j) same ∙ b.values t j low high first last ∙ sym (brought_none t j h (entry_by i a (board_reply n h i.0 a) stamp line) (none (board_reply n h i.0 a) t j stamp))

  pub pairs_stay : ((r : Reply) → happens images i.0 line a r ≡ None) → q.pairs ≡ p.pairs → (n : ℕ) (h : List Entry) (stamp : ℕ) → TellsSyncs n p.pairs (happened images h)
      → TellsSyncs n q.pairs (happened images (h ++ entry_by i a (board_reply n h i.0 a) stamp line ∷ []))
  pairs_stay none same n h stamp told = subst (λ c. TellsSyncs n c (happened images (h ++ entry_by i a (board_reply n h i.0 a) stamp line ∷ []))) (sym same)
      (subst (TellsSyncs n p.pairs) (sym (happened_none images h (entry_by i a (board_reply n h i.0 a) stamp line) (none (board_reply n h i.0 a)))) told)

  -- it happens to rounds, or to pairs
  pub rounds_hear : (c : Bool) (x : Happening) → ((r : Reply) → happens (class_of c) i.0 line a r ≡ Some x) → ((n : ℕ) (hs : List Happening) → TellsAll n (rounds_in p c) hs → TellsAll n (rounds_in q c) (hs ++ x ∷ []))
      → (n : ℕ) (h : List Entry) (stamp : ℕ) → TellsAll n (rounds_in p c) (happened (class_of c) h) → TellsAll n (rounds_in q c) (happened (class_of c) (h ++ entry_by i a (board_reply n h i.0 a) stamp line ∷ []))
  rounds_hear c x is told n h stamp t = subst (TellsAll n (rounds_in q c)) (sym (happened_some (class_of c) h (entry_by i a (board_reply n h i.0 a) stamp line) x (is (board_reply n h i.0 a)))) (told n (happened (class_of c) h) t)

  pub pairs_hear : (x : Happening) → ((r : Reply) → happens images i.0 line a r ≡ Some x) → ((n : ℕ) (hs : List Happening) → TellsSyncs n p.pairs hs → TellsSyncs n q.pairs (hs ++ x ∷ []))
      → (n : ℕ) (h : List Entry) (stamp : ℕ) → TellsSyncs n p.pairs (happened images h) → TellsSyncs n q.pairs (happened images (h ++ entry_by i a (board_reply n h i.0 a) stamp line ∷ []))
  pairs_hear x is told n h stamp t = subst (TellsSyncs n q.pairs) (sym (happened_some images h (entry_by i a (board_reply n h i.0 a) stamp line) x (is (board_reply n h i.0 a)))) (told n (happened images h) t)

pub joined_number : (same : RoundKind → RoundKind → Bool) (kind : RoundKind) (k : ℕ) (o : Option Opening) (r : ℕ) → arrived.Joined r ≡ told_arrival same kind k o → r ≡ k
joined_number same kind k None r e = cc
joined_number same kind k (Some o) r e = elim (cases_Bool (same o.kind kind)) [
  | inl t ↦ (let w : arrived.Joined r ≡ arrived.Joined k = e ∙ rw t refl in cc)
  | inr f ↦ absurd (let w : arrived.Joined r ≡ arrived.Clash (record { 0 = o.image }) o.line = e ∙ rw f refl in cc)
]

clash_forms : (gs : List Given) (t : TeamNo) (o : Option GivenArg) (j : ImageNo) (l : ℕ) → given_with gs t o (arrived.Clash j l) ≡ gs
clash_forms gs t None j l = refl
clash_forms gs t (Some x) j l = refl

pub end_arrives : (t m i : ℕ) (failed : Bool) → is_arrival t m (end_of i failed) ≡ false
end_arrives t m i true = refl
end_arrives t m i false = refl

or_nil : (a : Bool) → (a || false) ≡ a
or_nil true = refl
or_nil false = refl

-- ---- an arrival at a round of an image control statement
module _ (p m q : Parts) (i : ImageNo) (team : TeamNo) (arriving : Arriving) (line : ℕ) (a : Arrival) where
  pub record Arrives : Type 0 where
    pub answer : (n : ℕ) (hs : List Happening) → TellsAll n p.control hs → a ≡ told_arrival same_kind (kind_of arriving) (arrivals team.0 i.0 hs + 1) (opening_of team.0 (arrivals team.0 i.0 hs + 1) hs)
    pub told : (n : ℕ) (hs : List Happening) → TellsAll n p.control hs → TellsAll n m.control (happened_with hs team.0 i.0 (kind_of arriving) line a)
    pub images : m.images ≡ p.images
    pub runs : m.control.images ≡ p.control.images
    pub teams : m.teams ≡ p.teams
    pub births : m.births ≡ p.births
    pub members : members_in m.control.teams ≡ members_in p.control.teams
    pub others : m.collective ≡ p.collective
    pub tables : m.brought ≡ p.brought
    pub forms : m.forms.items ≡ given_with p.forms.items team (given_at i arriving) a
    pub bad : m.bad.items ≡ listed_with p.bad.items team a p.plan.bad
    pub syncs : m.pairs ≡ p.pairs
    pub constructs : m.criticals ≡ p.criticals

  reply_is : Arrives → (n : ℕ) (h : List Entry) → IsBoard n h p → reply_to a ≡ board_reply n h i.0 (asks.Arrive team arriving)
  reply_is s n h b = told_is control h i.0 team.0 (kind_of arriving) a (s.answer n (happened control h) (b.rounds false))

  -- what the entry is to rounds, by what came of the arrival
  module _ (s : Arrives) (n : ℕ) (h : List Entry) (stamp : ℕ) (b : IsBoard n h p) (ready : IsTrue (board_ready n h i.0 (asks.Arrive team arriving))) (planned : Planned n h p.plan i (asks.Arrive team arriving)) where
    joined_is : (r : ℕ) → a ≡ arrived.Joined r → happens control i.0 line (asks.Arrive team arriving) (board_reply n h i.0 (asks.Arrive team arriving)) ≡ Some (arrives team.0 i.0 (kind_of arriving) line)
    joined_is r q = ap (happens control i.0 line (asks.Arrive team arriving)) (sym (sym (ap reply_to q) ∙ reply_is s n h b))

    clash_is : (j : ImageNo) (l : ℕ) → a ≡ arrived.Clash j l → happens control i.0 line (asks.Arrive team arriving) (board_reply n h i.0 (asks.Arrive team arriving)) ≡ None
    clash_is j l q = ap (happens control i.0 line (asks.Arrive team arriving)) (sym (sym (ap reply_to q) ∙ reply_is s n h b))

    number_is : (r : ℕ) → a ≡ arrived.Joined r → r ≡ suc (arrivals team.0 i.0 (happened control h))
    number_is r q =
        let next : arrivals team.0 i.0 (happened control h) + 1 ≡ suc (arrivals team.0 i.0 (happened control h)) = omega arith in
        joined_number same_kind (kind_of arriving) _ (opening_of team.0 (arrivals team.0 i.0 (happened control h) + 1) (happened control h)) r (sym q ∙ s.answer n (happened control h) (b.rounds false)) ∙ next

    forms_by : (x : Arrival) → a ≡ x → AreForms m.forms.items (h ++ entry_by i (asks.Arrive team arriving) (board_reply n h i.0 (asks.Arrive team arriving)) stamp line ∷ [])
    forms_by (arrived.Joined r) q =
        subst (λ gs. AreForms gs (h ++ entry_by i (asks.Arrive team arriving) (board_reply n h i.0 (asks.Arrive team arriving)) stamp line ∷ []))
        (sym (s.forms ∙ ap (given_with p.forms.items team (given_at i arriving)) (q ∙ ap arrived.Joined (number_is r q))))
        (forms_arrival p.forms.items h (entry_by i (asks.Arrive team arriving) (board_reply n h i.0 (asks.Arrive team arriving)) stamp line) i team (kind_of arriving) line (joined_is r q) b.forms arriving refl refl)
    forms_by (arrived.Clash j l) q =
        subst (λ gs. AreForms gs (h ++ entry_by i (asks.Arrive team arriving) (board_reply n h i.0 (asks.Arrive team arriving)) stamp line ∷ []))
        (sym (s.forms ∙ ap (given_with p.forms.items team (given_at i arriving)) q ∙ clash_forms p.forms.items team (given_at i arriving) j l))
        (forms_none p.forms.items h (entry_by i (asks.Arrive team arriving) (board_reply n h i.0 (asks.Arrive team arriving)) stamp line) (λ t k. ap (arrives_there t k) (clash_is j l q)) b.forms)

    bad_by : (x : Arrival) → a ≡ x → (t r : ℕ) → is_listed m.bad.items t r ≡ (is_listed p.bad.items t r || bad_now t r (members_at (teams_after n h) t) h (entry_by i (asks.Arrive team arriving) (board_reply n h i.0 (asks.Arrive team arriving)) stamp line))
    bad_by (arrived.Joined k) q t r =
        ap (λ bs. is_listed bs t r) (s.bad ∙ ap (λ x. listed_with p.bad.items team x p.plan.bad) (q ∙ ap arrived.Joined (number_is k q)))
        ∙ listed_arrival p.bad.items h (entry_by i (asks.Arrive team arriving) (board_reply n h i.0 (asks.Arrive team arriving)) stamp line) team i.0 (kind_of arriving) line (members_at (teams_after n h)) (joined_is k q) p.plan.bad (planned.bad team arriving stamp line refl) t r
    bad_by (arrived.Clash j l) q t r =
        ap (λ bs. is_listed bs t r) (s.bad ∙ ap (λ x. listed_with p.bad.items team x p.plan.bad) q)
        ∙ sym (ap (λ z. is_listed p.bad.items t r || z) (bad_none t r (members_at (teams_after n h) t) h (entry_by i (asks.Arrive team arriving) (board_reply n h i.0 (asks.Arrive team arriving)) stamp line) (clash_is j l q)) ∙ or_nil (is_listed p.bad.items t r))

    new_by : (x : Arrival) → a ≡ x → (t r : ℕ) → length (teams_after n h) < t → bad_now t r (members_at (teams_after n h) t) h (entry_by i (asks.Arrive team arriving) (board_reply n h i.0 (asks.Arrive team arriving)) stamp line) ≡ false
    new_by (arrived.Joined k) q t r past =
        let f = (ready_parts n h i.0 (asks.Arrive team arriving) ready).1 in
        let w = member_there n h p b false team.0 i.0 f in
        let c = teams_count n h p b in
        let high : team.0 ≤ length p.teams.teams = w.2 in
        other_round p.bad.items h (entry_by i (asks.Arrive team arriving) (board_reply n h i.0 (asks.Arrive team arriving)) stamp line) team i.0 (kind_of arriving) line (members_at (teams_after n h)) (joined_is k q) t r (λ x y. absurd (omega arith))
    new_by (arrived.Clash j l) q t r past = bad_none t r (members_at (teams_after n h) t) h (entry_by i (asks.Arrive team arriving) (board_reply n h i.0 (asks.Arrive team arriving)) stamp line) (clash_is j l q)

    pub arrival_middle : Middle n h p m (entry_by i (asks.Arrive team arriving) (board_reply n h i.0 (asks.Arrive team arriving)) stamp line)
    arrival_middle = record {
      run = s.images;
      runs = both _ (ap (λ (x : RoundsState). x.images) s.others) s.runs;
      teams = s.teams;
      births = s.births;
      members = both _ (ap (λ (x : RoundsState). members_in x.teams) s.others) s.members;
      rounds = both _ (rounds_stay p m i (asks.Arrive team arriving) line true (λ r. refl) s.others n h stamp (b.rounds true))
          (subst (TellsAll n m.control) (sym (happened_arrival h (entry_by i (asks.Arrive team arriving) (board_reply n h i.0 (asks.Arrive team arriving)) stamp line) team arriving a refl (sym (reply_is s n h b)))) (s.told n (happened control h) (b.rounds false)));
      joined = λ c t k. arrivers n h i.0 (asks.Arrive team arriving) (board_reply n h i.0 (asks.Arrive team arriving)) line c t k (ready_parts n h i.0 (asks.Arrive team arriving) ready).1;
      tables = s.tables;
      no_value = λ t j. refl;
      forms = forms_by a refl;
      bad = λ t r low. bad_by a refl t r;
      no_new = λ t r past. new_by a refl t r past;
      syncs = pairs_stay p m i (asks.Arrive team arriving) line (λ r. refl) s.syncs n h stamp b.syncs;
      turned = λ c. ap (λ (x : CriticalsState). hold_in x.constructs c) s.constructs;
    }

  pub arrived_steps : Arrives → PlanFits p p.plan → IsEnacted m p.plan q → StepsTo p i (asks.Arrive team arriving) line q
  arrived_steps s fits to n h stamp b ready planned late =
      enacted n h p m q (due n h i (asks.Arrive team arriving) stamp line) p.plan b fits (planned.made stamp line) late (arrival_middle s n h stamp b ready planned) to

-- ---- the end of an image
module _ (p m q : Parts) (i : ImageNo) (a : Ask) (failed : Bool) (line : ℕ) where
  pub record IsEnd : Type 0 where
    pub round : (c : Bool) (r : Reply) → happens (class_of c) i.0 line a r ≡ Some (end_of i.0 failed)
    pub pair : (r : Reply) → happens images i.0 line a r ≡ Some (end_of i.0 failed)
    pub no_value : (r : Reply) (t j stamp : ℕ) → brings t j (entry_by i a r stamp line) ≡ None
    pub rounds : (n : ℕ) (hs : List Happening) → TellsAll n p.control hs → TellsAll n m.control (hs ++ end_of i.0 failed ∷ [])
    pub others : (n : ℕ) (hs : List Happening) → TellsAll n p.collective hs → TellsAll n m.collective (hs ++ end_of i.0 failed ∷ [])
    pub syncs : (n : ℕ) (hs : List Happening) → TellsSyncs n p.pairs hs → TellsSyncs n m.pairs (hs ++ end_of i.0 failed ∷ [])
    pub turned : (c : ℕ) → hold_in m.criticals.constructs c ≡ construct_turn c (hold_in p.criticals.constructs c) i.0 a
    pub run : m.images ≡ p.images
    pub runs : (c : Bool) → (rounds_in m c).images ≡ (rounds_in p c).images
    pub teams : m.teams ≡ p.teams
    pub births : m.births ≡ p.births
    pub members : (c : Bool) → members_in (rounds_in m c).teams ≡ members_in (rounds_in p c).teams
    pub tables : m.brought ≡ p.brought
    pub forms : m.forms ≡ p.forms
    pub bad : m.bad ≡ p.bad

  pub ended_middle : IsEnd → (n : ℕ) (h : List Entry) (stamp : ℕ) → IsBoard n h p → Middle n h p m (entry_by i a (board_reply n h i.0 a) stamp line)
  ended_middle s n h stamp b = record {
    run = s.run;
    runs = s.runs;
    teams = s.teams;
    births = s.births;
    members = s.members;
    rounds = both _ (rounds_hear p m i a line true (end_of i.0 failed) (s.round true) s.others n h stamp (b.rounds true)) (rounds_hear p m i a line false (end_of i.0 failed) (s.round false) s.rounds n h stamp (b.rounds false));
    joined = λ c t k y. absurd (let w : false ≡ true = sym (ap (arrives_there t k) (s.round c (board_reply n h i.0 a)) ∙ end_arrives t k i.0 failed) ∙ y in cc);
    tables = s.tables;
    no_value = λ t j. s.no_value (board_reply n h i.0 a) t j stamp;
    forms = subst (λ (v : Vec Given). AreForms v.items (h ++ entry_by i a (board_reply n h i.0 a) stamp line ∷ [])) (sym s.forms)
        (forms_none p.forms.items h (entry_by i a (board_reply n h i.0 a) stamp line) (λ t k. ap (arrives_there t k) (s.round false (board_reply n h i.0 a)) ∙ end_arrives t k i.0 failed) b.forms);
    bad = λ t r low. ap (λ (v : Vec BadRound). is_listed v.items t r) s.bad
        ∙ sym (ap (λ z. is_listed p.bad.items t r || z) (bad_end t r (members_at (teams_after n h) t) h (entry_by i a (board_reply n h i.0 a) stamp line) i.0 failed (s.round false (board_reply n h i.0 a))) ∙ or_nil (is_listed p.bad.items t r));
    no_new = λ t r past. bad_end t r (members_at (teams_after n h) t) h (entry_by i a (board_reply n h i.0 a) stamp line) i.0 failed (s.round false (board_reply n h i.0 a));
    syncs = pairs_hear p m i a line (end_of i.0 failed) s.pair s.syncs n h stamp b.syncs;
    turned = s.turned;
  }

  pub ended_steps : IsEnd → PlanFits p p.plan → IsEnacted m p.plan q → (n : ℕ) (h : List Entry) (stamp : ℕ) → IsBoard n h p → Planned n h p.plan i a → last_stamp_of h < stamp → IsBoard n (h ++ due n h i a stamp line ∷ []) q
  ended_steps s fits to n h stamp b planned late =
      enacted n h p m q (due n h i a stamp line) p.plan b fits (planned.made stamp line) late (ended_middle s n h stamp b) to

-- ---- the others
abbrev pub no_round : (p q : Parts) (i : ImageNo) (a : Ask) (line : ℕ) → ((r : Reply) → happens control i.0 line a r ≡ None) → q.images ≡ p.images → q.teams ≡ p.teams → q.births ≡ p.births → q.forms ≡ p.forms → q.bad ≡ p.bad → Quiet p q i a line
no_round p q i a line none same teams births forms bad = record { none = none; same = same; teams = teams; births = births; forms = forms; bad = bad }

pub paired_steps : (p q : Parts) (i : ImageNo) (named : List ImageNo) (line : ℕ) → ((n : ℕ) (hs : List Happening) → TellsSyncs n p.pairs hs → TellsSyncs n q.pairs (hs ++ pairs i.0 (numbers_of named) ∷ []))
    → Quiet p q i (asks.Pair named) line → q.control ≡ p.control → q.collective ≡ p.collective → q.brought ≡ p.brought → q.criticals ≡ p.criticals → StepsTo p i (asks.Pair named) line q
paired_steps p q i named line told quiet rounds others values constructs =
    steps_by p q i (asks.Pair named) line quiet
    (both _ (ap (λ (x : RoundsState). x.images) others) (ap (λ (x : RoundsState). x.images) rounds))
    (both _ (ap (λ (x : RoundsState). members_in x.teams) others) (ap (λ (x : RoundsState). members_in x.teams) rounds))
    (both _ (rounds_stay p q i (asks.Pair named) line true (λ r. refl) others) (rounds_stay p q i (asks.Pair named) line false (λ r. refl) rounds))
    (ap (λ (v : Vec (List BroughtState)). length v.items) values)
    (bringers_stay p q i (asks.Pair named) line values)
    (values_stay p q i (asks.Pair named) line (λ r t j stamp. refl) values)
    (pairs_hear p q i (asks.Pair named) line (pairs i.0 (numbers_of named)) (λ r. refl) told)
    (λ c. ap (λ (x : CriticalsState). hold_in x.constructs c) constructs)

-- an ask that is nothing to rounds and pairs, and brings nothing
pub record IsAside (i : ImageNo) (a : Ask) (line : ℕ) : Type 0 where
  pub no_round : (c : Bool) (r : Reply) → happens (class_of c) i.0 line a r ≡ None
  pub no_pair : (r : Reply) → happens images i.0 line a r ≡ None
  pub no_value : (r : Reply) (t j stamp : ℕ) → brings t j (entry_by i a r stamp line) ≡ None

pub turned_steps : (p q : Parts) (i : ImageNo) (a : Ask) (line : ℕ) → IsAside i a line
    → ((c : ℕ) → hold_in q.criticals.constructs c ≡ construct_turn c (hold_in p.criticals.constructs c) i.0 a) → Quiet p q i a line → q.control ≡ p.control → q.collective ≡ p.collective → q.brought ≡ p.brought
    → q.pairs ≡ p.pairs → StepsTo p i a line q
turned_steps p q i a line aside turned quiet rounds others values syncs =
    steps_by p q i a line quiet
    (both _ (ap (λ (x : RoundsState). x.images) others) (ap (λ (x : RoundsState). x.images) rounds))
    (both _ (ap (λ (x : RoundsState). members_in x.teams) others) (ap (λ (x : RoundsState). members_in x.teams) rounds))
    (both _ (rounds_stay p q i a line true (aside.no_round true) others) (rounds_stay p q i a line false (aside.no_round false) rounds))
    (ap (λ (v : Vec (List BroughtState)). length v.items) values)
    (bringers_stay p q i a line values)
    (values_stay p q i a line aside.no_value values) (pairs_stay p q i a line aside.no_pair syncs) turned

-- ---- an arrival at a collective subroutine
pub gathered_steps : (p q : Parts) (i : ImageNo) (team : TeamNo) (op : GatherOp) (root : ℕ) (kind : Kind) (values : List Value) (what : RoundKind) (line : ℕ) (a : Arrival) → what ≡ kinds.Collective op root kind (length values)
    → ((n : ℕ) (hs : List Happening) → TellsAll n p.collective hs → a ≡ told_arrival same_kind what (arrivals team.0 i.0 hs + 1) (opening_of team.0 (arrivals team.0 i.0 hs + 1) hs))
    → ((n : ℕ) (hs : List Happening) → TellsAll n p.collective hs → TellsAll n q.collective (happened_with hs team.0 i.0 what line a))
    → IsKeptIn p.brought.items q.brought.items team.0 i.0 values a
    → Quiet p q i (asks.Gather team op root kind values) line → q.collective.images ≡ p.collective.images → members_in q.collective.teams ≡ members_in p.collective.teams → q.control ≡ p.control → q.pairs ≡ p.pairs → q.criticals ≡ p.criticals
    → StepsTo p i (asks.Gather team op root kind values) line q
gathered_steps p q i team op root kind values what line a is answer told kept_with quiet runs members others syncs constructs =
    steps_by p q i ask line quiet
    (both _ runs (ap (λ (x : RoundsState). x.images) others))
    (both _ members (ap (λ (x : RoundsState). members_in x.teams) others))
    (both _ (λ n h stamp t. (
    let e = entry_by i ask (board_reply n h i.0 ask) stamp line in
    subst (TellsAll n q.collective) (sym (happened_gather h e team op root kind values a refl (sym (due_told n h t)))) (subst (λ k. TellsAll n q.collective (happened_with (happened collective h) team.0 i.0 k line a)) is (told n (happened collective h) t))))
    (rounds_stay p q i ask line false (λ r. refl) others))
    (tables_count p.brought.items q.brought.items (team.0 - 1) _ kept_with.0)
    (λ n h b ready t low high. elim (cases_eq team.0 t) [
      | inl same ↦ subst (λ u. length (table_of q.brought.items u) ≡ n) same (kept_count (table_of p.brought.items team.0) (table_of q.brought.items team.0) i.0 values a kept_with.1 ∙ b.bringers team.0 (subst (λ u. 0 < u) (sym same) low) (subst (λ u. u ≤ length p.brought.items) (sym same) high))
      | inr other ↦ bringers_same (table_of q.brought.items t) (table_of p.brought.items t) (tables_other p.brought.items q.brought.items team.0 t _ (there n h b ready).0 low kept_with.0 other) ∙ b.bringers t low high
    ])
    (λ n h stamp b ready t j low high first last. (
    let r = ready_parts n h i.0 ask ready in
    let image = image_within n i.0 r.0 in
    let w = there n h b ready in
    let count = b.bringers team.0 w.0 w.1 in
    elim (cases_eq team.0 t) [
      | inl same ↦ subst (λ u. values_of (table_of q.brought.items u) j ≡ brought u j (h ++ entry_by i ask (board_reply n h i.0 ask) stamp line ∷ [])) same
          (kept_values (table_of p.brought.items team.0) (table_of q.brought.items team.0) h (entry_by i ask (board_reply n h i.0 ask) stamp line) team op root kind values a refl (sym (due_told n h (b.rounds true)))
          kept_with.1 image.0 (let top : i.0 ≤ n = image.1 in omega arith) j first (b.values team.0 j w.0 w.1 first last))
      | inr other ↦ ap (λ vs. slice_index_or vs (j - 1) []) (tables_other p.brought.items q.brought.items team.0 t _ w.0 low kept_with.0 other) ∙ b.values t j low high first last
          ∙ sym (other_values (table_of p.brought.items team.0) (table_of q.brought.items team.0) h (entry_by i ask (board_reply n h i.0 ask) stamp line) team op root kind values a refl (sym (due_told n h (b.rounds true))) t j other)
    ]))
    (pairs_stay p q i ask line (λ r. refl) syncs)
    (λ c. ap (λ (x : CriticalsState). hold_in x.constructs c) constructs)
  where
    ask : Ask
    ask = asks.Gather team op root kind values

    there : (n : ℕ) (h : List Entry) → IsBoard n h p → IsTrue (board_ready n h i.0 ask) → (0 < team.0) × (team.0 ≤ length p.brought.items)
    there n h b ready =
        let r = ready_parts n h i.0 ask ready in
        let t = member_there n h p b true team.0 i.0 (gather_member n h i.0 team op root kind values r.1) in
        (t.0, tables_there n h p b team.0 t.0 t.2)

    due_told : (n : ℕ) (h : List Entry) → TellsAll n p.collective (happened collective h) → reply_to a ≡ board_reply n h i.0 (asks.Gather team op root kind values)
    due_told n h t = told_is collective h i.0 team.0 (kinds.Collective op root kind (length values)) a (answer n (happened collective h) t ∙ ap (λ k. told_arrival same_kind k (arrivals team.0 i.0 (happened collective h) + 1) (opening_of team.0 (arrivals team.0 i.0 (happened collective h) + 1) (happened collective h))) is)

-- an ask that changes nothing
quiet : (p q : Parts) (i : ImageNo) (a : Ask) (line : ℕ) → IsAside i a line → ((c : ℕ) (s : Hold) → construct_turn c s i.0 a ≡ s) → q ≡ p → StepsTo p i a line q
quiet p q i a line aside still same =
    turned_steps p q i a line aside (λ c. ap (λ (x : Parts). hold_in x.criticals.constructs c) same ∙ sym (still c (hold_in p.criticals.constructs c)))
    (no_round p q i a line (aside.no_round false) (ap (λ (x : Parts). x.images) same) (ap (λ (x : Parts). x.teams) same) (ap (λ (x : Parts). x.births) same) (ap (λ (x : Parts). x.forms) same) (ap (λ (x : Parts). x.bad) same))
    (ap (λ (x : Parts). x.control) same) (ap (λ (x : Parts). x.collective) same) (ap (λ (x : Parts). x.brought) same) (ap (λ (x : Parts). x.pairs) same)

never : (p q : Parts) (i : ImageNo) (a : Ask) (line : ℕ) → ((n : ℕ) (h : List Entry) → board_ready n h i.0 a ≡ false) → StepsTo p i a line q
never p q i a line false_there n h stamp b ready planned late = absurd (let e : true ≡ false = sym ready ∙ false_there n h in cc)

-- an arrival is an ask of which StepBy says nothing
abbrev pub is_arrival_ask : Ask → Bool
is_arrival_ask (asks.Arrive team arriving) = true
is_arrival_ask (asks.Gather team op root kind values) = true
is_arrival_ask a = false

pub no_arrival : (a : Ask) → ((t : TeamNo) (r : Arriving) → a ≡ asks.Arrive t r → ⊥) → ((t : TeamNo) (op : GatherOp) (root : ℕ) (kind : Kind) (vs : List Value) → a ≡ asks.Gather t op root kind vs → ⊥) → is_arrival_ask a ≡ false
no_arrival (asks.Arrive t r) f g = absurd (f t r refl)
no_arrival (asks.Gather t op root kind vs) f g = absurd (g t op root kind vs refl)
no_arrival a f g = refl

and_none : (x : Bool) → (x && false && true) ≡ false
and_none true = refl
and_none false = refl

abbrev aside : (i : ImageNo) (a : Ask) (line : ℕ) → ((c : Bool) (r : Reply) → happens (class_of c) i.0 line a r ≡ None) → ((r : Reply) → happens images i.0 line a r ≡ None) → ((r : Reply) (t j stamp : ℕ) → brings t j (entry_by i a r stamp line) ≡ None) → IsAside i a line
aside i a line x y z = record { no_round = x; no_pair = y; no_value = z }

pub step_law : (p q : Parts) (i : ImageNo) (a : Ask) (line : ℕ) → is_arrival_ask a ≡ false → StepBy p i a line q → StepsTo p i a line q
step_law p q i (asks.Arrive team arriving) line other s = absurd (cc)
step_law p q i (asks.Gather team op root kind values) line other s = absurd (cc)
step_law p q i (asks.Pair named) line other s = s
step_law p q i (asks.Enter construct) line other s = s
step_law p q i (asks.Exit construct) line other s = s
step_law p q i asks.Gone line other s = s
step_law p q i (asks.Stop code) line other s = s
step_law p q i (asks.Leave team round) line other s = quiet p q i (asks.Leave team round) line (aside i (asks.Leave team round) line (both _ (λ r. refl) (λ r. refl)) (λ r. refl) (λ r t j stamp. refl)) (λ c x. refl) s
step_law p q i (asks.Take team round) line other s = quiet p q i (asks.Take team round) line (aside i (asks.Take team round) line (both _ (λ r. refl) (λ r. refl)) (λ r. refl) (λ r t j stamp. refl)) (λ c x. refl) s
step_law p q i (asks.Unpair) line other s = quiet p q i (asks.Unpair) line (aside i (asks.Unpair) line (both _ (λ r. refl) (λ r. refl)) (λ r. refl) (λ r t j stamp. refl)) (λ c x. refl) s
step_law p q i (asks.Failed team) line other s = quiet p q i (asks.Failed team) line (aside i (asks.Failed team) line (both _ (λ r. refl) (λ r. refl)) (λ r. refl) (λ r t j stamp. refl)) (λ c x. refl) s
step_law p q i (asks.Stopped team) line other s = quiet p q i (asks.Stopped team) line (aside i (asks.Stopped team) line (both _ (λ r. refl) (λ r. refl)) (λ r. refl) (λ r t j stamp. refl)) (λ c x. refl) s
step_law p q i (asks.Status team index) line other s = quiet p q i (asks.Status team index) line (aside i (asks.Status team index) line (both _ (λ r. refl) (λ r. refl)) (λ r. refl) (λ r t j stamp. refl)) (λ c x. refl) s
step_law p q i a line other s = never p q i a line (λ n h. and_none (is_image n i.0))
