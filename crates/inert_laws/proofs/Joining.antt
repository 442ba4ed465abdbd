-- An arrival that joins a round and leaves it open is heard of by no other image.
use Rattle.std.proofs.Common.{◌≡◌, ℕ, suc, ◌+◌, Bool, true, false, ◌&&◌, nat_eq, List, [], ◌∷◌, ◌++◌, inl, inr, length, refl, ap, sym, ◌∙◌, subst, arith}
use Rattle.std.specs.Prelude.{nat_le, Option, Some, None, is_some}
use Rattle.std.specs.List.{list_all}
use Rattle.std.proofs.lemmas.Bool.{cases_Bool, and_parts, and_from, and_right, le-leb, ne_eqb}
use Rattle.caf_base.specs.declared.place.TeamNo.{TeamNo}
use Rattle.caf_base.specs.declared.value.Kind.{Kind}
use Rattle.caf_base.specs.declared.value.Value.{Value}
use Rattle.caf_events.specs.declared.ask.Ask.TheVariants as asks
use Rattle.caf_events.specs.declared.reply.Reply.TheVariants as replies
use Rattle.caf_events.specs.declared.round.Arriving.{Arriving}
use Rattle.caf_events.specs.declared.round.GatherOp.{GatherOp}
use Rattle.caf_events.specs.declared.round.RoundKind.{RoundKind}
use Rattle.caf_events.specs.declared.round.RoundKind.TheVariants as kinds
use Rattle.caf_events.specs.declared.event.Entry.{Entry}
use Rattle.object_rules.specs.Kinds.{same_kind}
use Rattle.object_rules.specs.Happenings.{arrives, Class, control, collective, images, happens, happened, kind_of}
use Rattle.object_rules.specs.TeamRounds.{Opening, arrivals, has_closed, opening_of}
use Rattle.object_rules.specs.ImagePairs.{names}
use Rattle.object_rules.specs.Constructs.{construct_turn, construct_after}
use Rattle.object_rules.specs.Folds.{is_of_kind}
use Rattle.object_rules.specs.BoardTeams.{made_by, teams_after, members_at, closing}
use Rattle.object_rules.specs.BoardRules.{is_image, is_gathered, is_root, has_joined, board_ready, board_reply, joined_or_clash, arrival_reply}
use Rattle.object_rules.proofs.Growing.{none_now}
use Rattle.object_rules.proofs.MemoryGrowing.{construct_more}
use Rattle.team_laws.proofs.Teams.{teams_more, members_stay}
use Rattle.inert_laws.proofs.Quiet.{NoneCloses, NoneJoins, IsQuiet}
use Rattle.inert_laws.proofs.Silence.{happens_by, happened_none, happened_some, none_closes, none_joins}
use Rattle.inert_laws.proofs.Arrivals.{own_more, other_same, closed_before}

-- the round of which the reply to an arrival tells is the one behind those that its image has joined
told_round : (kind : RoundKind) (k : ℕ) (o : Option Opening) (r : ℕ) → joined_or_clash kind k o ≡ replies.Round r → k ≡ r
told_round kind k None r e = cc
told_round kind k (Some o) r e = elim (cases_Bool (same_kind kind o.kind)) [
  | inl y ↦ (let w : replies.Round k ≡ replies.Round r = rw y at e in cc)
  | inr f ↦ absurd (let w : replies.Clash (record { 0 = o.image }) o.line ≡ replies.Round r = rw f at e in cc)
]

no_some : {A : Type 0} (o : Option A) → is_some o ≡ false → o ≡ None
no_some None e = refl
no_some (Some x) e = absurd (cc)

third_false : (a b c : Bool) → a ≡ true → b ≡ true → (a && b && c) ≡ false → c ≡ false
third_false a b c p q e = let w : (true && true && c) ≡ false = subst (λ z. (true && z && c) ≡ false) q (subst (λ z. (z && b && c) ≡ false) p e) in w

module _ (class : Class) (n : ℕ) (h : List Entry) (e : Entry) (team : ℕ) (kind : RoundKind) (is : happens_by h e class ≡ Some (arrives team e.image.0 kind e.event.line)) where
  abbrev i : ℕ
  i = e.image.0

  abbrev now : List Entry
  now = h ++ e ∷ []

  abbrev round : ℕ
  round = suc (arrivals team i (happened class h))

  now_is : happened class now ≡ happened class h ++ arrives team i kind e.event.line ∷ []
  now_is = happened_some h e class (arrives team i kind e.event.line) is

  -- only its image has joined a round
  pub joins_alone : NoneJoins class h e
  joins_alone t j other =
      ap (arrivals t j) now_is
      ∙ other_same team i kind e.event.line (happened class h) t j (and_right (nat_eq team t) (nat_eq i j) (ne_eqb i j (λ q. other (sym q))))

  -- where its round is open no round has closed
  pub closes_none : has_closed (members_at (teams_after n h) team) team round (happened class now) ≡ false → NoneCloses class n h e
  closes_none unclosed t r closed =
      closed_before team i kind e.event.line (happened class h) (members_at (teams_after n h) t) t r
      (λ same. absurd (
      let a : has_closed (members_at (teams_after n h) team) team r (happened class now) ≡ true = subst (λ u. has_closed (members_at (teams_after n h) u) u r (happened class now) ≡ true) same.0 closed in
      let b : has_closed (members_at (teams_after n h) team) team round (happened class now) ≡ true = subst (λ k. has_closed (members_at (teams_after n h) team) team k (happened class now) ≡ true) same.1 a in
      let w : true ≡ false = sym b ∙ unclosed in cc))
      (subst (λ hs. has_closed (members_at (teams_after n h) t) t r hs ≡ true) now_is closed)

  -- a member that can't leave its round yet finds it open
  module _ (member : names i (members_at (teams_after n h) team) ≡ true) where
    members_same : members_at (teams_after n now) team ≡ members_at (teams_after n h) team
    members_same = ap (λ ts. members_at ts team) (teams_more n h e) ∙ members_stay (teams_after n h) (made_by 1 (teams_after n h) h e) i team member

    has_joined_now : (r : ℕ) → round ≡ r → has_joined class n now i team r ≡ true
    has_joined_now r due =
        let count : arrivals team i (happened class now) ≡ arrivals team i (happened class h) + 1 = ap (arrivals team i) now_is ∙ own_more team i kind e.event.line (happened class h) team i refl refl in
        let there : names i (members_at (teams_after n now) team) ≡ true = ap (names i) members_same ∙ member in
        and_from (names i (members_at (teams_after n now) team) && nat_le 1 r) (nat_le r (arrivals team i (happened class now)))
        (and_from (names i (members_at (teams_after n now) team)) (nat_le 1 r) there (le-leb 1 r (omega arith)))
        (le-leb r (arrivals team i (happened class now)) (omega arith))

    pub open_still : (r : ℕ) → round ≡ r → is_image n i ≡ true
        → (is_image n i && has_joined class n now i team r && is_some (closing class team r (members_at (teams_after n now) team) now)) ≡ false
        → has_closed (members_at (teams_after n h) team) team round (happened class now) ≡ false
    open_still r due image late =
        let c = third_false (is_image n i) (has_joined class n now i team r) (is_some (closing class team r (members_at (teams_after n now) team) now)) image (has_joined_now r due) late in
        let o = none_now (λ f. has_closed (members_at (teams_after n now) team) team r (happened class f)) now (no_some (closing class team r (members_at (teams_after n now) team) now) c) in
        let a = ap (λ ms. has_closed ms team r (happened class now)) (sym members_same) ∙ o in
        ap (λ k. has_closed (members_at (teams_after n h) team) team k (happened class now)) due ∙ a

-- an arrival at a round of image control statements
module _ (n : ℕ) (h : List Entry) (e : Entry) (team : TeamNo) (arriving : Arriving) (r : ℕ) (asked : e.event.ask ≡ asks.Arrive team arriving) (told : e.event.reply ≡ replies.Round r) where
  arrives_by : happens_by h e control ≡ Some (arrives team.0 e.image.0 (kind_of arriving) e.event.line)
  arrives_by =
      ap (λ a. happens control e.image.0 e.event.line a e.event.reply) asked
      ∙ ap (λ y. happens control e.image.0 e.event.line (asks.Arrive team arriving) y) told

  no_collective : happened collective (h ++ e ∷ []) ≡ happened collective h
  no_collective = happened_none h e collective (ap (λ a. happens collective e.image.0 e.event.line a e.event.reply) asked)

  no_pair : happened images (h ++ e ∷ []) ≡ happened images h
  no_pair = happened_none h e images (ap (λ a. happens images e.image.0 e.event.line a e.event.reply) asked)

  pub arrival_quiet : e.event.reply ≡ board_reply n h e.image.0 e.event.ask → board_ready n h e.image.0 e.event.ask ≡ true → board_ready n (h ++ e ∷ []) e.image.0 (asks.Leave team r) ≡ false → IsQuiet n h e
  arrival_quiet due ready late =
      let f : board_ready n h e.image.0 (asks.Arrive team arriving) ≡ true = ap (board_ready n h e.image.0) (sym asked) ∙ ready in
      let p = and_parts (is_image n e.image.0 && names e.image.0 (members_at (teams_after n h) team.0)) true f in
      let m = and_parts (is_image n e.image.0) (names e.image.0 (members_at (teams_after n h) team.0)) p.0 in
      let d : arrival_reply control h e.image.0 team.0 (kind_of arriving) ≡ replies.Round r = ap (board_reply n h e.image.0) (sym asked) ∙ sym due ∙ told in
      let k = told_round (kind_of arriving) (suc (arrivals team.0 e.image.0 (happened control h))) (opening_of team.0 (suc (arrivals team.0 e.image.0 (happened control h))) (happened control h)) r d in
      record {
        control_closes = closes_none control n h e team.0 (kind_of arriving) arrives_by (open_still control n h e team.0 (kind_of arriving) arrives_by m.1 r k m.0 late);
        collective_closes = none_closes h e collective n no_collective;
        control_joins = joins_alone control n h e team.0 (kind_of arriving) arrives_by;
        collective_joins = none_joins h e collective no_collective;
        pairs = no_pair;
        constructs = λ c. construct_more c h e ∙ ap (construct_turn c (construct_after c h) e.image.0) asked;
      }

-- an arrival at a collective subroutine
module _ (n : ℕ) (h : List Entry) (e : Entry) (team : TeamNo) (op : GatherOp) (root : ℕ) (kind : Kind) (values : List Value) (r : ℕ)
    (asked : e.event.ask ≡ asks.Gather team op root kind values) (told : e.event.reply ≡ replies.Round r) where
  abbrev what : RoundKind
  what = kinds.Collective op root kind (length values)

  gathers_by : happens_by h e collective ≡ Some (arrives team.0 e.image.0 what e.event.line)
  gathers_by =
      ap (λ a. happens collective e.image.0 e.event.line a e.event.reply) asked
      ∙ ap (λ y. happens collective e.image.0 e.event.line (asks.Gather team op root kind values) y) told

  no_control : happened control (h ++ e ∷ []) ≡ happened control h
  no_control = happened_none h e control (ap (λ a. happens control e.image.0 e.event.line a e.event.reply) asked)

  no_pairing : happened images (h ++ e ∷ []) ≡ happened images h
  no_pairing = happened_none h e images (ap (λ a. happens images e.image.0 e.event.line a e.event.reply) asked)

  pub collective_quiet : e.event.reply ≡ board_reply n h e.image.0 e.event.ask → board_ready n h e.image.0 e.event.ask ≡ true → board_ready n (h ++ e ∷ []) e.image.0 (asks.Take team r) ≡ false → IsQuiet n h e
  collective_quiet due ready late =
      let i = e.image.0 in
      let ms = members_at (teams_after n h) team.0 in
      let f : board_ready n h i (asks.Gather team op root kind values) ≡ true = ap (board_ready n h i) (sym asked) ∙ ready in
      let p = and_parts (is_image n i && (names i ms && is_gathered op kind && is_root op (length ms) root && list_all (is_of_kind kind) values)) true f in
      let m = and_parts (is_image n i) (names i ms && is_gathered op kind && is_root op (length ms) root && list_all (is_of_kind kind) values) p.0 in
      let g = and_parts (names i ms && is_gathered op kind && is_root op (length ms) root) (list_all (is_of_kind kind) values) m.1 in
      let j = and_parts (names i ms && is_gathered op kind) (is_root op (length ms) root) g.0 in
      let member = (and_parts (names i ms) (is_gathered op kind) j.0).0 in
      let d : arrival_reply collective h i team.0 what ≡ replies.Round r = ap (board_reply n h i) (sym asked) ∙ sym due ∙ told in
      let k = told_round what (suc (arrivals team.0 i (happened collective h))) (opening_of team.0 (suc (arrivals team.0 i (happened collective h))) (happened collective h)) r d in
      record {
        control_closes = none_closes h e control n no_control;
        collective_closes = closes_none collective n h e team.0 what gathers_by (open_still collective n h e team.0 what gathers_by member r k m.0 late);
        control_joins = none_joins h e control no_control;
        collective_joins = joins_alone collective n h e team.0 what gathers_by;
        pairs = no_pairing;
        constructs = λ c. construct_more c h e ∙ ap (construct_turn c (construct_after c h) i) asked;
      }
