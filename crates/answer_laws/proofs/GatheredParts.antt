-- What the members of a closed collective subroutine brought: one part each, with as many values as the round says, all
-- of its kind.
use Rattle.std.proofs.Common.{◌≡◌, ℕ, suc, ◌≤◌, true, false, ◌&&◌, ◌||◌, IsTrue, List, [], ◌∷◌, ◌++◌, inl, inr, length, refl, ap, sym, ◌∙◌, subst, append_assoc}
use Rattle.std.specs.Prelude.{nat_eq, Option, Some}
use Rattle.std.specs.List.{list_any, list_all, cons_option}
use Rattle.std.proofs.lemmas.Bool.{cases_Bool, and_parts, or_parts, or_from, eqb-true, leb-true}
use Rattle.caf_base.specs.declared.place.TeamNo.{TeamNo}
use Rattle.caf_base.specs.declared.value.Kind.{Kind}
use Rattle.caf_base.specs.declared.value.Kind.TheVariants as value_kinds
use Rattle.caf_base.specs.declared.value.Value.{Value}
use Rattle.caf_events.specs.declared.ask.Ask.TheVariants as asks
use Rattle.caf_events.specs.declared.reply.Reply.TheVariants as replies
use Rattle.caf_events.specs.declared.round.GatherOp.{GatherOp}
use Rattle.caf_events.specs.declared.round.GatherOp.TheVariants as ops
use Rattle.caf_events.specs.declared.round.RoundKind.{RoundKind}
use Rattle.caf_events.specs.declared.round.RoundKind.TheVariants as kinds
use Rattle.caf_events.specs.declared.event.Entry.{Entry}
use Rattle.caf_events.specs.Histories.{Served}
use Rattle.trace_theory.specs.Entries.{Each}
use Rattle.object_rules.specs.Happenings.{collective, happened, has_stopped, has_failed, has_ended}
use Rattle.object_rules.specs.TeamRounds.{Opening, opening_of, arrivals, has_arrived}
use Rattle.object_rules.specs.ImagePairs.{names}
use Rattle.object_rules.specs.Folds.{is_of_kind}
use Rattle.object_rules.specs.Kinds.{same_op, same_value_kind}
use Rattle.object_rules.specs.BoardTeams.{teams_after, members_at, round_of}
use Rattle.object_rules.specs.BoardRules.{is_image, is_gathered, is_root, fits_board, board_ready, board_reply, gathered, parts_of}
use Rattle.answer_laws.proofs.Served.{Turn, turn_at}
use Rattle.team_laws.proofs.Arrivals.{joined_image, NthAt, nth_at}
use Rattle.answer_laws.proofs.RoundKinds.{Alike, InRound, in_round, joins_next}
use Rattle.answer_laws.proofs.CollectiveArrivals.{gathers_there, nth_there}
use Rattle.answer_laws.proofs.FoldedValues.{AreOfKind}

same_op_is : (a b : GatherOp) → same_op a b ≡ true → a ≡ b
same_op_is ops.Sum ops.Sum h = refl
same_op_is ops.Min ops.Min h = refl
same_op_is ops.Max ops.Max h = refl
same_op_is ops.Broadcast ops.Broadcast h = refl
same_op_is a b h = absurd (cc)

same_kind_is : (a b : Kind) → same_value_kind a b ≡ true → a ≡ b
same_kind_is value_kinds.I4 value_kinds.I4 h = refl
same_kind_is value_kinds.I8 value_kinds.I8 h = refl
same_kind_is value_kinds.L4 value_kinds.L4 h = refl
same_kind_is a b h = absurd (cc)

-- a round that is like a collective subroutine is one with the same operation, root, kind and number of values
pub alike_is : (op : GatherOp) (root : ℕ) (kind : Kind) (count : ℕ) (k : RoundKind) → Alike (kinds.Collective op root kind count) k → kinds.Collective op root kind count ≡ k
alike_is op root kind count k (inl e) = e
alike_is op root kind count (kinds.Collective op' root' kind' count') (inr h) =
    let a = and_parts (same_op op op') (nat_eq root root' && (same_value_kind kind kind' && nat_eq count count')) h in
    let b = and_parts (nat_eq root root') (same_value_kind kind kind' && nat_eq count count') a.1 in
    let c = and_parts (same_value_kind kind kind') (nat_eq count count') b.1 in
    let o = same_op_is op op' a.0 in
    let r = eqb-true root root' b.0 in
    let k = same_kind_is kind kind' c.0 in
    let n = eqb-true count count' c.1 in
    cc
alike_is op root kind count k (inr h) = absurd (cc)

-- what a turn of a collective subroutine tells: its ask fits, and it is in its round
pub record GatherTurn (n : ℕ) (h front : List Entry) (i : ℕ) (of_team : TeamNo) (op : GatherOp) (root : ℕ) (kind : Kind) (values : List Value) (round : ℕ) : Type 0 where
  pub fits : fits_board n front i (asks.Gather of_team op root kind values) ≡ true
  pub next : suc (arrivals of_team.0 i (happened collective front)) ≡ round
  pub inside : InRound collective of_team.0 round (kinds.Collective op root kind (length values)) h

pub gather_turn : (n : ℕ) (front back : List Entry) (x : Entry) (of_team : TeamNo) (op : GatherOp) (root : ℕ) (kind : Kind) (values : List Value) (round : ℕ) → Turn (board_ready n) (board_reply n) front x
    → x.event.ask ≡ asks.Gather of_team op root kind values → x.event.reply ≡ replies.Round round → GatherTurn n (front ++ x ∷ back) front x.image.0 of_team op root kind values round
gather_turn n front back x of_team op root kind values round turn a r =
    let due : replies.Round round ≡ board_reply n front x.image.0 (asks.Gather of_team op root kind values) = sym r ∙ turn.reply ∙ ap (board_reply n front x.image.0) a in
    let ready : IsTrue (board_ready n front x.image.0 (asks.Gather of_team op root kind values)) = subst (λ z. IsTrue (board_ready n front x.image.0 z)) a turn.ready in
    let fits = (and_parts (is_image n x.image.0 && fits_board n front x.image.0 (asks.Gather of_team op root kind values)) true ready).0 in
    record {
      fits = (and_parts (is_image n x.image.0) (fits_board n front x.image.0 (asks.Gather of_team op root kind values)) fits).1;
      next = joins_next collective of_team.0 x.image.0 x.event.line (kinds.Collective op root kind (length values)) front x (rw (a, r) refl) round due;
      inside = in_round collective of_team.0 x.image.0 x.event.line (kinds.Collective op root kind (length values)) front x (rw (a, r) refl) round due back;
    }

-- the values of a collective subroutine are of its kind
values_fit : (n : ℕ) (h : List Entry) (i : ℕ) (of_team : TeamNo) (op : GatherOp) (root : ℕ) (kind : Kind) (values : List Value) → fits_board n h i (asks.Gather of_team op root kind values) ≡ true → list_all (is_of_kind kind) values ≡ true
values_fit n h i of_team op root kind values fits =
    let ms = members_at (teams_after n h) of_team.0 in
    (and_parts (names i ms && is_gathered op kind && is_root op (length ms) root) (list_all (is_of_kind kind) values) fits).1

-- its image is a member of the team
pub member_fits : (n : ℕ) (h : List Entry) (i : ℕ) (of_team : TeamNo) (op : GatherOp) (root : ℕ) (kind : Kind) (values : List Value) → fits_board n h i (asks.Gather of_team op root kind values) ≡ true → names i (members_at (teams_after n h) of_team.0) ≡ true
member_fits n h i of_team op root kind values fits =
    let ms = members_at (teams_after n h) of_team.0 in
    let p = (and_parts (names i ms && is_gathered op kind && is_root op (length ms) root) (list_all (is_of_kind kind) values) fits).0 in
    (and_parts (names i ms) (is_gathered op kind) (and_parts (names i ms && is_gathered op kind) (is_root op (length ms) root) p).0).0

-- the root of a broadcast is the index of a member
pub root_fits : (n : ℕ) (h : List Entry) (i : ℕ) (of_team : TeamNo) (op : GatherOp) (root : ℕ) (kind : Kind) (values : List Value) → fits_board n h i (asks.Gather of_team op root kind values) ≡ true → is_root op (length (members_at (teams_after n h) of_team.0)) root ≡ true
root_fits n h i of_team op root kind values fits =
    let ms = members_at (teams_after n h) of_team.0 in
    let p = (and_parts (names i ms && is_gathered op kind && is_root op (length ms) root) (list_all (is_of_kind kind) values) fits).0 in
    (and_parts (names i ms && is_gathered op kind) (is_root op (length ms) root) p).1

pub some_opening : (x : Option Opening) (o p : Opening) → x ≡ Some o → x ≡ Some p → o ≡ p
some_opening x o p e f = let w : Some o ≡ Some p = sym e ∙ f in cc

module _ (n : ℕ) (f g : List Entry) (served : Served (board_ready n) (board_reply n) [] (f ++ g)) (team round : ℕ) (low : 1 ≤ round)
    (op : GatherOp) (root : ℕ) (kind : Kind) (count : ℕ) (o : Opening) (opens : opening_of team round (happened collective (f ++ g)) ≡ Some o) (is : o.kind ≡ kinds.Collective op root kind count) where
  -- the part of an arrival in the round
  record Part (x : Entry) : Type 0 where
    values : List Value
    gathers : gathered x.event.ask ≡ Some values
    fits : AreOfKind kind count values

  part_at : (m : ℕ) (x : Entry) → NthAt collective team m round f x → Part x
  part_at m x at =
      let c = gathers_there team m x.image.0 x.event.line x.event.ask x.event.reply at.joins in
      let image = joined_image collective team m x.image.0 x.event.line x.event.ask x.event.reply at.joins in
      let whole : f ++ g ≡ at.before ++ x ∷ (at.after ++ g) = ap (λ z. z ++ g) at.split ∙ append_assoc at.before (x ∷ at.after) g in
      let turn = turn_at (board_ready n) (board_reply n) at.before (at.after ++ g) x (subst (Served (board_ready n) (board_reply n) []) whole served) in
      let t = gather_turn n at.before (at.after ++ g) x c.team_at c.op c.root c.kind c.values c.round turn c.asked c.joins in
      let r : c.round ≡ round = sym t.next ∙ ap (λ z. suc (arrivals z x.image.0 (happened collective at.before))) c.number ∙ ap (λ z. suc (arrivals team z (happened collective at.before))) image ∙ at.count in
      let opens' : opening_of team round (happened collective (f ++ g)) ≡ Some t.inside.opening =
      ap (λ z. opening_of z round (happened collective (f ++ g))) (sym c.number) ∙ ap (λ z. opening_of c.team_at.0 z (happened collective (f ++ g))) (sym r) ∙ ap (λ z. opening_of c.team_at.0 c.round (happened collective z)) whole ∙ t.inside.opens in
      let same : t.inside.opening ≡ o = some_opening (opening_of team round (happened collective (f ++ g))) t.inside.opening o opens' opens in
      let k : kinds.Collective c.op c.root c.kind (length c.values) ≡ kinds.Collective op root kind count = alike_is c.op c.root c.kind (length c.values) t.inside.opening.kind t.inside.alike ∙ ap (λ (z : Opening). z.kind) same ∙ is in
      let kk : c.kind ≡ kind = cc in
      let kn : length c.values ≡ count = cc in
      let all = values_fit n at.before x.image.0 c.team_at c.op c.root c.kind c.values t.fits in
      record { values = c.values; gathers = ap gathered c.asked; fits = (kn, subst (λ z. list_all (is_of_kind z) c.values ≡ true) kk all) }

  -- one part for each member, where none has ended
  pub record Parts (ms : List ℕ) (parts : List (List Value)) : Type 0 where
    pub many : length parts ≡ length ms
    pub fits : Each (AreOfKind kind count) parts

  more_parts : (m : ℕ) (ms : List ℕ) (es : List Entry) (x : Entry) → Part x → Parts ms (parts_of es) → Parts (m ∷ ms) (parts_of (x ∷ es))
  more_parts m ms es x p rest = subst (λ z. Parts (m ∷ ms) (cons_option z (parts_of es))) (sym p.gathers) (record { many = ap suc rest.many; fits = (p.fits, rest.fits) })

  arrived : (m : ℕ) → (has_arrived team round m (happened collective f) || has_ended m (happened collective f)) ≡ true → has_ended m (happened collective f) ≡ false → has_arrived team round m (happened collective f) ≡ true
  arrived m h e = elim (cases_Bool (has_arrived team round m (happened collective f))) [
    | inl t ↦ t
    | inr n ↦ absurd (let w : has_ended m (happened collective f) ≡ true = rw n at h in let v : false ≡ true = sym e ∙ w in cc)
  ]

  pub all_parts : (ms : List ℕ) → list_all (λ m. has_arrived team round m (happened collective f) || has_ended m (happened collective f)) ms ≡ true
      → list_any (λ m. has_stopped m (happened collective f)) ms ≡ false → list_any (λ m. has_failed m (happened collective f)) ms ≡ false → Parts ms (parts_of (round_of collective team round ms f))
  all_parts [] h stopped failed = record { many = refl; fits = tt }
  all_parts (m ∷ ms) h stopped failed =
      let p = and_parts (has_arrived team round m (happened collective f) || has_ended m (happened collective f)) (list_all (λ m. has_arrived team round m (happened collective f) || has_ended m (happened collective f)) ms) h in
      let s = or_parts (has_stopped m (happened collective f)) (list_any (λ m. has_stopped m (happened collective f)) ms) stopped in
      let q = or_parts (has_failed m (happened collective f)) (list_any (λ m. has_failed m (happened collective f)) ms) failed in
      let rest = all_parts ms p.1 s.1 q.1 in
      let came = arrived m p.0 (or_from (has_stopped m (happened collective f)) (has_failed m (happened collective f)) s.0 q.0) in
      let e = nth_there collective team m round f low (leb-true round (arrivals team m (happened collective f)) came) in
      subst (λ z. Parts (m ∷ ms) (parts_of (cons_option z (round_of collective team round ms f)))) (sym e.1) (more_parts m ms (round_of collective team round ms f) e.0 (part_at m e.0 (nth_at collective team m round f e.0 e.1)) rest)
