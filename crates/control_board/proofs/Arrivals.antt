-- The reply to an arrival, and what has happened with it.
use Rattle.object_rules.specs.Happenings.{Class, collective}
use Rattle.std.proofs.Common.{◌≡◌, ℕ, suc, ◌+◌, Bool, ◌&&◌, nat_eq, List, [], ◌∷◌, ◌++◌, length, inl, inr, refl, ap, sym, ◌∙◌, arith}
use Rattle.std.specs.Prelude.{ℤ, Option, Some, None}
use Rattle.std.specs.Ordering.{int_eq}
use Rattle.std.specs.Cmp.Lexicographic.{pointwise}
use Rattle.std.proofs.lemmas.Cmp.{int_eq_equiv}
use Rattle.std.proofs.lemmas.Bool.{cases_Bool, cases_eq, eq-eqb, ne_eqb}
use Rattle.caf_base.specs.declared.place.TeamNo.{TeamNo}
use Rattle.caf_events.specs.declared.ask.Ask.TheVariants as asks
use Rattle.caf_events.specs.declared.round.Arriving.{Arriving}
use Rattle.caf_events.specs.declared.round.RoundKind.{RoundKind}
use Rattle.caf_events.specs.declared.event.Entry.{Entry}
use Rattle.caf_events.specs.declared.round.RoundKind.TheVariants as kinds
use Rattle.caf_events.specs.declared.round.Allotted.{Allotted}
use Rattle.caf_events.specs.declared.round.GatherOp.{GatherOp}
use Rattle.caf_events.specs.declared.round.GatherOp.TheVariants as ops
use Rattle.caf_base.specs.declared.value.Kind.{Kind}
use Rattle.caf_base.specs.declared.value.Kind.TheVariants as values
use Rattle.caf_base.specs.declared.value.Value.{Value}
use Rattle.object_rules.specs.Kinds.{same_bounds, same_allotted, same_op, same_value_kind, same_kind}
use Rattle.object_rules.specs.Happenings.{control, happens, happened, kind_of}
use Rattle.object_rules.specs.TeamRounds.{Opening, arrivals, opening_of}
use Rattle.object_rules.specs.BoardRules.{joined_or_clash, arrival_reply}
use Rattle.team_round.specs.declared.round.Arrival.{Arrival}
use Rattle.team_round.specs.declared.round.Arrival.TheVariants as arrived
use Rattle.team_round.specs.TeamStates.{told_arrival, happened_with}
use Rattle.team_round.proofs.Making.{happened_none, happened_some}
use Rattle.control_board.specs.Boards.{reply_to}

pointwise_turned : {A : Type 0} (E : A → A → Bool) → ((x y : A) → E x y ≡ E y x) → (xs ys : List A) → pointwise E xs ys ≡ pointwise E ys xs
pointwise_turned E f [] [] = refl
pointwise_turned E f [] (y ∷ ys) = refl
pointwise_turned E f (x ∷ xs) [] = refl
pointwise_turned E f (x ∷ xs) (y ∷ ys) = ap (λ b. b && pointwise E xs ys) (f x y) ∙ ap (λ b. E y x && b) (pointwise_turned E f xs ys)

nat_turned : (a b : ℕ) → nat_eq a b ≡ nat_eq b a
nat_turned a b = elim (cases_eq a b) [
  | inl e ↦ eq-eqb a b e ∙ sym (eq-eqb b a (sym e))
  | inr n ↦ ne_eqb a b n ∙ sym (ne_eqb b a (λ e. n (sym e)))
]

bounds_turned : (a b : ℤ × ℤ) → same_bounds a b ≡ same_bounds b a
bounds_turned a b = ap (λ c. c && int_eq a.1 b.1) (int_eq_equiv.symm a.0 b.0) ∙ ap (λ c. int_eq b.0 a.0 && c) (int_eq_equiv.symm a.1 b.1)

allotted_turned : (a b : Allotted) → same_allotted a b ≡ same_allotted b a
allotted_turned a b =
    ap (λ c. c && (pointwise same_bounds a.dims b.dims && (pointwise same_bounds a.codims b.codims && int_eq a.last b.last))) (nat_turned a.coarray b.coarray)
    ∙ ap (λ c. nat_eq b.coarray a.coarray && (c && (pointwise same_bounds a.codims b.codims && int_eq a.last b.last))) (pointwise_turned same_bounds bounds_turned a.dims b.dims)
    ∙ ap (λ c. nat_eq b.coarray a.coarray && (pointwise same_bounds b.dims a.dims && (c && int_eq a.last b.last))) (pointwise_turned same_bounds bounds_turned a.codims b.codims)
    ∙ ap (λ c. nat_eq b.coarray a.coarray && (pointwise same_bounds b.dims a.dims && (pointwise same_bounds b.codims a.codims && c))) (int_eq_equiv.symm a.last b.last)

op_turned : (a b : GatherOp) → same_op a b ≡ same_op b a
op_turned ops.Sum ops.Sum = refl
op_turned ops.Min ops.Min = refl
op_turned ops.Max ops.Max = refl
op_turned ops.Broadcast ops.Broadcast = refl
op_turned a b = refl

value_turned : (a b : Kind) → same_value_kind a b ≡ same_value_kind b a
value_turned values.I4 values.I4 = refl
value_turned values.I8 values.I8 = refl
value_turned values.L4 values.L4 = refl
value_turned a b = refl

same_turned : (a b : RoundKind) → same_kind a b ≡ same_kind b a
same_turned kinds.Sync kinds.Sync = refl
same_turned kinds.Form kinds.Form = refl
same_turned kinds.Change kinds.Change = refl
same_turned kinds.End kinds.End = refl
same_turned (kinds.Allocate a) (kinds.Allocate b) = pointwise_turned same_allotted allotted_turned a b
same_turned (kinds.Deallocate a) (kinds.Deallocate b) = pointwise_turned nat_eq nat_turned a b
same_turned (kinds.Collective op root kind count) (kinds.Collective op' root' kind' count') =
    ap (λ c. c && (nat_eq root root' && (same_value_kind kind kind' && nat_eq count count'))) (op_turned op op')
    ∙ ap (λ c. same_op op' op && (c && (same_value_kind kind kind' && nat_eq count count'))) (nat_turned root root')
    ∙ ap (λ c. same_op op' op && (nat_eq root' root && (c && nat_eq count count'))) (value_turned kind kind')
    ∙ ap (λ c. same_op op' op && (nat_eq root' root && (same_value_kind kind' kind && c))) (nat_turned count count')
same_turned a b = refl

told_by : (kind : RoundKind) (r : ℕ) (o : Option Opening) → reply_to (told_arrival same_kind kind r o) ≡ joined_or_clash kind r o
told_by kind r None = refl
told_by kind r (Some o) = elim (cases_Bool (same_kind o.kind kind)) [
  | inl t ↦ (let u = same_turned kind o.kind ∙ t in rw (t, u) refl)
  | inr f ↦ (let u = same_turned kind o.kind ∙ f in rw (f, u) refl)
]

-- what is told of an arrival is the reply
pub told_is : (c : Class) (h : List Entry) (i t : ℕ) (kind : RoundKind) (a : Arrival) → a ≡ told_arrival same_kind kind (arrivals t i (happened c h) + 1) (opening_of t (arrivals t i (happened c h) + 1) (happened c h))
    → reply_to a ≡ arrival_reply c h i t kind
told_is c h i t kind a e =
    let hs = happened c h in
    let next : arrivals t i hs + 1 ≡ suc (arrivals t i hs) = omega arith in
    ap reply_to e ∙ told_by kind (arrivals t i hs + 1) (opening_of t (arrivals t i hs + 1) hs) ∙ ap (λ r. joined_or_clash kind r (opening_of t r hs)) next

-- what has happened after an arrival with this reply
pub happened_arrival : (h : List Entry) (e : Entry) (team : TeamNo) (arriving : Arriving) (a : Arrival) → e.event.ask ≡ asks.Arrive team arriving → e.event.reply ≡ reply_to a
    → happened control (h ++ e ∷ []) ≡ happened_with (happened control h) team.0 e.image.0 (kind_of arriving) e.event.line a
happened_arrival h e team arriving (arrived.Joined r) ask reply = happened_some control h e _ (ap (λ x. happens control e.image.0 e.event.line x e.event.reply) ask ∙ ap (happens control e.image.0 e.event.line (asks.Arrive team arriving)) reply)
happened_arrival h e team arriving (arrived.Clash j l) ask reply = happened_none control h e (ap (λ x. happens control e.image.0 e.event.line x e.event.reply) ask ∙ ap (happens control e.image.0 e.event.line (asks.Arrive team arriving)) reply)

pub happened_gather : (h : List Entry) (e : Entry) (team : TeamNo) (op : GatherOp) (root : ℕ) (kind : Kind) (vs : List Value) (a : Arrival) → e.event.ask ≡ asks.Gather team op root kind vs → e.event.reply ≡ reply_to a
    → happened collective (h ++ e ∷ []) ≡ happened_with (happened collective h) team.0 e.image.0 (kinds.Collective op root kind (length vs)) e.event.line a
happened_gather h e team op root kind vs (arrived.Joined r) ask reply =
    happened_some collective h e _ (ap (λ x. happens collective e.image.0 e.event.line x e.event.reply) ask ∙ ap (happens collective e.image.0 e.event.line (asks.Gather team op root kind vs)) reply)
happened_gather h e team op root kind vs (arrived.Clash j l) ask reply =
    happened_none collective h e (ap (λ x. happens collective e.image.0 e.event.line x e.event.reply) ask ∙ ap (happens collective e.image.0 e.event.line (asks.Gather team op root kind vs)) reply)
