-- Kinds of rounds that agree are the same.
use Rattle.std.proofs.Common.{◌≡◌, ◌↔◌, ℕ, Bool, true, nat_eq, ◌&&◌, List, [], ◌∷◌, subst, inl, inr, refl, ap}
use Rattle.std.specs.Prelude.{ℤ}
use Rattle.std.specs.Ordering.{int_eq}
use Rattle.std.specs.Cmp.Lexicographic.{pointwise}
use Rattle.std.proofs.lemmas.Bool.{and_parts, and_from, eqb-true, eq-eqb}
use Rattle.std.proofs.lemmas.Bool.Decides.{Decides-int_eq}
use Rattle.caf_base.specs.declared.value.Kind.{Kind}
use Rattle.caf_base.specs.declared.value.Kind.TheVariants as values
use Rattle.caf_events.specs.declared.round.Allotted.{Allotted}
use Rattle.caf_events.specs.declared.round.GatherOp.{GatherOp}
use Rattle.caf_events.specs.declared.round.GatherOp.TheVariants as ops
use Rattle.caf_events.specs.declared.round.RoundKind.{RoundKind}
use Rattle.caf_events.specs.declared.round.RoundKind.TheVariants as kinds
use Rattle.object_rules.specs.Kinds.{same_bounds, same_allotted, same_op, same_value_kind, same_kind}
use Rattle.answer_laws.proofs.RoundKinds.{Alike}

op_is : (a b : GatherOp) → same_op a b ≡ true → a ≡ b
op_is ops.Sum ops.Sum h = refl
op_is ops.Min ops.Min h = refl
op_is ops.Max ops.Max h = refl
op_is ops.Broadcast ops.Broadcast h = refl
op_is a b h = absurd (cc)

value_kind_is : (a b : Kind) → same_value_kind a b ≡ true → a ≡ b
value_kind_is values.I4 values.I4 h = refl
value_kind_is values.I8 values.I8 h = refl
value_kind_is values.L4 values.L4 h = refl
value_kind_is a b h = absurd (cc)

op_self : (a : GatherOp) → same_op a a ≡ true
op_self ops.Sum = refl
op_self ops.Min = refl
op_self ops.Max = refl
op_self ops.Broadcast = refl

value_kind_self : (a : Kind) → same_value_kind a a ≡ true
value_kind_self values.I4 = refl
value_kind_self values.I8 = refl
value_kind_self values.L4 = refl

bounds_tell : (a b : ℤ × ℤ) → (same_bounds a b ≡ true) ↔ (a ≡ b)
bounds_tell a b = (
  λ h. (let p = and_parts (int_eq a.0 b.0) (int_eq a.1 b.1) h in let x = (Decides-int_eq a.0 b.0).0 p.0 in let y = (Decides-int_eq a.1 b.1).0 p.1 in λ i. (x i, y i)),
  λ e. and_from (int_eq a.0 b.0) (int_eq a.1 b.1) ((Decides-int_eq a.0 b.0).1 (ap (λ p. p.0) e)) ((Decides-int_eq a.1 b.1).1 (ap (λ p. p.1) e)),
)

module _ {A : Type 0} (test : A → A → Bool) (tells : (a b : A) → (test a b ≡ true) ↔ (a ≡ b)) where
  lists_are : (xs ys : List A) → pointwise test xs ys ≡ true → xs ≡ ys
  lists_are [] [] h = refl
  lists_are [] (y ∷ ys) h = absurd (cc)
  lists_are (x ∷ xs) [] h = absurd (cc)
  lists_are (x ∷ xs) (y ∷ ys) h = let p = and_parts (test x y) (pointwise test xs ys) h in let e = (tells x y).0 p.0 in let r = lists_are xs ys p.1 in λ i. e i ∷ r i

  list_self : (xs : List A) → pointwise test xs xs ≡ true
  list_self [] = refl
  list_self (x ∷ xs) = and_from (test x x) (pointwise test xs xs) ((tells x x).1 refl) (list_self xs)

allotted_is : (a b : Allotted) → same_allotted a b ≡ true → a ≡ b
allotted_is a b h =
    let p = and_parts (nat_eq a.coarray b.coarray) (pointwise same_bounds a.dims b.dims && (pointwise same_bounds a.codims b.codims && int_eq a.last b.last)) h in
    let q = and_parts (pointwise same_bounds a.dims b.dims) (pointwise same_bounds a.codims b.codims && int_eq a.last b.last) p.1 in
    let r = and_parts (pointwise same_bounds a.codims b.codims) (int_eq a.last b.last) q.1 in
    let c = eqb-true a.coarray b.coarray p.0 in
    let d = lists_are same_bounds bounds_tell a.dims b.dims q.0 in
    let e = lists_are same_bounds bounds_tell a.codims b.codims r.0 in
    let l = (Decides-int_eq a.last b.last).0 r.1 in
    λ i. record { coarray = c i; dims = d i; codims = e i; last = l i }

allotted_self : (a : Allotted) → same_allotted a a ≡ true
allotted_self a =
    and_from (nat_eq a.coarray a.coarray) (pointwise same_bounds a.dims a.dims && (pointwise same_bounds a.codims a.codims && int_eq a.last a.last)) (eq-eqb a.coarray a.coarray refl)
    (and_from (pointwise same_bounds a.dims a.dims) (pointwise same_bounds a.codims a.codims && int_eq a.last a.last) (list_self same_bounds bounds_tell a.dims)
    (and_from (pointwise same_bounds a.codims a.codims) (int_eq a.last a.last) (list_self same_bounds bounds_tell a.codims) ((Decides-int_eq a.last a.last).1 refl)))

allotted_tells : (a b : Allotted) → (same_allotted a b ≡ true) ↔ (a ≡ b)
allotted_tells a b = (allotted_is a b, λ e. subst (λ z. same_allotted a z ≡ true) e (allotted_self a))

number_tells : (a b : ℕ) → (nat_eq a b ≡ true) ↔ (a ≡ b)
number_tells a b = (eqb-true a b, eq-eqb a b)

-- Kinds that agree are one.
pub kind_is : (a b : RoundKind) → same_kind a b ≡ true → a ≡ b
kind_is kinds.Sync kinds.Sync h = refl
kind_is kinds.Form kinds.Form h = refl
kind_is kinds.Change kinds.Change h = refl
kind_is kinds.End kinds.End h = refl
kind_is (kinds.Allocate a) (kinds.Allocate b) h = ap kinds.Allocate (lists_are same_allotted allotted_tells a b h)
kind_is (kinds.Deallocate a) (kinds.Deallocate b) h = ap kinds.Deallocate (lists_are nat_eq number_tells a b h)
kind_is (kinds.Collective op root kind count) (kinds.Collective op' root' kind' count') h =
    let a = and_parts (same_op op op') (nat_eq root root' && (same_value_kind kind kind' && nat_eq count count')) h in
    let b = and_parts (nat_eq root root') (same_value_kind kind kind' && nat_eq count count') a.1 in
    let c = and_parts (same_value_kind kind kind') (nat_eq count count') b.1 in
    let o = op_is op op' a.0 in
    let r = eqb-true root root' b.0 in
    let k = value_kind_is kind kind' c.0 in
    let n = eqb-true count count' c.1 in
    λ i. kinds.Collective (o i) (r i) (k i) (n i)
kind_is a b h = absurd (cc)

pub kind_self : (a : RoundKind) → same_kind a a ≡ true
kind_self kinds.Sync = refl
kind_self kinds.Form = refl
kind_self kinds.Change = refl
kind_self kinds.End = refl
kind_self (kinds.Allocate a) = list_self same_allotted allotted_tells a
kind_self (kinds.Deallocate a) = list_self nat_eq number_tells a
kind_self (kinds.Collective op root kind count) =
    and_from (same_op op op) (nat_eq root root && (same_value_kind kind kind && nat_eq count count)) (op_self op)
    (and_from (nat_eq root root) (same_value_kind kind kind && nat_eq count count) (eq-eqb root root refl)
    (and_from (same_value_kind kind kind) (nat_eq count count) (value_kind_self kind) (eq-eqb count count refl)))

pub alike_is : (a b : RoundKind) → Alike a b → a ≡ b
alike_is a b (inl e) = e
alike_is a b (inr h) = kind_is a b h
