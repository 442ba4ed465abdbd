-- The result of a collective subroutine has as many values as each argument, all of its kind.
use Rattle.std.proofs.Common.{◌≡◌, ℕ, zero, suc, ◌≤◌, Bool, true, false, cond, List, [], ◌∷◌, inl, inr, length, refl, ap, sym, ◌∙◌, subst, arith}
use Rattle.std.specs.Prelude.{ℤ, ◌+ℤ◌, int_le, Option, Some, None}
use Rattle.std.specs.List.{list_all}
use Rattle.std.proofs.lemmas.Bool.{cases_Bool, and_parts, and_from}
use Rattle.caf_base.specs.declared.value.Kind.{Kind}
use Rattle.caf_base.specs.declared.value.Kind.TheVariants as kinds
use Rattle.caf_base.specs.declared.value.Value.{Value}
use Rattle.caf_base.specs.declared.value.Value.TheVariants as values
use Rattle.caf_events.specs.declared.round.GatherOp.{GatherOp}
use Rattle.caf_events.specs.declared.round.GatherOp.TheVariants as ops
use Rattle.trace_theory.specs.Entries.{Each}
use Rattle.object_rules.specs.Folds.{fits_kind, is_of_kind, kept, combined, with_first, combined_each, fold_on, fold_of}

-- so many values, all of the kind
abbrev pub AreOfKind : Kind → ℕ → List Value → Type 0
AreOfKind kind count vs = (length vs ≡ count) × (list_all (is_of_kind kind) vs ≡ true)

kept_kind : (kind : Kind) (n : ℤ) (v : Value) → is_of_kind kind (values.Int n) ≡ fits_kind kind n → kept kind n ≡ Some v → is_of_kind kind v ≡ true
kept_kind kind n v same e = elim (cases_Bool (fits_kind kind n)) [
  | inl t ↦ (
      let q : Some (values.Int n) ≡ Some v = rw t at e in
      let w : values.Int n ≡ v = cc in
      subst (λ z. is_of_kind kind z ≡ true) w (same ∙ t))
  | inr f ↦ absurd (let q : None ≡ Some v = rw f at e in cc)
]

either_kind : (kind : Kind) (b : Bool) (x y : ℤ) (v : Value) → is_of_kind kind (values.Int x) ≡ true → is_of_kind kind (values.Int y) ≡ true → Some (values.Int (cond b x y)) ≡ Some v → is_of_kind kind v ≡ true
either_kind kind true x y v p q e = let w : values.Int x ≡ v = cc in subst (λ z. is_of_kind kind z ≡ true) w p
either_kind kind false x y v p q e = let w : values.Int y ≡ v = cc in subst (λ z. is_of_kind kind z ≡ true) w q

combined_kind : (op : GatherOp) (kind : Kind) (a b v : Value) → is_of_kind kind a ≡ true → is_of_kind kind b ≡ true → combined op kind a b ≡ Some v → is_of_kind kind v ≡ true
combined_kind ops.Sum kinds.L4 (values.Int x) (values.Int y) v p q e = absurd (cc)
combined_kind ops.Sum kinds.I4 (values.Int x) (values.Int y) v p q e = kept_kind kinds.I4 (x +ℤ y) v refl e
combined_kind ops.Sum kinds.I8 (values.Int x) (values.Int y) v p q e = kept_kind kinds.I8 (x +ℤ y) v refl e
combined_kind ops.Min kind (values.Int x) (values.Int y) v p q e = either_kind kind (int_le x y) x y v p q e
combined_kind ops.Max kind (values.Int x) (values.Int y) v p q e = either_kind kind (int_le x y) y x v q p e
combined_kind op kind a b v p q e = let w : a ≡ v = cc in subst (λ z. is_of_kind kind z ≡ true) w p

-- a value before the others
record First (o : Option Value) (r : Option (List Value)) (vs : List Value) : Type 0 where
  value : Value
  rest : List Value
  first : o ≡ Some value
  others : r ≡ Some rest
  all : vs ≡ value ∷ rest

first_of_all : (o : Option Value) (r : Option (List Value)) (vs : List Value) → with_first o r ≡ Some vs → First o r vs
first_of_all None r vs e = absurd (cc)
first_of_all (Some v) None vs e = absurd (cc)
first_of_all (Some v) (Some ws) vs e = record { value = v; rest = ws; first = refl; others = refl; all = cc }

module _ (op : GatherOp) (kind : Kind) where
  each_kind : (count : ℕ) (xs ys vs : List Value) → AreOfKind kind count xs → AreOfKind kind count ys → combined_each op kind xs ys ≡ Some vs → AreOfKind kind count vs
  each_kind count [] ys vs p q e = let w : [] ≡ vs = cc in subst (AreOfKind kind count) w p
  each_kind count (x ∷ xs) [] vs p q e = absurd (let a = p.0 in let b = q.0 in omega arith)
  each_kind zero (x ∷ xs) (y ∷ ys) vs p q e = absurd (let a = p.0 in omega arith)
  each_kind (suc count) (x ∷ xs) (y ∷ ys) vs p q e =
      let f = first_of_all (combined op kind x y) (combined_each op kind xs ys) vs e in
      let a = p.0 in
      let b = q.0 in
      let px = and_parts (is_of_kind kind x) (list_all (is_of_kind kind) xs) p.1 in
      let qy = and_parts (is_of_kind kind y) (list_all (is_of_kind kind) ys) q.1 in
      let rest = each_kind count xs ys f.rest (omega arith, px.1) (omega arith, qy.1) f.others in
      let here = combined_kind op kind x y f.value px.0 qy.0 f.first in
      subst (AreOfKind kind (suc count)) (sym f.all) (ap suc rest.0, and_from (is_of_kind kind f.value) (list_all (is_of_kind kind) f.rest) here rest.1)

  fold_kind : (count : ℕ) (parts : List (List Value)) (total : Option (List Value)) (vs : List Value) → Each (AreOfKind kind count) parts → ((t : List Value) → total ≡ Some t → AreOfKind kind count t) → fold_on op kind total parts ≡ Some vs → AreOfKind kind count vs
  fold_kind count [] total vs h t e = t vs e
  fold_kind count (part ∷ parts) None vs h t e = absurd (cc)
  fold_kind count (part ∷ parts) (Some now) vs h t e =
      fold_kind count parts (combined_each op kind now part) vs h.1 (λ u q. each_kind count now part u (t now refl) h.0 q) e

  -- the combined arguments are as many values of the kind as each argument, where there is one
  pub folded_kind : (count : ℕ) (parts : List (List Value)) (vs : List Value) → 1 ≤ length parts → Each (AreOfKind kind count) parts → fold_of op kind parts ≡ Some vs → AreOfKind kind count vs
  folded_kind count [] vs some h e = absurd (omega arith)
  folded_kind count (part ∷ parts) vs some h e = fold_kind count parts (Some part) vs h.1 (λ t q. (let w : part ≡ t = cc in subst (AreOfKind kind count) w h.0)) e
