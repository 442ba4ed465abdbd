-- Statuses, assignment and output leave nothing.
use Rattle.std.proofs.Common.{◌≡◌, ℕ, zero, suc, ◌+◌, ◌≤◌, true, List, [], ◌∷◌, ap, arith}
use Rattle.std.proofs.lemmas.Bool.{eqb-true, eqb-false}
use Rattle.std.specs.Prelude.{ℤ, pos, ◌==◌}
use Rattle.caf_base.specs.declared.value.Kind.{Kind}
use Rattle.caf_base.specs.declared.value.Kind.TheVariants as kinds
use Rattle.walk_theory.specs.Syntax.{Parts}
use Rattle.checked_tree.specs.declared.data.Local.{Local}
use Rattle.checked_tree.specs.declared.data.DataType.{DataType}
use Rattle.checked_tree.specs.declared.data.Object.TheVariants as objects
use Rattle.checked_tree.specs.declared.statement.ListedImages.{ListedImages}
use Rattle.checked_tree.specs.declared.statement.ListedImages.TheVariants as lists
use Rattle.checked_tree.specs.Expressions as t
use Rattle.checked_tree.specs.Statements as s
use Rattle.image_acts.specs.Places.{place_size, digits, numbers_of_form}
use Rattle.image_acts.specs.Acts as a
use Rattle.image_acts.specs.Acts.{Act, Scope}
use Rattle.image_code.specs.Sizes.{Size, numbers, with_arrays, with_texts, numbers_loaded, arrays_loaded}
use Rattle.tree_meaning.specs.Environment.{Environment, scope_of, kind_of}
use Rattle.tree_meaning.specs.Sequences.{◌▸◌, doing, dropping, takes, released, is_one_of, requiring}
use Rattle.tree_meaning.specs.Settling.{settling, settling_selector}
use Rattle.tree_meaning.specs.Expressions as view
use Rattle.tree_meaning.specs.Assignments as assignments
use Rattle.made_code.specs.Ranks as ranks
use Rattle.made_code.specs.Ranks.{IsSection, ScalarToScalar}
use Rattle.made_code.proofs.Digits.{section_numbers, subscripts_size}
use Rattle.made_code.proofs.Turns.{Turns, closes, ended, acts, ◌⨾◌, part, chosen, by_cases, either_way}
use Rattle.made_code.proofs.Forms.{none, one_act, dropped, copied, brought, pushed, co_sectioned, sectioned, stored, status_stored, own_needed, size_small, then_one}
use Rattle.made_code.proofs.Expressions.{scalar_turns, subscripts_turns, owner_turns, form_turns}

-- evaluation cells are free again
pub free_again : {z : Size} {p : Parts Act} → Turns z p → Turns z (released p)
free_again {z} {p} h = either_way (takes p) (closes (part h ⨾ acts ended) (omega arith)) h

-- ---- statuses
one_of : (ss : List ℤ) → Turns (numbers 2 2) (is_one_of ss)
one_of [] = closes ended (omega arith)
one_of (z ∷ zs) = closes (acts (acts (acts (acts ended))) ⨾ part (one_of zs)) (omega arith)

required : (ss : List ℤ) → Turns (numbers 1 0) (requiring ss)
required ss = closes (acts (acts (acts ended)) ⨾ part (one_of ss) ⨾ chosen (dropped 1) one_act) (omega arith)

pub settled : (stat : t.OptionalResult) (depth k : ℕ) (ss : List ℤ) → 1 ≤ depth → k + 1 ≡ depth + view.optional_size stat → Turns (numbers (depth + view.optional_size stat) k) (settling stat depth ss)
settled t.no_result depth k ss l e = closes (part (required ss)) (omega arith)
settled (t.result r) depth k ss l e = stored depth k r l e

pub selector_settled : (stat : t.OptionalResult) (depth k : ℕ) → 1 ≤ k → depth ≡ k + 1 → Turns (numbers (k + view.optional_size stat) (k + view.optional_size stat)) (settling_selector stat depth)
selector_settled t.no_result depth k l e = closes ended (omega arith)
selector_settled (t.result r) depth k l e = closes (part (copied 0 1) ⨾ acts (acts ended) ⨾ chosen (pushed _) (pushed _) ⨾ part (stored depth (k + view.result_size r) r (omega arith) (omega arith))) (omega arith)

-- ---- assignment
abbrev kept : ℕ → ℕ → Size
kept n m = with_arrays n n m m

fitted : (from to : Kind) (r depth : ℕ) → Turns (kept (depth + numbers_loaded r) (arrays_loaded r)) (assignments.fitting from to r depth)
fitted from to zero depth = either_way (assignments.narrows from to) (closes (acts ended) (omega arith)) (closes ended (omega arith))
fitted from to (suc r) depth = either_way (assignments.narrows from to) (closes (acts ended) (omega arith)) (closes ended (omega arith))

section_fitted : (from to : Kind) (q : ℕ) (y : Scope) (x : ℕ) (ss : t.Subscripts) (r : ℕ) → IsSection ss r
    → Turns (with_arrays (numbers_loaded q + subscripts_size ss) (numbers_loaded q + place_size r) (arrays_loaded q) (arrays_loaded q)) (assignments.fitting_section from to q y x (view.form_of ss r) r)
section_fitted from to q y x ss r h =
    let n = section_numbers ss r h in
    let z = with_arrays (numbers_loaded q + subscripts_size ss) (numbers_loaded q + place_size r) (arrays_loaded q) (arrays_loaded q) in
    either_way (assignments.narrows from to)
    (closes (acts ended ⨾ chosen {z = z} (closes (part (sectioned ss r h y x) ⨾ part (fitted from to q (place_size r))) (omega arith))
    (closes (part (fitted from to q (numbers_of_form (digits (view.form_of ss r)))) ⨾ part (sectioned ss r h y x)) (omega arith))) (omega arith))
    (closes (part (sectioned ss r h y x)) (omega arith))

pub agreed : (q depth r : ℕ) → Turns (kept (depth + place_size r) (arrays_loaded q)) (assignments.agreeing q depth r)
agreed zero depth r = closes ended (omega arith)
agreed (suc q) depth r = closes (acts ended) (omega arith)

put_down : (q : ℕ) (y : Scope) (x r : ℕ) → Turns (with_arrays (numbers_loaded q + place_size r) 0 (arrays_loaded q) 0) (assignments.putting q y x r)
put_down zero y x r = closes (acts ended) (omega arith)
put_down (suc q) y x r = closes (acts ended) (omega arith)

written_there : (q c r : ℕ) (k : Kind) → Turns (with_arrays (numbers_loaded q + (place_size r + 1)) 1 (arrays_loaded q) 0) (assignments.written q c r k)
written_there zero c r k = closes (acts ended) (omega arith)
written_there (suc q) c r k = closes (acts ended) (omega arith)

value_dropped : (q : ℕ) → Turns (with_arrays (numbers_loaded q) 0 (arrays_loaded q) 0) (assignments.dropping_value q)
value_dropped zero = dropped 1
value_dropped (suc q) = one_act

pub wrote : (q c r : ℕ) (k : Kind) → Turns (with_arrays (numbers_loaded q + (place_size r + 1)) 1 (arrays_loaded q) 0) (assignments.writing q c r k)
wrote q c zero k = written_there q c 0 k
wrote q c (suc r) k =
    closes (acts ended ⨾ chosen (written_there q c (suc r) k) (closes (part (dropped (place_size (suc r) + 1)) ⨾ part (value_dropped q) ⨾ part (pushed (pos 0))) (omega arith))) (omega arith)

lifted : (q n place : ℕ) → n ≤ 1 → Turns (numbers (numbers_loaded q + (n + place)) (numbers_loaded q + (assignments.left_over q n + place))) (assignments.lifting q n place)
lifted zero n place l = by_cases (n == 0)
    (λ e. (let z : n ≡ 0 = eqb-true n 0 e in closes ended (omega arith)))
    (λ e. (let z = eqb-false n 0 e in closes (part (copied (place + n) 1) ⨾ part (brought 1 place)) (omega arith)))
lifted (suc q) n place l = closes ended (omega arith)

left_enough : (q n : ℕ) → n ≤ assignments.left_over q n
left_enough zero n = omega arith
left_enough (suc q) n = omega arith

scalar_value : (ss : t.Subscripts) (r q : ℕ) → view.is_scalar ss r ≡ true → ScalarToScalar ss r q → q ≡ 0
scalar_value t.no_subscripts zero q e h = h
scalar_value t.no_subscripts (suc r) q e h = (let z = eqb-true (suc r) 0 e in absurd (omega arith))
scalar_value (t.more_subscripts s ss) r q e h = absurd (cc)

scalar_assigned : (from to : Kind) (q : ℕ) (y : Scope) (x : ℕ) → q ≡ 0 → Turns (with_arrays (numbers_loaded q) 0 (arrays_loaded q) 0) (assignments.fitting from to 0 0 ▸ doing (a.variable (a.store y x) ∷ []))
scalar_assigned from to q y x e = (let n : numbers_loaded q ≡ 1 = ap numbers_loaded e in let m : arrays_loaded q ≡ 0 = ap arrays_loaded e in closes (part (fitted from to 0 0) ⨾ acts ended) (omega arith))

array_assigned : (from to : Kind) (q : ℕ) (y : Scope) (x : ℕ) (ss : t.Subscripts) (r : ℕ) {p : Parts Act} → IsSection ss r → Turns (numbers 0 (subscripts_size ss)) p
    → Turns (with_arrays (numbers_loaded q) 0 (arrays_loaded q) 0) (p ▸ assignments.fitting_section from to q y x (view.form_of ss r) r ▸ assignments.agreeing q 0 r ▸ assignments.putting q y x r)
array_assigned from to q y x ss r h k = closes (part k ⨾ part (section_fitted from to q y x ss r h) ⨾ part (agreed q 0 r) ⨾ part (put_down q y x r)) (omega arith)

coarray_assigned : (from to : Kind) (q c : ℕ) (ss : t.Subscripts) (r : ℕ) (sel : t.Selector) {p w : Parts Act} → IsSection ss r → Turns (numbers 0 (subscripts_size ss)) p
    → Turns (numbers (place_size r) (view.optional_size (view.stat_of sel) + (place_size r + 1))) w
    → Turns (with_arrays (numbers_loaded q) 0 (arrays_loaded q) 0)
    (p ▸ doing (a.bounded (a.co_section c (view.form_of ss r)) ∷ []) ▸ w ▸ assignments.lifting q (view.optional_size (view.stat_of sel)) (place_size r + 1)
    ▸ assignments.fitting from to q (place_size r + 1) ▸ view.needing_own c (view.is_scalar ss r) sel ▸ assignments.agreeing q 1 r ▸ assignments.writing q c r to
    ▸ doing (a.stack a.accessed ∷ []) ▸ view.storing_status 1 (view.stat_of sel) ▸ dropping (assignments.left_over q (view.optional_size (view.stat_of sel))))
coarray_assigned from to q c ss r sel h k l =
    let o = view.optional_size (view.stat_of sel) in
    let m = left_enough q o in
    closes (part k ⨾ part (co_sectioned ss r h c) ⨾ part l ⨾ part (lifted q o (place_size r + 1) (size_small (view.stat_of sel)))
    ⨾ part (fitted from to q (place_size r + 1)) ⨾ part (own_needed c (view.is_scalar ss r) sel) ⨾ part (agreed q 1 r) ⨾ part (wrote q c r to)
    ⨾ acts ended ⨾ part (status_stored 1 o (view.stat_of sel) (omega arith) (omega arith)) ⨾ part (dropped (assignments.left_over q o))) (omega arith)

then_gone : {n m : ℕ} {p q : Parts Act} → Turns (with_arrays 0 n 0 m) p → Turns (with_arrays n 0 m 0) q → Turns none (p ▸ q)
then_gone f g = closes (part f ⨾ part g) (omega arith)

-- ---- output
printed : (e : Environment) (k : Kind) (r : ℕ) → Turns (with_texts (numbers_loaded r) 0 (arrays_loaded r) 0 1 1) (assignments.printed e k r)
printed e kinds.L4 zero = one_act
printed e kinds.I4 zero = one_act
printed e kinds.I8 zero = one_act
printed e kinds.L4 (suc r) = one_act
printed e kinds.I4 (suc r) = one_act
printed e kinds.I8 (suc r) = one_act

module _ (e : Environment) where
  pub assignment_turns : (d : t.Designator) (type : DataType) (r : ℕ) (x : t.Expression) → ranks.IsAssigned e.program.procedures d r x → Turns none (assignments.assignment e d type r x)
  assignment_turns (t.part (objects.Local v) ss sel) type r (t.typed f y q) h = then_gone (form_turns e f (kind_of y) q h.0)
      (by_cases (view.is_scalar ss r) (λ z. scalar_assigned (kind_of y) (kind_of type) q (scope_of v.home) v.variable (scalar_value ss r q z h.3))
      (λ z. array_assigned (kind_of y) (kind_of type) q (scope_of v.home) v.variable ss r h.2 (subscripts_turns e ss h.1)))
  assignment_turns (t.part (objects.Coarray c) ss sel) type r (t.typed f y q) h =
      then_gone (form_turns e f (kind_of y) q h.0) (coarray_assigned (kind_of y) (kind_of type) q c ss r sel h.1.1 (subscripts_turns e ss h.1.0) (owner_turns e c r sel h.1.2))
  assignment_turns (t.part (objects.Constant n) ss sel) type r (t.typed f y q) h = absurd h

  listed_team : (x : t.OptionalExpression) → ranks.IsOptionalScalar e.program.procedures x → Turns (numbers 0 1) (assignments.listed_team e x)
  listed_team t.missing h = one_act
  listed_team (t.given x) h = then_one (numbers 0 1) (scalar_turns e x h) (omega arith)

  listing : (l : ListedImages) → Turns (with_arrays 1 0 0 1) (assignments.listing e l)
  listing lists.Failed = closes (acts (acts ended)) (omega arith)
  listing lists.Stopped = closes (acts (acts ended)) (omega arith)

  pub images_turns : (v : Local) (l : ListedImages) (x : t.OptionalExpression) → ranks.IsOptionalScalar e.program.procedures x → Turns none (assignments.images_assignment e v l x)
  images_turns v l x h = closes (part (listed_team x h) ⨾ part (listing l) ⨾ acts ended) (omega arith)

  item_printed : (x : s.Item) → ranks.IsItem e.program.procedures x → Turns (with_texts 0 0 0 0 1 1) (assignments.item e x)
  item_printed (s.literal n) h = one_act
  item_printed (s.value (t.typed f type r)) h = closes (part (form_turns e f (kind_of type) r h) ⨾ part (printed e (kind_of type) r)) (omega arith)

  items_printed : (xs : List s.Item) → ranks.AreItems e.program.procedures xs → Turns (with_texts 0 0 0 0 1 1) (assignments.items e xs)
  items_printed [] h = closes ended (omega arith)
  items_printed (x ∷ xs) h = closes (part (item_printed x h.0) ⨾ part (items_printed xs h.1)) (omega arith)

  text_begun : (f : s.Format) → Turns (with_texts 0 0 0 0 0 1) (assignments.beginning e f)
  text_begun s.free = one_act
  text_begun (s.written n ds) = one_act

  pub output_turns : (f : s.Format) (xs : List s.Item) → ranks.AreItems e.program.procedures xs → Turns none (assignments.output e f xs)
  output_turns f xs h = closes (part (text_begun f) ⨾ part (items_printed xs h) ⨾ acts ended) (omega arith)
