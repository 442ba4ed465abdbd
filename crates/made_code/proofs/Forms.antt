-- What stands between operands, over any parts: by what the operands leave.
use Rattle.std.proofs.Common.{◌≡◌, ℕ, zero, suc, ◌+◌, ◌≤◌, Bool, true, false, cond, [], ◌∷◌, refl, ap, sym, ◌∙◌, subst, arith}
use Rattle.std.specs.Prelude.{ℤ, ◌==◌}
use Rattle.std.proofs.lemmas.Bool.{eqb-true, eqb-false}
use Rattle.walk_theory.specs.Syntax.{Parts, end_parts, act}
use Rattle.checked_tree.specs.declared.expr.WrittenOrder.{WrittenOrder}
use Rattle.checked_tree.specs.declared.expr.WrittenOrder.TheVariants as orders
use Rattle.checked_tree.specs.Expressions as t
use Rattle.image_acts.specs.Places.{place_size}
use Rattle.image_acts.specs.Acts as a
use Rattle.image_acts.specs.Acts.{Act, Scope}
use Rattle.image_code.specs.Sizes.{Size, numbers, with_arrays, numbers_loaded, arrays_loaded, act_size, operator_size}
use Rattle.tree_meaning.specs.Sequences.{◌▸◌, doing, nothing, dropping, copying, bringing, pushing}
use Rattle.tree_meaning.specs.Expressions as view
use Rattle.made_code.specs.Ranks.{IsSection}
use Rattle.made_code.proofs.Digits.{section_numbers, section_rank, subscripts_size}
use Rattle.made_code.proofs.Turns.{Turns, Closes, closes, ended, acts, ◌⨾◌, part, chosen, by_cases, either_way}

-- a value of a rank: a number, or an array
abbrev pub valued : ℕ → Size
valued r = with_arrays 0 (numbers_loaded r) 0 (arrays_loaded r)

abbrev pub none : Size
none = numbers 0 0

pub idle : Turns none nothing
idle = closes ended (omega arith)

-- parts that do the same where they take more and leave it
pub wider : {z : Size} {p : Parts Act} (w : Size) → Turns z p → Closes w (z ∷ []) → Turns w p
wider w h c = closes (part h) c

pub one_act : {b : Act} → Turns (act_size b) (act b end_parts)
one_act = closes (acts ended) (omega arith)

pub of_rank_0 : {r : ℕ} {p : Parts Act} → r ≡ 0 → Turns (numbers 0 1) p → Turns (valued r) p
of_rank_0 {r} {p} e h = subst (λ n. Turns (valued n) p) (sym e) h

pub as_scalar : {r : ℕ} {p : Parts Act} → r ≡ 0 → Turns (valued r) p → Turns (numbers 0 1) p
as_scalar {r} {p} e h = subst (λ n. Turns (valued n) p) e h

pub as_array : {r : ℕ} {p : Parts Act} → 1 ≤ r → Turns (valued r) p → Turns (with_arrays 0 0 0 1) p
as_array {r = zero} l h = absurd (omega arith)
as_array {r = suc r} l h = h

-- ---- moving numbers
pub dropped : (n : ℕ) → Turns (numbers n 0) (dropping n)
dropped n = by_cases (n == 0) (λ e. (let z : n ≡ 0 = eqb-true n 0 e in closes ended (omega arith))) (λ e. one_act)

pub copied : (depth n : ℕ) → Turns (numbers (depth + n) (depth + n + n)) (copying depth n)
copied depth n = by_cases (n == 0) (λ e. (let z : n ≡ 0 = eqb-true n 0 e in closes ended (omega arith))) (λ e. one_act)

pub brought : (depth n : ℕ) → Turns (numbers (depth + n) (depth + n)) (bringing depth n)
brought depth n = either_way _ (closes ended (omega arith)) one_act

pub pushed : (z : ℤ) → Turns (numbers 0 1) (pushing z)
pushed z = one_act

-- ---- ranks
pub scalar_facts : (r : ℕ) → (r == 0) ≡ true → (r ≡ 0) × (numbers_loaded r ≡ 1) × (arrays_loaded r ≡ 0) × (view.value_size r ≡ 1)
scalar_facts r e = (let z = eqb-true r 0 e in (z, ap numbers_loaded z, ap arrays_loaded z, ap (λ b. cond b 1 0) e))

pub array_loaded : (r : ℕ) → 1 ≤ r → (numbers_loaded r ≡ 0) × (arrays_loaded r ≡ 1)
array_loaded zero h = absurd (omega arith)
array_loaded (suc r) h = (refl, refl)

pub array_facts : (r : ℕ) → (r == 0) ≡ false → (1 ≤ r) × (numbers_loaded r ≡ 0) × (arrays_loaded r ≡ 1) × (view.value_size r ≡ 0)
array_facts r e = (let n = eqb-false r 0 e in let l : 1 ≤ r = omega arith in let x = array_loaded r l in (l, x.0, x.1, ap (λ b. cond b 1 0) e))

value_by : (r : ℕ) (b : Bool) → (r == 0) ≡ b → view.value_size r ≡ numbers_loaded r
value_by r true e = (scalar_facts r e).3 ∙ sym (scalar_facts r e).1
value_by r false e = (array_facts r e).3 ∙ sym (array_facts r e).1

pub value_numbers : (r : ℕ) → view.value_size r ≡ numbers_loaded r
value_numbers r = value_by r (r == 0) refl

pub scalar_rank : (ss : t.Subscripts) (r : ℕ) → view.is_scalar ss r ≡ true → r ≡ 0
scalar_rank t.no_subscripts r e = eqb-true r 0 e
scalar_rank (t.more_subscripts s ss) r e = absurd (cc)

-- ---- values
pub cells_taken : (r : ℕ) → Turns (with_arrays 0 0 (arrays_loaded r) (arrays_loaded r)) (view.taking_cells r)
cells_taken zero = idle
cells_taken (suc r) = one_act

pub read_out : (c r : ℕ) → Turns (with_arrays (place_size r + 1) 1 0 1) (view.reading c r)
read_out c zero = one_act
read_out c (suc r) = closes (acts ended ⨾ chosen one_act one_act) (omega arith)

pub as_a_value : (r : ℕ) → Turns (with_arrays 0 (numbers_loaded r) 1 (arrays_loaded r)) (view.as_value r)
as_a_value zero = one_act
as_a_value (suc r) = one_act

pub own_needed : (c : ℕ) (b : Bool) (sel : t.Selector) → Turns none (view.needing_own c b sel)
own_needed c b sel = either_way _ one_act idle

-- the section of an array by the subscripts on top
pub sectioned : (ss : t.Subscripts) (r : ℕ) → IsSection ss r → (s : Scope) (x : ℕ) → Turns (numbers (subscripts_size ss) (place_size r)) (doing (a.bounded (a.section s x (view.form_of ss r)) ∷ []))
sectioned ss r h s x = (let n = section_numbers ss r h in let m = section_rank ss r h in closes (acts ended) (omega arith))

pub co_sectioned : (ss : t.Subscripts) (r : ℕ) → IsSection ss r → (c : ℕ) → Turns (numbers (subscripts_size ss) (place_size r)) (doing (a.bounded (a.co_section c (view.form_of ss r)) ∷ []))
co_sectioned ss r h c = (let n = section_numbers ss r h in let m = section_rank ss r h in closes (acts ended) (omega arith))

pub loaded : (ss : t.Subscripts) (r : ℕ) → IsSection ss r → (s : Scope) (x : ℕ) {p : Parts Act} → Turns (numbers 0 (subscripts_size ss)) p
    → Turns (valued r) (p ▸ doing (a.bounded (a.section s x (view.form_of ss r)) ∷ a.variable (a.load s x r) ∷ []) ▸ view.taking_cells r)
loaded ss r h s x k = (let n = section_numbers ss r h in let m = section_rank ss r h in closes (part k ⨾ acts (acts ended) ⨾ part (cells_taken r)) (omega arith))

-- ---- result variables
pub stored : (depth k : ℕ) (r : t.ResultVariable) → 1 ≤ depth → k + 1 ≡ depth + view.result_size r → Turns (numbers (depth + view.result_size r) k) (view.storing depth r)
stored depth k (t.result_variable v t.no_expressions kind) l e = closes (acts ended) (omega arith)
stored depth k (t.result_variable v (t.more_expressions x es) kind) l e = closes (part (copied depth 1) ⨾ acts ended) (omega arith)

pub status_stored : (depth k : ℕ) (r : t.OptionalResult) → 1 ≤ depth → k + 1 ≡ depth + view.optional_size r → Turns (numbers (depth + view.optional_size r) k) (view.storing_status depth r)
status_stored depth k t.no_result l e = closes (part (dropped 1)) (omega arith)
status_stored depth k (t.result r) l e = stored depth k r l e

pub size_small : (r : t.OptionalResult) → view.optional_size r ≤ 1
size_small t.no_result = omega arith
size_small (t.result (t.result_variable v t.no_expressions k)) = omega arith
size_small (t.result (t.result_variable v (t.more_expressions x es) k)) = omega arith

-- ---- operands
pub one_operand : {p : Parts Act} {o : a.OperatorAct} → operator_size o ≡ numbers 1 1 → Turns (numbers 0 1) p → Turns (numbers 0 1) (p ▸ view.operating o)
one_operand {p} {o} e h = closes (part h ⨾ part (subst (λ z. Turns z (view.operating o)) e one_act)) (omega arith)

pub two_operands : {p q : Parts Act} {o : a.OperatorAct} → operator_size o ≡ numbers 2 1 → Turns (numbers 0 1) p → Turns (numbers 0 1) q → Turns (numbers 0 1) (p ▸ q ▸ view.operating o)
two_operands {p} {q} {o} e h k = closes (part h ⨾ part k ⨾ part (subst (λ z. Turns z (view.operating o)) e one_act)) (omega arith)

pub written_two : {p q : Parts Act} (o : WrittenOrder) → Turns (numbers 0 1) p → Turns (numbers 0 1) q → Turns (numbers 0 2) (view.as_written o p q)
written_two orders.Same h k = closes (part h ⨾ part k) (omega arith)
written_two orders.Reversed h k = closes (part k ⨾ part h ⨾ part (brought 1 1)) (omega arith)

pub written_beside : {p q : Parts Act} (o : WrittenOrder) → Turns (with_arrays 0 0 0 1) p → Turns (numbers 0 1) q → Turns (with_arrays 0 1 0 1) (view.beside_as_written o p q)
written_beside orders.Same h k = closes (part h ⨾ part k) (omega arith)
written_beside orders.Reversed h k = closes (part k ⨾ part h) (omega arith)

pub then_one : {p : Parts Act} {z : Size} {b : Act} (w : Size) → Turns z p → Closes w (z ∷ act_size b ∷ []) → Turns w (p ▸ act b end_parts)
then_one w h c = closes (part h ⨾ acts ended) c

pub then_two : {p : Parts Act} {z : Size} {b d : Act} (w : Size) → Turns z p → Closes w (z ∷ act_size b ∷ act_size d ∷ []) → Turns w (p ▸ act b (act d end_parts))
then_two w h c = closes (part h ⨾ acts (acts ended)) c

-- ---- a section of a coarray: its place and, on top, the owner
pub owned : {cs team place : Parts Act} (c r n o : ℕ) → Turns (numbers 0 n) cs → Turns (numbers 0 1) team → Turns (numbers 0 o) place
    → Turns (numbers (place_size r) (o + (place_size r + 1))) (cs ▸ team ▸ place ▸ bringing o (place_size r + (n + 1)) ▸ doing (a.selector (a.owner c r n) ∷ []))
owned c r n o h k l = closes (part h ⨾ part k ⨾ part l ⨾ part (brought o (place_size r + (n + 1))) ⨾ acts ended) (omega arith)

pub coarray_read : {subs owner : Parts Act} (ss : t.Subscripts) (r : ℕ) → IsSection ss r → (c : ℕ) (sel : t.Selector) → Turns (numbers 0 (subscripts_size ss)) subs
    → Turns (numbers (place_size r) (view.optional_size (view.stat_of sel) + (place_size r + 1))) owner
    → Turns (valued r)
    (subs ▸ doing (a.bounded (a.co_section c (view.form_of ss r)) ∷ []) ▸ owner ▸ view.needing_own c (view.is_scalar ss r) sel ▸ view.reading c r
    ▸ doing (a.stack a.accessed ∷ []) ▸ view.storing_status 1 (view.stat_of sel) ▸ dropping (view.optional_size (view.stat_of sel)) ▸ view.as_value r)
coarray_read ss r h c sel k l =
    closes (part k ⨾ part (co_sectioned ss r h c) ⨾ part l ⨾ part (own_needed c (view.is_scalar ss r) sel) ⨾ part (read_out c r) ⨾ acts ended
    ⨾ part (status_stored 1 (view.optional_size (view.stat_of sel)) (view.stat_of sel) (omega arith) (omega arith)) ⨾ part (dropped (view.optional_size (view.stat_of sel))) ⨾ part (as_a_value r)) (omega arith)
