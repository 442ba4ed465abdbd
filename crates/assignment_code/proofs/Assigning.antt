-- What is written of assignments.
use Rattle.std.proofs.Common.{◌≡◌, ◌≢◌, ℕ, zero, suc, ◌+◌, [], ◌∷◌, refl, ap, ne_eqb, arith}
use Rattle.std.specs.Prelude.{cond, pos}
use Rattle.caf_base.specs.declared.value.Kind.{Kind}
use Rattle.caf_base.specs.declared.value.Kind.TheVariants as kinds
use Rattle.walk_theory.specs.Made.{parts_size}
use Rattle.image_acts.specs.Places.{place_size}
use Rattle.image_acts.specs.Acts as a
use Rattle.image_acts.specs.Acts.{Act, stack, variable, operator, bounded, ask}
use Rattle.tree_meaning.specs.Assignments as meaning
use Rattle.tree_meaning.specs.Sequences.{◌▸◌, doing, nothing, pushing, dropping, choosing}
use Rattle.assignment_code.specs.Assigning.{fits_at, tested_section}

pub array_fits : (to : Kind) (r depth : ℕ) → r ≢ 0 → fits_at to r depth ≡ doing (operator (a.fits_each to) ∷ [])
array_fits to zero depth h = absurd (h refl)
array_fits to (suc r) depth h = refl

pub fits_size : (to : Kind) (r depth : ℕ) → parts_size (fits_at to r depth) ≡ 1
fits_size to zero depth = refl
fits_size to (suc r) depth = refl

pub fitting_is : (from to : Kind) (r depth : ℕ) → meaning.fitting from to r depth ≡ cond (meaning.narrows from to) (fits_at to r depth) nothing
fitting_is from to zero depth = refl
fitting_is from to (suc r) depth = refl

pub fitting_section_is : (from to : Kind) (r : ℕ) (x : a.Scope) (n form rank : ℕ) →
    meaning.fitting_section from to r x n form rank ≡ cond (meaning.narrows from to) (tested_section to r x n form rank) (meaning.sectioning x n form)
fitting_section_is kinds.I8 kinds.I4 zero x n form rank = refl
fitting_section_is kinds.I8 kinds.I4 (suc r) x n form rank = refl
fitting_section_is from to r x n form rank = refl

pub array_agrees : (r depth rank : ℕ) → r ≢ 0 → meaning.agreeing r depth rank ≡ doing (bounded (a.same_shape depth rank) ∷ [])
array_agrees zero depth rank h = absurd (h refl)
array_agrees (suc r) depth rank h = refl

pub array_put : (r : ℕ) (x : a.Scope) (n rank : ℕ) → r ≢ 0 → meaning.putting r x n rank ≡ doing (variable (a.put_array x n rank) ∷ [])
array_put zero x n rank h = absurd (h refl)
array_put (suc r) x n rank h = refl

pub array_written : (r c rank : ℕ) (k : Kind) → r ≢ 0 → meaning.written r c rank k ≡ doing (ask (a.write_array c rank k) ∷ [])
array_written zero c rank k h = absurd (h refl)
array_written (suc r) c rank k h = refl

pub array_dropped : (r : ℕ) → r ≢ 0 → meaning.dropping_value r ≡ doing (stack a.drop_array ∷ [])
array_dropped zero h = absurd (h refl)
array_dropped (suc r) h = refl

pub array_not_lifted : (r size place : ℕ) → r ≢ 0 → meaning.lifting r size place ≡ nothing
array_not_lifted zero size place h = absurd (h refl)
array_not_lifted (suc r) size place h = refl

pub array_left_over : (r size : ℕ) → r ≢ 0 → meaning.left_over r size ≡ size
array_left_over zero size h = absurd (h refl)
array_left_over (suc r) size h = refl

pub written_size : (r c rank : ℕ) (k : Kind) → parts_size (meaning.written r c rank k) ≡ 1
written_size zero c rank k = refl
written_size (suc r) c rank k = refl

pub drop_size : (n : ℕ) → parts_size (dropping (n + 1)) ≡ 1
drop_size n =
    let h : n + 1 ≢ 0 = omega arith in
    ap (λ b. parts_size (cond b nothing (doing (stack (a.drop (n + 1)) ∷ [])))) (ne_eqb (n + 1) 0 h)

pub dropped_size : (r : ℕ) → parts_size (meaning.dropping_value r) ≡ 1
dropped_size zero = refl
dropped_size (suc r) = refl

-- a write to a section
pub section_written : (v c r : ℕ) (k : Kind) → r ≢ 0 →
    meaning.writing v c r k
    ≡ (doing (bounded (a.some_cells 1 r) ∷ []) ▸ choosing (meaning.written v c r k) (dropping (place_size r + 1) ▸ meaning.dropping_value v ▸ pushing (pos 0)))
section_written v c zero k h = absurd (h refl)
section_written v c (suc r) k h = refl

pub ruleset of_arrays = (array_fits, array_agrees, array_put, array_written, array_dropped, array_not_lifted, array_left_over)

pub ruleset of_sizes = (fits_size, written_size, drop_size, dropped_size, section_written)

pub ruleset of_kinds = (fitting_is, fitting_section_is)
