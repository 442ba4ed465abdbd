-- Calls of procedures: arguments, an instance's frame, and what is left of both.
use Rattle.std.proofs.Common.{◌≡◌, ℕ, zero, suc, ◌+◌, ◌*◌, ◌≤◌, ◌⊎◌, inl, inr, Bool, true, false, cond, List, [], ◌∷◌, ◌++◌, length, refl, ap, ◌∙◌, arith}
use Rattle.std.proofs.lemmas.Bool.{eqb-true, eqb-false}
use Rattle.std.specs.Prelude.{ℤ, ◌==◌, Option, Some, None}
use Rattle.checked_tree.specs.declared.data.Object.TheVariants as objects
use Rattle.checked_tree.specs.declared.data.Variable.{Variable}
use Rattle.checked_tree.specs.declared.program.Dummy.{Dummy}
use Rattle.checked_tree.specs.Expressions as t
use Rattle.checked_tree.specs.Statements.{Procedure, Unit'}
use Rattle.image_acts.specs.Places.{place_size}
use Rattle.image_acts.specs.Acts as a
use Rattle.image_acts.specs.Acts.{Act, Scope}
use Rattle.image_acts.specs.Operate.Allocating.{bounds_size}
use Rattle.image_code.specs.Sizes.{numbers, with_arrays, numbers_loaded, arrays_loaded}
use Rattle.tree_meaning.specs.Environment.{declared_bounds, rank_in}
use Rattle.tree_meaning.specs.Sequences.{doing, nothing}
use Rattle.tree_meaning.specs.Expressions as view
use Rattle.tree_meaning.specs.Expressions.{Passed}
use Rattle.made_code.proofs.Turns.{Turns, closes, ended, acts, enters, ◌⨾◌, part, by_cases}
use Rattle.made_code.proofs.Forms.{none, idle, one_act, dropped, copied, brought, scalar_facts, array_facts, value_numbers, scalar_rank, cells_taken}

-- how many array values the arguments are, and those that go back
abbrev pub passed_arrays : List Passed → ℕ
passed_arrays [] = 0
passed_arrays (p ∷ ps) = arrays_loaded p.rank + passed_arrays ps

abbrev pub out_arrays : List Passed → ℕ
out_arrays [] = 0
out_arrays (p ∷ ps) = cond p.goes_back (arrays_loaded p.rank) 0 + out_arrays ps

-- the place of an argument that goes back: none of a scalar variable as a whole
abbrev pub Goes : Passed → Type 0
Goes p = ((p.place ≡ 0) × (p.rank ≡ 0)) ⊎ (p.place ≡ place_size p.rank)

abbrev pub AllGo : List Passed → Type 0
AllGo [] = Unit {0}
AllGo (p ∷ ps) = (p.goes_back ≡ true → Goes p) × AllGo ps

-- ---- an instance begins
in_one : (p : Passed) (n : ℕ) → Turns (with_arrays (n + view.value_size p.rank) (n + view.value_size p.rank) (arrays_loaded p.rank) 0) (view.copying_in_one p n)
in_one p n = by_cases (p.rank == 0)
    (λ e. (let f = scalar_facts p.rank e in closes (part (copied n 1) ⨾ acts ended) (omega arith)))
    (λ e. (let f = array_facts p.rank e in closes (acts ended) (omega arith)))

all_in : (ps : List Passed) → Turns (with_arrays (view.passed_sizes ps) (view.passed_sizes ps) (passed_arrays ps) 0) (view.copying_in ps)
all_in [] = idle
all_in (p ∷ ps) = closes (part (all_in ps) ⨾ part (in_one p (view.passed_sizes ps))) (omega arith)

bounds_laid : (bs : List (ℤ × ℤ)) (x r k : ℕ) → k + (2 * length bs) ≡ bounds_size r → Turns (numbers k 0) (doing (view.bounds_acts bs ++ (a.allocation (a.lay_out x r) ∷ [])))
bounds_laid [] x r k h = closes (acts ended) (omega arith)
bounds_laid (b ∷ bs) x r k h = closes (acts (acts (part (bounds_laid bs x r (k + 2) (omega arith))))) (omega arith)

laid_one : (o : Option (List (ℤ × ℤ))) (x : ℕ) → Turns none (view.laying_out_one o x)
laid_one None x = idle
laid_one (Some []) x = idle
laid_one (Some (b ∷ bs)) x = bounds_laid (b ∷ bs) x (length (b ∷ bs)) 0 (omega arith)

laid : (vs : List Variable) (x : ℕ) → Turns none (view.laying_out vs x)
laid [] x = idle
laid (v ∷ vs) x = closes (part (laid_one (declared_bounds v.dimensions) x) ⨾ part (laid vs (suc x))) (omega arith)

-- ---- it ends
out_one : (r x : ℕ) → Turns (with_arrays 0 (numbers_loaded r) 0 (arrays_loaded r)) (view.copying_out_one r x)
out_one zero x = one_act
out_one (suc r) x = one_act

out_if : (b : Bool) (r x : ℕ) → Turns (with_arrays 0 (cond b (view.value_size r) 0) 0 (cond b (arrays_loaded r) 0)) (cond b (view.copying_out_one r x) nothing)
out_if true r x = (let v = value_numbers r in closes (part (out_one r x)) (omega arith))
out_if false r x = idle

all_out : (ps : List Passed) → Turns (with_arrays 0 (view.out_sizes ps) 0 (out_arrays ps)) (view.copying_out ps)
all_out [] = idle
all_out (p ∷ ps) = closes (part (all_out ps) ⨾ part (out_if p.goes_back p.rank p.dummy)) (omega arith)

no_place : (p : Passed) → Goes p → p.place ≡ 0 → p.rank ≡ 0
no_place p (inl h) e = h.1
no_place p (inr h) e = absurd (omega arith)

a_place : (p : Passed) → Goes p → (p.place ≡ 0 → ⊥) → p.place ≡ place_size p.rank
a_place p (inl h) n = absurd (n h.0)
a_place p (inr h) n = h

gone_back : (p : Passed) (depth k : ℕ) → Goes p → k + view.value_size p.rank ≡ depth → Turns (with_arrays (depth + p.place) (k + p.place) (arrays_loaded p.rank) 0) (view.going_back p depth)
gone_back p depth k g e = by_cases (p.place == 0)
    (λ z. (let n : p.place ≡ 0 = eqb-true p.place 0 z in
    let r : p.rank ≡ 0 = no_place p g n in
    let v : view.value_size p.rank ≡ 1 = value_numbers p.rank ∙ ap numbers_loaded r in
    let w : arrays_loaded p.rank ≡ 0 = ap arrays_loaded r in
    closes (acts ended) (omega arith)))
    (λ z. (let n = a_place p g (eqb-false p.place 0 z) in
    closes (part (copied depth p.place) ⨾ part (put_back p n)) (omega arith)))
  where
    -- the value and a place on top
    put_back : (q : Passed) → q.place ≡ place_size q.rank → Turns (with_arrays (q.place + view.value_size q.rank) 0 (arrays_loaded q.rank) 0) (cond (q.rank == 0) (doing (a.variable (a.put q.scope q.actual 0) ∷ [])) (doing (a.variable (a.put_array q.scope q.actual q.rank) ∷ [])))
    put_back q n = by_cases (q.rank == 0)
        (λ z. (let f = scalar_facts q.rank z in closes (acts ended) (omega arith)))
        (λ z. (let f = array_facts q.rank z in closes (acts ended) (omega arith)))

back_if : (b : Bool) (p : Passed) (depth k : ℕ) → (b ≡ true → Goes p) → view.value_size p.rank ≤ k → depth ≡ cond b (view.value_size p.rank) 0 + k
    → Turns (with_arrays (depth + p.place) (k + p.place) (cond b (arrays_loaded p.rank) 0) 0) (cond b (view.going_back p depth) nothing)
back_if true p depth k g l e = gone_back p depth k (g refl) (omega arith)
back_if false p depth k g l e = closes ended (omega arith)

all_back : (ps : List Passed) (n : ℕ) → AllGo ps → Turns (with_arrays (view.out_sizes ps + (n + view.passed_sizes ps)) (n + view.passed_sizes ps) (out_arrays ps) 0) (view.putting_back ps n)
all_back [] n g = closes ended (omega arith)
all_back (p ∷ ps) n g =
    closes (part (back_if p.goes_back p (view.out_sizes (p ∷ ps) + (n + (view.passed_sizes ps + view.value_size p.rank))) (view.out_sizes ps + (n + (view.passed_sizes ps + view.value_size p.rank))) g.0 (omega arith) (omega arith))
    ⨾ part (all_back ps n g.1)) (omega arith)

result_given : (u : Unit') (o : Option ℕ) → Turns (with_arrays 0 (view.result_numbers u o) 0 (arrays_loaded (view.result_rank u o))) (view.resulting u o)
result_given u None = idle
result_given u (Some x) = (let v = value_numbers (rank_in u.variables x) in closes (part (out_one (rank_in u.variables x) x)) (omega arith))

-- a call takes its arguments and leaves its result
pub called : (k : ℕ) (p : Procedure) (ps : List Passed) → AllGo ps
    → Turns (with_arrays (view.passed_sizes ps) (view.result_numbers p.unit p.answer) (passed_arrays ps) (arrays_loaded (view.result_rank p.unit p.answer))) (view.calling k p ps)
called k p ps g =
    let n = view.result_numbers p.unit p.answer in
    closes ((acts ended ⨾ part (laid p.unit.variables 0) ⨾ part (all_in ps))
    ⨾ enters (part (result_given p.unit p.answer) ⨾ part (all_out ps) ⨾ acts ended ⨾ part (all_back ps n g) ⨾ part (brought n (view.passed_sizes ps)) ⨾ part (dropped (view.passed_sizes ps))
    ⨾ part (cells_taken (view.result_rank p.unit p.answer)))) (omega arith)

-- ---- arguments
passed_goes : (x : t.Argument) (d r : ℕ) → (view.passed_as x d r).goes_back ≡ true → Goes (view.passed_as x d r)
passed_goes (t.value x) d r e = absurd (cc)
passed_goes (t.variable (t.part (objects.Local v) ss sel)) d r e = goes_by (view.is_scalar ss r) refl where
  goes_by : (b : Bool) → view.is_scalar ss r ≡ b → Goes (view.passed_as (t.variable (t.part (objects.Local v) ss sel)) d r)
  goes_by true f = inl (ap (λ c. cond c 0 (place_size r)) f, scalar_rank ss r f)
  goes_by false f = inr (ap (λ c. cond c 0 (place_size r)) f)
passed_goes (t.variable (t.part (objects.Coarray c) ss sel)) d r e = absurd (cc)
passed_goes (t.variable (t.part (objects.Constant n) ss sel)) d r e = absurd (cc)

pub all_go : (vs : List Variable) (ds : List Dummy) (es : t.Arguments) → AllGo (view.passed vs ds es)
all_go vs [] es = tt
all_go vs (d ∷ ds) t.no_arguments = tt
all_go vs (d ∷ ds) (t.more_arguments x es) = (passed_goes x d.variable (rank_in vs d.variable), all_go vs ds es)
