-- A value that stands beneath numbers is of the variable's kind, or it is a fault.
use Rattle.std.proofs.Common.{arith, ◌≡◌, refl, ap, sym, subst, ◌∙◌, ℕ, suc, ◌+◌, ℤ, Bool, true, false, cond, drop, List, [], ◌∷◌, length, zero-add}
use Rattle.std.specs.List.{list_all}
use Rattle.caf_base.specs.declared.value.Kind.{Kind}
use Rattle.caf_base.specs.Arithmetic.{fits_kind}
use Rattle.walk_theory.specs.Syntax.{end_parts}
use Rattle.walk_theory.specs.Language.{goes_to, faults as faulting}
use Rattle.image_acts.specs.Faults.{overflow}
use Rattle.image_acts.specs.Acts as a
use Rattle.image_acts.specs.Acts.{Act, operator}
use Rattle.image_acts.specs.Core.{Core, Array, with_values, with_array}
use Rattle.image_acts.specs.Taking.{put_down as put_numbers}
use Rattle.image_acts.specs.Meaning.{operate, settled}
use Rattle.tree_meaning.specs.Sequences.{doing}
use Rattle.tree_meaning.specs.Assignments.{narrows, fitting}
use Rattle.direct_meaning.specs.States.{State, state_of, with_state}
use Rattle.direct_meaning.specs.Outcomes.{Outcome, and_then, Does, giving, ◌▹◌, unless}
use Rattle.direct_meaning.specs.Told.{of_effect, told}
use Rattle.direct_meaning.specs.Values.{number, array}
use Rattle.direct_meaning.specs.Statements.{converted}
use Rattle.direct_agreement.proofs.Agreement.{Comes, act_first}

-- numbers over a number, and over an array
abbrev pub over_number : Core → ℤ → List ℤ → State → Core
over_number c v ns z = with_values (with_state z c) (put_numbers ns (v ∷ c.values))

abbrev pub over_array : Core → Array → List ℤ → State → Core
over_array c w ns z = with_array w (with_values (with_state z c) (put_numbers ns c.values))

-- the same, over a core in which the value was put down
abbrev pub over : Core → List ℤ → State → Core
over d ns z = with_values (with_state z d) (put_numbers ns d.values)

pub drop_back : (ns vs : List ℤ) (n : ℕ) → drop (length ns + n) (put_numbers ns vs) ≡ drop n vs
drop_back [] vs n = ap (λ k. drop k vs) (zero-add n)
drop_back (m ∷ ns) vs n =
    let e : suc (length ns) + n ≡ length ns + suc n = omega arith in
    ap (λ k. drop k (put_numbers ns (m ∷ vs))) e ∙ drop_back ns (m ∷ vs) (suc n)

pub dropped : (ns vs : List ℤ) → drop (length ns) (put_numbers ns vs) ≡ vs
dropped ns vs =
    let e : length ns ≡ length ns + 0 = omega arith in
    ap (λ k. drop k (put_numbers ns vs)) e ∙ drop_back ns vs 0

fits_acts : (k : Kind) (v : ℤ) (ns us : List ℤ) (d : Core)
    → operate (operator (a.fits k (length ns))) (with_values d (put_numbers ns (v ∷ us))) ≡ cond (list_all (fits_kind k) (v ∷ []))
    (goes_to (with_values d (put_numbers ns (v ∷ us)))) (faulting overflow)
fits_acts k v ns us d = rw (dropped ns (v ∷ us)) refl

-- a test of kinds, where there is one
abbrev fitting_test : Bool → Does (Unit {0})
fitting_test b = unless overflow b (giving tt)

abbrev test_where : Bool → Bool → Does (Unit {0})
test_where b test = cond b (fitting_test test) (giving tt)

tested_then : {X : Type 0} (lay : X → State → Core) (P : X → State → Type 0) (b : Bool) (m : Does X) (l : ℕ) (d : Core) (x : Act)
    (q : Core → Outcome Core)
    → Comes lay P (m l (state_of d)) (q d) → Comes lay P ((fitting_test b ▹ (λ u. m)) l (state_of d))
    (and_then (of_effect l d (settled x (cond b (goes_to d) (faulting overflow)))) q)
tested_then lay P true m l d x q h = h
tested_then lay P false m l d x q h = refl

number_by : {X : Type 0} (lay : X → State → Core) (P : X → State → Type 0) (b : Bool) (k : Kind) (v : ℤ) (ns : List ℤ) (m : Does X) (l : ℕ)
    (z : State) (c : Core) (q : Core → Outcome Core)
    → Comes lay P (m l z) (q (over_number c v ns z))
    → Comes lay P ((test_where b (list_all (fits_kind k) (v ∷ [])) ▹ (λ u. m)) l z)
    (and_then (told (cond b (doing (operator (a.fits k (length ns)) ∷ [])) end_parts) l (over_number c v ns z)) q)
number_by lay P false k v ns m l z c q h = h
number_by lay P true k v ns m l z c q h =
    act_first lay P ((fitting_test (list_all (fits_kind k) (v ∷ [])) ▹ (λ u. m)) l z) (operator (a.fits k (length ns))) l
    (over_number c v ns z) q
    (subst (λ u. Comes lay P ((fitting_test (list_all (fits_kind k) (v ∷ [])) ▹ (λ t. m)) l z)
    (and_then (of_effect l (over_number c v ns z) (settled (operator (a.fits k (length ns))) u)) q))
    (sym (fits_acts k v ns c.values (with_state z c)))
    (tested_then lay P (list_all (fits_kind k) (v ∷ [])) m l (over_number c v ns z) (operator (a.fits k (length ns))) q h))

pub number_fits : {X : Type 0} (lay : X → State → Core) (P : X → State → Type 0) (from k : Kind) (v : ℤ) (ns : List ℤ) (m : Does X) (l : ℕ)
    (z : State) (c : Core) (q : Core → Outcome Core)
    → Comes lay P (m l z) (q (over_number c v ns z))
    → Comes lay P ((converted from k (number v) ▹ (λ u. m)) l z) (and_then (told (fitting from k 0 (length ns)) l (over_number c v ns z)) q)
number_fits lay P from k v ns m l z c q h = number_by lay P (narrows from k) k v ns m l z c q h

array_by : {X : Type 0} (lay : X → State → Core) (P : X → State → Type 0) (b : Bool) (k : Kind) (w : Array) (ns : List ℤ) (m : Does X)
    (l : ℕ) (z : State) (c : Core) (q : Core → Outcome Core)
    → Comes lay P (m l z) (q (over_array c w ns z))
    → Comes lay P ((test_where b (list_all (fits_kind k) w.elements) ▹ (λ u. m)) l z)
    (and_then (told (cond b (doing (operator (a.fits_each k) ∷ [])) end_parts) l (over_array c w ns z)) q)
array_by lay P false k w ns m l z c q h = h
array_by lay P true k w ns m l z c q h =
    act_first lay P ((fitting_test (list_all (fits_kind k) w.elements) ▹ (λ u. m)) l z) (operator (a.fits_each k)) l (over_array c w ns z) q
    (tested_then lay P (list_all (fits_kind k) w.elements) m l (over_array c w ns z) (operator (a.fits_each k)) q h)

pub array_fits : {X : Type 0} (lay : X → State → Core) (P : X → State → Type 0) (from k : Kind) (w : Array) (r : ℕ) (ns : List ℤ) (n : ℕ)
    (m : Does X) (l : ℕ) (z : State) (c : Core) (q : Core → Outcome Core)
    → Comes lay P (m l z) (q (over_array c w ns z))
    → Comes lay P ((converted from k (array w) ▹ (λ u. m)) l z) (and_then (told (fitting from k (suc r) n) l (over_array c w ns z)) q)
array_fits lay P from k w r ns n m l z c q h = array_by lay P (narrows from k) k w ns m l z c q h
