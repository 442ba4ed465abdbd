-- Actual arguments as operands: a number or an array for each value, and beneath it the place to which it goes back.
use Rattle.std.proofs.Common.{◌≡◌, ◌∙◌, ℕ, zero, suc, Bool, true, false, cond, List, [], ◌∷◌, ◌++◌, length, slice_get, refl, ap, sym, subst, append_assoc, arith}
use Rattle.std.specs.Prelude.{◌==◌, Option, Some}
use Rattle.std.proofs.lemmas.Bool.{eqb-true}
use Rattle.std.proofs.lemmas.List.{length-append}
use Rattle.caf_base.specs.declared.value.Kind.{Kind}
use Rattle.checked_tree.specs.declared.data.Object.TheVariants as objects
use Rattle.checked_tree.specs.declared.data.Variable.{Variable}
use Rattle.checked_tree.specs.Expressions as t
use Rattle.walk_theory.specs.Syntax.{Parts}
use Rattle.image_acts.specs.Places.{place_size}
use Rattle.image_acts.specs.Acts as a
use Rattle.image_acts.specs.Acts.{Act, Scope, variable, bounded}
use Rattle.tree_meaning.specs.Sequences.{◌▸◌, doing, copying}
use Rattle.tree_meaning.specs.Expressions as view
use Rattle.tree_meaning.specs.Expressions.{Passed}
use Rattle.made_code.specs.Ranks.{IsSection}
use Rattle.made_code.proofs.Digits.{subscripts_size}
use Rattle.kind_walks.specs.Kinds.{Typing, with_number, with_array}
use Rattle.kind_walks.proofs.Effects.{with_numbers, unknown, unknown_long}
use Rattle.kind_walks.proofs.Frames.{layout_of}
use Rattle.kind_expressions.specs.Kinded.{kind_in}
use Rattle.kind_expressions.proofs.VariableActs.{result, acts_load}
use Rattle.kind_expressions.proofs.Goes.{Setting, Goes, ◌⨾◌, one_act, Leaves, goes_copying}
use Rattle.kind_expressions.proofs.References.{place, on_place, goes_section, goes_taking_cells}

-- the numbers and the arrays that a value of a rank is
abbrev pub value_kinds : Option Kind → ℕ → List (Option Kind)
value_kinds k r = cond (r == 0) (k ∷ []) []

abbrev pub value_arrays : Option Kind → ℕ → List (Option Kind)
value_arrays k r = cond (r == 0) [] (k ∷ [])

abbrev pub valued_on : Option Kind → ℕ → Typing → Typing
valued_on k r s = record s { numbers = value_kinds k r ++ s.numbers; arrays = value_arrays k r ++ s.arrays }

pub result_as : (k : Option Kind) (r : ℕ) (s : Typing) → result k r s ≡ valued_on k r s
result_as k r s = by_test (r == 0) refl
  where
    by_rank : (m : ℕ) → (m == 0) ≡ false → result k m s ≡ with_array k s
    by_rank zero e = absurd (cc)
    by_rank (suc m) e = refl

    by_test : (b : Bool) → (r == 0) ≡ b → result k r s ≡ record s { numbers = cond b (k ∷ []) [] ++ s.numbers; arrays = cond b [] (k ∷ []) ++ s.arrays }
    by_test true e = ap (λ m. result k m s) (eqb-true r 0 e)
    by_test false e = by_rank r e

pub values_long : (k : Option Kind) (r : ℕ) → length (value_kinds k r) ≡ view.value_size r
values_long k r = by_test (r == 0)
  where
    by_test : (b : Bool) → length (cond b (k ∷ []) []) ≡ cond b 1 0
    by_test true = refl
    by_test false = refl

-- one argument, and all of them, the last one on top
abbrev pub one_on : Option Kind → Passed → Typing → Typing
one_on k p s = record s { numbers = value_kinds k p.rank ++ (unknown p.place ++ s.numbers); arrays = value_arrays k p.rank ++ s.arrays }

abbrev pub one_kinds : List Variable → Passed → List (Option Kind)
one_kinds vs p = value_kinds (kind_in vs p.dummy) p.rank ++ unknown p.place

abbrev pub all_kinds : List Variable → List Passed → List (Option Kind)
all_kinds vs [] = []
all_kinds vs (p ∷ ps) = all_kinds vs ps ++ one_kinds vs p

abbrev pub all_arrays : List Variable → List Passed → List (Option Kind)
all_arrays vs [] = []
all_arrays vs (p ∷ ps) = all_arrays vs ps ++ value_arrays (kind_in vs p.dummy) p.rank

abbrev pub passed_on : List Variable → List Passed → Typing → Typing
passed_on vs ps s = record s { numbers = all_kinds vs ps ++ s.numbers; arrays = all_arrays vs ps ++ s.arrays }

pub kinds_grouped : (as' bs cs ds : List (Option Kind)) → as' ++ (bs ++ (cs ++ ds)) ≡ (as' ++ (bs ++ cs)) ++ ds
kinds_grouped as' bs cs ds = ap (λ z. as' ++ z) (sym (append_assoc bs cs ds)) ∙ sym (append_assoc as' (bs ++ cs) ds)

pub kinds_long : (vs : List Variable) (ps : List Passed) → length (all_kinds vs ps) ≡ view.passed_sizes ps
kinds_long vs [] = refl
kinds_long vs (p ∷ ps) =
    let k = kind_in vs p.dummy in
    let x = kinds_long vs ps in
    let y = length-append (all_kinds vs ps) (one_kinds vs p) in
    let z = length-append (value_kinds k p.rank) (unknown p.place) in
    let u = values_long k p.rank in
    let v = unknown_long p.place in
    omega arith

-- the state behind one argument more
pub on_first : (vs : List Variable) (p : Passed) (ps : List Passed) (s : Typing) → passed_on vs ps (one_on (kind_in vs p.dummy) p s) ≡ passed_on vs (p ∷ ps) s
on_first vs p ps s =
    let k = kind_in vs p.dummy in
    ap (λ z. record s { numbers = z; arrays = all_arrays vs ps ++ (value_arrays k p.rank ++ s.arrays) }) (kinds_grouped (all_kinds vs ps) (value_kinds k p.rank) (unknown p.place) s.numbers)
    ∙ ap (λ z. record s { numbers = all_kinds vs (p ∷ ps) ++ s.numbers; arrays = z }) (sym (append_assoc (all_arrays vs ps) (value_arrays k p.rank) s.arrays))

pub passed_dummy : (x : t.Argument) (d r : ℕ) → (view.passed_as x d r).dummy ≡ d
passed_dummy (t.value x) d r = refl
passed_dummy (t.variable (t.part (objects.Local v) ss sel)) d r = refl
passed_dummy (t.variable (t.part (objects.Coarray c) ss sel)) d r = refl
passed_dummy (t.variable (t.part (objects.Constant c) ss sel)) d r = refl

module _ (w : Setting) where
  pub passed_more : (vs : List Variable) (k : Option Kind) (p : Passed) (ps : List Passed) (s : Typing) → kind_in vs p.dummy ≡ k → {q : Parts Act} → Goes w s q (passed_on vs ps (one_on k p s)) → Goes w s q (passed_on vs (p ∷ ps) s)
  passed_more vs k p ps s e {q} h = subst (λ z. Goes w s q z) (on_first vs p ps s) (subst (λ j. Goes w s q (passed_on vs ps (one_on j p s))) (sym e) h)

  -- ---- one argument
  pub value_on : (k : Option Kind) (x : t.Expression) (d r : ℕ) (s : Typing) → {q : Parts Act} → Goes w s q (result k r s) → Goes w s q (one_on k (view.passed_as (t.value x) d r) s)
  value_on k x d r s {q} h = subst (λ z. Goes w s q z) (result_as k r s) h

  pub scalar_on : (k : Option Kind) (r m : ℕ) (s : Typing) → m ≡ 0 → r ≡ 0 → {q : Parts Act} → Goes w s q (with_number k s) → Goes w s q (record s { numbers = value_kinds k r ++ (unknown m ++ s.numbers); arrays = value_arrays k r ++ s.arrays })
  scalar_on k r m s e f {q} h =
      subst (λ z. Goes w s q (record s { numbers = value_kinds k z ++ (unknown m ++ s.numbers); arrays = value_arrays k z ++ s.arrays })) (sym f)
      (subst (λ z. Goes w s q (record s { numbers = k ∷ (unknown z ++ s.numbers) })) (sym e) h)

  pub part_on : (x : Scope) (i : ℕ) (k : Option Kind) (ss : t.Subscripts) (r m : ℕ) (s : Typing) → m ≡ place_size r → IsSection ss r → slice_get (layout_of x s).arrays i ≡ Some k → {q : Parts Act} → Leaves w s (subscripts_size ss) q
      → Goes w s (q ▸ doing (bounded (a.section x i (view.form_of ss r)) ∷ []) ▸ copying 0 (place_size r) ▸ doing (variable (a.load x i r) ∷ []) ▸ view.taking_cells r)
      (record s { numbers = value_kinds k r ++ (unknown m ++ s.numbers); arrays = value_arrays k r ++ s.arrays })
  part_on x i k ss r m s e h l {q} f =
      let y = on_place r s in
      let whole = q ▸ doing (bounded (a.section x i (view.form_of ss r)) ∷ []) ▸ copying 0 (place_size r) ▸ doing (variable (a.load x i r) ∷ []) ▸ view.taking_cells r in
      subst (λ z. Goes w s whole (record s { numbers = value_kinds k r ++ (unknown z ++ s.numbers); arrays = value_arrays k r ++ s.arrays })) (sym e)
      (subst (λ z. Goes w s whole z) (result_as k r y)
      (f.goes ⨾ goes_section w x i ss r h f.kinds f.long s ⨾ goes_copying w s [] (place r) 0 (place_size r) refl (unknown_long (place_size r))
      ⨾ one_act w (with_numbers (place r) y) (variable (a.load x i r)) (result k r y) (acts_load w.coarrays w.images x i k y l (place r) r (unknown_long (place_size r))) ⨾ goes_taking_cells w k r y))
