-- A call of a procedure takes its arguments and leaves its result, which is of its kind; and each variable gets back a
-- value of its own.
use Rattle.std.proofs.Common.{◌≡◌, ◌∙◌, ℕ, zero, suc, ◌+◌, ◌*◌, ◌⊎◌, inl, inr, Bool, true, false, cond, List, [], ◌∷◌, ◌++◌, length, slice_get, refl, ap, sym, subst, append_assoc, arith}
use Rattle.std.specs.Prelude.{ℤ, ◌==◌, Option, None, Some}
use Rattle.std.proofs.lemmas.Bool.{eqb-true, eqb-false}
use Rattle.std.proofs.lemmas.List.{length-append}
use Rattle.caf_base.specs.declared.value.Kind.{Kind}
use Rattle.checked_tree.specs.declared.data.Variable.{Variable}
use Rattle.checked_tree.specs.Statements.{Procedure, Unit'}
use Rattle.walk_theory.specs.Syntax.{Parts, enter}
use Rattle.image_acts.specs.Places.{place_size}
use Rattle.image_acts.specs.Acts as a
use Rattle.image_acts.specs.Acts.{Act, here, constant, variable, call, allocation}
use Rattle.tree_meaning.specs.Environment.{declared_bounds, rank_in, total_cells, cells_in_frame}
use Rattle.tree_meaning.specs.Sequences.{◌▸◌, doing, nothing, dropping, copying, bringing}
use Rattle.tree_meaning.specs.Expressions as view
use Rattle.tree_meaning.specs.Expressions.{Passed}
use Rattle.kind_walks.specs.Kinds.{Widens, Layout, last_layout, Typing, with_number, with_array}
use Rattle.kind_walks.specs.Suiting.{IsIn}
use Rattle.kind_walks.proofs.Effects.{with_numbers, unknown, unknown_long}
use Rattle.kind_walks.proofs.Frames.{layout_of}
use Rattle.kind_walks.proofs.StackActs.{acts_constant}
use Rattle.kind_expressions.specs.Kinded.{kinds_of, kind_in, unit_layout}
use Rattle.kind_expressions.proofs.VariableActs.{acts_cell, acts_cell_unknown, acts_put, acts_put_array}
use Rattle.kind_expressions.proofs.CallActs.{called_from, acts_begin_frame, acts_end_frame, acts_lay_out, acts_copy_in, acts_copy_out, acts_copy_out_unknown}
use Rattle.kind_expressions.proofs.Operators.{always}
use Rattle.kind_expressions.proofs.Goes.{Setting, Goes, idle, ◌⨾◌, by_test, act_then, one_act, goes_dropping, goes_copying, goes_bringing}
use Rattle.kind_expressions.proofs.References.{goes_store, goes_taking_cells}
use Rattle.kind_expressions.proofs.Passing.{value_kinds, value_arrays, valued_on, result_as, values_long, one_on, all_kinds, passed_on, kinds_grouped, kinds_long, on_first}

-- ---- the kind of a variable, where there is such a one
pub dummy_kind : (vs : List Variable) (x : ℕ) (k : Option Kind) → slice_get (kinds_of vs) x ≡ Some k → kind_in vs x ≡ k
dummy_kind [] x k e = absurd (cc)
dummy_kind (v ∷ vs) zero k e = cc
dummy_kind (v ∷ vs) (suc x) k e = dummy_kind vs x k e

known_or_not : (vs : List Variable) (x : ℕ) → (slice_get (kinds_of vs) x ≡ Some (kind_in vs x)) ⊎ (kind_in vs x ≡ None)
known_or_not [] x = inr refl
known_or_not (v ∷ vs) zero = inl refl
known_or_not (v ∷ vs) (suc x) = known_or_not vs x

-- what goes back, the first one on top
abbrev back_kinds : List Variable → Passed → List (Option Kind)
back_kinds vs p = cond p.goes_back (value_kinds (kind_in vs p.dummy) p.rank) []

abbrev back_arrays : List Variable → Passed → List (Option Kind)
back_arrays vs p = cond p.goes_back (value_arrays (kind_in vs p.dummy) p.rank) []

abbrev out_kinds : List Variable → List Passed → List (Option Kind)
out_kinds vs [] = []
out_kinds vs (p ∷ ps) = back_kinds vs p ++ out_kinds vs ps

abbrev out_arrays : List Variable → List Passed → List (Option Kind)
out_arrays vs [] = []
out_arrays vs (p ∷ ps) = back_arrays vs p ++ out_arrays vs ps

back_long : (b : Bool) (k : Option Kind) (r : ℕ) → length (cond b (value_kinds k r) []) ≡ cond b (view.value_size r) 0
back_long true k r = values_long k r
back_long false k r = refl

out_long : (vs : List Variable) (ps : List Passed) → length (out_kinds vs ps) ≡ view.out_sizes ps
out_long vs [] = refl
out_long vs (p ∷ ps) =
    let x = out_long vs ps in
    let y = length-append (back_kinds vs p) (out_kinds vs ps) in
    let z = back_long p.goes_back (kind_in vs p.dummy) p.rank in
    omega arith

module _ (w : Setting) where
  goes_enter : (k : ℕ) (s : Typing) {t : Typing} {q : Parts Act} → IsIn w.coarrays w.images w.layouts k s → Goes w s q t → Goes w s (enter k q) t
  goes_enter k s h g = record { leads = λ j c x. (s, h, x, λ i d y. g.leads i d y) }

  -- ---- an instance begins
  bounds_laid : (bs : List (ℤ × ℤ)) (x r : ℕ) (ks : List (Option Kind)) → length ks + (2 * length bs) ≡ 2 * r → (s : Typing) → Goes w (with_numbers ks s) (doing (view.bounds_acts bs ++ (a.allocation (a.lay_out x r) ∷ []))) s
  bounds_laid [] x r ks e s = one_act w (with_numbers ks s) (allocation (a.lay_out x r)) s (acts_lay_out w.coarrays w.images x r ks (let y = e in omega arith) s)
  bounds_laid (b ∷ bs) x r ks e s =
      act_then w (with_numbers ks s) (constant b.0) (with_number None (with_numbers ks s)) (acts_constant w.coarrays w.images b.0 None tt (with_numbers ks s))
      (act_then w (with_number None (with_numbers ks s)) (constant b.1) (with_number None (with_number None (with_numbers ks s))) (acts_constant w.coarrays w.images b.1 None tt (with_number None (with_numbers ks s)))
      (bounds_laid bs x r (None ∷ None ∷ ks) (let y = e in omega arith) s))

  laid_one : (o : Option (List (ℤ × ℤ))) (x : ℕ) (s : Typing) → Goes w s (view.laying_out_one o x) s
  laid_one None x s = idle
  laid_one (Some []) x s = idle
  laid_one (Some (b ∷ bs)) x s = bounds_laid (b ∷ bs) x (length (b ∷ bs)) [] (omega arith) s

  laid : (us : List Variable) (x : ℕ) (s : Typing) → Goes w s (view.laying_out us x) s
  laid [] x s = idle
  laid (v ∷ us) x s = laid_one (declared_bounds v.dimensions) x s ⨾ laid us (suc x) s

  module _ (u : Unit') where
    abbrev vs : List Variable
    vs = u.variables

    abbrev IsHere : Typing → Type 0
    IsHere s = s.running ≡ unit_layout u

    fits_scalar : (s : Typing) → IsHere s → (x : ℕ) (k : Option Kind) → slice_get s.running.scalars x ≡ Some k → Widens (kind_in vs x) k
    fits_scalar s h x k e = subst (Widens (kind_in vs x)) (dummy_kind vs x k (subst (λ y. slice_get y.scalars x ≡ Some k) h e)) (always (kind_in vs x))

    fits_array : (s : Typing) → IsHere s → (x : ℕ) (k : Option Kind) → slice_get s.running.arrays x ≡ Some k → Widens (kind_in vs x) k
    fits_array s h x k e = subst (Widens (kind_in vs x)) (dummy_kind vs x k (subst (λ y. slice_get y.arrays x ≡ Some k) h e)) (always (kind_in vs x))

    -- the value of an argument goes into its dummy
    in_one : (p : Passed) (behind : ℕ) (ks : List (Option Kind)) → length ks ≡ behind → (s : Typing) → IsHere s
        → Goes w (record s { numbers = ks ++ (value_kinds (kind_in vs p.dummy) p.rank ++ s.numbers); arrays = value_arrays (kind_in vs p.dummy) p.rank ++ s.arrays }) (view.copying_in_one p behind)
        (record s { numbers = ks ++ (value_kinds (kind_in vs p.dummy) p.rank ++ s.numbers) })
    in_one p behind ks e s h = by_rank (p.rank == 0)
      where
        by_rank : (b : Bool) → Goes w (record s { numbers = ks ++ (cond b (kind_in vs p.dummy ∷ []) [] ++ s.numbers); arrays = cond b [] (kind_in vs p.dummy ∷ []) ++ s.arrays })
            (cond b (copying behind 1 ▸ doing (variable (a.store here p.dummy) ∷ [])) (doing (call (a.copy_in p.dummy) ∷ []))) (record s { numbers = ks ++ (cond b (kind_in vs p.dummy ∷ []) [] ++ s.numbers) })
        by_rank true =
            let k = kind_in vs p.dummy in
            let t = with_numbers ks (with_number k s) in
            goes_copying w s ks (k ∷ []) behind 1 e refl ⨾ goes_store w here p.dummy k t (λ j q. fits_scalar t h p.dummy j q)
        by_rank false =
            let k = kind_in vs p.dummy in
            let t = with_numbers ks s in
            one_act w (with_array k t) (call (a.copy_in p.dummy)) t (acts_copy_in w.coarrays w.images p.dummy k t (λ j q. fits_array t h p.dummy j q))

    all_in : (ps : List Passed) (s : Typing) → IsHere s → Goes w (passed_on vs ps s) (view.copying_in ps) (with_numbers (all_kinds vs ps) s)
    all_in [] s h = idle
    all_in (p ∷ ps) s h =
        let k = kind_in vs p.dummy in
        let ks = all_kinds vs ps in
        subst (λ z. Goes w z (view.copying_in (p ∷ ps)) (with_numbers (all_kinds vs (p ∷ ps)) s)) (on_first vs p ps s)
        (subst (λ z. Goes w (passed_on vs ps (one_on k p s)) (view.copying_in (p ∷ ps)) (record s { numbers = z })) (kinds_grouped ks (value_kinds k p.rank) (unknown p.place) s.numbers)
        (all_in ps (one_on k p s) h ⨾ in_one p (view.passed_sizes ps) ks (kinds_long vs ps) (with_numbers (unknown p.place) s) h))

    -- ---- it ends
    out_one : (r x : ℕ) (s : Typing) → IsHere s → Goes w s (view.copying_out_one r x) (valued_on (kind_in vs x) r s)
    out_one zero x s h = elim (known_or_not vs x) [
      | inl e ↦ one_act w s (variable (a.cell here x)) (with_number (kind_in vs x) s) (acts_cell w.coarrays w.images here x (kind_in vs x) s (subst (λ y. slice_get y.scalars x ≡ Some (kind_in vs x)) (sym h) e))
      | inr e ↦ subst (λ k. Goes w s (view.copying_out_one 0 x) (with_number k s)) (sym e) (one_act w s (variable (a.cell here x)) (with_number None s) (acts_cell_unknown w.coarrays w.images here x s))
    ]
    out_one (suc r) x s h = subst (λ z. Goes w s (view.copying_out_one (suc r) x) z) (result_as (kind_in vs x) (suc r) s) (elim (known_or_not vs x) [
      | inl e ↦ one_act w s (call (a.copy_out x)) (with_array (kind_in vs x) s) (acts_copy_out w.coarrays w.images x (kind_in vs x) s (subst (λ y. slice_get y.arrays x ≡ Some (kind_in vs x)) (sym h) e))
      | inr e ↦ subst (λ k. Goes w s (view.copying_out_one (suc r) x) (with_array k s)) (sym e) (one_act w s (call (a.copy_out x)) (with_array None s) (acts_copy_out_unknown w.coarrays w.images x s))
    ])

    out_if : (b : Bool) (r x : ℕ) (s : Typing) → IsHere s
        → Goes w s (cond b (view.copying_out_one r x) nothing) (record s { numbers = cond b (value_kinds (kind_in vs x) r) [] ++ s.numbers; arrays = cond b (value_arrays (kind_in vs x) r) [] ++ s.arrays })
    out_if true r x s h = out_one r x s h
    out_if false r x s h = idle

    abbrev out_on : List Passed → Typing → Typing
    out_on ps s = record s { numbers = out_kinds vs ps ++ s.numbers; arrays = out_arrays vs ps ++ s.arrays }

    all_out : (ps : List Passed) (s : Typing) → IsHere s → Goes w s (view.copying_out ps) (out_on ps s)
    all_out [] s h = idle
    all_out (p ∷ ps) s h =
        let y = out_on ps s in
        subst (λ z. Goes w s (view.copying_out (p ∷ ps)) (record s { numbers = z; arrays = out_arrays vs (p ∷ ps) ++ s.arrays })) (sym (append_assoc (back_kinds vs p) (out_kinds vs ps) s.numbers))
        (subst (λ z. Goes w s (view.copying_out (p ∷ ps)) (record s { numbers = back_kinds vs p ++ (out_kinds vs ps ++ s.numbers); arrays = z })) (sym (append_assoc (back_arrays vs p) (out_arrays vs ps) s.arrays))
        (all_out ps s h ⨾ out_if p.goes_back p.rank p.dummy y h))

    -- the place of an argument that goes back, and the variable that it is a part of, of the dummy's kind
    pub record Back (y : Layout) (p : Passed) : Type 0 where
      pub placed : ((p.place ≡ 0) × (p.rank ≡ 0)) ⊎ (p.place ≡ place_size p.rank)
      pub scalar : slice_get y.scalars p.actual ≡ Some (kind_in vs p.dummy)
      pub array : slice_get y.arrays p.actual ≡ Some (kind_in vs p.dummy)

    abbrev pub AllBack : Typing → List Passed → Type 0
    AllBack s [] = Unit {0}
    AllBack s (p ∷ ps) = (p.goes_back ≡ true → Back (layout_of p.scope s) p) × AllBack s ps

    no_place : (y : Layout) (p : Passed) → Back y p → p.place ≡ 0 → p.rank ≡ 0
    no_place y p b e = elim b.placed [ inl h ↦ h.1 | inr h ↦ absurd (omega arith) ]

    a_place : (y : Layout) (p : Passed) → Back y p → (p.place ≡ 0 → ⊥) → p.place ≡ place_size p.rank
    a_place y p b n = elim b.placed [ inl h ↦ absurd (n h.0) | inr h ↦ h ]

    same_kind : (k : Option Kind) (o : Option (Option Kind)) → o ≡ Some k → (j : Option Kind) → o ≡ Some j → Widens k j
    same_kind k o e j f = (let g : k ≡ j = cc in subst (Widens k) g (always k))

    -- one of them goes back
    back_one : (p : Passed) (depth : ℕ) (us : List (Option Kind)) (s : Typing) → Back (layout_of p.scope s) p → length (value_kinds (kind_in vs p.dummy) p.rank) + length us ≡ depth
        → Goes w (record s { numbers = value_kinds (kind_in vs p.dummy) p.rank ++ (us ++ (unknown p.place ++ s.numbers)); arrays = value_arrays (kind_in vs p.dummy) p.rank ++ s.arrays }) (view.going_back p depth)
        (record s { numbers = us ++ (unknown p.place ++ s.numbers) })
    back_one p depth us s b e =
        by_test (p.place == 0) (λ z. stored (eqb-true p.place 0 z) (no_place (layout_of p.scope s) p b (eqb-true p.place 0 z))) (λ z. copied (a_place (layout_of p.scope s) p b (eqb-false p.place 0 z)))
      where
        k : Option Kind
        k = kind_in vs p.dummy

        t : Typing
        t = record s { numbers = us ++ (unknown p.place ++ s.numbers) }

        from : ℕ → Typing
        from r = record s { numbers = value_kinds k r ++ (us ++ (unknown p.place ++ s.numbers)); arrays = value_arrays k r ++ s.arrays }

        stored : p.place ≡ 0 → p.rank ≡ 0 → Goes w (from p.rank) (doing (variable (a.store p.scope p.actual) ∷ [])) t
        stored m z = subst (λ r. Goes w (from r) (doing (variable (a.store p.scope p.actual) ∷ [])) t) (sym z)
            (goes_store w p.scope p.actual k t (λ j q. same_kind k (slice_get (layout_of p.scope s).scalars p.actual) b.scalar j q))

        put : p.place ≡ place_size p.rank
            → Goes w (with_numbers (unknown p.place) (from p.rank)) (cond (p.rank == 0) (doing (variable (a.put p.scope p.actual 0) ∷ [])) (doing (variable (a.put_array p.scope p.actual p.rank) ∷ []))) t
        put m =
            by_test (p.rank == 0)
            (λ z. (let r = eqb-true p.rank 0 z in
            subst (λ x. Goes w (with_numbers (unknown p.place) (from x)) (doing (variable (a.put p.scope p.actual 0) ∷ [])) t) (sym r)
            (one_act w (with_numbers (unknown p.place) (with_number k t)) (variable (a.put p.scope p.actual 0)) t
            (acts_put w.coarrays w.images p.scope p.actual k t (λ j q. same_kind k (slice_get (layout_of p.scope s).arrays p.actual) b.array j q) (unknown p.place) 0 (unknown_long p.place ∙ (m ∙ ap place_size r))))))
            (λ z. subst (λ x. Goes w (with_numbers (unknown p.place) x) (doing (variable (a.put_array p.scope p.actual p.rank) ∷ [])) t) (as_array p.rank z)
            (one_act w (with_numbers (unknown p.place) (with_array k t)) (variable (a.put_array p.scope p.actual p.rank)) t
            (acts_put_array w.coarrays w.images p.scope p.actual k t (λ j q. same_kind k (slice_get (layout_of p.scope s).arrays p.actual) b.array j q) (unknown p.place) p.rank (unknown_long p.place ∙ m))))
          where
            as_array : (r : ℕ) → (r == 0) ≡ false → with_array k t ≡ from r
            as_array zero z = absurd (cc)
            as_array (suc r) z = result_as k (suc r) t

        copied : p.place ≡ place_size p.rank
            → Goes w (from p.rank) (copying depth p.place ▸ cond (p.rank == 0) (doing (variable (a.put p.scope p.actual 0) ∷ [])) (doing (variable (a.put_array p.scope p.actual p.rank) ∷ []))) t
        copied m =
            let v = value_kinds k p.rank in
            let y = record s { arrays = value_arrays k p.rank ++ s.arrays } in
            let long : length (v ++ us) ≡ depth = length-append v us ∙ e in
            subst (λ z. Goes w (record y { numbers = z }) (copying depth p.place) (with_numbers (unknown p.place) (record y { numbers = z }))) (append_assoc v us (unknown p.place ++ s.numbers))
            (goes_copying w y (v ++ us) (unknown p.place) depth p.place long (unknown_long p.place)) ⨾ put m

    -- all of them, with the result's numbers beneath them
    regrouped : (out rs all v un ns : List (Option Kind)) → (out ++ (rs ++ (all ++ v))) ++ (un ++ ns) ≡ out ++ (rs ++ (all ++ (v ++ (un ++ ns))))
    regrouped out rs all v un ns =
        append_assoc out (rs ++ (all ++ v)) (un ++ ns) ∙ ap (λ z. out ++ z) (append_assoc rs (all ++ v) (un ++ ns) ∙ ap (λ z. rs ++ z) (append_assoc all v (un ++ ns)))

    back_first : (p : Passed) (ps : List Passed) (m : ℕ) (rs : List (Option Kind)) → length rs ≡ m → (s : Typing) → (p.goes_back ≡ true → Back (layout_of p.scope s) p) → (b : Bool) → p.goes_back ≡ b
        → Goes w (record s {
          numbers = (cond b (value_kinds (kind_in vs p.dummy) p.rank) [] ++ out_kinds vs ps) ++ (rs ++ (all_kinds vs (p ∷ ps) ++ s.numbers));
          arrays = (cond b (value_arrays (kind_in vs p.dummy) p.rank) [] ++ out_arrays vs ps) ++ s.arrays;
        }) (cond b (view.going_back p ((cond b (view.value_size p.rank) 0 + view.out_sizes ps) + (m + (view.passed_sizes ps + view.value_size p.rank)))) nothing)
        (record s { numbers = out_kinds vs ps ++ (rs ++ (all_kinds vs (p ∷ ps) ++ s.numbers)); arrays = out_arrays vs ps ++ s.arrays })
    back_first p ps m rs e s b false f = idle
    back_first p ps m rs e s b true f =
        let k = kind_in vs p.dummy in
        let v = value_kinds k p.rank in
        let va = value_arrays k p.rank in
        let un = unknown p.place in
        let all = all_kinds vs ps in
        let out = out_kinds vs ps in
        let outs = out_arrays vs ps in
        let us = out ++ (rs ++ (all ++ v)) in
        let x = record s { arrays = outs ++ s.arrays } in
        let depth = (view.value_size p.rank + view.out_sizes ps) + (m + (view.passed_sizes ps + view.value_size p.rank)) in
        let long : length v + length us ≡ depth =
        (let a1 = values_long k p.rank in let a2 = out_long vs ps in let a3 = kinds_long vs ps in let a4 = length-append out (rs ++ (all ++ v)) in let a5 = length-append rs (all ++ v) in let a6 = length-append all v in omega arith) in
        let same : us ++ (un ++ s.numbers) ≡ out ++ (rs ++ (all_kinds vs (p ∷ ps) ++ s.numbers)) = regrouped out rs all v un s.numbers ∙ ap (λ z. out ++ (rs ++ z)) (kinds_grouped all v un s.numbers) in
        let start : v ++ (us ++ (un ++ s.numbers)) ≡ (v ++ out) ++ (rs ++ (all_kinds vs (p ∷ ps) ++ s.numbers)) = ap (λ z. v ++ z) same ∙ sym (append_assoc v out (rs ++ (all_kinds vs (p ∷ ps) ++ s.numbers))) in
        subst (λ z. Goes w (record s { numbers = (v ++ out) ++ (rs ++ (all_kinds vs (p ∷ ps) ++ s.numbers)); arrays = z }) (view.going_back p depth) (record x { numbers = out ++ (rs ++ (all_kinds vs (p ∷ ps) ++ s.numbers)) })) (sym (append_assoc va outs s.arrays))
        (subst (λ z. Goes w (record s { numbers = z; arrays = va ++ (outs ++ s.arrays) }) (view.going_back p depth) (record x { numbers = out ++ (rs ++ (all_kinds vs (p ∷ ps) ++ s.numbers)) })) start
        (subst (λ z. Goes w (record s { numbers = v ++ (us ++ (un ++ s.numbers)); arrays = va ++ (outs ++ s.arrays) }) (view.going_back p depth) (record x { numbers = z })) same
        (back_one p depth us x (b f) long)))

    back_all : (ps : List Passed) (m : ℕ) (rs : List (Option Kind)) → length rs ≡ m → (s : Typing) → AllBack s ps
        → Goes w (record s { numbers = out_kinds vs ps ++ (rs ++ (all_kinds vs ps ++ s.numbers)); arrays = out_arrays vs ps ++ s.arrays }) (view.putting_back ps m) (record s { numbers = rs ++ (all_kinds vs ps ++ s.numbers) })
    back_all [] m rs e s b = idle
    back_all (p ∷ ps) m rs e s b =
        let k = kind_in vs p.dummy in
        let v = value_kinds k p.rank in
        let un = unknown p.place in
        let all = all_kinds vs ps in
        let x = record s { numbers = v ++ (un ++ s.numbers) } in
        back_first p ps m rs e s b.0 p.goes_back refl
        ⨾ subst (λ z. Goes w (record s { numbers = out_kinds vs ps ++ (rs ++ z); arrays = out_arrays vs ps ++ s.arrays }) (view.putting_back ps m) (record s { numbers = rs ++ z })) (kinds_grouped all v un s.numbers) (back_all ps m rs e x b.1)

    -- ---- the whole
    -- what a procedure gives: a function its result
    abbrev given_kinds : Option ℕ → List (Option Kind)
    given_kinds None = []
    given_kinds (Some x) = value_kinds (kind_in vs x) (rank_in vs x)

    abbrev pub given_on : Option ℕ → Typing → Typing
    given_on None s = s
    given_on (Some x) s = valued_on (kind_in vs x) (rank_in vs x) s

    resulted : (o : Option ℕ) (s : Typing) → IsHere s → Goes w s (view.resulting u o) (given_on o s)
    resulted None s h = idle
    resulted (Some x) s h = out_one (rank_in vs x) x s h

    taken : (o : Option ℕ) (s : Typing) → Goes w (given_on o s) (view.taking_cells (view.result_rank u o)) (given_on o s)
    taken None s = idle
    taken (Some x) s = subst (λ z. Goes w z (view.taking_cells (rank_in vs x)) z) (result_as (kind_in vs x) (rank_in vs x) s) (goes_taking_cells w (kind_in vs x) (rank_in vs x) s)

    given_long : (o : Option ℕ) → length (given_kinds o) ≡ view.result_numbers u o
    given_long None = refl
    given_long (Some x) = values_long (kind_in vs x) (rank_in vs x)

    gone : (o : Option ℕ) (ps : List Passed) (s : Typing) → AllBack s ps
        → Goes w (out_on ps (given_on o (with_numbers (all_kinds vs ps) s)))
        (view.putting_back ps (view.result_numbers u o) ▸ bringing (view.result_numbers u o) (view.passed_sizes ps) ▸ dropping (view.passed_sizes ps) ▸ view.taking_cells (view.result_rank u o)) (given_on o s)
    gone None ps s b =
        back_all ps 0 [] refl s b ⨾ goes_bringing w s [] (all_kinds vs ps) 0 (view.passed_sizes ps) refl (kinds_long vs ps) ⨾ goes_dropping w s (all_kinds vs ps) (view.passed_sizes ps) (kinds_long vs ps) ⨾ taken None s
    gone (Some x) ps s b =
        let k = kind_in vs x in
        let r = rank_in vs x in
        let m = view.value_size r in
        let y = record s { arrays = value_arrays k r ++ s.arrays } in
        back_all ps m (value_kinds k r) (values_long k r) y b ⨾ goes_bringing w y (value_kinds k r) (all_kinds vs ps) m (view.passed_sizes ps) (values_long k r) (kinds_long vs ps)
        ⨾ goes_dropping w (valued_on k r s) (all_kinds vs ps) (view.passed_sizes ps) (kinds_long vs ps) ⨾ taken (Some x) s

  pub goes_calling : (k : ℕ) (q : Procedure) (ps : List Passed) (s : Typing) → w.layouts (suc k) ≡ unit_layout q.unit → last_layout s.running s.callers ≡ w.layouts 0 → AllBack q.unit s ps
      → Goes w (passed_on q.unit.variables ps s) (view.calling k q ps) (given_on q.unit q.answer s)
  goes_calling k q ps s e f b =
      let u = q.unit in
      let y = unit_layout u in
      let inner = called_from y s in
      let z = with_numbers (all_kinds u.variables ps) inner in
      let back = out_on u ps (given_on u q.answer z) in
      (one_act w (passed_on u.variables ps s) (call (a.begin_frame (cells_in_frame u) (length u.variables) (total_cells u.variables))) (passed_on u.variables ps inner)
      (acts_begin_frame w.coarrays w.images (cells_in_frame u) (length u.variables) (total_cells u.variables) y (passed_on u.variables ps s))
      ⨾ laid u.variables 0 (passed_on u.variables ps inner) ⨾ all_in u ps inner refl)
      ⨾ goes_enter (suc k) z (sym e, f) (resulted u q.answer z refl ⨾ all_out u ps (given_on u q.answer z) (here_still u q.answer z refl) ⨾ ended u q.answer ps s ⨾ gone u q.answer ps s b)
    where
      here_still : (u : Unit') (o : Option ℕ) (z : Typing) → z.running ≡ unit_layout u → (given_on u o z).running ≡ unit_layout u
      here_still u None z h = h
      here_still u (Some x) z h = h

      ended : (u : Unit') (o : Option ℕ) (ps : List Passed) (s : Typing)
          → Goes w (out_on u ps (given_on u o (with_numbers (all_kinds u.variables ps) (called_from (unit_layout u) s)))) (doing (call a.end_frame ∷ [])) (out_on u ps (given_on u o (with_numbers (all_kinds u.variables ps) s)))
      ended u None ps s = (let x = out_on u ps (given_on u None (with_numbers (all_kinds u.variables ps) s)) in one_act w (called_from (unit_layout u) x) (call a.end_frame) x (acts_end_frame w.coarrays w.images (unit_layout u) x))
      ended u (Some o) ps s = (let x = out_on u ps (given_on u (Some o) (with_numbers (all_kinds u.variables ps) s)) in one_act w (called_from (unit_layout u) x) (call a.end_frame) x (acts_end_frame w.coarrays w.images (unit_layout u) x))
