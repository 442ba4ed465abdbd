-- An assignment leaves nothing behind, and its variable a value of its kind; what it writes is of the coarray's kind.
use Rattle.std.proofs.Common.{◌≡◌, ◌∙◌, ℕ, zero, suc, ◌+◌, ◌*◌, ◌≤◌, Bool, true, false, List, [], ◌∷◌, ◌++◌, length, slice_get, refl, sym, subst, append_assoc, arith}
use Rattle.std.specs.Prelude.{◌==◌, Option, None, Some}
use Rattle.std.proofs.lemmas.Bool.{eqb-true, eqb-false}
use Rattle.std.proofs.lemmas.List.{length-append}
use Rattle.caf_base.specs.declared.value.Kind.{Kind}
use Rattle.caf_base.specs.declared.value.Kind.TheVariants as kinds
use Rattle.checked_tree.specs.declared.data.DataType.{DataType}
use Rattle.checked_tree.specs.declared.data.DataType.TheVariants as types
use Rattle.checked_tree.specs.declared.data.Local.{Local}
use Rattle.checked_tree.specs.declared.data.Object.TheVariants as objects
use Rattle.checked_tree.specs.Expressions as t
use Rattle.walk_theory.specs.Syntax.{Parts}
use Rattle.image_acts.specs.Places.{place_size}
use Rattle.image_acts.specs.Acts as a
use Rattle.image_acts.specs.Acts.{Act, stack, variable, bounded}
use Rattle.tree_meaning.specs.Environment as meaning
use Rattle.tree_meaning.specs.Environment.{Environment, scope_of, procedure_in}
use Rattle.tree_meaning.specs.Sequences.{◌▸◌, doing, dropping, copying, bringing}
use Rattle.tree_meaning.specs.Expressions as view
use Rattle.tree_meaning.specs.Assignments.{assignment, assigned, fitting, agreeing, writing, lifting, left_over, narrows}
use Rattle.made_code.specs.Ranks as ranks
use Rattle.made_code.proofs.Forms.{size_small}
use Rattle.object_rules.specs.MemoryRules as memory
use Rattle.kind_walks.specs.Kinds.{Widens, Layout, Typing, with_number}
use Rattle.kind_walks.proofs.Effects.{with_numbers, unknown_long}
use Rattle.kind_walks.proofs.Frames.{layout_of}
use Rattle.kind_walks.proofs.StackActs as acts
use Rattle.kind_expressions.specs.Kinded as kinded
use Rattle.kind_expressions.specs.Kinded.{kind_of, unit_layout}
use Rattle.kind_expressions.specs.Laws.{result}
use Rattle.kind_expressions.proofs.Operators.{always, itself}
use Rattle.kind_expressions.proofs.Goes.{Setting, Goes, idle, ◌⨾◌, by_test, one_act, from_grouped, goes_dropping, goes_copying, goes_bringing}
use Rattle.kind_expressions.proofs.References.{place, on_place, goes_co_section, goes_store, goes_needing_own}
use Rattle.kind_expressions.proofs.Expressions.{IsThere, goes_form, goes_subscripts, goes_owner, goes_stat, scalar_there, array_there, fits}
use Rattle.kind_statements.specs.Kinded.{Converts, IsAssigned}
use Rattle.kind_statements.proofs.Assigning.{under, goes_fitting, fitting_number, goes_fitting_section, goes_agreeing, goes_putting, goes_writing}

-- a scalar goes into a scalar variable as a whole
scalar_value : (ss : t.Subscripts) (r q : ℕ) → ranks.ScalarToScalar ss r q → view.is_scalar ss r ≡ true → q ≡ 0
scalar_value t.no_subscripts zero q h e = h
scalar_value t.no_subscripts (suc r) q h e = absurd (let z : suc r ≡ 0 = eqb-true (suc r) 0 e in omega arith)
scalar_value (t.more_subscripts x ss) r q h e = absurd (cc)

module _ (w : Setting) where
  -- the scalar comes once more beneath the place and the owner, where numbers stand between
  lifted : (r m : ℕ) (j : Option Kind) (qs : List (Option Kind)) → length qs ≡ m → (m ≡ 0 → ⊥) → (s : Typing)
      → Goes w (with_number None (on_place r (with_numbers qs (with_number j s)))) (copying ((place_size r + 1) + m) 1 ▸ bringing 1 (place_size r + 1)) (with_number None (on_place r (with_number j (with_numbers qs (with_number j s)))))
  lifted r m j qs e n s =
      let x = with_numbers qs (with_number j s) in
      let upper = None ∷ place r in
      let long : length (upper ++ qs) ≡ (place_size r + 1) + m = (let a1 = length-append upper qs in let a2 = unknown_long (place_size r) in omega arith) in
      let short : length upper ≡ place_size r + 1 = (let a2 = unknown_long (place_size r) in omega arith) in
      subst (λ z. Goes w (record s { numbers = z }) (copying ((place_size r + 1) + m) 1) (record s { numbers = j ∷ z })) (append_assoc upper qs (j ∷ s.numbers)) (goes_copying w s (upper ++ qs) (j ∷ []) ((place_size r + 1) + m) 1 long refl)
      ⨾ goes_bringing w x (j ∷ []) upper 1 (place_size r + 1) refl short

  module _ (few : 2 * w.images ≤ 2147483647) (e : Environment) (own main : Layout) (main_is : main ≡ w.layouts 0) (units : (n : ℕ) → w.layouts (suc n) ≡ unit_layout (procedure_in e n).unit) where
    abbrev Here : Typing → Type 0
    Here s = IsThere w few e own main main_is units s

    -- ---- a local variable
    local_assigned : (v : Local) (ss : t.Subscripts) (sel : t.Selector) (z y : DataType) (r q : ℕ) (s : Typing) → Here s → ranks.AreSubscripts e.program.procedures ss → ranks.IsSection ss r → ranks.ScalarToScalar ss r q
        → kinded.HasKind e.program w.coarrays own main v (kind_of z) → kinded.AreSubscripts e.program w.coarrays own main ss → Converts y z
        → Goes w (result (kind_of y) q s) (assigned e (t.part (objects.Local v) ss sel) (meaning.kind_of z) r (meaning.kind_of y) q) s
    local_assigned v ss sel z y r q s i h l g k d c =
        by_test (view.is_scalar ss r)
        (λ f. subst (λ m. Goes w (result (kind_of y) m s) (whole_scalar) s) (sym (scalar_value ss r q g f))
        (fitting_number w y z c 0 [] refl s (narrows (meaning.kind_of y) (meaning.kind_of z)) refl
        ⨾ goes_store w (scope_of v.home) v.variable (kind_of z) s
        (λ j p. fits w few e own main main_is units (kind_of z) (kind_of z) (always (kind_of z)) (slice_get (layout_of (scope_of v.home) s).scalars v.variable) (scalar_there w few e own main main_is units v (kind_of z) s i k) j p)))
        (λ f. (
        let u = goes_subscripts w few e own main main_is units ss (result (kind_of y) q s) (there_still q i) h d in
        u.goes ⨾ goes_fitting_section w y z c q (scope_of v.home) v.variable ss r l u.kinds u.long s ⨾ goes_agreeing w q 0 r (under (place r) (kind_of z) q s)
        ⨾ goes_putting w q (scope_of v.home) v.variable r (kind_of z) s
        (λ j p. fits w few e own main main_is units (kind_of z) (kind_of z) (always (kind_of z)) (slice_get (layout_of (scope_of v.home) s).arrays v.variable) (array_there w few e own main main_is units v (kind_of z) s i k) j p)))
      where
        whole_scalar : Parts Act
        whole_scalar = fitting (meaning.kind_of y) (meaning.kind_of z) 0 0 ▸ doing (variable (a.store (scope_of v.home) v.variable) ∷ [])

        there_still : (m : ℕ) → Here s → Here (result (kind_of y) m s)
        there_still zero x = x
        there_still (suc m) x = x

    -- ---- a coarray
    -- the value beneath the place and the owner; what stands there behind the write, and how that is dropped
    record Lifted (r q m : ℕ) (j : Option Kind) (qs : List (Option Kind)) (s : Typing) : Type 0 where
      pub base : Typing
      pub there : Here base
      pub goes : Goes w (with_number None (on_place r (with_numbers qs (result j q s)))) (lifting q m (place_size r + 1)) (with_number None (on_place r (result j q (with_numbers qs base))))
      pub drops : Goes w (with_numbers qs base) (dropping (left_over q m)) s

    lifts_number : (r m : ℕ) (j : Option Kind) (qs : List (Option Kind)) → length qs ≡ m → m ≤ 1 → (s : Typing) → Here s → (b : Bool) → (m == 0) ≡ b → Lifted r 0 m j qs s
    lifts_number r m j [] e l s i true f = record {
      base = s;
      there = i;
      goes = by_test (m == 0) (λ g. idle) (λ g. absurd (let z : true ≡ false = sym f ∙ g in cc));
      drops = goes_dropping w s [] (m + m) (let z = eqb-true m 0 f in omega arith);
    }
    lifts_number r m j (q ∷ qs) e l s i true f = absurd (let z = eqb-true m 0 f in let y : suc (length qs) ≡ m = e in omega arith)
    lifts_number r m j qs e l s i false f = record {
      base = with_number j s;
      there = i;
      goes = by_test (m == 0) (λ g. absurd (let z : false ≡ true = sym f ∙ g in cc)) (λ g. lifted r m j qs e (eqb-false m 0 g) s);
      drops = from_two (goes_dropping w s (qs ++ (j ∷ [])) (m + m) (length-append qs (j ∷ []) ∙ (let n = eqb-false m 0 f in omega arith)));
    }
      where
        from_two : {p : Parts Act} {z : Typing} → Goes w (with_numbers (qs ++ (j ∷ [])) s) p z → Goes w (with_numbers qs (with_number j s)) p z
        from_two {p} {z} x = from_grouped w s (j ∷ []) qs x

    lifts : (r q m : ℕ) (j : Option Kind) (qs : List (Option Kind)) → length qs ≡ m → m ≤ 1 → (s : Typing) → Here s → Lifted r q m j qs s
    lifts r zero m j qs e l s i = lifts_number r m j qs e l s i (m == 0) refl
    lifts r (suc q) m j qs e l s i = record { base = s; there = i; goes = idle; drops = goes_dropping w s qs m e }

    there_still : (m : ℕ) (k : Option Kind) (s : Typing) → Here s → Here (result k m s)
    there_still zero k s x = x
    there_still (suc m) k s x = x

    coarray_assigned : (c : ℕ) (ss : t.Subscripts) (sel : t.Selector) (y z : DataType) (k : Kind) (r q : ℕ) (s : Typing) → Here s → ranks.IsPart e.program.procedures (t.part (objects.Coarray c) ss sel) r → kind_of z ≡ Some k
        → memory.holds (kinded.is_of k) (slice_get w.coarrays c) ≡ true → kinded.AreSubscripts e.program w.coarrays own main ss → kinded.IsSelector e.program w.coarrays own main sel → Converts y z
        → Goes w (result (kind_of y) q s)
        (view.subscripts e ss ▸ doing (bounded (a.co_section c (view.form_of ss r)) ∷ []) ▸ view.owner e c r sel ▸ lifting q (view.optional_size (view.stat_of sel)) (place_size r + 1)
        ▸ fitting (meaning.kind_of y) (meaning.kind_of z) q (place_size r + 1) ▸ view.needing_own c (view.is_scalar ss r) sel ▸ agreeing q 1 r ▸ writing q c r k
        ▸ doing (stack a.accessed ∷ []) ▸ view.storing_status 1 (view.stat_of sel) ▸ dropping (left_over q (view.optional_size (view.stat_of sel)))) s
    coarray_assigned c ss sel y z k r q s i h f held d g x =
        let j = kind_of y in
        let m = view.optional_size (view.stat_of sel) in
        let v = result j q s in
        let u = goes_subscripts w few e own main main_is units ss v (there_still q j s i) h.0 d in
        let o = goes_owner w few e own main main_is units c r sel v (there_still q j s i) h.2 g in
        let lift = lifts r q m j o.kinds o.long (size_small (view.stat_of sel)) s i in
        let below = with_numbers o.kinds lift.base in
        let upper = None ∷ place r in
        let short : length upper ≡ place_size r + 1 = (let a2 = unknown_long (place_size r) in omega arith) in
        let last = under upper (kind_of z) q below in
        let wide : Widens (kind_of z) (Some k) = subst (λ l. Widens l (Some k)) (sym f) (itself k) in
        u.goes ⨾ goes_co_section w c ss r h.1 u.kinds u.long v ⨾ o.goes ⨾ lift.goes ⨾ goes_fitting w y z x q (place_size r + 1) upper short below ⨾ goes_needing_own w c (view.is_scalar ss r) sel last ⨾ goes_agreeing w q 1 r last
        ⨾ goes_writing w q c r k (kind_of z) held wide below
        ⨾ one_act w (with_number (Some kinds.I4) below) (stack a.accessed) (with_number (Some kinds.I4) below) (acts.acts_accessed w.coarrays w.images (with_number (Some kinds.I4) below))
        ⨾ goes_stat w few e own main main_is units sel g o.kinds o.long lift.base below refl lift.there ⨾ lift.drops

    -- ---- the whole
    pub goes_assignment : (d : t.Designator) (z : DataType) (r : ℕ) (x : t.Expression) (s : Typing) → Here s → ranks.IsAssigned e.program.procedures d r x → IsAssigned e.program w.coarrays own main d z x → Goes w s (assignment e d z r x) s
    goes_assignment (t.part (objects.Local v) ss sel) z r (t.typed f y q) s i h k =
        goes_form w few e own main main_is units f y q s i h.0 k.3 ⨾ local_assigned v ss sel z y r q s i h.1 h.2 h.3 k.0 k.1 k.2
    goes_assignment (t.part (objects.Coarray c) ss sel) (types.Intrinsic k) r (t.typed f y q) s i h d =
        goes_form w few e own main main_is units f y q s i h.0 d.4 ⨾ coarray_assigned c ss sel y (types.Intrinsic k) k r q s i h.1 refl d.0 d.1 d.2 d.3
    goes_assignment (t.part (objects.Coarray c) ss sel) types.Team r (t.typed f y q) s i h d = absurd d.0
    goes_assignment (t.part (objects.Coarray c) ss sel) types.Event r (t.typed f y q) s i h d = absurd d.0
    goes_assignment (t.part (objects.Coarray c) ss sel) types.Lock r (t.typed f y q) s i h d = absurd d.0
    goes_assignment (t.part (objects.Constant c) ss sel) z r x s i h d = absurd h
