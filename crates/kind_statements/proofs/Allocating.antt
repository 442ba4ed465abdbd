-- ALLOCATE and DEALLOCATE leave nothing behind.
use Rattle.std.proofs.Common.{◌≡◌, ◌∙◌, ℕ, suc, ◌+◌, ◌*◌, ◌≤◌, List, [], ◌∷◌, ◌++◌, length, refl, arith}
use Rattle.std.specs.Prelude.{pos, Option, None, Some}
use Rattle.std.proofs.lemmas.List.{length-append}
use Rattle.caf_base.specs.declared.value.Kind.{Kind}
use Rattle.caf_base.specs.declared.value.Kind.TheVariants as kinds
use Rattle.checked_tree.specs.declared.data.Object.{Object}
use Rattle.checked_tree.specs.declared.data.Object.TheVariants as objects
use Rattle.checked_tree.specs.Expressions as t
use Rattle.checked_tree.specs.Statements as s
use Rattle.image_acts.specs.Statuses.{bad_argument}
use Rattle.image_acts.specs.Acts as a
use Rattle.image_acts.specs.Acts.{constant, operator, bounded, allocation, ask}
use Rattle.image_acts.specs.Operate.Allocating.{bounds_size, cobounds_size}
use Rattle.tree_meaning.specs.Environment.{Environment, scope_of, procedure_in}
use Rattle.tree_meaning.specs.Sequences.{doing, pushing}
use Rattle.tree_meaning.specs.Expressions as view
use Rattle.tree_meaning.specs.ImageControl.{or_number}
use Rattle.tree_meaning.specs.Allocation as view_of
use Rattle.made_code.specs.Ranks as ranks
use Rattle.kind_walks.specs.Kinds.{Layout, Typing, with_number}
use Rattle.kind_walks.proofs.Effects.{with_numbers}
use Rattle.kind_walks.proofs.StackActs as acts
use Rattle.kind_expressions.specs.Kinded as kinded
use Rattle.kind_expressions.specs.Kinded.{unit_layout}
use Rattle.kind_expressions.proofs.PlaceActs as places
use Rattle.kind_expressions.proofs.Goes.{Setting, Goes, idle, ◌⨾◌, by_test, act_then, one_act, fork, Leaves, leaves_none, leaves_one, leaves_two, leaves_as}
use Rattle.kind_expressions.proofs.Expressions.{IsThere, goes_scalar, goes_place}
use Rattle.kind_statements.specs.Kinded as statements
use Rattle.kind_statements.proofs.ControlActs as control
use Rattle.kind_statements.proofs.AllocationActs as allocations
use Rattle.kind_statements.proofs.Settled.{goes_settled, goes_settled_on, goes_round, goes_pushing}
use Rattle.kind_statements.proofs.Plain.{kind_at}

module _ (w : Setting) where
  abbrev small : Typing → Typing
  small z = with_number (Some kinds.I4) z

  abbrev told : Typing → Typing
  told z = with_number (Some kinds.L4) z

  abbrev any : Typing → Typing
  any z = with_number None z

  -- ---- the coarrays of a round
  allocates : (ns : List ℕ) (ks : List (Option Kind)) (m : ℕ) → length ks + length ns ≡ m → (z : Typing) → Goes w (with_numbers ks (any z)) (doing (view_of.numbers ns ++ (ask (a.arrive_allocate m) ∷ []))) z
  allocates [] ks m e z = one_act w (with_numbers ks (any z)) (ask (a.arrive_allocate m)) z (control.acts_arrive_allocate w.coarrays w.images None ks m (let x = e in omega arith) z)
  allocates (c ∷ ns) ks m e z =
      act_then w (with_numbers ks (any z)) (constant (pos c)) (any (with_numbers ks (any z))) (acts.acts_constant w.coarrays w.images (pos c) None tt (with_numbers ks (any z))) (allocates ns (None ∷ ks) m (let x = e in omega arith) z)

  deallocates : (ns : List ℕ) (ks : List (Option Kind)) (m : ℕ) → length ks + length ns ≡ m → (z : Typing) → Goes w (with_numbers ks (any z)) (doing (view_of.numbers ns ++ (ask (a.arrive_deallocate m) ∷ []))) z
  deallocates [] ks m e z = one_act w (with_numbers ks (any z)) (ask (a.arrive_deallocate m)) z (control.acts_arrive_deallocate w.coarrays w.images None ks m (let x = e in omega arith) z)
  deallocates (c ∷ ns) ks m e z =
      act_then w (with_numbers ks (any z)) (constant (pos c)) (any (with_numbers ks (any z))) (acts.acts_constant w.coarrays w.images (pos c) None tt (with_numbers ks (any z))) (deallocates ns (None ∷ ks) m (let x = e in omega arith) z)

  goes_named_once : (xs : List Object) (z : Typing) → Goes w (told z) (view_of.named_once xs) (told z)
  goes_named_once xs z =
      by_test (view_of.has_twice xs)
      (λ f. act_then w (told z) (constant (pos 0)) (any (told z)) (acts.acts_constant w.coarrays w.images (pos 0) None tt (told z)) (one_act w (any (told z)) (operator a.both) (told z) (acts.acts_both w.coarrays w.images (Some kinds.L4) None z))) (λ f. idle)

  -- ---- plans, and what is made
  goes_planning_one : (x : s.Allocation) (depth : ℕ) (z : Typing) → Goes w (any (any (any z))) (view_of.planning_one x depth) (any (any (any z)))
  goes_planning_one (s.allocate_local v type bs) depth z =
      one_act w (any (any (any z))) (allocation (a.plan_local (scope_of v.home) v.variable depth (length bs))) (any (any (any z))) (allocations.acts_plan_local w.coarrays w.images (scope_of v.home) v.variable depth (length bs) None None None z)
  goes_planning_one (s.allocate_coarray c bs cs l) depth z =
      one_act w (any (any (any z))) (allocation (a.plan_coarray c depth (length bs) (length cs + 1))) (any (any (any z))) (allocations.acts_plan_coarray w.coarrays w.images c depth (length bs) (length cs + 1) None None None z)

  goes_planning : (xs : List s.Allocation) (above : ℕ) (z : Typing) → Goes w (any (any (any z))) (view_of.planning xs above) (any (any (any z)))
  goes_planning [] above z = idle
  goes_planning (x ∷ xs) above z = goes_planning_one x (view_of.object_sizes xs + above) z ⨾ goes_planning xs above z

  goes_making_one : (x : s.Allocation) (depth : ℕ) (z : Typing) → Goes w z (view_of.making_one x depth) z
  goes_making_one (s.allocate_local v type bs) depth z =
      one_act w z (allocation (a.make (scope_of v.home) v.variable depth (length bs))) z (allocations.acts_make w.coarrays w.images (scope_of v.home) v.variable depth (length bs) z)
  goes_making_one (s.allocate_coarray c bs cs l) depth z =
      act_then w z (ask (a.create c (depth + cobounds_size (length cs + 1)) (length bs))) z (allocations.acts_create w.coarrays w.images c (depth + cobounds_size (length cs + 1)) (length bs) z)
      (one_act w z (allocation (a.note_made c depth (length bs) (length cs + 1))) z (allocations.acts_note_made w.coarrays w.images c depth (length bs) (length cs + 1) z))

  goes_making : (xs : List s.Allocation) (above : ℕ) (z : Typing) → Goes w z (view_of.making xs above) z
  goes_making [] above z = idle
  goes_making (x ∷ xs) above z = goes_making_one x (view_of.object_sizes xs + above) z ⨾ goes_making xs above z

  -- ---- what is there, and is freed
  goes_is_allocated : (x : Object) (z : Typing) → Goes w (told z) (view_of.is_allocated x) (told z)
  goes_is_allocated (objects.Local v) z =
      act_then w (told z) (bounded (a.is_there (scope_of v.home) v.variable)) (told (told z)) (places.acts_is_there w.coarrays w.images (scope_of v.home) v.variable (told z))
      (one_act w (told (told z)) (operator a.both) (told z) (acts.acts_both w.coarrays w.images (Some kinds.L4) (Some kinds.L4) z))
  goes_is_allocated (objects.Coarray c) z =
      act_then w (told z) (bounded (a.co_is_there c)) (told (told z)) (places.acts_co_is_there w.coarrays w.images c (told z)) (one_act w (told (told z)) (operator a.both) (told z) (acts.acts_both w.coarrays w.images (Some kinds.L4) (Some kinds.L4) z))
  goes_is_allocated (objects.Constant c) z = idle

  goes_are_allocated : (xs : List Object) (z : Typing) → Goes w (told z) (view_of.are_allocated xs) (told z)
  goes_are_allocated [] z = idle
  goes_are_allocated (x ∷ xs) z = goes_is_allocated x z ⨾ goes_are_allocated xs z

  goes_freeing_one : (x : Object) (z : Typing) → Goes w z (view_of.freeing_one x) z
  goes_freeing_one (objects.Local v) z = one_act w z (allocation (a.free (scope_of v.home) v.variable)) z (allocations.acts_free w.coarrays w.images (scope_of v.home) v.variable z)
  goes_freeing_one (objects.Coarray c) z = act_then w z (ask (a.delete c)) z (control.acts_delete w.coarrays w.images c z) (one_act w z (allocation (a.note_freed c)) z (allocations.acts_note_freed w.coarrays w.images c z))
  goes_freeing_one (objects.Constant c) z = idle

  goes_freeing : (xs : List Object) (z : Typing) → Goes w z (view_of.freeing xs) z
  goes_freeing [] z = idle
  goes_freeing (x ∷ xs) z = goes_freeing_one x z ⨾ goes_freeing xs z

  module _ (few : 2 * w.images ≤ 2147483647) (e : Environment) (own main : Layout) (main_is : main ≡ w.layouts 0) (units : (n : ℕ) → w.layouts (suc n) ≡ unit_layout (procedure_in e n).unit) where
    abbrev Here : Typing → Type 0
    Here z = IsThere w few e own main main_is units z

    scalar : (x : t.Expression) (z : Typing) → Here z → ranks.IsOfRank e.program.procedures x 0 → kinded.IsKinded e.program w.coarrays own main x → Goes w z (view.expression e x) (with_number (kind_at x) z)
    scalar (t.typed f y r) z i h k = goes_scalar w few e own main main_is units (t.typed f y r) z i h k

    or_one : (x : t.OptionalExpression) (z : Typing) → Here z → ranks.IsOptionalScalar e.program.procedures x → kinded.IsOptional e.program w.coarrays own main x → Leaves w z 1 (or_number e x (pushing (pos 1)))
    or_one t.missing z i h k = leaves_one w z None (goes_pushing w (pos 1) z)
    or_one (t.given x) z i h k = leaves_one w z (kind_at x) (scalar x z i h k)

    goes_bounds : (bs : List s.AllocatedBounds) (z : Typing) → Here z → ranks.AreBounds e.program.procedures bs → statements.AreBounds e.program w.coarrays own main bs → Leaves w z (bounds_size (length bs)) (view_of.bounds e bs)
    goes_bounds [] z i h k = leaves_none w z
    goes_bounds (b ∷ bs) z i h k =
        leaves_as w z (1 + (1 + bounds_size (length bs))) (bounds_size (length (b ∷ bs))) (omega arith)
        (leaves_two w z 1 (1 + bounds_size (length bs)) (or_one b.lower z i h.0 k.0)
        (λ us l. leaves_two w (with_numbers us z) 1 (bounds_size (length bs)) (leaves_one w (with_numbers us z) (kind_at b.upper) (scalar b.upper (with_numbers us z) i h.1 k.1)) (λ vs m. goes_bounds bs (with_numbers vs (with_numbers us z)) i h.2 k.2)))

    goes_object_bounds : (x : s.Allocation) (z : Typing) → Here z → ranks.IsAllocation e.program.procedures x → statements.IsAllocation e.program w.coarrays own main x → Leaves w z (view_of.object_size x) (view_of.object_bounds e x)
    goes_object_bounds (s.allocate_local v type bs) z i h k = goes_bounds bs z i h k
    goes_object_bounds (s.allocate_coarray c bs cs l) z i h k =
        leaves_as w z (bounds_size (length bs) + (bounds_size (length cs) + 1)) (view_of.object_size (s.allocate_coarray c bs cs l)) (omega arith)
        (leaves_two w z (bounds_size (length bs)) (bounds_size (length cs) + 1) (goes_bounds bs z i h.0 k.0)
        (λ us m. leaves_two w (with_numbers us z) (bounds_size (length cs)) 1 (goes_bounds cs (with_numbers us z) i h.1 k.1) (λ vs n. or_one l (with_numbers vs (with_numbers us z)) i h.2 k.2)))

    goes_objects_bounds : (xs : List s.Allocation) (z : Typing) → Here z → ranks.AreAllocations e.program.procedures xs → statements.AreAllocations e.program w.coarrays own main xs → Leaves w z (view_of.object_sizes xs) (view_of.objects_bounds e xs)
    goes_objects_bounds [] z i h k = leaves_none w z
    goes_objects_bounds (x ∷ xs) z i h k = leaves_two w z (view_of.object_size x) (view_of.object_sizes xs) (goes_object_bounds x z i h.0 k.0) (λ us l. goes_objects_bounds xs (with_numbers us z) i h.1 k.1)

    goes_allocate_round : (ns : List ℕ) (z : Typing) → Goes w z (view_of.allocate_round ns) (small z)
    goes_allocate_round [] z = one_act w z (constant (pos 0)) (small z) (acts.acts_constant w.coarrays w.images (pos 0) (Some kinds.I4) refl z)
    goes_allocate_round (n ∷ ns) z = goes_round w few e own main main_is units (allocates (n ∷ ns) [] (length (n ∷ ns)) (omega arith) z)

    goes_deallocate_round : (ns : List ℕ) (z : Typing) → Goes w z (view_of.deallocate_round ns) (small z)
    goes_deallocate_round [] z = one_act w z (constant (pos 0)) (small z) (acts.acts_constant w.coarrays w.images (pos 0) (Some kinds.I4) refl z)
    goes_deallocate_round (n ∷ ns) z = goes_round w few e own main main_is units (deallocates (n ∷ ns) [] (length (n ∷ ns)) (omega arith) z)

    pub goes_allocate : (xs : List s.Allocation) (r : t.OptionalResult) (z : Typing) → Here z → ranks.AreAllocations e.program.procedures xs → ranks.IsOptionalResult e.program.procedures r → statements.AreAllocations e.program w.coarrays own main xs
        → kinded.IsOptionalResult e.program w.coarrays own main r (Some kinds.I4) → Goes w z (view_of.allocate e xs r) z
    goes_allocate xs r z i h g k d =
        let b = goes_objects_bounds xs z i h k in
        let y = with_numbers b.kinds z in
        let p = goes_place w few e own main main_is units r (Some kinds.I4) y i g d in
        let x = with_numbers p.kinds y in
        b.goes ⨾ p.goes ⨾ one_act w x (allocation a.begin_plan) (any (any (any x))) (allocations.acts_begin_plan w.coarrays w.images x) ⨾ goes_planning xs (view.optional_size r) x
        ⨾ one_act w (any (any (any x))) (allocation a.end_plan) (told x) (allocations.acts_end_plan w.coarrays w.images None None None x) ⨾ goes_named_once (view_of.objects_of xs) x
        ⨾ fork w (Some kinds.L4) x (small x) (goes_making xs (view.optional_size r) x ⨾ goes_allocate_round (view_of.coarrays_in (view_of.objects_of xs)) x)
        (one_act w x (constant bad_argument) (small x) (acts.acts_constant w.coarrays w.images bad_argument (Some kinds.I4) refl x)) idle
        ⨾ goes_settled_on w few e own main main_is units r d p.kinds b.kinds (view_of.object_sizes xs + view.optional_size r) p.long (length-append p.kinds b.kinds ∙ (let u = p.long in let v = b.long in omega arith)) [] z i

    pub goes_deallocate : (xs : List Object) (r : t.OptionalResult) (z : Typing) → Here z → ranks.IsOptionalResult e.program.procedures r → kinded.IsOptionalResult e.program w.coarrays own main r (Some kinds.I4) → Goes w z (view_of.deallocate e xs r) z
    goes_deallocate xs r z i g d =
        let p = goes_place w few e own main main_is units r (Some kinds.I4) z i g d in
        let x = with_numbers p.kinds z in
        p.goes ⨾ one_act w x (constant (pos 1)) (told x) (acts.acts_constant w.coarrays w.images (pos 1) (Some kinds.L4) refl x) ⨾ goes_are_allocated xs x ⨾ goes_named_once xs x
        ⨾ fork w (Some kinds.L4) x (small x) (goes_deallocate_round (view_of.coarrays_in xs) x ⨾ goes_freeing xs (small x))
        (one_act w x (constant bad_argument) (small x) (acts.acts_constant w.coarrays w.images bad_argument (Some kinds.I4) refl x)) idle
        ⨾ goes_settled w few e own main main_is units r d p.kinds p.long [] z i
