-- Action statements have the ranks that they want.
use Rattle.std.proofs.Common.{◌≡◌, ℕ, zero, suc, ◌+◌, Bool, List, [], ◌∷◌, ◌++◌, refl, sym, subst}
use Rattle.std.specs.Prelude.{codes, not, map, Option, Some, None}
use Rattle.caf_base.specs.declared.place.Pos.{Pos}
use Rattle.fortran_tree.specs.Expressions as f
use Rattle.fortran_tree.specs.Statements as fs
use Rattle.fortran_tree.specs.declared.name.Name.{Name}
use Rattle.checked_tree.specs.Expressions as t
use Rattle.checked_tree.specs.Statements as ts
use Rattle.checked_tree.specs.Statements.{Procedure}
use Rattle.checked_tree.specs.declared.data.DataType.{DataType}
use Rattle.checked_tree.specs.declared.data.DataType.TheVariants.{Intrinsic, Team, Event, Lock}
use Rattle.checked_tree.specs.declared.data.Object.{Object}
use Rattle.checked_tree.specs.declared.data.Object.TheVariants as objects
use Rattle.rule_definitions.specs.declared.taken.Taken.TheVariants.{Integers as integers, Logicals as logicals}
use Rattle.rule_definitions.specs.Judgements.{unless, Judgement, fine, refused, unknown, ruled, all_made, item_at}
use Rattle.rule_definitions.specs.Names
use Rattle.rule_definitions.specs.Names.{Scope, Symbol, Meaning, Interface, denotes}
use Rattle.rule_definitions.specs.Parts.{Placed, place_of, condition, bound_or_code, integer}
use Rattle.rule_definitions.specs.Specifiers.{Written, all_breaks, order_written}
use Rattle.rule_definitions.specs.Arguments.{Actual, breaks_in_all}
use Rattle.rule_definitions.specs.Expressions.{judged_arguments, judged_specifiers, placed}
use Rattle.rule_definitions.specs.Actions.{Around, Site, called_with, called, actuals_of, item_breaks, printed, printed_all, format_judged, literals_of_format, depth_of, crosses, absent_place, leaving, has_boundary, control_breaks, controlled, maybe, allocated_bounds, bounds_or_none, AllocatedCobounds, no_cobounds, allocated_cobounds, local_allocation, allocation_of, variable_denoted, allocatable_breaks, AllocatedShape, shape_judged, shape_rules, allocation_judged, deallocated, any_coarray, controlled_if, stat_name, with_stat, written_if, image_set_breaks, image_set, team_variable, form_team, lock_of, found_lock, a_lock, placed_designator, lock_judged, wait_judged, alone, judged_action}
use Rattle.accepted_ranks.specs.Kinded as ranks
use Rattle.made_code.specs.Ranks.{procedure_at}
use Rattle.accepted_ranks.specs.Scopes.{AreRanks, HasResult}
use Rattle.accepted_ranks.proofs.Means.{Means, fine_means, unknown_means, refused_means, around_means, ruled_means, formed_means, under_means, made_means, both_means, three_means, then_means, cond_means}
use Rattle.accepted_ranks.proofs.Parts.{Good, Scalar, plain_means, wanted_means, integer_means, team_means}
use Rattle.accepted_ranks.proofs.Specifiers.{AllWritten, stat_means, acquired_means, new_index_means, until_count_means}
use Rattle.accepted_ranks.proofs.Arguments.{AllActuals, arguments_means}
use Rattle.accepted_ranks.proofs.Expressions.{judged_means, specifiers_all, arguments_all}
use Rattle.accepted_ranks.proofs.Held.{Held, judged_held}
use Rattle.accepted_ranks.proofs.Bindings.{OfAll}
use Rattle.accepted_ranks.proofs.Subroutines.{four_means, Both, plain_both, event_means, own_event_means, intrinsic_call_means}
use Rattle.accepted_ranks.proofs.Assignments.{left_means, assignment_means}

abbrev pub Any : {T : Type 0} → T → Type 0
Any x = Unit {0}

pub any : {T : Type 0} {j : Judgement T} → Means j Any
any = record { means = λ e x f. tt }

no_result : (vs : _) (o : Option Symbol) (a : Option ℕ) → o ≡ None → HasResult vs o a → ranks.GivesNothing a
no_result vs o a e h = subst (λ k. HasResult vs k a) e h

module _ (ps : List Procedure) where
  pub stat_alone : (ws : List Written) → AllWritten ps ws → Means (with_stat ws) (ranks.IsOptionalResult ps)
  stat_alone ws h = ruled_means (all_breaks stat_name ws) (λ u. stat_means ps stat_name ws h u)

  pub controlled_means : (x : Site) (p : Pos) {j : Judgement ts.StatementForm} → Means j (ranks.IsStatement ps) → Means (controlled x p j) (ranks.IsStatement ps)
  controlled_means x p h = ruled_means (control_breaks x p) (λ u. h)

  if_means : (b : Bool) (x : Site) (p : Pos) {j : Judgement ts.StatementForm} → Means j (ranks.IsStatement ps) → Means (controlled_if b x p j) (ranks.IsStatement ps)
  if_means b x p h = cond_means b (λ e. controlled_means x p h) (λ e. h)

  leaving_any : (make : ℕ → ts.StatementForm) (o : Option ℕ) (b : Bool) (q p : Pos) → ((k : ℕ) → ranks.IsStatement ps (make k))
      → Means (elim o [ None ↦ refused {T = ts.StatementForm} 41 q | Some k ↦ ruled (fine (make k)) (unless b 42 p) ]) (ranks.IsStatement ps)
  leaving_any make None b q p h = refused_means 41 q
  leaving_any make (Some k) b q p h = ruled_means (unless b 42 p) (λ u. fine_means (make k) (h k))

  leaving_means : (make : ℕ → ts.StatementForm) (n : Option Name) (around : List Around) (p : Pos) → ((k : ℕ) → ranks.IsStatement ps (make k)) → Means (leaving make n around p) (ranks.IsStatement ps)
  leaving_means make n around p h = leaving_any make (depth_of n around) (not (crosses n around)) (absent_place n around p) p h

  -- ---- locks
  abbrev LockFound : Option t.Designator → Type 0
  LockFound None = Unit {0}
  LockFound (Some d) = ranks.IsCell ps d

  form_lock : (f : t.Form) (y : DataType) (r : ℕ) → ranks.HasRank ps f y r → Held (t.typed f y r) → LockFound (lock_of (t.typed f y r))
  form_lock (t.designator (t.part (objects.Coarray n) ss c)) Lock zero h k = h
  form_lock (t.designator (t.part (objects.Local n) ss c)) Lock zero h k = absurd k
  form_lock (t.designator (t.part (objects.Constant n) ss c)) Lock zero h k = absurd k
  form_lock (t.designator (t.part o ss c)) Lock (suc r) h k = tt
  form_lock (t.designator (t.part o ss c)) (Intrinsic i) r h k = tt
  form_lock (t.designator (t.part o ss c)) Team r h k = tt
  form_lock (t.designator (t.part o ss c)) Event r h k = tt
  form_lock (t.number z) y r h k = tt
  form_lock (t.logical b) y r h k = tt
  form_lock (t.call n es) y r h k = tt
  form_lock (t.intrinsic i) y r h k = tt
  form_lock (t.parenthesized x) y r h k = tt
  form_lock (t.array_constructor es) y r h k = tt
  form_lock (t.plus x) y r h k = tt
  form_lock (t.minus x) y r h k = tt
  form_lock (t.not x) y r h k = tt
  form_lock (t.arithmetic o a b) y r h k = tt
  form_lock (t.relation o a b) y r h k = tt
  form_lock (t.logic o a b) y r h k = tt

  lock_ranked : (x : t.Expression) → ranks.IsRanked ps x → Held x → LockFound (lock_of x)
  lock_ranked (t.typed f y r) h k = form_lock f y r h k

  lock_found : (o : Option t.Designator) (p : Pos) → LockFound o → Means (found_lock o p) (ranks.IsCell ps)
  lock_found None p h = refused_means 48 p
  lock_found (Some d) p h = fine_means d h

  lock_means : (e : Placed) → Both ps e → Means (a_lock e) (ranks.IsCell ps)
  lock_means e h = then_means (λ x. found_lock (lock_of x) e.at) (plain_both ps e h) (λ x k. lock_found (lock_of x) e.at (lock_ranked x k.0 k.1))

  -- ---- allocations
  abbrev HasBounds : ts.AllocatedBounds → Type 0
  HasBounds b = ranks.IsOptionalScalar ps b.lower × Scalar ps b.upper

  abbrev AllMean : List (Judgement ts.AllocatedBounds) → Type 0
  AllMean [] = Unit {0}
  AllMean (j ∷ js) = Means j HasBounds × AllMean js

  all_bounds : (js : List (Judgement ts.AllocatedBounds)) → AllMean js → Means (all_made js) (ranks.AreBounds ps)
  all_bounds [] h = fine_means [] tt
  all_bounds (j ∷ js) h = both_means (λ x xs. x ∷ xs) h.0 (all_bounds js h.1) (λ x xs u v. (u.0, u.1, v))

  abbrev HasCobounds : AllocatedCobounds → Type 0
  HasCobounds c = ranks.AreBounds ps c.first × ranks.IsOptionalScalar ps c.last

  abbrev HasShape : AllocatedShape → Type 0
  HasShape c = ranks.AreBounds ps c.bounds × HasCobounds c.cobounds

  object_means : (o : Object) (y : Option DataType) (bs : List ts.AllocatedBounds) (c : AllocatedCobounds) → ranks.AreBounds ps bs → HasCobounds c
      → Means (elim o [ objects.Local l ↦ local_allocation l y bs | objects.Coarray n ↦ fine (ts.allocate_coarray n bs c.first c.last) | objects.Constant n ↦ unknown {T = ts.Allocation} ]) (ranks.IsAllocation ps)
  object_means (objects.Local l) None bs c h k = unknown_means
  object_means (objects.Local l) (Some y) bs c h k = fine_means (ts.allocate_local l y bs) h
  object_means (objects.Coarray n) y bs c h k = fine_means (ts.allocate_coarray n bs c.first c.last) (h, k.0, k.1)
  object_means (objects.Constant n) y bs c h k = unknown_means

  abbrev AllAllocate : List (Judgement ts.Allocation) → Type 0
  AllAllocate [] = Unit {0}
  AllAllocate (j ∷ js) = Means j (ranks.IsAllocation ps) × AllAllocate js

  all_allocations : (js : List (Judgement ts.Allocation)) → AllAllocate js → Means (all_made js) (ranks.AreAllocations ps)
  all_allocations [] h = fine_means [] tt
  all_allocations (j ∷ js) h = both_means (λ x xs. x ∷ xs) h.0 (all_allocations js h.1) (λ x xs u v. (u, v))

  module _ (s : Scope) (r : AreRanks ps s) where
    pub judged_both : (e : f.Expression) → Both ps (placed s e)
    judged_both e = (judged_means ps s r e, judged_held ps s r e)

    pub condition_means : (e : f.Expression) → Means (condition (placed s e)) (Scalar ps)
    condition_means e = wanted_means ps logicals (placed s e) (judged_means ps s r e)

    pub code_means : (e : f.Expression) → Means (bound_or_code (placed s e)) (Scalar ps)
    code_means e = wanted_means ps integers (placed s e) (judged_means ps s r e)

    pub maybe_code : (o : Option f.Expression) → Means (maybe bound_or_code s o) (ranks.IsOptionalScalar ps)
    maybe_code None = fine_means t.missing tt
    maybe_code (Some e) = made_means t.given (code_means e) (λ x u. u)

    maybe_integer : (o : Option f.Expression) → Means (maybe (integer 39) s o) (ranks.IsOptionalScalar ps)
    maybe_integer None = fine_means t.missing tt
    maybe_integer (Some e) = made_means t.given (integer_means ps 39 (placed s e) (judged_means ps s r e)) (λ x u. u)

    -- ---- calls
    actuals_both : (xs : f.Arguments) → OfAll (Both ps) (judged_arguments s xs)
    actuals_both f.no_arguments = tt
    actuals_both (f.more_arguments k e rest) = (judged_both e, actuals_both rest)

    called_actuals : (xs : Option f.Arguments) → AllActuals ps (actuals_of s xs) × OfAll (Both ps) (actuals_of s xs)
    called_actuals None = (tt, tt)
    called_actuals (Some xs) = (arguments_all ps s r xs, actuals_both xs)

    with_means : (n : List ℕ) (k : ℕ) (o : Option Interface) (xs : List Actual) (p : Pos) → denotes s n ≡ Some (Names.subroutine k) → o ≡ item_at s.interfaces k → AllActuals ps xs → Means (called_with o s k xs p) (ranks.IsStatement ps)
    with_means n k None xs p e g h = unknown_means
    with_means n k (Some i) xs p e g h =
        let q = procedure_at ps k in
        let w = r.interfaces k i (sym g) in
        made_means (ts.call k) (arguments_means ps s q.unit.variables i.dummies q.dummies xs p w.0 h) (λ es u. (no_result q.unit.variables i.result q.answer (r.resultless n k i e (sym g)) w.1, u))

    called_means : (n : List ℕ) (o : Option Meaning) (xs : List Actual) (p : Pos) → denotes s n ≡ o → AllActuals ps xs → OfAll (Both ps) xs → Means (called s o xs p) (ranks.IsStatement ps)
    called_means n None xs p e h g = refused_means 20 p
    called_means n (Some (Names.subroutine k)) xs p e h g = with_means n k (item_at s.interfaces k) xs p e refl h
    called_means n (Some (Names.intrinsic_subroutine k)) xs p e h g = intrinsic_call_means ps k xs p g
    called_means n (Some (Names.function k)) xs p e h g = around_means (breaks_in_all xs) 47 p
    called_means n (Some (Names.intrinsic_function k)) xs p e h g = around_means (breaks_in_all xs) 47 p
    called_means n (Some (Names.variable x)) xs p e h g = around_means (breaks_in_all xs) 47 p
    called_means n (Some (Names.constant x)) xs p e h g = around_means (breaks_in_all xs) 47 p
    called_means n (Some (Names.module_constant z)) xs p e h g = around_means (breaks_in_all xs) 47 p
    called_means n (Some (Names.module_type y)) xs p e h g = around_means (breaks_in_all xs) 47 p

    -- ---- output
    printed_means : (e : Placed) → Good ps e → Means (printed e) (ranks.IsItem ps)
    printed_means e h = made_means ts.value (under_means (item_breaks e.at) (plain_means ps e h) (λ x k b. k)) (λ x u. u)

    items_means : (n : ℕ) (is : List fs.Item) → Means (printed_all s n is) (ranks.AreItems ps)
    items_means n [] = fine_means [] tt
    items_means n (fs.quoted l ∷ rest) = both_means {P = ranks.IsItem ps} (λ x xs. x ∷ xs) (fine_means (ts.literal n) tt) (items_means (n + 1) rest) (λ x xs u v. (u, v))
    items_means n (fs.value e ∷ rest) = both_means (λ x xs. x ∷ xs) (printed_means (placed s e) (judged_means ps s r e)) (items_means n rest) (λ x xs u v. (u, v))

    -- ---- allocations
    bounds_means : (b : fs.Bounds) → Means (allocated_bounds s b) HasBounds
    bounds_means b = both_means (λ l u. record { lower = l; upper = u }) (maybe_integer b.lower) (integer_means ps 39 (placed s b.upper) (judged_means ps s r b.upper)) (λ l u v w. (v, w))

    cobounds_all : (bs : List fs.Bounds) → AllMean (map (allocated_bounds s) bs)
    cobounds_all [] = tt
    cobounds_all (b ∷ bs) = (bounds_means b, cobounds_all bs)

    dimensions_all : (bs : List fs.Dimension) → AllMean (map (bounds_or_none s) bs)
    dimensions_all [] = tt
    dimensions_all (fs.explicit b ∷ bs) = (bounds_means b, dimensions_all bs)
    dimensions_all (fs.deferred p ∷ bs) = (unknown_means, dimensions_all bs)

    cobounds_means : (o : Option fs.CoarraySpec) → Means (allocated_cobounds s o) HasCobounds
    cobounds_means None = fine_means no_cobounds (tt, tt)
    cobounds_means (Some (fs.deferred_coshape n)) = fine_means no_cobounds (tt, tt)
    cobounds_means (Some (fs.explicit_coshape bs l)) = both_means (λ xs x. record { first = xs; last = x }) (all_bounds (map (allocated_bounds s) bs) (cobounds_all bs)) (maybe_integer l) (λ xs x u v. (u, v))

    shape_means : (o : fs.Allocation) → Means (shape_judged s o) HasShape
    shape_means o = both_means (λ bs c. record { bounds = bs; cobounds = c }) (all_bounds (map (bounds_or_none s) o.bounds) (dimensions_all o.bounds)) (cobounds_means o.cobounds) (λ bs c u v. (u, v))

    allocation_means : (o : fs.Allocation) → Means (allocation_judged s o) (ranks.IsAllocation ps)
    allocation_means o = then_means {P = λ j. Means j (ranks.IsAllocation ps)} (λ j. j)
        (both_means (λ x c. allocation_of x c.bounds c.cobounds) (any {j = variable_denoted (denotes s o.name.text) o.name.at})
        (formed_means {j = shape_judged s o} (allocatable_breaks (denotes s o.name.text) o.name.at ++ shape_rules (denotes s o.name.text) o) (λ b. shape_means o)) (λ x c u v. object_means x.object x.of_type c.bounds c.cobounds v.0 v.1))
        (λ j k. k)

    allocations_all : (os : List fs.Allocation) → AllAllocate (map (allocation_judged s) os)
    allocations_all [] = tt
    allocations_all (o ∷ os) = (allocation_means o, allocations_all os)

    -- ---- image control
    stat_of : (xs : f.Specifiers) → Means (with_stat (judged_specifiers s xs)) (ranks.IsOptionalResult ps)
    stat_of xs = stat_alone (judged_specifiers s xs) (specifiers_all ps s r xs)

    stat_if : (o : Option f.Specifiers) → Means (with_stat (written_if s o)) (ranks.IsOptionalResult ps)
    stat_if None = stat_alone [] tt
    stat_if (Some xs) = stat_of xs

    set_means : (i : fs.ImageSet) → Means (image_set s i) (ranks.AreImages ps)
    set_means fs.all_images = fine_means ts.all_images tt
    set_means (fs.images e) = made_means ts.images (under_means (image_set_breaks (place_of e)) (plain_means ps (placed s e) (judged_means ps s r e)) (λ x k b. k)) (λ x u. u)

    form_means : (e : f.Expression) (n : Name) (xs : f.Specifiers) → Means (form_team s e n (judged_specifiers s xs)) (ranks.IsStatement ps)
    form_means e n xs =
        let ws = judged_specifiers s xs in
        let allowed = codes "new_index" ∷ stat_name in
        let h = specifiers_all ps s r xs in
        ruled_means (all_breaks allowed ws) (λ u. four_means (λ a l i q. ts.form_team a l i q (order_written (codes "new_index") (codes "stat") ws)) (integer_means ps 39 (placed s e) (judged_means ps s r e))
        (any {j = team_variable (denotes s n.text) n.at}) (new_index_means ps allowed ws h u) (stat_means ps allowed ws h u) (λ a l i q x y z w. (x, z, w)))

    locked_means : (d : f.Designator) (xs : f.Specifiers) → Means (lock_judged s d (judged_specifiers s xs)) (ranks.IsStatement ps)
    locked_means d xs =
        let ws = judged_specifiers s xs in
        let allowed = codes "acquired_lock" ∷ stat_name in
        let h = specifiers_all ps s r xs in
        ruled_means (all_breaks allowed ws) (λ u. three_means (λ l a q. ts.lock l a q (order_written (codes "acquired_lock") (codes "stat") ws)) (lock_means (placed_designator s d) (judged_both (f.designator d))) (acquired_means ps allowed ws h u) (stat_means ps allowed ws h u) (λ l a q x y z. (x, y, z)))

    wait_means : (d : f.Designator) (xs : f.Specifiers) → Means (wait_judged s d (judged_specifiers s xs)) (ranks.IsStatement ps)
    wait_means d xs =
        let ws = judged_specifiers s xs in
        let allowed = codes "until_count" ∷ stat_name in
        let h = specifiers_all ps s r xs in
        ruled_means (all_breaks allowed ws) (λ u. three_means (λ v n q. ts.event_wait v n q (order_written (codes "until_count") (codes "stat") ws)) (own_event_means ps (placed_designator s d) (judged_both (f.designator d))) (until_count_means ps allowed ws h u) (stat_means ps allowed ws h u) (λ v n q x y z. (x, y, z)))

  pub action_means : (x : Site) (r : AreRanks ps x.scope) (a : fs.ActionStatement) (p : Pos) → Means (judged_action x a p) (ranks.IsStatement ps)
  action_means x r (fs.assignment d e) p = assignment_means ps x p (placed x.scope e) (left_means ps x.scope r d) (judged_means ps x.scope r e)
  action_means x r (fs.call n xs) p = (let k = called_actuals x.scope r xs in called_means x.scope r n.text (denotes x.scope n.text) (actuals_of x.scope xs) n.at refl k.0 k.1)
  action_means x r (fs.print o is) p = both_means ts.print (any {j = format_judged x.literals o is}) (items_means x.scope r (x.literals + literals_of_format o) is) (λ g is u v. v)
  action_means x r (fs.exit n) p = leaving_means ts.exit n x.around p (λ k. tt)
  action_means x r (fs.cycle n) p = leaving_means ts.cycle n x.around p (λ k. tt)
  action_means x r fs.return p = controlled_means x p (ruled_means (unless (not (has_boundary x.around)) 42 p) (λ u. fine_means ts.return tt))
  action_means x r (fs.stop e) p = controlled_means x p (made_means ts.stop (maybe_code x.scope r e) (λ y u. u))
  action_means x r (fs.error_stop e) p = made_means ts.error_stop (maybe_code x.scope r e) (λ y u. u)
  action_means x r fs.fail_image p = fine_means ts.fail_image tt
  action_means x r (fs.allocate os xs) p = if_means (any_coarray x.scope (map (λ o. o.name) os)) x p (both_means ts.allocate (all_allocations (map (allocation_judged x.scope) os) (allocations_all x.scope r os)) (stat_of x.scope r xs) (λ a q u v. (u, v)))
  action_means x r (fs.deallocate ns xs) p = if_means (any_coarray x.scope ns) x p (both_means ts.deallocate (any {j = all_made (map (deallocated x.scope) ns)}) (stat_of x.scope r xs) (λ a q u v. v))
  action_means x r (fs.sync_all xs) p = controlled_means x p (made_means ts.sync_all (stat_if x.scope r xs) (λ q u. u))
  action_means x r (fs.sync_memory xs) p = controlled_means x p (made_means ts.sync_memory (stat_if x.scope r xs) (λ q u. u))
  action_means x r (fs.sync_images i xs) p = controlled_means x p (both_means ts.sync_images (set_means x.scope r i) (stat_of x.scope r xs) (λ a q u v. (u, v)))
  action_means x r (fs.sync_team e xs) p = controlled_means x p (both_means ts.sync_team (team_means ps 51 (placed x.scope e) (judged_means ps x.scope r e)) (stat_of x.scope r xs) (λ a q u v. (u, v)))
  action_means x r (fs.form_team e n xs) p = controlled_means x p (form_means x.scope r e n xs)
  action_means x r (fs.lock d xs) p = controlled_means x p (locked_means x.scope r d xs)
  action_means x r (fs.unlock d xs) p = controlled_means x p (both_means ts.unlock (lock_means (placed_designator x.scope d) (judged_both x.scope r (f.designator d))) (stat_of x.scope r xs) (λ a q u v. (u, v)))
  action_means x r (fs.event_post d xs) p = controlled_means x p (both_means ts.event_post (event_means ps (placed_designator x.scope d) (judged_both x.scope r (f.designator d))) (stat_of x.scope r xs) (λ a q u v. (u, v)))
  action_means x r (fs.event_wait d xs) p = controlled_means x p (wait_means x.scope r d xs)
  action_means x r (fs.if_statement e a q) p = both_means (λ c b. ts.if c (alone b q.line) ts.no_else_ifs ts.no_statements) (condition_means x.scope r e) (action_means x r a q) (λ c b u v. (u, (v, tt), tt, tt))
