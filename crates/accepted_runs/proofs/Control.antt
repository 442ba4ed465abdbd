-- The machine does each act of assignments, output, allocation and image control that have their ranks and kinds.
use Rattle.std.proofs.Common.{ℕ, zero, suc, ◌+◌, ◌≤◌, ℤ, List, [], ◌∷◌, ◌++◌, length}
use Rattle.std.specs.Prelude.{◌==◌}
use Rattle.caf_base.specs.declared.value.Kind.{Kind}
use Rattle.caf_base.specs.declared.value.Kind.TheVariants as kinds
use Rattle.walk_theory.specs.Syntax.{Parts}
use Rattle.checked_tree.specs.declared.data.DataType.{DataType}
use Rattle.checked_tree.specs.declared.data.Local.{Local}
use Rattle.checked_tree.specs.declared.data.Object.{Object}
use Rattle.checked_tree.specs.declared.data.Object.TheVariants as objects
use Rattle.checked_tree.specs.declared.expr.WrittenOrder.{WrittenOrder}
use Rattle.checked_tree.specs.declared.expr.WrittenOrder.TheVariants as orders
use Rattle.checked_tree.specs.declared.statement.ListedImages.{ListedImages}
use Rattle.checked_tree.specs.declared.statement.ListedImages.TheVariants as lists
use Rattle.checked_tree.specs.Expressions as t
use Rattle.checked_tree.specs.Statements as s
use Rattle.checked_tree.specs.Statements.{Procedure}
use Rattle.image_acts.specs.Places.{place_size, digits, numbers_of_form}
use Rattle.image_acts.specs.Acts as a
use Rattle.image_acts.specs.Acts.{Act, Scope}
use Rattle.image_acts.specs.Statuses.{unlocked_failed_image, failed_image}
use Rattle.tree_meaning.specs.Environment.{Environment, scope_of, kind_of}
use Rattle.tree_meaning.specs.Sequences as sequences
use Rattle.tree_meaning.specs.Settling as settlings
use Rattle.tree_meaning.specs.Expressions as expressions
use Rattle.tree_meaning.specs.Assignments as assignments
use Rattle.tree_meaning.specs.Allocation as allocations
use Rattle.tree_meaning.specs.ImageControl as control
use Rattle.accepted_ranks.specs.Kinded as kinded
use Rattle.accepted_runs.proofs.Acts.{PartsDo, cond_does, dropping_does, copying_does, bringing_does, requiring_does}
use Rattle.accepted_runs.proofs.Evaluations.{section_few, storing_does, storing_status_does, needing_own_does, expression_does, scalar_does, subscripts_do, result_place_does, optional_place_does, owner_does}

-- ---- statuses
pub settling_does : (x : t.OptionalResult) (depth : ℕ) (ss : List ℤ) → PartsDo (settlings.settling x depth ss)
settling_does t.no_result depth ss = requiring_does ss
settling_does (t.result x) depth ss = storing_does depth x

pub selector_settled : (x : t.OptionalResult) (depth : ℕ) → PartsDo (settlings.settling_selector x depth)
selector_settled t.no_result depth = tt
selector_settled (t.result x) depth = (copying_does 0 1, ((tt, (tt, tt)), (((tt, tt), (tt, tt), tt), storing_does depth x)))

-- ---- assignment
fitting_does : (from to : Kind) (r depth : ℕ) → PartsDo (assignments.fitting from to r depth)
fitting_does from to zero depth = cond_does (assignments.narrows from to) _ _ (tt, tt) tt
fitting_does from to (suc r) depth = cond_does (assignments.narrows from to) _ _ (tt, tt) tt

section_fits : (from to : Kind) (q : ℕ) (x : Scope) (n form r : ℕ) → PartsDo (assignments.fitting_section from to q x n form r)
section_fits from to q x n form r = cond_does (assignments.narrows from to) _ _
    ((tt, tt), (((tt, tt), fitting_does from to q (place_size r)), (fitting_does from to q (numbers_of_form (digits form)), (tt, tt)), tt))
    (tt, tt)

agreeing_does : (q depth r : ℕ) → r ≤ 3 → PartsDo (assignments.agreeing q depth r)
agreeing_does zero depth r h = tt
agreeing_does (suc q) depth r h = (h, tt)

putting_does : (q : ℕ) (x : Scope) (n r : ℕ) → r ≤ 3 → PartsDo (assignments.putting q x n r)
putting_does zero x n r h = (h, tt)
putting_does (suc q) x n r h = (h, tt)

written_does : (q c r : ℕ) (k : Kind) → r ≤ 3 → PartsDo (assignments.written q c r k)
written_does zero c r k h = (h, tt)
written_does (suc q) c r k h = (h, tt)

value_dropped : (q : ℕ) → PartsDo (assignments.dropping_value q)
value_dropped zero = dropping_does 1
value_dropped (suc q) = (tt, tt)

pub writing_does : (q c r : ℕ) (k : Kind) → r ≤ 3 → PartsDo (assignments.writing q c r k)
writing_does q c zero k h = written_does q c 0 k h
writing_does q c (suc r) k h = ((tt, tt), ((written_does q c (suc r) k h), (dropping_does (place_size (suc r) + 1), (value_dropped q, (tt, tt))), tt))

lifting_does : (q size place : ℕ) → PartsDo (assignments.lifting q size place)
lifting_does zero size place = cond_does (size == 0) _ _ tt (copying_does (place + size) 1, bringing_does 1 place)
lifting_does (suc q) size place = tt

printed_does : (e : Environment) (k : Kind) (r : ℕ) → PartsDo (assignments.printed e k r)
printed_does e kinds.I4 zero = (tt, tt)
printed_does e kinds.I8 zero = (tt, tt)
printed_does e kinds.L4 zero = (tt, tt)
printed_does e kinds.I4 (suc r) = (tt, tt)
printed_does e kinds.I8 (suc r) = (tt, tt)
printed_does e kinds.L4 (suc r) = (tt, tt)

listing_does : (e : Environment) (x : ListedImages) → PartsDo (assignments.listing e x)
listing_does e lists.Failed = (tt, (tt, tt))
listing_does e lists.Stopped = (tt, (tt, tt))

-- ---- allocation
numbers_do : (ns : List ℕ) (rest : List Act) → PartsDo (sequences.doing rest) → PartsDo (sequences.doing (allocations.numbers ns ++ rest))
numbers_do [] rest h = h
numbers_do (n ∷ ns) rest h = (tt, numbers_do ns rest h)

named_does : (xs : List Object) → PartsDo (allocations.named_once xs)
named_does xs = cond_does (allocations.has_twice xs) _ _ (tt, (tt, tt)) tt

planning_one_does : (x : s.Allocation) (depth : ℕ) → PartsDo (allocations.planning_one x depth)
planning_one_does (s.allocate_local v type bs) depth = (tt, tt)
planning_one_does (s.allocate_coarray c bs cs l) depth = (tt, tt)

planning_does : (xs : List s.Allocation) (above : ℕ) → PartsDo (allocations.planning xs above)
planning_does [] above = tt
planning_does (x ∷ xs) above = (planning_one_does x (allocations.object_sizes xs + above), planning_does xs above)

making_one_does : (x : s.Allocation) (depth : ℕ) → PartsDo (allocations.making_one x depth)
making_one_does (s.allocate_local v type bs) depth = (tt, tt)
making_one_does (s.allocate_coarray c bs cs l) depth = (tt, (tt, tt))

making_does : (xs : List s.Allocation) (above : ℕ) → PartsDo (allocations.making xs above)
making_does [] above = tt
making_does (x ∷ xs) above = (making_one_does x (allocations.object_sizes xs + above), making_does xs above)

allocate_round_does : (cs : List ℕ) → PartsDo (allocations.allocate_round cs)
allocate_round_does [] = (tt, tt)
allocate_round_does (c ∷ cs) = ((tt, tt), (numbers_do (c ∷ cs) (a.ask (a.arrive_allocate (length (c ∷ cs))) ∷ []) (tt, tt), (tt, (tt, tt))))

deallocate_round_does : (cs : List ℕ) → PartsDo (allocations.deallocate_round cs)
deallocate_round_does [] = (tt, tt)
deallocate_round_does (c ∷ cs) = ((tt, tt), (numbers_do (c ∷ cs) (a.ask (a.arrive_deallocate (length (c ∷ cs))) ∷ []) (tt, tt), (tt, (tt, tt))))

is_allocated_does : (x : Object) → PartsDo (allocations.is_allocated x)
is_allocated_does (objects.Local v) = (tt, (tt, tt))
is_allocated_does (objects.Coarray c) = (tt, (tt, tt))
is_allocated_does (objects.Constant n) = tt

are_allocated_do : (xs : List Object) → PartsDo (allocations.are_allocated xs)
are_allocated_do [] = tt
are_allocated_do (x ∷ xs) = (is_allocated_does x, are_allocated_do xs)

freeing_one_does : (x : Object) → PartsDo (allocations.freeing_one x)
freeing_one_does (objects.Local v) = (tt, tt)
freeing_one_does (objects.Coarray c) = (tt, (tt, tt))
freeing_one_does (objects.Constant n) = tt

freeing_does : (xs : List Object) → PartsDo (allocations.freeing xs)
freeing_does [] = tt
freeing_does (x ∷ xs) = (freeing_one_does x, freeing_does xs)

-- ---- two parts
put_down_does : (o : WrittenOrder) (p q : Parts Act) (m n : ℕ) → PartsDo p → PartsDo q → PartsDo (control.put_down_as_written o p m q n)
put_down_does orders.Same p q m n h k = (h, k)
put_down_does orders.Reversed p q m n h k = (k, (h, bringing_does m n))

module _ (e : Environment) where
  abbrev procedures : List Procedure
  procedures = e.program.procedures

  assigned_does : (d : t.Designator) (k : Kind) (r : ℕ) (x : t.Expression) → kinded.IsAssigned procedures d r x → PartsDo (assignments.assigned e d k r (assignments.kind_in x) (assignments.rank_in x))
  assigned_does (t.part (objects.Local v) ss sel) k r (t.typed f y q) h = cond_does (expressions.is_scalar ss r) _ _ (fitting_does (kind_of y) k 0 0, (tt, tt))
      (subscripts_do e ss h.1, (section_fits (kind_of y) k q (scope_of v.home) v.variable (expressions.form_of ss r) r, (agreeing_does q 0 r (section_few ss r h.2), putting_does q (scope_of v.home) v.variable r (section_few ss r h.2))))
  assigned_does (t.part (objects.Coarray c) ss sel) k r (t.typed f y q) h =
      let size = expressions.optional_size (expressions.stat_of sel) in
      let few = section_few ss r h.1.1 in
      (subscripts_do e ss h.1.0, ((tt, tt), (owner_does e c r sel h.1.2, (lifting_does q size (place_size r + 1), (fitting_does (kind_of y) k q (place_size r + 1), (needing_own_does c (expressions.is_scalar ss r) sel, (agreeing_does q 1 r few, (writing_does q c r k few, ((tt, tt), (storing_status_does 1 (expressions.stat_of sel), dropping_does (assignments.left_over q size)))))))))))
  assigned_does (t.part (objects.Constant n) ss sel) k r x h = tt

  assigned_value : (d : t.Designator) (r : ℕ) (x : t.Expression) → kinded.IsAssigned procedures d r x → kinded.IsRanked procedures x
  assigned_value (t.part (objects.Local v) ss sel) r (t.typed f y q) h = h.0
  assigned_value (t.part (objects.Coarray c) ss sel) r (t.typed f y q) h = h.0
  assigned_value (t.part (objects.Constant n) ss sel) r x h = absurd h

  pub assignment_does : (d : t.Designator) (type : DataType) (r : ℕ) (x : t.Expression) → kinded.IsAssigned procedures d r x → PartsDo (assignments.assignment e d type r x)
  assignment_does d type r x h = (expression_does e x (assigned_value d r x h), assigned_does d (kind_of type) r x h)

  listed_does : (x : t.OptionalExpression) → kinded.IsOptionalScalar procedures x → PartsDo (assignments.listed_team e x)
  listed_does t.missing h = (tt, tt)
  listed_does (t.given x) h = (scalar_does e x 0 h, (tt, tt))

  pub images_assigned_do : (v : Local) (l : ListedImages) (x : t.OptionalExpression) → kinded.IsOptionalScalar procedures x → PartsDo (assignments.images_assignment e v l x)
  images_assigned_do v l x h = (listed_does x h, (listing_does e l, (tt, tt)))

  -- ---- output
  item_does : (x : s.Item) → kinded.IsItem procedures x → PartsDo (assignments.item e x)
  item_does (s.literal n) h = (tt, tt)
  item_does (s.value x) h = (expression_does e x h, printed_does e (assignments.kind_in x) (assignments.rank_in x))

  items_do : (xs : List s.Item) → kinded.AreItems procedures xs → PartsDo (assignments.items e xs)
  items_do [] h = tt
  items_do (x ∷ xs) h = (item_does x h.0, items_do xs h.1)

  beginning_does : (f : s.Format) → PartsDo (assignments.beginning e f)
  beginning_does s.free = (tt, tt)
  beginning_does (s.written n ds) = (tt, tt)

  pub output_does : (f : s.Format) (xs : List s.Item) → kinded.AreItems procedures xs → PartsDo (assignments.output e f xs)
  output_does f xs h = (beginning_does f, (items_do xs h, (tt, tt)))

  -- ---- numbers that may be missing
  pub number_does : (x : t.OptionalExpression) (p : Parts Act) → kinded.IsOptionalScalar procedures x → PartsDo p → PartsDo (control.or_number e x p)
  number_does t.missing p h k = k
  number_does (t.given x) p h k = scalar_does e x 0 h

  -- ---- ALLOCATE and DEALLOCATE
  bounds_do : (bs : List s.AllocatedBounds) → kinded.AreBounds procedures bs → PartsDo (allocations.bounds e bs)
  bounds_do [] h = tt
  bounds_do (b ∷ bs) h = (number_does b.lower _ h.0 (tt, tt), (scalar_does e b.upper 0 h.1, bounds_do bs h.2))

  objects_do : (xs : List s.Allocation) → kinded.AreAllocations procedures xs → PartsDo (allocations.objects_bounds e xs)
  objects_do [] h = tt
  objects_do (s.allocate_local v type bs ∷ xs) h = (bounds_do bs h.0, objects_do xs h.1)
  objects_do (s.allocate_coarray c bs cs l ∷ xs) h = ((bounds_do bs h.0.0, (bounds_do cs h.0.1, number_does l _ h.0.2 (tt, tt))), objects_do xs h.1)

  pub allocate_does : (xs : List s.Allocation) (stat : t.OptionalResult) → kinded.AreAllocations procedures xs → kinded.IsOptionalResult procedures stat → PartsDo (allocations.allocate e xs stat)
  allocate_does xs stat h k =
      let size = expressions.optional_size stat in
      (objects_do xs h, (optional_place_does e stat k, ((tt, tt), (planning_does xs size, ((tt, tt), (named_does (allocations.objects_of xs), (((making_does xs size, allocate_round_does (allocations.coarrays_in (allocations.objects_of xs))), (tt, tt), tt), (settling_does stat 1 [], dropping_does (allocations.object_sizes xs + size)))))))))

  pub deallocate_does : (xs : List Object) (stat : t.OptionalResult) → kinded.IsOptionalResult procedures stat → PartsDo (allocations.deallocate e xs stat)
  deallocate_does xs stat k = (optional_place_does e stat k, ((tt, tt), (are_allocated_do xs, (named_does xs, (((deallocate_round_does (allocations.coarrays_in xs), freeing_does xs), (tt, tt), tt), (settling_does stat 1 [], dropping_does (expressions.optional_size stat)))))))

  -- ---- image control
  module _ (stat : t.OptionalResult) (k : kinded.IsOptionalResult procedures stat) where
    abbrev size : ℕ
    size = expressions.optional_size stat

    pub sync_all_does : PartsDo (control.sync_all e stat)
    sync_all_does = (optional_place_does e stat k, (((tt, tt), ((tt, tt), (tt, (tt, tt)))), (settling_does stat 1 [], dropping_does size)))

    pub sync_memory_does : PartsDo (control.sync_memory e stat)
    sync_memory_does = (optional_place_does e stat k, ((tt, tt), ((tt, tt), (settling_does stat 1 [], dropping_does size))))

    index_set_does : (r : ℕ) (x : t.Expression) → kinded.IsRanked procedures x → PartsDo (control.index_set e r x)
    index_set_does zero x h = ((tt, tt), (expression_does e x h, (tt, tt)))
    index_set_does (suc r) x h = expression_does e x h

    image_set_does : (x : s.ImageSet) → kinded.AreImages procedures x → PartsDo (control.image_set e x)
    image_set_does s.all_images h = (tt, tt)
    image_set_does (s.images x) h = index_set_does (assignments.rank_in x) x h

    pub sync_images_does : (x : s.ImageSet) → kinded.AreImages procedures x → PartsDo (control.sync_images e x stat)
    sync_images_does x h = (image_set_does x h, (optional_place_does e stat k, ((tt, tt), (((tt, (tt, tt)), ((tt, tt), (tt, tt)), tt), (settling_does stat 1 [], dropping_does size)))))

    pub sync_team_does : (x : t.Expression) → kinded.IsOfRank procedures x 0 → PartsDo (control.sync_team e x stat)
    sync_team_does x h = (scalar_does e x 0 h, ((tt, tt), (optional_place_does e stat k, (copying_does size 1, ((tt, (tt, tt)), (copying_does size 1, ((tt, tt), (settling_does stat 1 [], dropping_does (size + 1)))))))))

    pub form_team_does : (x : t.Expression) (v : Local) (index : t.OptionalExpression) (o : WrittenOrder) → kinded.IsOfRank procedures x 0 → kinded.IsOptionalScalar procedures index → PartsDo (control.form_team e x v index stat o)
    form_team_does x v index o h i = (scalar_does e x 0 h, (put_down_does o _ _ 1 size (number_does index _ i (tt, tt)) (optional_place_does e stat k), (((tt, tt), ((copying_does (size + 1) 2, (tt, tt)), (tt, (tt, tt)))), ((tt, tt), (settling_does stat 1 [], dropping_does (size + 2))))))

  pub cell_does : (d : t.Designator) → kinded.IsCell procedures d → PartsDo (control.cell e d)
  cell_does (t.part (objects.Coarray c) ss sel) h = (subscripts_do e ss h.0, ((tt, tt), owner_does e c 0 sel h.2))
  cell_does (t.part (objects.Local v) ss sel) h = absurd h
  cell_does (t.part (objects.Constant n) ss sel) h = absurd h

  own_cell : (d : t.Designator) → kinded.IsOwnCell procedures d → kinded.IsCell procedures d
  own_cell (t.part (objects.Coarray c) ss t.no_selector) h = h
  own_cell (t.part (objects.Coarray c) ss (t.selector cs which stat)) h = absurd h
  own_cell (t.part (objects.Local v) ss sel) h = absurd h
  own_cell (t.part (objects.Constant n) ss sel) h = absurd h

  pub cell_there_does : (d : t.Designator) → PartsDo (control.cell_there e d)
  cell_there_does (t.part (objects.Coarray c) ss sel) = needing_own_does c (expressions.is_scalar ss 0) sel
  cell_there_does (t.part (objects.Local v) ss sel) = tt
  cell_there_does (t.part (objects.Constant n) ss sel) = tt

  plain_lock_does : (d : t.Designator) (stat : t.OptionalResult) → kinded.IsOptionalResult procedures stat → PartsDo (control.plain_lock e d stat)
  plain_lock_does d stat k =
      let size = expressions.optional_size stat in
      (optional_place_does e stat k, (cell_there_does d, (copying_does size 2, ((tt, (tt, tt)), (selector_settled (control.cell_stat e d) (size + 4), (settling_does stat 1 (unlocked_failed_image ∷ []), dropping_does (size + control.cell_size e d)))))))

  tried_lock_does : (d : t.Designator) (x : t.ResultVariable) (stat : t.OptionalResult) (o : WrittenOrder) (n : ℕ) → kinded.IsResult procedures x → kinded.IsOptionalResult procedures stat → PartsDo (control.tried_lock e d x stat o n)
  tried_lock_does d x stat o n h k =
      let size = expressions.optional_size stat in
      (put_down_does o _ _ n size (result_place_does e x h) (optional_place_does e stat k), (cell_there_does d, (copying_does (n + size) 2, ((tt, (tt, tt)), (selector_settled (control.cell_stat e d) (n + (size + 5)), (copying_does 1 1, (storing_does (size + 3) x, (settling_does stat 2 (unlocked_failed_image ∷ []), dropping_does (1 + (n + (size + control.cell_size e d)))))))))))

  pub lock_does : (d : t.Designator) (acquired stat : t.OptionalResult) (o : WrittenOrder) → kinded.IsCell procedures d → kinded.IsOptionalResult procedures acquired → kinded.IsOptionalResult procedures stat → PartsDo (control.lock e d acquired stat o)
  lock_does d t.no_result stat o h i k = (cell_does d h, plain_lock_does d stat k)
  lock_does d (t.result x) stat o h i k = (cell_does d h, tried_lock_does d x stat o (expressions.optional_size (t.result x)) i k)

  pub unlock_does : (d : t.Designator) (stat : t.OptionalResult) → kinded.IsCell procedures d → kinded.IsOptionalResult procedures stat → PartsDo (control.unlock e d stat)
  unlock_does d stat h k =
      let size = expressions.optional_size stat in
      (cell_does d h, (optional_place_does e stat k, (cell_there_does d, (copying_does size 2, ((tt, (tt, tt)), (selector_settled (control.cell_stat e d) (size + 4), (settling_does stat 1 [], dropping_does (size + control.cell_size e d))))))))

  pub post_does : (d : t.Designator) (stat : t.OptionalResult) → kinded.IsCell procedures d → kinded.IsOptionalResult procedures stat → PartsDo (control.event_post e d stat)
  post_does d stat h k =
      let size = expressions.optional_size stat in
      (cell_does d h, (optional_place_does e stat k, (cell_there_does d, (copying_does size 2, ((tt, (tt, tt)), (selector_settled (control.cell_stat e d) (size + 4), (settling_does stat 1 [], dropping_does (size + control.cell_size e d))))))))

  pub wait_does : (d : t.Designator) (until : t.OptionalExpression) (stat : t.OptionalResult) (o : WrittenOrder) → kinded.IsOwnCell procedures d → kinded.IsOptionalScalar procedures until → kinded.IsOptionalResult procedures stat → PartsDo (control.event_wait e d until stat o)
  wait_does d until stat o h i k =
      let size = expressions.optional_size stat in
      (cell_does d (own_cell d h), (dropping_does 1, (put_down_does o _ _ 1 size (number_does until _ i (tt, tt)) (optional_place_does e stat k), (copying_does size 2, ((tt, tt), (settling_does stat 1 [], dropping_does (size + 2)))))))

  pub critical_does : (n : ℕ) (stat : t.OptionalResult) → kinded.IsOptionalResult procedures stat → PartsDo (control.critical e n stat)
  critical_does n stat k = (optional_place_does e stat k, ((tt, tt), (settling_does stat 1 (failed_image ∷ []), dropping_does (expressions.optional_size stat))))

  pub change_team_does : (x : t.Expression) (stat : t.OptionalResult) → kinded.IsOfRank procedures x 0 → kinded.IsOptionalResult procedures stat → PartsDo (control.change_team e x stat)
  change_team_does x stat h k =
      let size = expressions.optional_size stat in
      (scalar_does e x 0 h, ((tt, tt), (optional_place_does e stat k, (copying_does size 1, ((tt, (tt, tt)), (copying_does size 1, ((tt, tt), (copying_does (size + 1) 1, ((tt, tt), (settling_does stat 1 [], dropping_does (size + 1)))))))))))

  deleting_does : (ns : List ℕ) (c : ℕ) → PartsDo (control.deleting e ns c)
  deleting_does [] c = tt
  deleting_does (n ∷ ns) c = (cond_does (control.is_allocatable_in e e.program.main.variables n) _ _ ((tt, tt), ((tt, (tt, tt)), tt, tt)) tt, deleting_does ns (suc c))

  pub end_team_does : (stat : t.OptionalResult) → kinded.IsOptionalResult procedures stat → PartsDo (control.end_team e stat)
  end_team_does stat k = (optional_place_does e stat k, (((tt, tt), ((tt, tt), (tt, (tt, tt)))), (deleting_does e.program.coarrays 0, ((tt, tt), (settling_does stat 1 [], dropping_does (expressions.optional_size stat))))))
