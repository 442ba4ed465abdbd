-- Each statement and construct keeps the order of arrivals and departures, and the frames.
use Rattle.std.proofs.Common.{◌≡◌, ℕ, zero, suc, ◌+◌, Bool, true, false, cond, List, [], ◌∷◌, ◌++◌, length, refl}
use Rattle.std.specs.Prelude.{ℤ, pos, ◌==◌}
use Rattle.caf_base.specs.declared.value.Kind.{Kind}
use Rattle.caf_base.specs.declared.value.Kind.TheVariants as kinds
use Rattle.caf_base.specs.declared.value.AtomicOp.{AtomicOp}
use Rattle.caf_base.specs.declared.value.AtomicOp.TheVariants as atomics
use Rattle.caf_events.specs.declared.round.GatherOp.{GatherOp}
use Rattle.caf_events.specs.declared.round.GatherOp.TheVariants as gathers
use Rattle.walk_theory.specs.Syntax.{Parts, end_parts, Steps}
use Rattle.checked_tree.specs.declared.data.Object.{Object}
use Rattle.checked_tree.specs.declared.data.Object.TheVariants as objects
use Rattle.checked_tree.specs.declared.data.Local.{Local}
use Rattle.checked_tree.specs.declared.expr.WrittenOrder.{WrittenOrder}
use Rattle.checked_tree.specs.declared.expr.WrittenOrder.TheVariants as orders
use Rattle.checked_tree.specs.declared.statement.CaseRange.{CaseRange}
use Rattle.checked_tree.specs.declared.statement.CaseRange.TheVariants as ranges
use Rattle.checked_tree.specs.declared.statement.ListedImages.{ListedImages}
use Rattle.checked_tree.specs.declared.statement.ListedImages.TheVariants as lists
use Rattle.checked_tree.specs.Expressions as t
use Rattle.checked_tree.specs.Statements as s
use Rattle.image_acts.specs.Places.{place_size, digits, numbers_of_form}
use Rattle.image_acts.specs.Acts as a
use Rattle.image_acts.specs.Acts.{Act, Scope, here, host}
use Rattle.tree_meaning.specs.Environment.{Environment, scope_of, kind_of, procedure_in, hidden_cell}
use Rattle.tree_meaning.specs.Sequences.{◌▸◌, doing, dropping, copying, bringing, pushing, choosing, takes, released, is_one_of}
use Rattle.tree_meaning.specs.Expressions as view
use Rattle.tree_meaning.specs.Settling.{settling, settling_selector}
use Rattle.tree_meaning.specs.Assignments as assignments
use Rattle.tree_meaning.specs.ImageControl as control
use Rattle.tree_meaning.specs.Pieces.{Piece, piece_of, evaluating, sizes, depth, fetching, written_dummies}
use Rattle.tree_meaning.specs.Subroutines as sub
use Rattle.tree_meaning.specs.Allocation as alloc
use Rattle.tree_meaning.specs.Forms.{in_range, in_more_ranges, in_ranges, called, do_start, form, steps, else_ifs, cases, environment_of, procedure_bodies, bodies}
use Rattle.program_walks.specs.Keeping.{IsClear, PartsKeep}
use Rattle.program_walks.proofs.FreeActs.{IsFree}
use Rattle.program_walks.proofs.FrameParts.{is_frame, Steady, steady_none, steady_then, steady_both}
use Rattle.program_walks.proofs.Ordered.{Ordered, no_parts, one, acts, both, fork, either_way, FormOrdered, BranchesOrdered, StepsOrdered, BodiesOrdered}
use Rattle.program_walks.proofs.Quiet.{quiet_dropping, quiet_copying, quiet_bringing, quiet_storing, quiet_status, quiet_own, quiet_reading, quiet_calling, quiet_expression, quiet_subscripts, quiet_result, quiet_place, quiet_owner, quiet_arguments}
use Rattle.program_walks.proofs.Rounds.{sync_round, end_round, form_round, sync_team_round, change_team_round, collective, paired, allocate_round, deallocate_round}

free_again : (p : Parts Act) → Ordered p → Ordered (released p)
free_again p h = either_way (takes p) (p ▸ doing (a.stack a.release ∷ [])) p (both h (one tt refl)) h

-- ---- the frames of rounds
round_steady : {p : Parts Act} → Steady p → Steady (control.round p)
round_steady h = steady_both (steady_then refl steady_none) (steady_both h (steady_then refl (steady_then refl steady_none)))

numbers_steady : (ns : List ℕ) (x : Act) → is_frame x ≡ false → Steady (doing (alloc.numbers ns ++ x ∷ []))
numbers_steady [] x f = steady_then f steady_none
numbers_steady (n ∷ ns) x f = steady_then refl (numbers_steady ns x f)

copied_steady : (k : ℕ) (y : a.TeamAct) (x : a.AskAct) {q : Parts Act} → Steady q → Steady (copying k 1 ▸ doing (Act.team y ∷ a.ask x ∷ []) ▸ copying k 1 ▸ doing (a.ask a.leave ∷ []) ▸ q)
copied_steady k y x h = steady_both (steady_then refl steady_none) (steady_both (steady_then refl (steady_then refl steady_none)) (steady_both (steady_then refl steady_none) (steady_both (steady_then refl steady_none) h)))

-- ---- rounds, in which an arrival and a departure stand
sync_rounds : Ordered (control.round (doing (a.ask a.arrive_sync ∷ [])))
sync_rounds = record { kept = sync_round; steady = round_steady (steady_then refl steady_none) }

end_rounds : Ordered (control.round (doing (a.ask a.arrive_end ∷ [])))
end_rounds = record { kept = end_round; steady = round_steady (steady_then refl steady_none) }

form_rounds : (depth : ℕ) → Ordered (control.round (copying depth 2 ▸ doing (a.ask a.arrive_form ∷ [])))
form_rounds depth = record { kept = form_round depth; steady = round_steady (steady_both (steady_then refl steady_none) (steady_then refl steady_none)) }

collects : (op : GatherOp) (k : Kind) → Ordered (doing (a.ask (a.gather op k) ∷ a.ask a.take ∷ []))
collects op k = record { kept = collective op k; steady = steady_then refl (steady_then refl steady_none) }

pairs : Ordered (doing (a.ask a.pair ∷ a.ask a.unpair ∷ []))
pairs = record { kept = paired; steady = steady_then refl (steady_then refl steady_none) }

-- ---- statuses
quiet_one_of : (ss : List ℤ) → Ordered (is_one_of ss)
quiet_one_of [] = no_parts
quiet_one_of (z ∷ zs) = both (acts tt refl (acts tt refl (acts tt refl (one tt refl)))) (quiet_one_of zs)

quiet_settling : (stat : t.OptionalResult) (n : ℕ) (ss : List ℤ) → Ordered (settling stat n ss)
quiet_settling t.no_result n ss = both (acts tt refl (acts tt refl (one tt refl))) (both (quiet_one_of ss) (fork (one tt refl) (one tt refl) no_parts))
quiet_settling (t.result r) n ss = quiet_storing n r

quiet_selector_status : (stat : t.OptionalResult) (n : ℕ) → Ordered (settling_selector stat n)
quiet_selector_status t.no_result n = no_parts
quiet_selector_status (t.result r) n = both (one tt refl) (both (acts tt refl (one tt refl)) (both (fork (one tt refl) (one tt refl) no_parts) (quiet_storing n r)))

abbrev Settled : t.OptionalResult → ℕ → List ℤ → ℕ → Type 0
Settled stat n ss m = Ordered (settling stat n ss ▸ dropping m)

settled : (stat : t.OptionalResult) (n : ℕ) (ss : List ℤ) (m : ℕ) → Settled stat n ss m
settled stat n ss m = both (quiet_settling stat n ss) (quiet_dropping m)

quiet_put_down : (o : WrittenOrder) (p : Parts Act) (m : ℕ) (q : Parts Act) (n : ℕ) → Ordered p → Ordered q → Ordered (control.put_down_as_written o p m q n)
quiet_put_down orders.Same p m q n h k = both h k
quiet_put_down orders.Reversed p m q n h k = both k (both h (quiet_bringing m n))

-- ---- assignment and output
quiet_fitting : (from to : Kind) (rank depth : ℕ) → Ordered (assignments.fitting from to rank depth)
quiet_fitting from to zero depth = either_way (assignments.narrows from to) (doing (a.operator (a.fits to depth) ∷ [])) end_parts (one tt refl) no_parts
quiet_fitting from to (suc r) depth = either_way (assignments.narrows from to) (doing (a.operator (a.fits_each to) ∷ [])) end_parts (one tt refl) no_parts

quiet_fitting_section : (from to : Kind) (r : ℕ) (x : Scope) (n f rank : ℕ) → Ordered (assignments.fitting_section from to r x n f rank)
quiet_fitting_section from to r x n f rank =
    either_way (assignments.narrows from to) (doing (a.bounded (a.is_there x n) ∷ []) ▸ choosing (assignments.sectioning x n f ▸ assignments.fitting from to r (place_size rank))
    (assignments.fitting from to r (numbers_of_form (digits f)) ▸ assignments.sectioning x n f)) (assignments.sectioning x n f) (both (one tt refl) (fork
    (both (one tt refl) (quiet_fitting from to r (place_size rank))) (both (quiet_fitting from to r (numbers_of_form (digits f))) (one tt refl)) no_parts)) (one tt refl)

quiet_agreeing : (r depth rank : ℕ) → Ordered (assignments.agreeing r depth rank)
quiet_agreeing zero depth rank = no_parts
quiet_agreeing (suc r) depth rank = one tt refl

quiet_putting : (r : ℕ) (x : Scope) (n rank : ℕ) → Ordered (assignments.putting r x n rank)
quiet_putting zero x n rank = one tt refl
quiet_putting (suc r) x n rank = one tt refl

quiet_written : (r c rank : ℕ) (k : Kind) → Ordered (assignments.written r c rank k)
quiet_written zero c rank k = one tt refl
quiet_written (suc r) c rank k = one tt refl

quiet_dropping_value : (r : ℕ) → Ordered (assignments.dropping_value r)
quiet_dropping_value zero = one tt refl
quiet_dropping_value (suc r) = one tt refl

quiet_writing : (r c rank : ℕ) (k : Kind) → Ordered (assignments.writing r c rank k)
quiet_writing r c zero k = quiet_written r c 0 k
quiet_writing r c (suc n) k = both (one tt refl) (fork (quiet_written r c (suc n) k) (both (quiet_dropping (place_size (suc n) + 1)) (both (quiet_dropping_value r) (one tt refl))) no_parts)

quiet_lifting : (r size place : ℕ) → Ordered (assignments.lifting r size place)
quiet_lifting zero size place = either_way (size == 0) end_parts (copying (place + size) 1 ▸ bringing 1 place) no_parts (both (quiet_copying (place + size) 1) (quiet_bringing 1 place))
quiet_lifting (suc r) size place = no_parts

module _ (e : Environment) where
  quiet_assigned : (d : t.Designator) (k : Kind) (rank : ℕ) (from : Kind) (r : ℕ) → Ordered (assignments.assigned e d k rank from r)
  quiet_assigned (t.part (objects.Local v) ss sel) k rank from r =
      either_way (view.is_scalar ss rank) (assignments.fitting from k 0 0 ▸ doing (a.variable (a.store (scope_of v.home) v.variable) ∷ []))
      (view.subscripts e ss ▸ assignments.fitting_section from k r (scope_of v.home) v.variable (view.form_of ss rank) rank ▸ assignments.agreeing r 0 rank ▸ assignments.putting r (scope_of v.home) v.variable rank)
      (both (quiet_fitting from k 0 0) (one tt refl)) (both (quiet_subscripts e ss) (both (quiet_fitting_section from k r (scope_of v.home) v.variable (view.form_of ss rank) rank)
      (both (quiet_agreeing r 0 rank) (quiet_putting r (scope_of v.home) v.variable rank))))
  quiet_assigned (t.part (objects.Coarray c) ss sel) k rank from r =
      both (quiet_subscripts e ss) (both (one tt refl) (both (quiet_owner e c rank sel) (both (quiet_lifting r (view.optional_size (view.stat_of sel)) (place_size rank + 1))
      (both (quiet_fitting from k r (place_size rank + 1)) (both (quiet_own c (view.is_scalar ss rank) sel) (both (quiet_agreeing r 1 rank) (both (quiet_writing r c rank k)
      (both (one tt refl) (both (quiet_status 1 (view.stat_of sel)) (quiet_dropping (assignments.left_over r (view.optional_size (view.stat_of sel)))))))))))))
  quiet_assigned (t.part (objects.Constant n) ss sel) k rank from r = no_parts

  quiet_listing : (l : ListedImages) → Ordered (assignments.listing e l)
  quiet_listing lists.Failed = acts tt refl (one tt refl)
  quiet_listing lists.Stopped = acts tt refl (one tt refl)

  quiet_listed_team : (x : t.OptionalExpression) → Ordered (assignments.listed_team e x)
  quiet_listed_team t.missing = one tt refl
  quiet_listed_team (t.given x) = both (quiet_expression e x) (one tt refl)

  quiet_printed : (k : Kind) (r : ℕ) → Ordered (assignments.printed e k r)
  quiet_printed kinds.L4 zero = one tt refl
  quiet_printed kinds.I4 zero = one tt refl
  quiet_printed kinds.I8 zero = one tt refl
  quiet_printed kinds.L4 (suc r) = one tt refl
  quiet_printed kinds.I4 (suc r) = one tt refl
  quiet_printed kinds.I8 (suc r) = one tt refl

  quiet_item : (x : s.Item) → Ordered (assignments.item e x)
  quiet_item (s.literal n) = one tt refl
  quiet_item (s.value x) = both (quiet_expression e x) (quiet_printed (assignments.kind_in x) (assignments.rank_in x))

  quiet_items : (xs : List s.Item) → Ordered (assignments.items e xs)
  quiet_items [] = no_parts
  quiet_items (x ∷ xs) = both (quiet_item x) (quiet_items xs)

  quiet_beginning : (f : s.Format) → Ordered (assignments.beginning e f)
  quiet_beginning s.free = one tt refl
  quiet_beginning (s.written n ds) = one tt refl

  -- ---- image control
  quiet_or : (x : t.OptionalExpression) (p : Parts Act) → Ordered p → Ordered (control.or_number e x p)
  quiet_or t.missing p h = h
  quiet_or (t.given x) p h = quiet_expression e x

  quiet_index_set : (r : ℕ) (x : t.Expression) → Ordered (control.index_set e r x)
  quiet_index_set zero x = both (one tt refl) (both (quiet_expression e x) (one tt refl))
  quiet_index_set (suc r) x = quiet_expression e x

  quiet_image_set : (is : s.ImageSet) → Ordered (control.image_set e is)
  quiet_image_set s.all_images = one tt refl
  quiet_image_set (s.images x) = quiet_index_set (assignments.rank_in x) x

  quiet_cell : (d : t.Designator) → Ordered (control.cell e d)
  quiet_cell (t.part (objects.Coarray c) ss sel) = both (quiet_subscripts e ss) (both (one tt refl) (quiet_owner e c 0 sel))
  quiet_cell (t.part (objects.Local v) ss sel) = no_parts
  quiet_cell (t.part (objects.Constant n) ss sel) = no_parts

  quiet_there : (d : t.Designator) → Ordered (control.cell_there e d)
  quiet_there (t.part (objects.Coarray c) ss sel) = quiet_own c (view.is_scalar ss 0) sel
  quiet_there (t.part (objects.Local v) ss sel) = no_parts
  quiet_there (t.part (objects.Constant n) ss sel) = no_parts

  sync_all_ordered : (stat : t.OptionalResult) → Ordered (control.sync_all e stat)
  sync_all_ordered stat = both (quiet_place e stat) (both sync_rounds (settled stat 1 [] (view.optional_size stat)))

  sync_images_ordered : (is : s.ImageSet) (stat : t.OptionalResult) → Ordered (control.sync_images e is stat)
  sync_images_ordered is stat =
      both (quiet_image_set is) (both (quiet_place e stat) (both (one tt refl) (both (fork pairs (both (one tt refl) (one tt refl)) no_parts) (settled stat 1 [] (view.optional_size stat)))))

  sync_team_ordered : (x : t.Expression) (stat : t.OptionalResult) → Ordered (control.sync_team e x stat)
  sync_team_ordered x stat =
      let tail : Ordered (settling stat 1 [] ▸ dropping (view.optional_size stat + 1)) = settled stat 1 [] (view.optional_size stat + 1) in
      let rounds = sync_team_round (view.optional_size stat) (PartsKeep (settling stat 1 [] ▸ dropping (view.optional_size stat + 1)) IsClear) tail.kept in
      both (quiet_expression e x) (both (one tt refl) (both (quiet_place e stat) (record { kept = rounds; steady = copied_steady (view.optional_size stat) a.near_team a.arrive_sync tail.steady })))

  form_team_ordered : (x : t.Expression) (v : Local) (index : t.OptionalExpression) (stat : t.OptionalResult) (order : WrittenOrder) → Ordered (control.form_team e x v index stat order)
  form_team_ordered x v index stat order =
      both (quiet_expression e x)
      (both (quiet_put_down order (control.or_number e index (pushing (pos 0))) 1 (view.optional_place e stat) (view.optional_size stat) (quiet_or index (pushing (pos 0)) (one tt refl)) (quiet_place e stat))
      (both (form_rounds (view.optional_size stat + 1)) (both (one tt refl) (settled stat 1 [] (view.optional_size stat + 2)))))

  quiet_lock : (d : t.Designator) (acquired stat : t.OptionalResult) (order : WrittenOrder) → Ordered (control.lock e d acquired stat order)
  quiet_lock d t.no_result stat order =
      both (quiet_cell d) (both (quiet_place e stat) (both (quiet_there d) (both (quiet_copying (view.optional_size stat) 2) (both (acts tt refl (one tt refl))
      (both (quiet_selector_status (control.cell_stat e d) (view.optional_size stat + 4))
      (both (quiet_settling stat 1 _) (quiet_dropping (view.optional_size stat + control.cell_size e d))))))))
  quiet_lock d (t.result acquired) stat order =
      let n = view.optional_size (t.result acquired) in
      (both (quiet_cell d)
      (both (quiet_put_down order (view.optional_place e (t.result acquired)) n (view.optional_place e stat) (view.optional_size stat) (quiet_place e (t.result acquired)) (quiet_place e stat))
      (both (quiet_there d) (both (quiet_copying (n + view.optional_size stat) 2) (both (acts tt refl (one tt refl))
      (both (quiet_selector_status (control.cell_stat e d) (n + (view.optional_size stat + 5))) (both (one tt refl) (both (quiet_storing (view.optional_size stat + 3) acquired)
      (both (quiet_settling stat 2 _) (quiet_dropping (1 + (n + (view.optional_size stat + control.cell_size e d)))))))))))))

  quiet_on_cell : (d : t.Designator) (stat : t.OptionalResult) (x : a.AskAct) → IsFree (a.ask x) → Ordered (control.on_cell e d stat x)
  quiet_on_cell d stat x h =
      both (quiet_cell d) (both (quiet_place e stat) (both (quiet_there d) (both (quiet_copying (view.optional_size stat) 2) (both (acts h refl (one tt refl))
      (both (quiet_selector_status (control.cell_stat e d) (view.optional_size stat + 4))
      (both (quiet_settling stat 1 []) (quiet_dropping (view.optional_size stat + control.cell_size e d))))))))

  quiet_event_wait : (d : t.Designator) (until : t.OptionalExpression) (stat : t.OptionalResult) (order : WrittenOrder) → Ordered (control.event_wait e d until stat order)
  quiet_event_wait d until stat order =
      both (quiet_cell d) (both (one tt refl)
      (both (quiet_put_down order (control.or_number e until (pushing (pos 1))) 1 (view.optional_place e stat) (view.optional_size stat) (quiet_or until (pushing (pos 1)) (one tt refl)) (quiet_place e stat))
      (both (quiet_copying (view.optional_size stat) 2) (both (one tt refl) (both (quiet_settling stat 1 []) (quiet_dropping (view.optional_size stat + 2)))))))

  quiet_critical : (n : ℕ) (stat : t.OptionalResult) → Ordered (control.critical e n stat)
  quiet_critical n stat = both (quiet_place e stat) (both (one tt refl) (both (quiet_settling stat 1 _) (quiet_dropping (view.optional_size stat))))

  change_team_ordered : (x : t.Expression) (stat : t.OptionalResult) → Ordered (control.change_team e x stat)
  change_team_ordered x stat =
      let tail : Ordered (copying (view.optional_size stat + 1) 1 ▸ doing (Act.team a.make_current ∷ []) ▸ settling stat 1 [] ▸ dropping (view.optional_size stat + 1)) =
      both (quiet_copying (view.optional_size stat + 1) 1) (both (one tt refl) (settled stat 1 [] (view.optional_size stat + 1))) in
      let rounds = change_team_round (view.optional_size stat) (PartsKeep
      (copying (view.optional_size stat + 1) 1 ▸ doing (Act.team a.make_current ∷ []) ▸ settling stat 1 [] ▸ dropping (view.optional_size stat + 1)) IsClear) tail.kept in
      both (quiet_expression e x) (both (one tt refl) (both (quiet_place e stat) (record { kept = rounds; steady = copied_steady (view.optional_size stat) a.child_team a.arrive_change tail.steady })))

  quiet_deleting : (ns : List ℕ) (c : ℕ) → Ordered (control.deleting e ns c)
  quiet_deleting [] c = no_parts
  quiet_deleting (n ∷ ns) c =
      both (either_way (control.is_allocatable_in e e.program.main.variables n) (control.deleting_one e c) end_parts (both (one tt refl) (fork
      (acts tt refl (one tt refl)) no_parts no_parts)) no_parts) (quiet_deleting ns (suc c))

  end_team_ordered : (stat : t.OptionalResult) → Ordered (control.end_team e stat)
  end_team_ordered stat =
      both (quiet_place e stat) (both end_rounds (both (quiet_deleting e.program.coarrays 0) (both (one tt refl) (settled stat 1 [] (view.optional_size stat)))))

  -- ---- intrinsic subroutines
  abbrev QuietPieces : List Piece → Type 0
  QuietPieces [] = Unit {0}
  QuietPieces (p ∷ ps) = Ordered p.parts × QuietPieces ps

  quiet_piece : (ps : List Piece) (d : ℕ) → QuietPieces ps → Ordered (piece_of ps d).parts
  quiet_piece [] d h = no_parts
  quiet_piece (p ∷ ps) zero h = h.0
  quiet_piece (p ∷ ps) (suc d) h = quiet_piece ps d h.1

  quiet_evaluating : (ps : List Piece) (ds : List ℕ) → QuietPieces ps → Ordered (evaluating ps ds)
  quiet_evaluating ps [] h = no_parts
  quiet_evaluating ps (d ∷ ds) h = both (quiet_piece ps d h) (quiet_evaluating ps ds h)

  quiet_fetching : (ps : List Piece) (ds : List ℕ) (d above n : ℕ) → Ordered (fetching ps ds d above n)
  quiet_fetching ps ds d above n = quiet_copying (depth ps ds d + above) n

  quiet_succeeded : (n : ℕ) → Ordered (sub.succeeded n)
  quiet_succeeded n = both (quiet_copying n 1) (acts tt refl (one tt refl))

  quiet_fetched : (r : t.OptionalResult) (n : ℕ) → Ordered (sub.fetched e r n)
  quiet_fetched t.no_result n = no_parts
  quiet_fetched (t.result r) n = both (quiet_succeeded 0) (fork (both (quiet_copying 1 1) (quiet_storing n r)) no_parts no_parts)

  quiet_atomic : (ps : List Piece) (ds : List ℕ) (atom : ℕ) (d : t.Designator) (op : AtomicOp) (k : Kind) (x y : Parts Act) (old : t.OptionalResult) (rd : ℕ) (stat : t.OptionalResult) (sd : ℕ)
      → QuietPieces ps → Ordered x → Ordered y → Ordered (sub.atomic e ps ds atom d op k x y old rd stat sd)
  quiet_atomic ps ds atom d op k x y old rd stat sd h hx hy =
      both (quiet_evaluating ps ds h) (both (quiet_there d) (both (quiet_fetching ps ds atom 0 2) (both hx (both hy (both (acts tt refl (one tt refl))
      (both (quiet_selector_status (control.cell_stat e d) (depth ps ds atom + 5)) (both (quiet_fetched old (depth ps ds rd + 3))
      (both (quiet_settling stat (depth ps ds sd + 2) []) (quiet_dropping (sizes ps ds + 1))))))))))

  quiet_query : (ps : List Piece) (ds : List ℕ) (d : t.Designator) (count : t.ResultVariable) (stat : t.OptionalResult) → QuietPieces ps → Ordered (sub.query e ps ds d count stat)
  quiet_query ps ds d count stat h =
      both (quiet_evaluating ps ds h) (both (quiet_fetching ps ds 0 0 2) (both (one tt refl) (both (one tt refl) (both (quiet_storing (depth ps ds 1 + 1) count)
      (both (one tt refl) (both (quiet_settling stat (depth ps ds 2 + 1) []) (quiet_dropping (sizes ps ds))))))))

  quiet_as_array : (rank : ℕ) (p : Parts Act) → Ordered p → Ordered (sub.as_array e rank p)
  quiet_as_array zero p h = both (one tt refl) (both h (one tt refl))
  quiet_as_array (suc r) p h = both h (one tt refl)

  quiet_cells_of : (rank : ℕ) → Ordered (sub.taking_cells e rank)
  quiet_cells_of zero = no_parts
  quiet_cells_of (suc r) = one tt refl

  either_piece : (b : Bool) (p q : Piece) → Ordered p.parts → Ordered q.parts → Ordered (cond b p q).parts
  either_piece true p q h k = h
  either_piece false p q h k = k

  quiet_collected : (d : t.Designator) (rank : ℕ) → Ordered (sub.collected_piece e d rank).parts
  quiet_collected (t.part (objects.Local v) ss sel) rank =
      let loaded = copying 0 (place_size rank) ▸ doing (a.variable (a.load (scope_of v.home) v.variable rank) ∷ []) in
      either_piece (view.is_scalar ss rank) (record { parts = sub.as_array e 0 (doing (a.variable (a.cell (scope_of v.home) v.variable) ∷ [])); size = 0 })
      (record { parts = view.subscripts e ss ▸ doing (a.bounded (a.section (scope_of v.home) v.variable (view.form_of ss rank)) ∷ []) ▸ sub.as_array e rank loaded; size = place_size rank })
      (both (one tt refl) (both (one tt refl) (one tt refl))) (both (quiet_subscripts e ss) (both (one tt refl) (quiet_as_array rank loaded
      (both (quiet_copying 0 (place_size rank)) (one tt refl)))))
  quiet_collected (t.part (objects.Coarray c) ss sel) rank = both (quiet_subscripts e ss) (both (one tt refl) (quiet_owner e c rank sel))
  quiet_collected (t.part (objects.Constant n) ss sel) rank = no_parts

  quiet_collected_value : (d : t.Designator) (rank : ℕ) (place : Parts Act) → Ordered place → Ordered (sub.collected_value e d rank place)
  quiet_collected_value (t.part (objects.Local v) ss sel) rank place h = no_parts
  quiet_collected_value (t.part (objects.Coarray c) ss sel) rank place h =
      both (quiet_own c (view.is_scalar ss rank) sel) (both h (both (quiet_reading c rank) (both (one tt refl) (both (one tt refl) (quiet_cells_of rank)))))
  quiet_collected_value (t.part (objects.Constant n) ss sel) rank place h = no_parts

  quiet_dropping_collected : (d : t.Designator) → Ordered (sub.dropping_collected e d)
  quiet_dropping_collected (t.part (objects.Local v) ss sel) = one tt refl
  quiet_dropping_collected (t.part (objects.Coarray c) ss sel) = no_parts
  quiet_dropping_collected (t.part (objects.Constant n) ss sel) = no_parts

  quiet_collected_put : (d : t.Designator) (k : Kind) (rank : ℕ) (place : Parts Act) → Ordered place → Ordered (sub.collected_put e d k rank place)
  quiet_collected_put (t.part (objects.Local v) ss sel) k rank place h =
      either_way (view.is_scalar ss rank) (doing (a.stack a.only_element ∷ a.variable (a.store (scope_of v.home) v.variable) ∷ []))
      (place ▸ doing (a.variable (a.put_array (scope_of v.home) v.variable rank) ∷ [])) (acts tt refl (one tt refl)) (both h (one tt refl))
  quiet_collected_put (t.part (objects.Coarray c) ss sel) k rank place h = both h (both (quiet_writing 1 c rank k) (both (one tt refl) (one tt refl)))
  quiet_collected_put (t.part (objects.Constant n) ss sel) k rank place h = no_parts

  combined_ordered : (x : s.Collected) (op : GatherOp) (ps : List Piece) (ds : List ℕ) (root comes : Parts Act) → Ordered root → Ordered comes → Ordered (sub.combined e x op ps ds root comes)
  combined_ordered x op ps ds root comes h k =
      both (quiet_collected_value x.variable x.rank (sub.place_in e x ps ds 0) (quiet_fetching ps ds 0 0 _)) (both h (both (collects op x.kind) (both (quiet_succeeded 0) (fork (both k
      (fork (quiet_collected_put x.variable x.kind x.rank (sub.place_in e x ps ds 1) (quiet_fetching ps ds 0 1 _)) (one tt refl) no_parts)) (one tt refl) no_parts))))

  rooted_ordered : (x : s.Collected) (ps : List Piece) (ds : List ℕ) (p : Parts Act) → Ordered p → Ordered (sub.rooted e x ps ds p)
  rooted_ordered x ps ds p h = both (quiet_fetching ps ds 1 0 1) (both (one tt refl) (fork h (both (quiet_dropping_collected x.variable) (one tt refl)) no_parts))

  quiet_root_test : (ps : List Piece) (ds : List ℕ) → Ordered (sub.root_test e ps ds)
  quiet_root_test ps ds = both (quiet_fetching ps ds 1 1 1) (one tt refl)

  quiet_settled : (ps : List Piece) (ds : List ℕ) (stat : t.OptionalResult) → Ordered (sub.settled e ps ds stat)
  quiet_settled ps ds stat = settled stat (depth ps ds 2 + 1) [] (sizes ps ds)

  combine_ordered : (ps : List Piece) (ds : List ℕ) (x : s.Collected) (op : GatherOp) (root : t.OptionalExpression) (stat : t.OptionalResult) → QuietPieces ps → Ordered (sub.combine e ps ds x op root stat)
  combine_ordered ps ds x op t.missing stat h =
      both (quiet_evaluating ps ds h) (both (combined_ordered x op ps ds (pushing (pos 0)) (pushing (pos 1)) (one tt refl) (one tt refl)) (quiet_settled ps ds stat))
  combine_ordered ps ds x op (t.given r) stat h =
      both (quiet_evaluating ps ds h)
      (both (rooted_ordered x ps ds (sub.combined e x op ps ds (fetching ps ds 1 0 1) (sub.root_test e ps ds)) (combined_ordered x op ps ds (fetching ps ds 1 0 1) (sub.root_test e ps ds) (quiet_fetching ps ds 1 0 1) (quiet_root_test ps ds))) (quiet_settled ps ds stat))

  broadcast_ordered : (ps : List Piece) (ds : List ℕ) (x : s.Collected) (stat : t.OptionalResult) → QuietPieces ps → Ordered (sub.broadcast e ps ds x stat)
  broadcast_ordered ps ds x stat h =
      both (quiet_evaluating ps ds h)
      (both (rooted_ordered x ps ds (sub.combined e x gathers.Broadcast ps ds (fetching ps ds 1 0 1) (pushing (pos 1))) (combined_ordered x gathers.Broadcast ps ds (fetching ps ds 1 0 1) (pushing (pos 1)) (quiet_fetching ps ds 1 0 1) (one tt refl))) (quiet_settled ps ds stat))

  quiet_optional_piece : (x : t.OptionalExpression) → Ordered (sub.optional_piece e x).parts
  quiet_optional_piece t.missing = no_parts
  quiet_optional_piece (t.given x) = quiet_expression e x

  subroutine_ordered : (i : s.IntrinsicSubroutine) (ds : List ℕ) → Ordered (sub.subroutine e i (sub.pieces_of e i) ds)
  subroutine_ordered (s.atomic_define d k x stat) ds =
      let ps = sub.pieces_of e (s.atomic_define d k x stat) in
      quiet_atomic ps ds 0 d atomics.Define k (fetching ps ds 1 2 1) (sub.no_operand e) t.no_result 0 stat 2 (quiet_cell d, (quiet_expression e x, (quiet_place e stat, tt))) (quiet_fetching ps ds 1 2 1) (one tt refl)
  subroutine_ordered (s.atomic_ref r d k stat) ds =
      let ps = sub.pieces_of e (s.atomic_ref r d k stat) in
      quiet_atomic ps ds 1 d atomics.Ref k (sub.no_operand e) (sub.no_operand e) (t.result r) 0 stat 2 (quiet_result e r, (quiet_cell d, (quiet_place e stat, tt))) (one tt refl) (one tt refl)
  subroutine_ordered (s.atomic_change c d x stat) ds =
      let ps = sub.pieces_of e (s.atomic_change c d x stat) in
      quiet_atomic ps ds 0 d (sub.change_of c) kinds.I4 (fetching ps ds 1 2 1) (sub.no_operand e) t.no_result 0 stat 2 (quiet_cell d, (quiet_expression e x, (quiet_place e stat, tt))) (quiet_fetching ps ds 1 2 1) (one tt refl)
  subroutine_ordered (s.atomic_fetch c d x old stat) ds =
      let ps = sub.pieces_of e (s.atomic_fetch c d x old stat) in
      quiet_atomic ps ds 0 d (sub.change_of c) kinds.I4 (fetching ps ds 1 2 1) (sub.no_operand e) (t.result old) 2 stat 3 (quiet_cell d, (quiet_expression e x, (quiet_result e old, (quiet_place e stat, tt)))) (quiet_fetching ps ds 1 2 1) (one tt refl)
  subroutine_ordered (s.atomic_cas d k old x y stat) ds =
      let ps = sub.pieces_of e (s.atomic_cas d k old x y stat) in
      quiet_atomic ps ds 0 d atomics.Cas k (fetching ps ds 2 2 1) (fetching ps ds 3 3 1) (t.result old) 1 stat 4 (quiet_cell d, (quiet_result e old, (quiet_expression e x, (quiet_expression e y, (quiet_place e stat, tt))))) (quiet_fetching ps ds 2 2 1) (quiet_fetching ps ds 3 3 1)
  subroutine_ordered (s.event_query d count stat) ds = quiet_query (sub.pieces_of e (s.event_query d count stat)) ds d count stat (quiet_cell d, (quiet_result e count, (quiet_place e stat, tt)))
  subroutine_ordered (s.combine c x root stat) ds =
      combine_ordered (sub.pieces_of e (s.combine c x root stat)) ds x (sub.combination_of c) root stat (quiet_collected x.variable x.rank, (quiet_optional_piece root, (quiet_place e stat, tt)))
  subroutine_ordered (s.broadcast x root stat) ds = broadcast_ordered (sub.pieces_of e (s.broadcast x root stat)) ds x stat (quiet_collected x.variable x.rank, (quiet_expression e root, (quiet_place e stat, tt)))

  -- ---- ALLOCATE and DEALLOCATE
  quiet_bounds : (bs : List s.AllocatedBounds) → Ordered (alloc.bounds e bs)
  quiet_bounds [] = no_parts
  quiet_bounds (b ∷ bs) = both (quiet_or b.lower (pushing (pos 1)) (one tt refl)) (both (quiet_expression e b.upper) (quiet_bounds bs))

  quiet_object_bounds : (x : s.Allocation) → Ordered (alloc.object_bounds e x)
  quiet_object_bounds (s.allocate_local v type bs) = quiet_bounds bs
  quiet_object_bounds (s.allocate_coarray c bs cs l) = both (quiet_bounds bs) (both (quiet_bounds cs) (quiet_or l (pushing (pos 1)) (one tt refl)))

  quiet_objects_bounds : (xs : List s.Allocation) → Ordered (alloc.objects_bounds e xs)
  quiet_objects_bounds [] = no_parts
  quiet_objects_bounds (x ∷ xs) = both (quiet_object_bounds x) (quiet_objects_bounds xs)

  quiet_planning_one : (x : s.Allocation) (n : ℕ) → Ordered (alloc.planning_one x n)
  quiet_planning_one (s.allocate_local v type bs) n = one tt refl
  quiet_planning_one (s.allocate_coarray c bs cs l) n = one tt refl

  quiet_planning : (xs : List s.Allocation) (n : ℕ) → Ordered (alloc.planning xs n)
  quiet_planning [] n = no_parts
  quiet_planning (x ∷ xs) n = both (quiet_planning_one x (alloc.object_sizes xs + n)) (quiet_planning xs n)

  quiet_making_one : (x : s.Allocation) (n : ℕ) → Ordered (alloc.making_one x n)
  quiet_making_one (s.allocate_local v type bs) n = one tt refl
  quiet_making_one (s.allocate_coarray c bs cs l) n = acts tt refl (one tt refl)

  quiet_making : (xs : List s.Allocation) (n : ℕ) → Ordered (alloc.making xs n)
  quiet_making [] n = no_parts
  quiet_making (x ∷ xs) n = both (quiet_making_one x (alloc.object_sizes xs + n)) (quiet_making xs n)

  quiet_named_once : (xs : List Object) → Ordered (alloc.named_once xs)
  quiet_named_once xs = either_way (alloc.has_twice xs) (doing (a.constant (pos 0) ∷ a.operator a.both ∷ [])) end_parts (acts tt refl (one tt refl)) no_parts

  allocates : (ns : List ℕ) → Ordered (alloc.allocate_round ns)
  allocates [] = one tt refl
  allocates (n ∷ ns) = record { kept = allocate_round (n ∷ ns); steady = round_steady (numbers_steady (n ∷ ns) (a.ask (a.arrive_allocate (length (n ∷ ns)))) refl) }

  deallocates : (ns : List ℕ) → Ordered (alloc.deallocate_round ns)
  deallocates [] = one tt refl
  deallocates (n ∷ ns) = record { kept = deallocate_round (n ∷ ns); steady = round_steady (numbers_steady (n ∷ ns) (a.ask (a.arrive_deallocate (length (n ∷ ns)))) refl) }

  quiet_is_allocated : (x : Object) → Ordered (alloc.is_allocated x)
  quiet_is_allocated (objects.Local v) = acts tt refl (one tt refl)
  quiet_is_allocated (objects.Coarray c) = acts tt refl (one tt refl)
  quiet_is_allocated (objects.Constant n) = no_parts

  quiet_are_allocated : (xs : List Object) → Ordered (alloc.are_allocated xs)
  quiet_are_allocated [] = no_parts
  quiet_are_allocated (x ∷ xs) = both (quiet_is_allocated x) (quiet_are_allocated xs)

  quiet_freeing_one : (x : Object) → Ordered (alloc.freeing_one x)
  quiet_freeing_one (objects.Local v) = one tt refl
  quiet_freeing_one (objects.Coarray c) = acts tt refl (one tt refl)
  quiet_freeing_one (objects.Constant n) = no_parts

  quiet_freeing : (xs : List Object) → Ordered (alloc.freeing xs)
  quiet_freeing [] = no_parts
  quiet_freeing (x ∷ xs) = both (quiet_freeing_one x) (quiet_freeing xs)

  allocate_ordered : (xs : List s.Allocation) (stat : t.OptionalResult) → Ordered (alloc.allocate e xs stat)
  allocate_ordered xs stat =
      both (quiet_objects_bounds xs) (both (quiet_place e stat) (both (one tt refl) (both (quiet_planning xs (view.optional_size stat)) (both (one tt refl)
      (both (quiet_named_once (alloc.objects_of xs)) (both (fork
      (both (quiet_making xs (view.optional_size stat)) (allocates (alloc.coarrays_in (alloc.objects_of xs)))) (one tt refl) no_parts) (settled stat 1 [] (alloc.object_sizes xs + view.optional_size stat))))))))

  deallocate_ordered : (xs : List Object) (stat : t.OptionalResult) → Ordered (alloc.deallocate e xs stat)
  deallocate_ordered xs stat =
      both (quiet_place e stat) (both (one tt refl) (both (quiet_are_allocated xs) (both (quiet_named_once xs) (both (fork
      (both (deallocates (alloc.coarrays_in xs)) (quiet_freeing xs)) (one tt refl) no_parts) (settled stat 1 [] (view.optional_size stat))))))

  -- ---- forms of statements
  condition : (x : t.Expression) → Ordered (released (view.expression e x))
  condition x = free_again (view.expression e x) (quiet_expression e x)

  start_ordered : (v : Local) (k : Kind) (first last : t.Expression) (step : t.OptionalExpression) (x : ℕ) → Ordered (do_start e v k first last step x)
  start_ordered v k first last step x =
      both (both (quiet_expression e first) (one tt refl)) (both (both (quiet_expression e last) (one tt refl)) (both (both (quiet_or step (pushing (pos 1)) (one tt refl)) (one tt refl)) (one tt refl)))

  quiet_range_then : (x : ℕ) (r : CaseRange) (rest : List Act) → Ordered (doing rest) → Ordered (doing (in_range x r ++ rest))
  quiet_range_then x (ranges.Value v) rest h = acts tt refl (acts tt refl (acts tt refl h))
  quiet_range_then x (ranges.AtLeast v) rest h = acts tt refl (acts tt refl (acts tt refl h))
  quiet_range_then x (ranges.AtMost v) rest h = acts tt refl (acts tt refl (acts tt refl h))
  quiet_range_then x (ranges.Between v w) rest h = acts tt refl (acts tt refl (acts tt refl (acts tt refl (acts tt refl (acts tt refl (acts tt refl h))))))

  quiet_more_ranges : (x : ℕ) (rs : List CaseRange) → Ordered (doing (in_more_ranges x rs))
  quiet_more_ranges x [] = no_parts
  quiet_more_ranges x (r ∷ rs) = quiet_range_then x r (a.operator a.any_of ∷ in_more_ranges x rs) (acts tt refl (quiet_more_ranges x rs))

  quiet_ranges : (x : ℕ) (rs : List CaseRange) → Ordered (doing (in_ranges x rs))
  quiet_ranges x [] = one tt refl
  quiet_ranges x (r ∷ rs) = quiet_range_then x r (in_more_ranges x rs) (quiet_more_ranges x rs)

  stop_ordered : (code : t.OptionalExpression) (x : a.AskAct) → IsFree (a.ask x) → Ordered (control.or_number e code (pushing (pos 0)) ▸ doing (a.ask x ∷ []))
  stop_ordered code x h = both (quiet_or code (pushing (pos 0)) (one tt refl)) (acts h refl no_parts)

  mutual
    form_ordered : (l : ℕ) (f : s.StatementForm) → FormOrdered (form e l f)
    form_ordered l (s.assign d type rank x) = free_again (assignments.assignment e d type rank x) (both (quiet_expression e x) (quiet_assigned d (kind_of type) rank (assignments.kind_in x) (assignments.rank_in x)))
    form_ordered l (s.assign_images v k images which) = free_again (assignments.images_assignment e v images which) (both (quiet_listed_team which) (both (quiet_listing images) (one tt refl)))
    form_ordered l (s.call n es) =
        free_again (called e n (procedure_in e n) es)
        (both (quiet_arguments e (procedure_in e n).unit.variables (procedure_in e n).dummies es) (quiet_calling n (procedure_in e n) (view.passed (procedure_in e n).unit.variables (procedure_in e n).dummies es)))
    form_ordered l (s.call_intrinsic i w) = free_again (sub.intrinsic_call e i w) (subroutine_ordered i (written_dummies w))
    form_ordered l (s.print f items) = free_again (assignments.output e f items) (both (quiet_beginning f) (both (quiet_items items) (one tt refl)))
    form_ordered l (s.exit n) = tt
    form_ordered l (s.cycle n) = tt
    form_ordered l s.return = tt
    form_ordered l (s.stop code) = stop_ordered code a.stop tt
    form_ordered l (s.error_stop code) = stop_ordered code a.error_stop tt
    form_ordered l s.fail_image = one tt refl
    form_ordered l (s.allocate xs stat) = free_again (alloc.allocate e xs stat) (allocate_ordered xs stat)
    form_ordered l (s.deallocate xs stat) = free_again (alloc.deallocate e xs stat) (deallocate_ordered xs stat)
    form_ordered l (s.sync_all stat) = free_again (control.sync_all e stat) (sync_all_ordered stat)
    form_ordered l (s.sync_memory stat) = free_again (control.sync_memory e stat) (both (quiet_place e stat) (both (one tt refl) (both (one tt refl) (settled stat 1 [] (view.optional_size stat)))))
    form_ordered l (s.sync_images is stat) = free_again (control.sync_images e is stat) (sync_images_ordered is stat)
    form_ordered l (s.sync_team x stat) = free_again (control.sync_team e x stat) (sync_team_ordered x stat)
    form_ordered l (s.form_team x v index stat order) = free_again (control.form_team e x v index stat order) (form_team_ordered x v index stat order)
    form_ordered l (s.lock d acquired stat order) = free_again (control.lock e d acquired stat order) (quiet_lock d acquired stat order)
    form_ordered l (s.unlock d stat) = free_again (control.unlock e d stat) (quiet_on_cell d stat (a.unlock (control.cell_coarray e d)) tt)
    form_ordered l (s.event_post d stat) = free_again (control.event_post e d stat) (quiet_on_cell d stat (a.post (control.cell_coarray e d)) tt)
    form_ordered l (s.event_wait d until stat order) = free_again (control.event_wait e d until stat order) (quiet_event_wait d until stat order)
    form_ordered l (s.if x body others other) = (no_parts, (condition x, steps_ordered body, else_ifs_ordered others (steps e other) (steps_ordered other)))
    form_ordered l (s.do_counted v k first last step n body) =
        let x = hidden_cell e n in
        (free_again (do_start e v k first last step x) (start_ordered v k first last step x), one tt refl, one tt refl, steps_ordered body)
    form_ordered l (s.do_while x body) = (no_parts, no_parts, condition x, steps_ordered body)
    form_ordered l (s.do_forever body) = (no_parts, no_parts, one tt refl, steps_ordered body)
    form_ordered l (s.select x n cs other) = (both (condition x) (one tt refl), cases_ordered (hidden_cell e n) cs (steps e other) (steps_ordered other))
    form_ordered l (s.critical n stat body m) = (free_again (control.critical e n stat) (quiet_critical n stat), steps_ordered body, one tt refl)
    form_ordered l (s.change_team x stat body end_stat m) =
        (free_again (control.change_team e x stat) (change_team_ordered x stat), steps_ordered body, free_again (control.end_team e end_stat) (end_team_ordered end_stat))

    pub steps_ordered : (ss : s.Statements) → StepsOrdered (steps e ss)
    steps_ordered s.no_statements = tt
    steps_ordered (s.more_statements (s.on_line f l) ss) = (form_ordered l f, steps_ordered ss)

    else_ifs_ordered : (os : s.ElseIfs) (other : Steps Act) → StepsOrdered other → BranchesOrdered (else_ifs e os other)
    else_ifs_ordered s.no_else_ifs other h = h
    else_ifs_ordered (s.more_else_ifs x body l others) other h = (condition x, steps_ordered body, else_ifs_ordered others other h)

    cases_ordered : (x : ℕ) (cs : s.Cases) (other : Steps Act) → StepsOrdered other → BranchesOrdered (cases e x cs other)
    cases_ordered x s.no_cases other h = h
    cases_ordered x (s.more_cases rs body l others) other h = (quiet_ranges x rs, steps_ordered body, cases_ordered x others other h)

-- the bodies of a program
procedures_ordered : (p : s.Program) (qs : List s.Procedure) → BodiesOrdered (procedure_bodies p qs)
procedures_ordered p [] = tt
procedures_ordered p (q ∷ qs) = (steps_ordered (environment_of p host q.unit) q.unit.statements, procedures_ordered p qs)

pub bodies_ordered : (p : s.Program) → BodiesOrdered (bodies p)
bodies_ordered p = (steps_ordered (environment_of p here p.main) p.main.statements, procedures_ordered p p.procedures)
