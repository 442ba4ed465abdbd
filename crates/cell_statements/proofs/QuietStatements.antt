-- Each statement but LOCK, UNLOCK, EVENT POST, EVENT WAIT, a call of EVENT_QUERY or of an atomic subroutine and a
-- collective on a coarray asks for no lock, no event and no atom, and reads what may be read alone.
use Rattle.std.proofs.Common.{ℕ, zero, suc, ◌+◌, Bool, true, false, cond, List, [], ◌∷◌, ◌++◌, length}
use Rattle.std.specs.Prelude.{ℤ, pos, ◌==◌}
use Rattle.caf_base.specs.declared.value.Kind.{Kind}
use Rattle.caf_base.specs.declared.value.Kind.TheVariants as kinds
use Rattle.caf_events.specs.declared.round.GatherOp.{GatherOp}
use Rattle.caf_events.specs.declared.round.GatherOp.TheVariants as gathers
use Rattle.walk_theory.specs.Syntax.{Parts, end_parts}
use Rattle.checked_tree.specs.declared.data.Object.{Object}
use Rattle.checked_tree.specs.declared.data.Object.TheVariants as objects
use Rattle.checked_tree.specs.declared.data.Local.{Local}
use Rattle.checked_tree.specs.declared.expr.WrittenOrder.{WrittenOrder}
use Rattle.checked_tree.specs.declared.expr.WrittenOrder.TheVariants as orders
use Rattle.checked_tree.specs.declared.statement.CaseRange.{CaseRange}
use Rattle.checked_tree.specs.declared.statement.CaseRange.TheVariants as ranges
use Rattle.checked_tree.specs.declared.statement.ListedImages.{ListedImages}
use Rattle.checked_tree.specs.declared.statement.ListedImages.TheVariants as lists
use Rattle.checked_tree.specs.Expressions as t
use Rattle.checked_tree.specs.Statements as s
use Rattle.image_acts.specs.Places.{place_size, digits, numbers_of_form}
use Rattle.image_acts.specs.Acts as a
use Rattle.image_acts.specs.Acts.{Act, Scope}
use Rattle.tree_meaning.specs.Environment.{Environment, scope_of}
use Rattle.tree_meaning.specs.Sequences.{◌▸◌, doing, dropping, copying, bringing, pushing, choosing, takes, released, is_one_of}
use Rattle.tree_meaning.specs.Expressions as view
use Rattle.tree_meaning.specs.Settling.{settling, settling_selector}
use Rattle.tree_meaning.specs.Assignments as assignments
use Rattle.tree_meaning.specs.ImageControl as control
use Rattle.tree_meaning.specs.Pieces.{Piece, piece_of, evaluating, sizes, depth, fetching}
use Rattle.tree_meaning.specs.Subroutines as sub
use Rattle.tree_meaning.specs.Allocation as alloc
use Rattle.tree_meaning.specs.Forms.{in_range, in_more_ranges, in_ranges, do_start}
use Rattle.made_code.specs.Ranks as ranks
use Rattle.cell_walks.proofs.Acts.{IsFree}
use Rattle.cell_walks.proofs.Quieting.{making, freeing, Safe, no_parts, one, acts, both, fork, either_way}
use Rattle.cell_statements.specs.Reading.{ExpressionReads, OptionalReads, PartReads, PlaceReads, StatReads, ItemsRead, AllBoundsRead, AllocationReads, AllocationsRead, ImagesRead, SubroutineReads}
use Rattle.cell_statements.proofs.Quiet.{quiet_dropping, quiet_copying, quiet_bringing, quiet_storing, quiet_status, quiet_own, quiet_expression, quiet_ranked, quiet_subscripts, quiet_result, quiet_place, quiet_owner}

pub free_again : {readable : ℕ → Bool} (p : Parts Act) → Safe readable p → Safe readable (released p)
free_again p h = either_way (takes p) (p ▸ doing (a.stack a.release ∷ [])) p (both h (one tt)) h

-- ---- rounds, in which an arrival and a departure stand
rounded : {readable : ℕ → Bool} {p : Parts Act} → Safe readable p → Safe readable (control.round p)
rounded h = both (one tt) (both h (acts tt (one tt)))

collects : {readable : ℕ → Bool} (op : GatherOp) (k : Kind) → Safe readable (doing (a.ask (a.gather op k) ∷ a.ask a.take ∷ []))
collects op k = acts tt (one tt)

pairs : {readable : ℕ → Bool} → Safe readable (doing (a.ask a.pair ∷ a.ask a.unpair ∷ []))
pairs = acts tt (one tt)

quiet_numbers : {readable : ℕ → Bool} (ns : List ℕ) (x : Act) → IsFree x → Safe readable (doing (alloc.numbers ns ++ x ∷ []))
quiet_numbers [] x f = one f
quiet_numbers (n ∷ ns) x f = acts tt (quiet_numbers ns x f)

-- ---- statuses
quiet_one_of : {readable : ℕ → Bool} (ss : List ℤ) → Safe readable (is_one_of ss)
quiet_one_of [] = no_parts
quiet_one_of (z ∷ zs) = both (acts tt (acts tt (acts tt (one tt)))) (quiet_one_of zs)

pub quiet_settling : {readable : ℕ → Bool} (stat : t.OptionalResult) (n : ℕ) (ss : List ℤ) → Safe readable (settling stat n ss)
quiet_settling t.no_result n ss = both (acts tt (acts tt (one tt))) (both (quiet_one_of ss) (fork (one tt) (one tt) no_parts))
quiet_settling (t.result r) n ss = quiet_storing n r

pub quiet_selector_status : {readable : ℕ → Bool} (stat : t.OptionalResult) (n : ℕ) → Safe readable (settling_selector stat n)
quiet_selector_status t.no_result n = no_parts
quiet_selector_status (t.result r) n = both (one tt) (both (acts tt (one tt)) (both (fork (one tt) (one tt) no_parts) (quiet_storing n r)))

abbrev Settled : (ℕ → Bool) → t.OptionalResult → ℕ → List ℤ → ℕ → Type 0
Settled readable stat n ss m = Safe readable (settling stat n ss ▸ dropping m)

pub settled : {readable : ℕ → Bool} (stat : t.OptionalResult) (n : ℕ) (ss : List ℤ) (m : ℕ) → Settled readable stat n ss m
settled stat n ss m = both (quiet_settling stat n ss) (quiet_dropping m)

pub quiet_put_down : {readable : ℕ → Bool} (o : WrittenOrder) (p : Parts Act) (m : ℕ) (q : Parts Act) (n : ℕ) → Safe readable p → Safe readable q → Safe readable (control.put_down_as_written o p m q n)
quiet_put_down orders.Same p m q n h k = both h k
quiet_put_down orders.Reversed p m q n h k = both k (both h (quiet_bringing m n))

-- ---- assignment and output
quiet_fitting : {readable : ℕ → Bool} (from to : Kind) (rank depth : ℕ) → Safe readable (assignments.fitting from to rank depth)
quiet_fitting from to zero depth = either_way (assignments.narrows from to) (doing (a.operator (a.fits to depth) ∷ [])) end_parts (one tt) no_parts
quiet_fitting from to (suc r) depth = either_way (assignments.narrows from to) (doing (a.operator (a.fits_each to) ∷ [])) end_parts (one tt) no_parts

quiet_fitting_section : {readable : ℕ → Bool} (from to : Kind) (r : ℕ) (x : Scope) (n f rank : ℕ) → Safe readable (assignments.fitting_section from to r x n f rank)
quiet_fitting_section from to r x n f rank =
    either_way (assignments.narrows from to) (doing (a.bounded (a.is_there x n) ∷ []) ▸ choosing (assignments.sectioning x n f ▸ assignments.fitting from to r (place_size rank))
    (assignments.fitting from to r (numbers_of_form (digits f)) ▸ assignments.sectioning x n f)) (assignments.sectioning x n f) (both (one tt) (fork
    (both (one tt) (quiet_fitting from to r (place_size rank))) (both (quiet_fitting from to r (numbers_of_form (digits f))) (one tt)) no_parts)) (one tt)

quiet_agreeing : {readable : ℕ → Bool} (r depth rank : ℕ) → Safe readable (assignments.agreeing r depth rank)
quiet_agreeing zero depth rank = no_parts
quiet_agreeing (suc r) depth rank = one tt

quiet_putting : {readable : ℕ → Bool} (r : ℕ) (x : Scope) (n rank : ℕ) → Safe readable (assignments.putting r x n rank)
quiet_putting zero x n rank = one tt
quiet_putting (suc r) x n rank = one tt

quiet_written : {readable : ℕ → Bool} (r c rank : ℕ) (k : Kind) → Safe readable (assignments.written r c rank k)
quiet_written zero c rank k = one tt
quiet_written (suc r) c rank k = one tt

quiet_dropping_value : {readable : ℕ → Bool} (r : ℕ) → Safe readable (assignments.dropping_value r)
quiet_dropping_value zero = one tt
quiet_dropping_value (suc r) = one tt

quiet_writing : {readable : ℕ → Bool} (r c rank : ℕ) (k : Kind) → Safe readable (assignments.writing r c rank k)
quiet_writing r c zero k = quiet_written r c 0 k
quiet_writing r c (suc n) k = both (one tt) (fork (quiet_written r c (suc n) k) (both (quiet_dropping (place_size (suc n) + 1)) (both (quiet_dropping_value r) (one tt))) no_parts)

quiet_lifting : {readable : ℕ → Bool} (r size place : ℕ) → Safe readable (assignments.lifting r size place)
quiet_lifting zero size place = either_way (size == 0) end_parts (copying (place + size) 1 ▸ bringing 1 place) no_parts (both (quiet_copying (place + size) 1) (quiet_bringing 1 place))
quiet_lifting (suc r) size place = no_parts

module _ (readable : ℕ → Bool) (e : Environment) where
  abbrev Quiet : Parts Act → Type 0
  Quiet p = Safe readable p

  pub quiet_assigned : (d : t.Designator) (k : Kind) (rank : ℕ) (from : Kind) (r : ℕ) (x : t.Expression) → ranks.IsAssigned e.program.procedures d rank x → PlaceReads readable d → Quiet (assignments.assigned e d k rank from r)
  quiet_assigned (t.part (objects.Local v) ss sel) k rank from r (t.typed f type q) h w =
      either_way (view.is_scalar ss rank) (assignments.fitting from k 0 0 ▸ doing (a.variable (a.store (scope_of v.home) v.variable) ∷ []))
      (view.subscripts e ss ▸ assignments.fitting_section from k r (scope_of v.home) v.variable (view.form_of ss rank) rank ▸ assignments.agreeing r 0 rank ▸ assignments.putting r (scope_of v.home) v.variable rank)
      (both (quiet_fitting from k 0 0) (one tt)) (both (quiet_subscripts readable e ss h.1 w.0) (both (quiet_fitting_section from k r (scope_of v.home) v.variable (view.form_of ss rank) rank)
      (both (quiet_agreeing r 0 rank) (quiet_putting r (scope_of v.home) v.variable rank))))
  quiet_assigned (t.part (objects.Coarray c) ss sel) k rank from r (t.typed f type q) h w =
      both (quiet_subscripts readable e ss h.1.0 w.0) (both (one tt) (both (quiet_owner readable e c rank sel h.1.2 w.1) (both (quiet_lifting r (view.optional_size (view.stat_of sel)) (place_size rank + 1))
      (both (quiet_fitting from k r (place_size rank + 1)) (both (quiet_own c (view.is_scalar ss rank) sel) (both (quiet_agreeing r 1 rank) (both (quiet_writing r c rank k)
      (both (one tt) (both (quiet_status 1 (view.stat_of sel)) (quiet_dropping (assignments.left_over r (view.optional_size (view.stat_of sel)))))))))))))
  quiet_assigned (t.part (objects.Constant n) ss sel) k rank from r x h w = no_parts

  pub quiet_listing : (l : ListedImages) → Quiet (assignments.listing e l)
  quiet_listing lists.Failed = acts tt (one tt)
  quiet_listing lists.Stopped = acts tt (one tt)

  pub quiet_listed_team : (x : t.OptionalExpression) → ranks.IsOptionalScalar e.program.procedures x → OptionalReads readable x → Quiet (assignments.listed_team e x)
  quiet_listed_team t.missing h w = one tt
  quiet_listed_team (t.given x) h w = both (quiet_ranked readable e x 0 h w) (one tt)

  quiet_printed : (k : Kind) (r : ℕ) → Quiet (assignments.printed e k r)
  quiet_printed kinds.L4 zero = one tt
  quiet_printed kinds.I4 zero = one tt
  quiet_printed kinds.I8 zero = one tt
  quiet_printed kinds.L4 (suc r) = one tt
  quiet_printed kinds.I4 (suc r) = one tt
  quiet_printed kinds.I8 (suc r) = one tt

  pub quiet_items : (xs : List s.Item) → ranks.AreItems e.program.procedures xs → ItemsRead readable xs → Quiet (assignments.items e xs)
  quiet_items [] h w = no_parts
  quiet_items (s.literal n ∷ xs) h w = both (one tt) (quiet_items xs h.1 w)
  quiet_items (s.value x ∷ xs) h w = both (both (quiet_expression readable e x h.0 w.0) (quiet_printed (assignments.kind_in x) (assignments.rank_in x))) (quiet_items xs h.1 w.1)

  pub quiet_beginning : (f : s.Format) → Quiet (assignments.beginning e f)
  quiet_beginning s.free = one tt
  quiet_beginning (s.written n ds) = one tt

  -- ---- image control
  pub quiet_or : (x : t.OptionalExpression) (p : Parts Act) → Quiet p → ranks.IsOptionalScalar e.program.procedures x → OptionalReads readable x → Quiet (control.or_number e x p)
  quiet_or t.missing p g h w = g
  quiet_or (t.given x) p g h w = quiet_ranked readable e x 0 h w

  quiet_index_set : (r : ℕ) (x : t.Expression) → ranks.IsRanked e.program.procedures x → ExpressionReads readable x → Quiet (control.index_set e r x)
  quiet_index_set zero x h w = both (one tt) (both (quiet_expression readable e x h w) (one tt))
  quiet_index_set (suc r) x h w = quiet_expression readable e x h w

  quiet_image_set : (is : s.ImageSet) → ranks.AreImages e.program.procedures is → ImagesRead readable is → Quiet (control.image_set e is)
  quiet_image_set s.all_images h w = one tt
  quiet_image_set (s.images x) h w = quiet_index_set (assignments.rank_in x) x h w

  pub quiet_cell : (d : t.Designator) → ranks.IsCell e.program.procedures d → PlaceReads readable d → Quiet (control.cell e d)
  quiet_cell (t.part (objects.Coarray c) ss sel) h w = both (quiet_subscripts readable e ss h.0 w.0) (both (one tt) (quiet_owner readable e c 0 sel h.2 w.1))
  quiet_cell (t.part (objects.Local v) ss sel) h w = no_parts
  quiet_cell (t.part (objects.Constant n) ss sel) h w = no_parts

  pub quiet_there : (d : t.Designator) → Quiet (control.cell_there e d)
  quiet_there (t.part (objects.Coarray c) ss sel) = quiet_own c (view.is_scalar ss 0) sel
  quiet_there (t.part (objects.Local v) ss sel) = no_parts
  quiet_there (t.part (objects.Constant n) ss sel) = no_parts

  abbrev IsStat : t.OptionalResult → Type 0
  IsStat stat = ranks.IsOptionalResult e.program.procedures stat

  pub sync_all_quiet : (stat : t.OptionalResult) → IsStat stat → StatReads readable stat → Quiet (control.sync_all e stat)
  sync_all_quiet stat h w = both (quiet_place readable e stat h w) (both (rounded (one tt)) (settled stat 1 [] (view.optional_size stat)))

  pub sync_images_quiet : (is : s.ImageSet) (stat : t.OptionalResult) → ranks.AreImages e.program.procedures is → IsStat stat → ImagesRead readable is → StatReads readable stat → Quiet (control.sync_images e is stat)
  sync_images_quiet is stat h g w r =
      both (quiet_image_set is h w) (both (quiet_place readable e stat g r) (both (one tt) (both (fork pairs (both (one tt) (one tt)) no_parts) (settled stat 1 [] (view.optional_size stat)))))

  pub sync_team_quiet : (x : t.Expression) (stat : t.OptionalResult) → ranks.IsOfRank e.program.procedures x 0 → IsStat stat → ExpressionReads readable x → StatReads readable stat → Quiet (control.sync_team e x stat)
  sync_team_quiet x stat h g w r =
      let k = view.optional_size stat in
      both (quiet_ranked readable e x 0 h w) (both (one tt) (both (quiet_place readable e stat g r) (both (quiet_copying k 1) (both (acts tt (one tt)) (both (quiet_copying k 1) (both (one tt) (settled stat 1 [] (k + 1))))))))

  pub form_team_quiet : (x : t.Expression) (v : Local) (index : t.OptionalExpression) (stat : t.OptionalResult) (order : WrittenOrder) → ranks.IsOfRank e.program.procedures x 0 → ranks.IsOptionalScalar e.program.procedures index → IsStat stat
      → ExpressionReads readable x → OptionalReads readable index → StatReads readable stat → Quiet (control.form_team e x v index stat order)
  form_team_quiet x v index stat order h g f w r q =
      both (quiet_ranked readable e x 0 h w)
      (both (quiet_put_down order (control.or_number e index (pushing (pos 0))) 1 (view.optional_place e stat) (view.optional_size stat) (quiet_or index (pushing (pos 0)) (one tt) g r) (quiet_place readable e stat f q))
      (both (rounded (both (quiet_copying (view.optional_size stat + 1) 2) (one tt))) (both (one tt) (settled stat 1 [] (view.optional_size stat + 2)))))

  pub quiet_critical : (n : ℕ) (stat : t.OptionalResult) → IsStat stat → StatReads readable stat → Quiet (control.critical e n stat)
  quiet_critical n stat h w = both (quiet_place readable e stat h w) (both (one tt) (both (quiet_settling stat 1 _) (quiet_dropping (view.optional_size stat))))

  pub change_team_quiet : (x : t.Expression) (stat : t.OptionalResult) → ranks.IsOfRank e.program.procedures x 0 → IsStat stat → ExpressionReads readable x → StatReads readable stat → Quiet (control.change_team e x stat)
  change_team_quiet x stat h g w r =
      let k = view.optional_size stat in
      both (quiet_ranked readable e x 0 h w) (both (one tt) (both (quiet_place readable e stat g r) (both (quiet_copying k 1) (both (acts tt (one tt)) (both (quiet_copying k 1) (both (one tt)
      (both (quiet_copying (k + 1) 1) (both (one tt) (settled stat 1 [] (k + 1))))))))))

  quiet_deleting : (ns : List ℕ) (c : ℕ) → Quiet (control.deleting e ns c)
  quiet_deleting [] c = no_parts
  quiet_deleting (n ∷ ns) c =
      both (either_way (control.is_allocatable_in e e.program.main.variables n) (control.deleting_one e c) end_parts (both (one tt) (fork
      (freeing c) no_parts no_parts)) no_parts) (quiet_deleting ns (suc c))

  pub end_team_quiet : (stat : t.OptionalResult) → IsStat stat → StatReads readable stat → Quiet (control.end_team e stat)
  end_team_quiet stat h w =
      both (quiet_place readable e stat h w) (both (rounded (one tt)) (both (quiet_deleting e.program.coarrays 0) (both (one tt) (settled stat 1 [] (view.optional_size stat)))))

  -- ---- intrinsic subroutines
  abbrev pub QuietPieces : List Piece → Type 0
  QuietPieces [] = Unit {0}
  QuietPieces (p ∷ ps) = Quiet p.parts × QuietPieces ps

  pub quiet_piece : (ps : List Piece) (d : ℕ) → QuietPieces ps → Quiet (piece_of ps d).parts
  quiet_piece [] d h = no_parts
  quiet_piece (p ∷ ps) zero h = h.0
  quiet_piece (p ∷ ps) (suc d) h = quiet_piece ps d h.1

  pub quiet_evaluating : (ps : List Piece) (ds : List ℕ) → QuietPieces ps → Quiet (evaluating ps ds)
  quiet_evaluating ps [] h = no_parts
  quiet_evaluating ps (d ∷ ds) h = both (quiet_piece ps d h) (quiet_evaluating ps ds h)

  pub quiet_fetching : (ps : List Piece) (ds : List ℕ) (d above n : ℕ) → Quiet (fetching ps ds d above n)
  quiet_fetching ps ds d above n = quiet_copying (depth ps ds d + above) n

  quiet_succeeded : (n : ℕ) → Quiet (sub.succeeded n)
  quiet_succeeded n = both (quiet_copying n 1) (acts tt (one tt))

  pub quiet_fetched : (r : t.OptionalResult) (n : ℕ) → Quiet (sub.fetched e r n)
  quiet_fetched t.no_result n = no_parts
  quiet_fetched (t.result r) n = both (quiet_succeeded 0) (fork (both (quiet_copying 1 1) (quiet_storing n r)) no_parts no_parts)

  quiet_as_array : (rank : ℕ) (p : Parts Act) → Quiet p → Quiet (sub.as_array e rank p)
  quiet_as_array zero p h = both (one tt) (both h (one tt))
  quiet_as_array (suc r) p h = both h (one tt)

  quiet_cells_of : (rank : ℕ) → Quiet (sub.taking_cells e rank)
  quiet_cells_of zero = no_parts
  quiet_cells_of (suc r) = one tt

  either_piece : (b : Bool) (p q : Piece) → Quiet p.parts → Quiet q.parts → Quiet (cond b p q).parts
  either_piece true p q h k = h
  either_piece false p q h k = k

  pub quiet_collected : (d : t.Designator) (rank : ℕ) → ranks.IsCollected e.program.procedures d rank → PlaceReads readable d → Quiet (sub.collected_piece e d rank).parts
  quiet_collected (t.part (objects.Local v) ss sel) rank h w =
      let loaded = copying 0 (place_size rank) ▸ doing (a.variable (a.load (scope_of v.home) v.variable rank) ∷ []) in
      either_piece (view.is_scalar ss rank) (record { parts = sub.as_array e 0 (doing (a.variable (a.cell (scope_of v.home) v.variable) ∷ [])); size = 0 })
      (record { parts = view.subscripts e ss ▸ doing (a.bounded (a.section (scope_of v.home) v.variable (view.form_of ss rank)) ∷ []) ▸ sub.as_array e rank loaded; size = place_size rank })
      (both (one tt) (both (one tt) (one tt))) (both (quiet_subscripts readable e ss h.0 w.0) (both (one tt) (quiet_as_array rank loaded
      (both (quiet_copying 0 (place_size rank)) (one tt)))))
  quiet_collected (t.part (objects.Coarray c) ss t.no_selector) rank h w = both (quiet_subscripts readable e ss h.0 w.0) (both (one tt) (one tt))
  quiet_collected (t.part (objects.Coarray c) ss (t.selector cs which stat)) rank h w = absurd h
  quiet_collected (t.part (objects.Constant n) ss sel) rank h w = no_parts

  quiet_dropping_collected : (d : t.Designator) → Quiet (sub.dropping_collected e d)
  quiet_dropping_collected (t.part (objects.Local v) ss sel) = one tt
  quiet_dropping_collected (t.part (objects.Coarray c) ss sel) = no_parts
  quiet_dropping_collected (t.part (objects.Constant n) ss sel) = no_parts

  quiet_collected_put : (d : t.Designator) (k : Kind) (rank : ℕ) (place : Parts Act) → Quiet place → Quiet (sub.collected_put e d k rank place)
  quiet_collected_put (t.part (objects.Local v) ss sel) k rank place h =
      either_way (view.is_scalar ss rank) (doing (a.stack a.only_element ∷ a.variable (a.store (scope_of v.home) v.variable) ∷ []))
      (place ▸ doing (a.variable (a.put_array (scope_of v.home) v.variable rank) ∷ [])) (acts tt (one tt)) (both h (one tt))
  quiet_collected_put (t.part (objects.Coarray c) ss sel) k rank place h = both h (both (quiet_writing 1 c rank k) (both (one tt) (one tt)))
  quiet_collected_put (t.part (objects.Constant n) ss sel) k rank place h = no_parts

  -- behind the values: the round, and the change
  pub quiet_round : (x : s.Collected) (op : GatherOp) (ps : List Piece) (ds : List ℕ) (root comes : Parts Act) → Quiet root → Quiet comes
      → Quiet (root ▸ doing (a.ask (a.gather op x.kind) ∷ a.ask a.take ∷ []) ▸ sub.succeeded 0
      ▸ choosing (comes ▸ choosing (sub.collected_put e x.variable x.kind x.rank (sub.place_in e x ps ds 1)) (doing (a.stack a.drop_array ∷ []))) (doing (a.stack a.drop_array ∷ [])))
  quiet_round x op ps ds root comes h k =
      both h (both (collects op x.kind) (both (quiet_succeeded 0) (fork (both k
      (fork (quiet_collected_put x.variable x.kind x.rank (sub.place_in e x ps ds 1) (quiet_fetching ps ds 0 1 _)) (one tt) no_parts)) (one tt) no_parts)))

  -- of a local variable the values stand beside the arguments
  abbrev pub IsOwnCollected : t.Designator → Type 0
  IsOwnCollected (t.part (objects.Local v) ss sel) = Unit {0}
  IsOwnCollected (t.part (objects.Coarray c) ss sel) = ⊥
  IsOwnCollected (t.part (objects.Constant n) ss sel) = Unit {0}

  quiet_collected_value : (d : t.Designator) (rank : ℕ) (place : Parts Act) → IsOwnCollected d → Quiet (sub.collected_value e d rank place)
  quiet_collected_value (t.part (objects.Local v) ss sel) rank place h = no_parts
  quiet_collected_value (t.part (objects.Coarray c) ss sel) rank place h = absurd h
  quiet_collected_value (t.part (objects.Constant n) ss sel) rank place h = no_parts

  combined_quiet : (x : s.Collected) (op : GatherOp) (ps : List Piece) (ds : List ℕ) (root comes : Parts Act) → IsOwnCollected x.variable → Quiet root → Quiet comes → Quiet (sub.combined e x op ps ds root comes)
  combined_quiet x op ps ds root comes g h k = both (quiet_collected_value x.variable x.rank (sub.place_in e x ps ds 0) g) (quiet_round x op ps ds root comes h k)

  rooted_quiet : (x : s.Collected) (ps : List Piece) (ds : List ℕ) (p : Parts Act) → Quiet p → Quiet (sub.rooted e x ps ds p)
  rooted_quiet x ps ds p h = both (quiet_fetching ps ds 1 0 1) (both (one tt) (fork h (both (quiet_dropping_collected x.variable) (one tt)) no_parts))

  pub quiet_root_test : (ps : List Piece) (ds : List ℕ) → Quiet (sub.root_test e ps ds)
  quiet_root_test ps ds = both (quiet_fetching ps ds 1 1 1) (one tt)

  pub quiet_settled : (ps : List Piece) (ds : List ℕ) (stat : t.OptionalResult) → Quiet (sub.settled e ps ds stat)
  quiet_settled ps ds stat = settled stat (depth ps ds 2 + 1) [] (sizes ps ds)

  combine_quiet : (ps : List Piece) (ds : List ℕ) (x : s.Collected) (op : GatherOp) (root : t.OptionalExpression) (stat : t.OptionalResult) → IsOwnCollected x.variable → QuietPieces ps → Quiet (sub.combine e ps ds x op root stat)
  combine_quiet ps ds x op t.missing stat g h =
      both (quiet_evaluating ps ds h) (both (combined_quiet x op ps ds (pushing (pos 0)) (pushing (pos 1)) g (one tt) (one tt)) (quiet_settled ps ds stat))
  combine_quiet ps ds x op (t.given r) stat g h =
      both (quiet_evaluating ps ds h)
      (both (rooted_quiet x ps ds (sub.combined e x op ps ds (fetching ps ds 1 0 1) (sub.root_test e ps ds)) (combined_quiet x op ps ds (fetching ps ds 1 0 1) (sub.root_test e ps ds) g (quiet_fetching ps ds 1 0 1) (quiet_root_test ps ds))) (quiet_settled ps ds stat))

  broadcast_quiet : (ps : List Piece) (ds : List ℕ) (x : s.Collected) (stat : t.OptionalResult) → IsOwnCollected x.variable → QuietPieces ps → Quiet (sub.broadcast e ps ds x stat)
  broadcast_quiet ps ds x stat g h =
      both (quiet_evaluating ps ds h)
      (both (rooted_quiet x ps ds (sub.combined e x gathers.Broadcast ps ds (fetching ps ds 1 0 1) (pushing (pos 1))) (combined_quiet x gathers.Broadcast ps ds (fetching ps ds 1 0 1) (pushing (pos 1)) g (quiet_fetching ps ds 1 0 1) (one tt))) (quiet_settled ps ds stat))

  pub quiet_optional_piece : (x : t.OptionalExpression) (ds : List ℕ) → ranks.IsOnceIfGiven e.program.procedures ds x 1 → OptionalReads readable x → Quiet (sub.optional_piece e x).parts
  quiet_optional_piece t.missing ds h w = no_parts
  quiet_optional_piece (t.given x) ds h w = quiet_ranked readable e x 0 h.0 w

  pub quiet_stat : (x : t.OptionalResult) (ds : List ℕ) (d : ℕ) → ranks.IsStat e.program.procedures ds x d → StatReads readable x → Quiet (view.optional_place e x)
  quiet_stat t.no_result ds d h w = no_parts
  quiet_stat (t.result x) ds d h w = quiet_result readable e x h.0 w

  -- a collective on a local variable
  abbrev pub IsOwnCollective : s.IntrinsicSubroutine → Type 0
  IsOwnCollective (s.combine c x root stat) = IsOwnCollected x.variable
  IsOwnCollective (s.broadcast x root stat) = IsOwnCollected x.variable
  IsOwnCollective i = ⊥

  place_of : (d : t.Designator) → PartReads readable d → PlaceReads readable d
  place_of (t.part o ss sel) w = (w.1, w.2)

  pub collective_quiet : (i : s.IntrinsicSubroutine) (ds : List ℕ) → IsOwnCollective i → ranks.IsSubroutine e.program.procedures i ds → SubroutineReads readable i → Quiet (sub.subroutine e i (sub.pieces_of e i) ds)
  collective_quiet (s.combine c x root stat) ds f h w =
      combine_quiet (sub.pieces_of e (s.combine c x root stat)) ds x (sub.combination_of c) root stat f
      (quiet_collected x.variable x.rank h.0 (place_of x.variable w.0), (quiet_optional_piece root ds h.2 w.1, (quiet_stat stat ds 2 h.3 w.2, tt)))
  collective_quiet (s.broadcast x root stat) ds f h w =
      broadcast_quiet (sub.pieces_of e (s.broadcast x root stat)) ds x stat f
      (quiet_collected x.variable x.rank h.0 (place_of x.variable w.0), (quiet_ranked readable e root 0 h.2 w.1, (quiet_stat stat ds 2 h.4 w.2, tt)))
  collective_quiet i ds f h w = absurd f

  -- ---- ALLOCATE and DEALLOCATE
  quiet_bounds : (bs : List s.AllocatedBounds) → ranks.AreBounds e.program.procedures bs → AllBoundsRead readable bs → Quiet (alloc.bounds e bs)
  quiet_bounds [] h w = no_parts
  quiet_bounds (b ∷ bs) h w = both (quiet_or b.lower (pushing (pos 1)) (one tt) h.0 w.0) (both (quiet_ranked readable e b.upper 0 h.1 w.1) (quiet_bounds bs h.2 w.2))

  quiet_object_bounds : (x : s.Allocation) → ranks.IsAllocation e.program.procedures x → AllocationReads readable x → Quiet (alloc.object_bounds e x)
  quiet_object_bounds (s.allocate_local v type bs) h w = quiet_bounds bs h w
  quiet_object_bounds (s.allocate_coarray c bs cs l) h w = both (quiet_bounds bs h.0 w.0) (both (quiet_bounds cs h.1 w.1) (quiet_or l (pushing (pos 1)) (one tt) h.2 w.2))

  quiet_objects_bounds : (xs : List s.Allocation) → ranks.AreAllocations e.program.procedures xs → AllocationsRead readable xs → Quiet (alloc.objects_bounds e xs)
  quiet_objects_bounds [] h w = no_parts
  quiet_objects_bounds (x ∷ xs) h w = both (quiet_object_bounds x h.0 w.0) (quiet_objects_bounds xs h.1 w.1)

  quiet_planning_one : (x : s.Allocation) (n : ℕ) → Quiet (alloc.planning_one x n)
  quiet_planning_one (s.allocate_local v type bs) n = one tt
  quiet_planning_one (s.allocate_coarray c bs cs l) n = one tt

  quiet_planning : (xs : List s.Allocation) (n : ℕ) → Quiet (alloc.planning xs n)
  quiet_planning [] n = no_parts
  quiet_planning (x ∷ xs) n = both (quiet_planning_one x (alloc.object_sizes xs + n)) (quiet_planning xs n)

  quiet_making_one : (x : s.Allocation) (n : ℕ) → Quiet (alloc.making_one x n)
  quiet_making_one (s.allocate_local v type bs) n = one tt
  quiet_making_one (s.allocate_coarray c bs cs l) n = making c n (length bs) (length cs + 1)

  quiet_making : (xs : List s.Allocation) (n : ℕ) → Quiet (alloc.making xs n)
  quiet_making [] n = no_parts
  quiet_making (x ∷ xs) n = both (quiet_making_one x (alloc.object_sizes xs + n)) (quiet_making xs n)

  quiet_named_once : (xs : List Object) → Quiet (alloc.named_once xs)
  quiet_named_once xs = either_way (alloc.has_twice xs) (doing (a.constant (pos 0) ∷ a.operator a.both ∷ [])) end_parts (acts tt (one tt)) no_parts

  allocates : (ns : List ℕ) → Quiet (alloc.allocate_round ns)
  allocates [] = one tt
  allocates (n ∷ ns) = rounded (quiet_numbers (n ∷ ns) (a.ask (a.arrive_allocate (length (n ∷ ns)))) tt)

  deallocates : (ns : List ℕ) → Quiet (alloc.deallocate_round ns)
  deallocates [] = one tt
  deallocates (n ∷ ns) = rounded (quiet_numbers (n ∷ ns) (a.ask (a.arrive_deallocate (length (n ∷ ns)))) tt)

  quiet_is_allocated : (x : Object) → Quiet (alloc.is_allocated x)
  quiet_is_allocated (objects.Local v) = acts tt (one tt)
  quiet_is_allocated (objects.Coarray c) = acts tt (one tt)
  quiet_is_allocated (objects.Constant n) = no_parts

  quiet_are_allocated : (xs : List Object) → Quiet (alloc.are_allocated xs)
  quiet_are_allocated [] = no_parts
  quiet_are_allocated (x ∷ xs) = both (quiet_is_allocated x) (quiet_are_allocated xs)

  quiet_freeing_one : (x : Object) → Quiet (alloc.freeing_one x)
  quiet_freeing_one (objects.Local v) = one tt
  quiet_freeing_one (objects.Coarray c) = freeing c
  quiet_freeing_one (objects.Constant n) = no_parts

  quiet_freeing : (xs : List Object) → Quiet (alloc.freeing xs)
  quiet_freeing [] = no_parts
  quiet_freeing (x ∷ xs) = both (quiet_freeing_one x) (quiet_freeing xs)

  pub allocate_quiet : (xs : List s.Allocation) (stat : t.OptionalResult) → ranks.AreAllocations e.program.procedures xs → IsStat stat → AllocationsRead readable xs → StatReads readable stat → Quiet (alloc.allocate e xs stat)
  allocate_quiet xs stat h g w r =
      both (quiet_objects_bounds xs h w) (both (quiet_place readable e stat g r) (both (one tt) (both (quiet_planning xs (view.optional_size stat)) (both (one tt)
      (both (quiet_named_once (alloc.objects_of xs)) (both (fork
      (both (quiet_making xs (view.optional_size stat)) (allocates (alloc.coarrays_in (alloc.objects_of xs)))) (one tt) no_parts) (settled stat 1 [] (alloc.object_sizes xs + view.optional_size stat))))))))

  pub deallocate_quiet : (xs : List Object) (stat : t.OptionalResult) → IsStat stat → StatReads readable stat → Quiet (alloc.deallocate e xs stat)
  deallocate_quiet xs stat h w =
      both (quiet_place readable e stat h w) (both (one tt) (both (quiet_are_allocated xs) (both (quiet_named_once xs) (both (fork
      (both (deallocates (alloc.coarrays_in xs)) (quiet_freeing xs)) (one tt) no_parts) (settled stat 1 [] (view.optional_size stat))))))

  -- ---- forms of statements
  pub condition : (x : t.Expression) → ranks.IsOfRank e.program.procedures x 0 → ExpressionReads readable x → Quiet (released (view.expression e x))
  condition x h w = free_again (view.expression e x) (quiet_ranked readable e x 0 h w)

  pub start_quiet : (v : Local) (k : Kind) (first last : t.Expression) (step : t.OptionalExpression) (x : ℕ) → ranks.IsOfRank e.program.procedures first 0 → ranks.IsOfRank e.program.procedures last 0 → ranks.IsOptionalScalar e.program.procedures step
      → ExpressionReads readable first → ExpressionReads readable last → OptionalReads readable step → Quiet (do_start e v k first last step x)
  start_quiet v k first last step x h g f w r q =
      both (both (quiet_ranked readable e first 0 h w) (one tt)) (both (both (quiet_ranked readable e last 0 g r) (one tt)) (both (both (quiet_or step (pushing (pos 1)) (one tt) f q) (one tt)) (one tt)))

  quiet_range_then : (x : ℕ) (r : CaseRange) (rest : List Act) → Quiet (doing rest) → Quiet (doing (in_range x r ++ rest))
  quiet_range_then x (ranges.Value v) rest h = acts tt (acts tt (acts tt h))
  quiet_range_then x (ranges.AtLeast v) rest h = acts tt (acts tt (acts tt h))
  quiet_range_then x (ranges.AtMost v) rest h = acts tt (acts tt (acts tt h))
  quiet_range_then x (ranges.Between v w) rest h = acts tt (acts tt (acts tt (acts tt (acts tt (acts tt (acts tt h))))))

  quiet_more_ranges : (x : ℕ) (rs : List CaseRange) → Quiet (doing (in_more_ranges x rs))
  quiet_more_ranges x [] = no_parts
  quiet_more_ranges x (r ∷ rs) = quiet_range_then x r (a.operator a.any_of ∷ in_more_ranges x rs) (acts tt (quiet_more_ranges x rs))

  pub quiet_ranges : (x : ℕ) (rs : List CaseRange) → Quiet (doing (in_ranges x rs))
  quiet_ranges x [] = one tt
  quiet_ranges x (r ∷ rs) = quiet_range_then x r (in_more_ranges x rs) (quiet_more_ranges x rs)

  pub stop_quiet : (code : t.OptionalExpression) (x : a.AskAct) → IsFree (a.ask x) → ranks.IsOptionalScalar e.program.procedures code → OptionalReads readable code → Quiet (control.or_number e code (pushing (pos 0)) ▸ doing (a.ask x ∷ []))
  stop_quiet code x f h w = both (quiet_or code (pushing (pos 0)) (one tt) h w) (acts f no_parts)
