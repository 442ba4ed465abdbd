-- The machine does each act of a call of an intrinsic subroutine that has its ranks.
use Rattle.std.proofs.Common.{ℕ, zero, suc, ◌+◌, pos, Bool, true, false, List, [], ◌∷◌}
use Rattle.std.specs.Prelude.{cond}
use Rattle.caf_base.specs.declared.value.Kind.{Kind}
use Rattle.caf_base.specs.declared.value.Kind.TheVariants as kinds
use Rattle.caf_base.specs.declared.value.AtomicOp.{AtomicOp}
use Rattle.caf_base.specs.declared.value.AtomicOp.TheVariants as atomics
use Rattle.caf_events.specs.declared.round.GatherOp.{GatherOp}
use Rattle.caf_events.specs.declared.round.GatherOp.TheVariants as gathers
use Rattle.walk_theory.specs.Syntax.{Parts}
use Rattle.checked_tree.specs.declared.action.WrittenArguments.{WrittenArguments}
use Rattle.checked_tree.specs.declared.data.Object.TheVariants as objects
use Rattle.checked_tree.specs.Expressions as t
use Rattle.checked_tree.specs.Statements as s
use Rattle.checked_tree.specs.Statements.{Procedure}
use Rattle.image_acts.specs.Places.{place_size}
use Rattle.image_acts.specs.Acts.{Act}
use Rattle.tree_meaning.specs.Environment.{Environment}
use Rattle.tree_meaning.specs.Sequences.{pushing}
use Rattle.tree_meaning.specs.Pieces as pieces
use Rattle.tree_meaning.specs.Pieces.{Piece, written_dummies}
use Rattle.tree_meaning.specs.Expressions as expressions
use Rattle.tree_meaning.specs.ImageControl as control
use Rattle.tree_meaning.specs.Subroutines as view
use Rattle.accepted_ranks.specs.Kinded as kinded
use Rattle.accepted_runs.proofs.Acts.{PartsDo, cond_does, dropping_does, copying_does}
use Rattle.accepted_runs.proofs.Evaluations.{section_few, storing_does, needing_own_does, reading_does, scalar_does, subscripts_do, result_place_does, owner_does}
use Rattle.accepted_runs.proofs.Control.{settling_does, selector_settled, writing_does, cell_does, cell_there_does}

-- ---- pieces
abbrev PieceDoes : Piece → Type 0
PieceDoes p = PartsDo p.parts

abbrev AllDo : List Piece → Type 0
AllDo [] = Unit {0}
AllDo (p ∷ ps) = PieceDoes p × AllDo ps

piece_does : (ps : List Piece) (d : ℕ) → AllDo ps → PieceDoes (pieces.piece_of ps d)
piece_does [] d h = tt
piece_does (p ∷ ps) zero h = h.0
piece_does (p ∷ ps) (suc d) h = piece_does ps d h.1

evaluating_does : (ps : List Piece) (ds : List ℕ) → AllDo ps → PartsDo (pieces.evaluating ps ds)
evaluating_does ps [] h = tt
evaluating_does ps (d ∷ ds) h = (piece_does ps d h, evaluating_does ps ds h)

fetching_does : (ps : List Piece) (ds : List ℕ) (d above n : ℕ) → PartsDo (pieces.fetching ps ds d above n)
fetching_does ps ds d above n = copying_does (pieces.depth ps ds d + above) n

succeeded_does : (above : ℕ) → PartsDo (view.succeeded above)
succeeded_does above = (copying_does above 1, (tt, (tt, tt)))

module _ (e : Environment) where
  abbrev procedures : List Procedure
  procedures = e.program.procedures

  optional_piece : (ds : List ℕ) (x : t.OptionalExpression) (d : ℕ) → kinded.IsOnceIfGiven procedures ds x d → PieceDoes (view.optional_piece e x)
  optional_piece ds t.missing d h = tt
  optional_piece ds (t.given x) d h = scalar_does e x 0 h.0

  stat_piece : (ds : List ℕ) (x : t.OptionalResult) (d : ℕ) → kinded.IsStat procedures ds x d → PieceDoes (view.stat_piece e x)
  stat_piece ds t.no_result d h = tt
  stat_piece ds (t.result x) d h = result_place_does e x h.0

  fetched_does : (x : t.OptionalResult) (depth : ℕ) → PartsDo (view.fetched e x depth)
  fetched_does t.no_result depth = tt
  fetched_does (t.result x) depth = (succeeded_does 0, ((copying_does 1 1, storing_does depth x), tt, tt))

  -- ---- atomic subroutines
  atomic_does : (ps : List Piece) (ds : List ℕ) (atom : ℕ) (d : t.Designator) (op : AtomicOp) (k : Kind) (x y : Parts Act) (old : t.OptionalResult) (rd : ℕ) (stat : t.OptionalResult) (sd : ℕ) → AllDo ps → PartsDo x → PartsDo y → PartsDo (view.atomic e ps ds atom d op k x y old rd stat sd)
  atomic_does ps ds atom d op k x y old rd stat sd h i j = (evaluating_does ps ds h, (cell_there_does e d, (fetching_does ps ds atom 0 2, (i, (j, ((tt, (tt, tt)), (selector_settled (control.cell_stat e d) (pieces.depth ps ds atom + 5), (fetched_does old (pieces.depth ps ds rd + 3), (settling_does stat (pieces.depth ps ds sd + 2) [], dropping_does (pieces.sizes ps ds + 1))))))))))

  query_does : (ps : List Piece) (ds : List ℕ) (d : t.Designator) (count : t.ResultVariable) (stat : t.OptionalResult) → AllDo ps → PartsDo (view.query e ps ds d count stat)
  query_does ps ds d count stat h = (evaluating_does ps ds h, (fetching_does ps ds 0 0 2, (dropping_does 1, ((tt, tt), (storing_does (pieces.depth ps ds 1 + 1) count, ((tt, tt), (settling_does stat (pieces.depth ps ds 2 + 1) [], dropping_does (pieces.sizes ps ds))))))))

  -- ---- collectives
  as_array_does : (r : ℕ) (p : Parts Act) → PartsDo p → PartsDo (view.as_array e r p)
  as_array_does zero p h = ((tt, tt), (h, (tt, tt)))
  as_array_does (suc r) p h = (h, (tt, tt))

  taking_does : (r : ℕ) → PartsDo (view.taking_cells e r)
  taking_does zero = tt
  taking_does (suc r) = (tt, tt)

  if_piece : (b : Bool) (p q : Piece) → PieceDoes p → PieceDoes q → PieceDoes (cond b p q)
  if_piece true p q h k = h
  if_piece false p q h k = k

  collected_piece_does : (d : t.Designator) (r : ℕ) → kinded.IsCollected procedures d r → PieceDoes (view.collected_piece e d r)
  collected_piece_does (t.part (objects.Local v) ss sel) r h = if_piece (expressions.is_scalar ss r) _ _ ((tt, tt), ((tt, tt), (tt, tt)))
      (subscripts_do e ss h.0, ((tt, tt), as_array_does r _ (copying_does 0 (place_size r), (section_few ss r h.1, tt))))
  collected_piece_does (t.part (objects.Coarray c) ss t.no_selector) r h = (subscripts_do e ss h.0, ((tt, tt), owner_does e c r t.no_selector tt))
  collected_piece_does (t.part (objects.Coarray c) ss (t.selector cs which stat)) r h = absurd h
  collected_piece_does (t.part (objects.Constant n) ss sel) r h = tt

  collected_value_does : (d : t.Designator) (r : ℕ) (place : Parts Act) → kinded.IsCollected procedures d r → PartsDo place → PartsDo (view.collected_value e d r place)
  collected_value_does (t.part (objects.Local v) ss sel) r place h k = tt
  collected_value_does (t.part (objects.Coarray c) ss t.no_selector) r place h k = (needing_own_does c (expressions.is_scalar ss r) t.no_selector, (k, (reading_does c r (section_few ss r h.1), ((tt, tt), (dropping_does 1, taking_does r)))))
  collected_value_does (t.part (objects.Coarray c) ss (t.selector cs which stat)) r place h k = absurd h
  collected_value_does (t.part (objects.Constant n) ss sel) r place h k = tt

  collected_dropped : (d : t.Designator) → PartsDo (view.dropping_collected e d)
  collected_dropped (t.part (objects.Local v) ss sel) = (tt, tt)
  collected_dropped (t.part (objects.Coarray c) ss sel) = tt
  collected_dropped (t.part (objects.Constant n) ss sel) = tt

  collected_put_does : (d : t.Designator) (k : Kind) (r : ℕ) (place : Parts Act) → kinded.IsCollected procedures d r → PartsDo place → PartsDo (view.collected_put e d k r place)
  collected_put_does (t.part (objects.Local v) ss sel) k r place h i = cond_does (expressions.is_scalar ss r) _ _ (tt, (tt, tt)) (i, (section_few ss r h.1, tt))
  collected_put_does (t.part (objects.Coarray c) ss t.no_selector) k r place h i = (i, (writing_does 1 c r k (section_few ss r h.1), ((tt, tt), dropping_does 1)))
  collected_put_does (t.part (objects.Coarray c) ss (t.selector cs which stat)) k r place h i = absurd h
  collected_put_does (t.part (objects.Constant n) ss sel) k r place h i = tt

  module _ (x : s.Collected) (is : kinded.IsCollected procedures x.variable x.rank) (ps : List Piece) (ds : List ℕ) where
    place_does : (above : ℕ) → PartsDo (view.place_in e x ps ds above)
    place_does above = fetching_does ps ds 0 above (view.collected_piece e x.variable x.rank).size

    combined_does : (op : GatherOp) (root here : Parts Act) → PartsDo root → PartsDo here → PartsDo (view.combined e x op ps ds root here)
    combined_does op root here h k = (collected_value_does x.variable x.rank (view.place_in e x ps ds 0) is (place_does 0), (h, ((tt, (tt, tt)), (succeeded_does 0, ((k, ((collected_put_does x.variable x.kind x.rank (view.place_in e x ps ds 1) is (place_does 1)), (tt, tt), tt)), (tt, tt), tt)))))

    rooted_does : (p : Parts Act) → PartsDo p → PartsDo (view.rooted e x ps ds p)
    rooted_does p h = (fetching_does ps ds 1 0 1, ((tt, tt), (h, (collected_dropped x.variable, (tt, tt)), tt)))

    settled_does : (stat : t.OptionalResult) → PartsDo (view.settled e ps ds stat)
    settled_does stat = (settling_does stat (pieces.depth ps ds 2 + 1) [], dropping_does (pieces.sizes ps ds))

    combine_does : (op : GatherOp) (root : t.OptionalExpression) (stat : t.OptionalResult) → AllDo ps → PartsDo (view.combine e ps ds x op root stat)
    combine_does op t.missing stat h = (evaluating_does ps ds h, (combined_does op (pushing (pos 0)) (pushing (pos 1)) (tt, tt) (tt, tt), settled_does stat))
    combine_does op (t.given r) stat h = (evaluating_does ps ds h, (rooted_does (view.combined e x op ps ds (pieces.fetching ps ds 1 0 1) (view.root_test e ps ds)) (combined_does op (pieces.fetching ps ds 1 0 1) (view.root_test e ps ds) (fetching_does ps ds 1 0 1) (fetching_does ps ds 1 1 1, (tt, tt))), settled_does stat))

    broadcast_does : (stat : t.OptionalResult) → AllDo ps → PartsDo (view.broadcast e ps ds x stat)
    broadcast_does stat h = (evaluating_does ps ds h, (rooted_does (view.combined e x gathers.Broadcast ps ds (pieces.fetching ps ds 1 0 1) (pushing (pos 1))) (combined_does gathers.Broadcast (pieces.fetching ps ds 1 0 1) (pushing (pos 1)) (fetching_does ps ds 1 0 1) (tt, tt)), settled_does stat))

  pub call_does : (i : s.IntrinsicSubroutine) (w : WrittenArguments) → kinded.IsSubroutine procedures i (written_dummies w) → PartsDo (view.intrinsic_call e i w)
  call_does (s.atomic_define d k x stat) w h =
      let ps = view.pieces_of e (s.atomic_define d k x stat) in
      let ds = written_dummies w in
      atomic_does ps ds 0 d atomics.Define k (pieces.fetching ps ds 1 2 1) (view.no_operand e) t.no_result 0 stat 2 (cell_does e d h.0, (scalar_does e x 0 h.2, (stat_piece ds stat 2 h.4, tt))) (fetching_does ps ds 1 2 1) (tt, tt)
  call_does (s.atomic_ref r d k stat) w h =
      let ps = view.pieces_of e (s.atomic_ref r d k stat) in
      let ds = written_dummies w in
      atomic_does ps ds 1 d atomics.Ref k (view.no_operand e) (view.no_operand e) (t.result r) 0 stat 2 (result_place_does e r h.0, (cell_does e d h.2, (stat_piece ds stat 2 h.4, tt))) (tt, tt) (tt, tt)
  call_does (s.atomic_change c d x stat) w h =
      let ps = view.pieces_of e (s.atomic_change c d x stat) in
      let ds = written_dummies w in
      atomic_does ps ds 0 d (view.change_of c) kinds.I4 (pieces.fetching ps ds 1 2 1) (view.no_operand e) t.no_result 0 stat 2 (cell_does e d h.0, (scalar_does e x 0 h.2, (stat_piece ds stat 2 h.4, tt))) (fetching_does ps ds 1 2 1) (tt, tt)
  call_does (s.atomic_fetch c d x old stat) w h =
      let ps = view.pieces_of e (s.atomic_fetch c d x old stat) in
      let ds = written_dummies w in
      atomic_does ps ds 0 d (view.change_of c) kinds.I4 (pieces.fetching ps ds 1 2 1) (view.no_operand e) (t.result old) 2 stat 3 (cell_does e d h.0, (scalar_does e x 0 h.2, (result_place_does e old h.4, (stat_piece ds stat 3 h.6, tt)))) (fetching_does ps ds 1 2 1) (tt, tt)
  call_does (s.atomic_cas d k old x y stat) w h =
      let ps = view.pieces_of e (s.atomic_cas d k old x y stat) in
      let ds = written_dummies w in
      atomic_does ps ds 0 d atomics.Cas k (pieces.fetching ps ds 2 2 1) (pieces.fetching ps ds 3 3 1) (t.result old) 1 stat 4 (cell_does e d h.0, (result_place_does e old h.2, (scalar_does e x 0 h.4, (scalar_does e y 0 h.6, (stat_piece ds stat 4 h.8, tt))))) (fetching_does ps ds 2 2 1) (fetching_does ps ds 3 3 1)
  call_does (s.event_query d count stat) w h =
      let ps = view.pieces_of e (s.event_query d count stat) in
      let ds = written_dummies w in
      query_does ps ds d count stat (cell_does e d h.0, (result_place_does e count h.2, (stat_piece ds stat 2 h.4, tt)))
  call_does (s.combine c x root stat) w h =
      let ps = view.pieces_of e (s.combine c x root stat) in
      let ds = written_dummies w in
      combine_does x h.0 ps ds (view.combination_of c) root stat (collected_piece_does x.variable x.rank h.0, (optional_piece ds root 1 h.2, (stat_piece ds stat 2 h.3, tt)))
  call_does (s.broadcast x root stat) w h =
      let ps = view.pieces_of e (s.broadcast x root stat) in
      let ds = written_dummies w in
      broadcast_does x h.0 ps ds stat (collected_piece_does x.variable x.rank h.0, (scalar_does e root 0 h.2, (stat_piece ds stat 2 h.4, tt)))
