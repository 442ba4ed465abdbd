-- Calls of intrinsic subroutines: atomic subroutines, EVENT_QUERY and collectives (ISO/IEC 1539-1:2018, 16.5, 16.6,
-- 16.9).
use Rattle.std.specs.Prelude.{ℕ, zero, suc, ◌+◌, cond, pos, List, [], ◌∷◌}
use Rattle.caf_base.specs.declared.value.Kind.{Kind}
use Rattle.caf_base.specs.declared.value.Kind.TheVariants as kinds
use Rattle.caf_base.specs.declared.value.AtomicOp.{AtomicOp}
use Rattle.caf_base.specs.declared.value.AtomicOp.TheVariants as atomics
use Rattle.caf_events.specs.declared.round.GatherOp.{GatherOp}
use Rattle.caf_events.specs.declared.round.GatherOp.TheVariants as gathers
use Rattle.walk_theory.specs.Syntax.{Parts}
use Rattle.checked_tree.specs.declared.data.Object.TheVariants as objects
use Rattle.checked_tree.specs.declared.action.AtomicChange.{AtomicChange}
use Rattle.checked_tree.specs.declared.action.AtomicChange.TheVariants as changes
use Rattle.checked_tree.specs.declared.action.Combination.{Combination}
use Rattle.checked_tree.specs.declared.action.Combination.TheVariants as combinations
use Rattle.checked_tree.specs.declared.action.WrittenArguments.{WrittenArguments}
use Rattle.checked_tree.specs.Expressions as t
use Rattle.checked_tree.specs.Statements as s
use Rattle.image_acts.specs.Places.{place_size}
use Rattle.image_acts.specs.Statuses.{bad_argument}
use Rattle.image_acts.specs.Acts as a
use Rattle.image_acts.specs.Acts.{Act, constant, stack, variable, operator, bounded, selector, ask}
use Rattle.tree_meaning.specs.Environment.{Environment, scope_of}
use Rattle.tree_meaning.specs.Sequences.{◌▸◌, doing, nothing, pushing, dropping, copying, choosing}
use Rattle.tree_meaning.specs.Settling.{settling, settling_selector}
use Rattle.tree_meaning.specs.Pieces.{Piece, no_piece, written_dummies, evaluating, sizes, depth, fetching}
use Rattle.tree_meaning.specs.Expressions.{expression, subscripts, owner, form_of, is_scalar, optional_size, optional_place, result_size, result_place, needing_own, reading, storing}
use Rattle.tree_meaning.specs.Assignments.{writing}
use Rattle.tree_meaning.specs.ImageControl.{cell, cell_size, cell_stat, cell_there, cell_coarray}

-- the action of an atomic subroutine; those that fetch the old value are the same action
abbrev pub change_of : AtomicChange → AtomicOp
change_of changes.Add = atomics.Add
change_of changes.And = atomics.And
change_of changes.Or = atomics.Or
change_of changes.Xor = atomics.Xor

abbrev pub combination_of : Combination → GatherOp
combination_of combinations.Sum = gathers.Sum
combination_of combinations.Min = gathers.Min
combination_of combinations.Max = gathers.Max

-- whether the status beneath so many numbers is 0
abbrev pub succeeded : ℕ → Parts Act
succeeded above = copying above 1 ▸ doing (constant (pos 0) ∷ operator a.equal ∷ [])

module _ (e : Environment) where
  -- pieces
  abbrev pub value_piece : t.Expression → Piece
  value_piece x = record { parts = expression e x; size = 1 }

  abbrev pub optional_piece : t.OptionalExpression → Piece
  optional_piece t.missing = no_piece
  optional_piece (t.given x) = value_piece x

  abbrev pub result_piece : t.ResultVariable → Piece
  result_piece r = record { parts = result_place e r; size = result_size r }

  abbrev pub stat_piece : t.OptionalResult → Piece
  stat_piece r = record { parts = optional_place e r; size = optional_size r }

  abbrev pub cell_piece : t.Designator → Piece
  cell_piece d = record { parts = cell e d; size = cell_size e d }

  -- the old value, on top, goes into the result variable whose place stands beneath so many numbers; on a marked memory
  -- it stays as it was
  abbrev pub fetched : t.OptionalResult → ℕ → Parts Act
  fetched t.no_result depth = nothing
  fetched (t.result r) depth = succeeded 0 ▸ choosing (copying 1 1 ▸ storing depth r) nothing

  -- an atomic action with the atom of dummy `atom`, the operands that x and y put down, and a result variable where
  -- there is one
  abbrev pub atomic : List Piece → List ℕ → (atom : ℕ) → t.Designator → AtomicOp → Kind → (x y : Parts Act) → (result : t.OptionalResult) → (result_dummy : ℕ) → (stat : t.OptionalResult) → (stat_dummy : ℕ) → Parts Act
  atomic ps ds atom d op k x y old rd stat sd =
      evaluating ps ds ▸ cell_there e d ▸ fetching ps ds atom 0 2 ▸ x ▸ y ▸ doing (ask (a.atomic op (cell_coarray e d) k) ∷ stack a.accessed ∷ [])
      ▸ settling_selector (cell_stat e d) (depth ps ds atom + 5) ▸ fetched old (depth ps ds rd + 3) ▸ settling stat (depth ps ds sd + 2) [] ▸ dropping (sizes ps ds + 1)

  abbrev pub no_operand : Parts Act
  no_operand = pushing (pos 0)

  -- EVENT_QUERY (16.9.72) of this image's event
  abbrev pub query : List Piece → List ℕ → t.Designator → t.ResultVariable → t.OptionalResult → Parts Act
  query ps ds d count stat =
      evaluating ps ds ▸ fetching ps ds 0 0 2 ▸ dropping 1 ▸ doing (ask (a.query (cell_coarray e d)) ∷ [])
      ▸ storing (depth ps ds 1 + 1) count ▸ pushing (pos 0) ▸ settling stat (depth ps ds 2 + 1) [] ▸ dropping (sizes ps ds)

  -- an array takes its evaluation cells; a scalar becomes an array of one element
  abbrev pub as_array : ℕ → Parts Act → Parts Act
  as_array zero p = doing (stack a.empty_array ∷ []) ▸ p ▸ doing (stack a.append ∷ [])
  as_array (suc r) p = p ▸ doing (stack a.take_cells ∷ [])

  abbrev pub taking_cells : ℕ → Parts Act
  taking_cells zero = nothing
  taking_cells (suc r) = doing (stack a.take_cells ∷ [])

  -- The argument of a collective: of a local variable its values, as the top array, and the place of an array; of a
  -- coarray the place, and above it the owner.
  abbrev pub collected_piece : t.Designator → ℕ → Piece
  collected_piece (t.part (objects.Local v) ss sel) rank =
      cond (is_scalar ss rank) (record { parts = as_array 0 (doing (variable (a.cell (scope_of v.home) v.variable) ∷ [])); size = 0 }) (record {
        parts = subscripts e ss ▸ doing (bounded (a.section (scope_of v.home) v.variable (form_of ss rank)) ∷ [])
            ▸ as_array rank (copying 0 (place_size rank) ▸ doing (variable (a.load (scope_of v.home) v.variable rank) ∷ []));
        size = place_size rank;
      })
  collected_piece (t.part (objects.Coarray c) ss sel) rank = record { parts = subscripts e ss ▸ doing (bounded (a.co_section c (form_of ss rank)) ∷ []) ▸ owner e c rank sel; size = place_size rank + 1 }
  collected_piece (t.part (objects.Constant n) ss sel) rank = no_piece

  -- the values of a coarray argument as the top array, where its place is fetched by these parts; those of a local
  -- variable are there
  abbrev pub collected_value : t.Designator → ℕ → Parts Act → Parts Act
  collected_value (t.part (objects.Local v) ss sel) rank place = nothing
  collected_value (t.part (objects.Coarray c) ss sel) rank place =
      needing_own c (is_scalar ss rank) sel ▸ place ▸ reading c rank ▸ doing (stack a.accessed ∷ []) ▸ dropping 1 ▸ taking_cells rank
  collected_value (t.part (objects.Constant n) ss sel) rank place = nothing

  -- where no step is made the values of a local variable are dropped
  abbrev pub dropping_collected : t.Designator → Parts Act
  dropping_collected (t.part (objects.Local v) ss sel) = doing (stack a.drop_array ∷ [])
  dropping_collected (t.part (objects.Coarray c) ss sel) = nothing
  dropping_collected (t.part (objects.Constant n) ss sel) = nothing

  -- the top array goes into it
  abbrev pub collected_put : t.Designator → Kind → ℕ → Parts Act → Parts Act
  collected_put (t.part (objects.Local v) ss sel) k rank place =
      cond (is_scalar ss rank) (doing (stack a.only_element ∷ variable (a.store (scope_of v.home) v.variable) ∷ [])) (place ▸ doing (variable (a.put_array (scope_of v.home) v.variable rank) ∷ []))
  collected_put (t.part (objects.Coarray c) ss sel) k rank place = place ▸ writing 1 c rank k ▸ doing (stack a.accessed ∷ []) ▸ dropping 1
  collected_put (t.part (objects.Constant n) ss sel) k rank place = nothing

  -- its place once more, with so many numbers above the arguments
  abbrev pub place_in : s.Collected → List Piece → List ℕ → ℕ → Parts Act
  place_in x ps ds above = fetching ps ds 0 above (collected_piece x.variable x.rank).size

  -- The round of a collective (16.6): the values, the arrival with the root that these parts put down, the departure,
  -- and where the status is 0 and the test says so, the change.
  abbrev pub combined : s.Collected → GatherOp → List Piece → List ℕ → (root : Parts Act) → (comes_here : Parts Act) → Parts Act
  combined x op ps ds root comes_here =
      collected_value x.variable x.rank (place_in x ps ds 0) ▸ root ▸ doing (ask (a.gather op x.kind) ∷ ask a.take ∷ []) ▸ succeeded 0
      ▸ choosing (comes_here ▸ choosing (collected_put x.variable x.kind x.rank (place_in x ps ds 1)) (doing (stack a.drop_array ∷ []))) (doing (stack a.drop_array ∷ []))

  -- a root that is no index of the team is a bad argument, and no step is made
  abbrev pub rooted : s.Collected → List Piece → List ℕ → Parts Act → Parts Act
  rooted x ps ds p = fetching ps ds 1 0 1 ▸ doing (bounded a.is_index ∷ []) ▸ choosing p (dropping_collected x.variable ▸ pushing bad_argument)

  abbrev pub settled : List Piece → List ℕ → t.OptionalResult → Parts Act
  settled ps ds stat = settling stat (depth ps ds 2 + 1) [] ▸ dropping (sizes ps ds)

  abbrev pub root_test : List Piece → List ℕ → Parts Act
  root_test ps ds = fetching ps ds 1 1 1 ▸ doing (selector a.is_root ∷ [])

  -- CO_SUM, CO_MIN, CO_MAX (16.9.50, 16.9.48, 16.9.47)
  abbrev pub combine : List Piece → List ℕ → s.Collected → GatherOp → t.OptionalExpression → t.OptionalResult → Parts Act
  combine ps ds x op t.missing stat = evaluating ps ds ▸ combined x op ps ds (pushing (pos 0)) (pushing (pos 1)) ▸ settled ps ds stat
  combine ps ds x op (t.given r) stat = evaluating ps ds ▸ rooted x ps ds (combined x op ps ds (fetching ps ds 1 0 1) (root_test ps ds)) ▸ settled ps ds stat

  -- CO_BROADCAST (16.9.46): each image gets the values, the source image too
  abbrev pub broadcast : List Piece → List ℕ → s.Collected → t.OptionalResult → Parts Act
  broadcast ps ds x stat = evaluating ps ds ▸ rooted x ps ds (combined x gathers.Broadcast ps ds (fetching ps ds 1 0 1) (pushing (pos 1))) ▸ settled ps ds stat

  abbrev pub pieces_of : s.IntrinsicSubroutine → List Piece
  pieces_of (s.atomic_define d k x stat) = cell_piece d ∷ value_piece x ∷ stat_piece stat ∷ []
  pieces_of (s.atomic_ref r d k stat) = result_piece r ∷ cell_piece d ∷ stat_piece stat ∷ []
  pieces_of (s.atomic_change c d x stat) = cell_piece d ∷ value_piece x ∷ stat_piece stat ∷ []
  pieces_of (s.atomic_fetch c d x old stat) = cell_piece d ∷ value_piece x ∷ result_piece old ∷ stat_piece stat ∷ []
  pieces_of (s.atomic_cas d k old x y stat) = cell_piece d ∷ result_piece old ∷ value_piece x ∷ value_piece y ∷ stat_piece stat ∷ []
  pieces_of (s.event_query d count stat) = cell_piece d ∷ result_piece count ∷ stat_piece stat ∷ []
  pieces_of (s.combine c x root stat) = collected_piece x.variable x.rank ∷ optional_piece root ∷ stat_piece stat ∷ []
  pieces_of (s.broadcast x root stat) = collected_piece x.variable x.rank ∷ value_piece root ∷ stat_piece stat ∷ []

  abbrev pub subroutine : s.IntrinsicSubroutine → List Piece → List ℕ → Parts Act
  subroutine (s.atomic_define d k x stat) ps ds = atomic ps ds 0 d atomics.Define k (fetching ps ds 1 2 1) no_operand t.no_result 0 stat 2
  subroutine (s.atomic_ref r d k stat) ps ds = atomic ps ds 1 d atomics.Ref k no_operand no_operand (t.result r) 0 stat 2
  subroutine (s.atomic_change c d x stat) ps ds = atomic ps ds 0 d (change_of c) kinds.I4 (fetching ps ds 1 2 1) no_operand t.no_result 0 stat 2
  subroutine (s.atomic_fetch c d x old stat) ps ds = atomic ps ds 0 d (change_of c) kinds.I4 (fetching ps ds 1 2 1) no_operand (t.result old) 2 stat 3
  subroutine (s.atomic_cas d k old x y stat) ps ds = atomic ps ds 0 d atomics.Cas k (fetching ps ds 2 2 1) (fetching ps ds 3 3 1) (t.result old) 1 stat 4
  subroutine (s.event_query d count stat) ps ds = query ps ds d count stat
  subroutine (s.combine c x root stat) ps ds = combine ps ds x (combination_of c) root stat
  subroutine (s.broadcast x root stat) ps ds = broadcast ps ds x stat

  abbrev pub intrinsic_call : s.IntrinsicSubroutine → WrittenArguments → Parts Act
  intrinsic_call i w = subroutine i (pieces_of i) (written_dummies w)
