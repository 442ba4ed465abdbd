-- Calls of intrinsic subroutines leave nothing.
use Rattle.std.proofs.Common.{◌≡◌, ℕ, zero, suc, ◌+◌, ◌≤◌, inl, inr, Bool, true, false, cond, List, [], ◌∷◌, refl, ap, ◌∙◌, arith}
use Rattle.std.proofs.lemmas.Bool.Decides.{eqb_tells}
use Rattle.std.specs.Prelude.{pos, ◌==◌}
use Rattle.caf_base.specs.declared.value.Kind.{Kind}
use Rattle.caf_base.specs.declared.value.Kind.TheVariants as kinds
use Rattle.caf_base.specs.declared.value.AtomicOp.{AtomicOp}
use Rattle.caf_base.specs.declared.value.AtomicOp.TheVariants as atomics
use Rattle.caf_events.specs.declared.round.GatherOp.{GatherOp}
use Rattle.caf_events.specs.declared.round.GatherOp.TheVariants as gathers
use Rattle.walk_theory.specs.Syntax.{Parts}
use Rattle.checked_tree.specs.declared.data.Object.TheVariants as objects
use Rattle.checked_tree.specs.Expressions as t
use Rattle.checked_tree.specs.Statements as s
use Rattle.image_acts.specs.Places.{place_size}
use Rattle.image_acts.specs.Acts.{Act}
use Rattle.image_acts.specs.Statuses.{bad_argument}
use Rattle.image_code.specs.Sizes.{numbers, with_arrays, numbers_loaded, arrays_loaded}
use Rattle.tree_meaning.specs.Environment.{Environment, scope_of}
use Rattle.tree_meaning.specs.Sequences.{◌▸◌}
use Rattle.tree_meaning.specs.Expressions as view
use Rattle.tree_meaning.specs.ImageControl as control
use Rattle.tree_meaning.specs.Pieces.{Piece, piece_of, evaluating, sizes, depth, fetching}
use Rattle.tree_meaning.specs.Subroutines as sub
use Rattle.made_code.specs.Ranks as ranks
use Rattle.made_code.specs.Ranks.{IsSection, times}
use Rattle.made_code.proofs.Turns.{Turns, closes, ended, acts, ◌⨾◌, part, chosen, by_cases}
use Rattle.made_code.proofs.Forms.{none, idle, one_act, dropped, copied, pushed, sectioned, co_sectioned, own_needed, read_out, stored}
use Rattle.made_code.proofs.Expressions.{scalar_turns, subscripts_turns, result_turns}
use Rattle.made_code.proofs.Assignments.{settled, selector_settled, wrote}
use Rattle.made_code.proofs.ImageControl.{cell_turns, there_turns}

-- ---- pieces: the first one may leave array values beside its numbers
abbrev AllTurn : List Piece → Type 0
AllTurn [] = Unit {0}
AllTurn (p ∷ ps) = Turns (numbers 0 p.size) p.parts × AllTurn ps

abbrev arrays_at : ℕ → ℕ → ℕ
arrays_at n zero = n
arrays_at n (suc d) = 0

abbrev arrays_of : ℕ → List ℕ → ℕ
arrays_of n [] = 0
arrays_of n (d ∷ ds) = arrays_at n d + arrays_of n ds

other_turns : (ps : List Piece) → AllTurn ps → (d : ℕ) → Turns (numbers 0 (piece_of ps d).size) (piece_of ps d).parts
other_turns [] h d = idle
other_turns (p ∷ ps) h zero = h.0
other_turns (p ∷ ps) h (suc d) = other_turns ps h.1 d

piece_turns : (n : ℕ) (p : Piece) (ps : List Piece) → Turns (with_arrays 0 p.size 0 n) p.parts → AllTurn ps → (d : ℕ) → Turns (with_arrays 0 (piece_of (p ∷ ps) d).size 0 (arrays_at n d)) (piece_of (p ∷ ps) d).parts
piece_turns n p ps g h zero = g
piece_turns n p ps g h (suc d) = other_turns ps h d

evaluated : (n : ℕ) (p : Piece) (ps : List Piece) → Turns (with_arrays 0 p.size 0 n) p.parts → AllTurn ps → (ds : List ℕ) → Turns (with_arrays 0 (sizes (p ∷ ps) ds) 0 (arrays_of n ds)) (evaluating (p ∷ ps) ds)
evaluated n p ps g h [] = idle
evaluated n p ps g h (d ∷ ds) = closes (part (piece_turns n p ps g h d) ⨾ part (evaluated n p ps g h ds)) (omega arith)

no_arrays : (ds : List ℕ) → arrays_of 0 ds ≡ 0
no_arrays [] = refl
no_arrays (zero ∷ ds) = (let x = no_arrays ds in omega arith)
no_arrays (suc d ∷ ds) = (let x = no_arrays ds in omega arith)

counted : (d : ℕ) → cond (d == 0) 1 0 ≡ arrays_at 1 d
counted zero = refl
counted (suc d) = elim (eqb_tells (suc d) 0) [ inl h ↦ (let z = h.1 in absurd (omega arith)) | inr h ↦ ap (λ b. cond b 1 0) h.0 ]

one_array : (ds : List ℕ) → arrays_of 1 ds ≡ times 0 ds
one_array [] = refl
one_array (d ∷ ds) = (let x = counted d in let y = one_array ds in omega arith)

number_pieces : (p : Piece) (ps : List Piece) → Turns (numbers 0 p.size) p.parts → AllTurn ps → (ds : List ℕ) → Turns (numbers 0 (sizes (p ∷ ps) ds)) (evaluating (p ∷ ps) ds)
number_pieces p ps g h ds = (let z = no_arrays ds in closes (part (evaluated 0 p ps g h ds)) (omega arith))

-- an argument that is written stands among them
within : (ps : List Piece) (ds : List ℕ) (d : ℕ) → times d ds ≡ 1 → depth ps ds d + (piece_of ps d).size ≤ sizes ps ds
within ps [] d h = absurd (omega arith)
within ps (b ∷ ds) d h = elim (eqb_tells b d) [
  | inl e ↦ (let x : depth ps (b ∷ ds) d ≡ sizes ps ds = ap (λ c. cond c (sizes ps ds) (depth ps ds d)) e.0 in
      let y : (piece_of ps b).size ≡ (piece_of ps d).size = ap (λ c. (piece_of ps c).size) e.1 in
      omega arith)
  | inr e ↦ (let x : depth ps (b ∷ ds) d ≡ depth ps ds d = ap (λ c. cond c (sizes ps ds) (depth ps ds d)) e.0 in
      let y : times d (b ∷ ds) ≡ 0 + times d ds = ap (λ c. cond c 1 0 + times d ds) e.0 in
      let z = within ps ds d (let w : times d ds ≡ 1 = omega arith in w) in
      omega arith)
]

no_deeper : (ps : List Piece) (ds : List ℕ) (d : ℕ) → depth ps ds d ≤ sizes ps ds
no_deeper ps [] d = omega arith
no_deeper ps (b ∷ ds) d = elim (eqb_tells b d) [
  | inl e ↦ (let x : depth ps (b ∷ ds) d ≡ sizes ps ds = ap (λ c. cond c (sizes ps ds) (depth ps ds d)) e.0 in omega arith)
  | inr e ↦ (let x : depth ps (b ∷ ds) d ≡ depth ps ds d = ap (λ c. cond c (sizes ps ds) (depth ps ds d)) e.0 in let z = no_deeper ps ds d in omega arith)
]

-- n numbers of an argument once more
fetched_more : (ps : List Piece) (ds : List ℕ) (d above n : ℕ) → depth ps ds d + n ≤ sizes ps ds → Turns (numbers (sizes ps ds + above) (sizes ps ds + above + n)) (fetching ps ds d above n)
fetched_more ps ds d above n h = closes (part (copied (depth ps ds d + above) n)) (omega arith)

tested_0 : Turns (numbers 1 2) (sub.succeeded 0)
tested_0 = closes (part (copied 0 1) ⨾ acts (acts ended)) (omega arith)

module _ (e : Environment) where
  -- STAT= stands among the arguments, where it is there
  stat_within : (ps : List Piece) (ds : List ℕ) (stat : t.OptionalResult) (d : ℕ) → (piece_of ps d).size ≡ view.optional_size stat → ranks.IsStat e.program.procedures ds stat d
      → depth ps ds d + view.optional_size stat ≤ sizes ps ds
  stat_within ps ds t.no_result d z h = (let x = no_deeper ps ds d in omega arith)
  stat_within ps ds (t.result r) d z h = (let x = within ps ds d h.1 in omega arith)

  stat_place : (ds : List ℕ) (stat : t.OptionalResult) (d : ℕ) → ranks.IsStat e.program.procedures ds stat d → Turns (numbers 0 (view.optional_size stat)) (view.optional_place e stat)
  stat_place ds t.no_result d h = idle
  stat_place ds (t.result r) d h = result_turns e r h.0

  -- the old value goes into the result variable
  old_stored : (old : t.OptionalResult) (n m : ℕ) → n + view.optional_size old ≤ m → Turns (numbers (m + 2) (m + 2)) (sub.fetched e old (n + 3))
  old_stored t.no_result n m h = closes ended (omega arith)
  old_stored (t.result r) n m h =
      closes (part tested_0 ⨾ chosen {z = numbers (m + 2) (m + 2)} (closes (part (copied 1 1) ⨾ part (stored (n + 3) (n + 2 + view.result_size r) r (omega arith) (omega arith))) (omega arith)) (closes ended (omega arith))) (omega arith)

  atomic_turns : (ps : List Piece) (ds : List ℕ) (atom : ℕ) (d : t.Designator) (op : AtomicOp) (k : Kind) (x y : Parts Act) (old : t.OptionalResult) (rd : ℕ) (stat : t.OptionalResult) (sd : ℕ)
      → Turns (numbers 0 (sizes ps ds)) (evaluating ps ds) → depth ps ds atom + control.cell_size e d ≤ sizes ps ds
      → Turns (numbers (sizes ps ds + 2) (sizes ps ds + 2 + 1)) x → Turns (numbers (sizes ps ds + 3) (sizes ps ds + 3 + 1)) y
      → depth ps ds rd + view.optional_size old ≤ sizes ps ds → depth ps ds sd + view.optional_size stat ≤ sizes ps ds
      → Turns none (sub.atomic e ps ds atom d op k x y old rd stat sd)
  atomic_turns ps ds atom d op k x y old rd stat sd ev at hx hy ho hs =
      closes (part ev ⨾ part (there_turns e d) ⨾ part (fetched_more ps ds atom 0 2 (omega arith)) ⨾ part hx ⨾ part hy ⨾ acts (acts ended)
      ⨾ part (selector_settled (control.cell_stat e d) (depth ps ds atom + 5) (depth ps ds atom + 4) (omega arith) (omega arith)) ⨾ part (old_stored old (depth ps ds rd) (sizes ps ds) ho)
      ⨾ part (settled stat (depth ps ds sd + 2) (depth ps ds sd + 1 + view.optional_size stat) [] (omega arith) (omega arith)) ⨾ part (dropped (sizes ps ds + 1))) (omega arith)

  no_operand : (n : ℕ) → Turns (numbers n (n + 1)) (sub.no_operand e)
  no_operand n = closes (part (pushed (pos 0))) (omega arith)

  query_turns : (ps : List Piece) (ds : List ℕ) (d : t.Designator) (count : t.ResultVariable) (stat : t.OptionalResult) → Turns (numbers 0 (sizes ps ds)) (evaluating ps ds)
      → depth ps ds 0 + control.cell_size e d ≤ sizes ps ds → depth ps ds 1 + view.result_size count ≤ sizes ps ds → depth ps ds 2 + view.optional_size stat ≤ sizes ps ds
      → Turns none (sub.query e ps ds d count stat)
  query_turns ps ds d count stat ev at hc hs =
      closes (part ev ⨾ part (fetched_more ps ds 0 0 2 (omega arith)) ⨾ part (dropped 1) ⨾ acts ended
      ⨾ part (stored (depth ps ds 1 + 1) (depth ps ds 1 + view.result_size count) count (omega arith) (omega arith)) ⨾ part (pushed (pos 0))
      ⨾ part (settled stat (depth ps ds 2 + 1) (depth ps ds 2 + view.optional_size stat) [] (omega arith) (omega arith)) ⨾ part (dropped (sizes ps ds))) (omega arith)

  -- ---- collectives: a local variable's values are an array beside the arguments
  abbrev held : t.Designator → ℕ
  held (t.part (objects.Local v) ss sel) = 1
  held (t.part (objects.Coarray c) ss sel) = 0
  held (t.part (objects.Constant n) ss sel) = 0

  cells_taken_here : (r : ℕ) → Turns (with_arrays 0 0 1 1) (sub.taking_cells e r)
  cells_taken_here zero = closes ended (omega arith)
  cells_taken_here (suc r) = one_act

  made_array : (r : ℕ) {n : ℕ} {p : Parts Act} → Turns (with_arrays n (n + numbers_loaded r) 0 (arrays_loaded r)) p → Turns (with_arrays n n 0 1) (sub.as_array e r p)
  made_array zero h = closes (acts ended ⨾ part h ⨾ acts ended) (omega arith)
  made_array (suc r) h = closes (part h ⨾ acts ended) (omega arith)

  collected : (d : t.Designator) (r : ℕ) → ranks.IsCollected e.program.procedures d r → Turns (with_arrays 0 (sub.collected_piece e d r).size 0 (held d)) (sub.collected_piece e d r).parts
  collected (t.part (objects.Local v) ss sel) r h = by_scalar (view.is_scalar ss r) refl where
    by_scalar : (b : Bool) → view.is_scalar ss r ≡ b → Turns (with_arrays 0 (sub.collected_piece e (t.part (objects.Local v) ss sel) r).size 0 1) (sub.collected_piece e (t.part (objects.Local v) ss sel) r).parts
    by_scalar true g = rw g (made_array 0 {n = 0} (closes (acts ended) (omega arith)))
    by_scalar false g = rw g (closes (part (subscripts_turns e ss h.0) ⨾ part (sectioned ss r h.1 (scope_of v.home) v.variable)
        ⨾ part (made_array r {n = place_size r} (closes (part (copied 0 (place_size r)) ⨾ acts ended) (omega arith)))) (omega arith))
  collected (t.part (objects.Coarray c) ss t.no_selector) r h = closes (part (subscripts_turns e ss h.0) ⨾ part (co_sectioned ss r h.1 c) ⨾ acts ended) (omega arith)
  collected (t.part (objects.Coarray c) ss (t.selector cs which stat)) r h = absurd h
  collected (t.part (objects.Constant n) ss sel) r h = absurd h

  collected_read : (d : t.Designator) (r n : ℕ) {q : Parts Act} → ranks.IsCollected e.program.procedures d r → Turns (numbers n (n + (sub.collected_piece e d r).size)) q
      → Turns (with_arrays n n (held d) 1) (sub.collected_value e d r q)
  collected_read (t.part (objects.Local v) ss sel) r n h k = closes ended (omega arith)
  collected_read (t.part (objects.Coarray c) ss sel) r n h k =
      closes (part (own_needed c (view.is_scalar ss r) sel) ⨾ part k ⨾ part (read_out c r) ⨾ acts ended ⨾ part (dropped 1) ⨾ part (cells_taken_here r)) (omega arith)
  collected_read (t.part (objects.Constant m) ss sel) r n h k = absurd h

  collected_dropped : (d : t.Designator) → Turns (with_arrays 0 0 (held d) 0) (sub.dropping_collected e d)
  collected_dropped (t.part (objects.Local v) ss sel) = one_act
  collected_dropped (t.part (objects.Coarray c) ss sel) = idle
  collected_dropped (t.part (objects.Constant n) ss sel) = idle

  collected_put : (d : t.Designator) (k : Kind) (r n : ℕ) {q : Parts Act} → ranks.IsCollected e.program.procedures d r → Turns (numbers n (n + (sub.collected_piece e d r).size)) q
      → Turns (with_arrays n n 1 0) (sub.collected_put e d k r q)
  collected_put (t.part (objects.Local v) ss sel) k r n {q} h g = by_cases (view.is_scalar ss r)
      (λ z. closes (acts (acts ended)) (omega arith))
      (λ z. (let w : (sub.collected_piece e (t.part (objects.Local v) ss sel) r).size ≡ place_size r = rw z refl in closes (part g ⨾ acts ended) (omega arith)))
  collected_put (t.part (objects.Coarray c) ss sel) k r n h g = closes (part g ⨾ part (wrote 1 c r k) ⨾ acts ended ⨾ part (dropped 1)) (omega arith)
  collected_put (t.part (objects.Constant m) ss sel) k r n h g = absurd h

  combined_turns : (x : s.Collected) (op : GatherOp) (ps : List Piece) (ds : List ℕ) {root comes_here : Parts Act} → ranks.IsCollected e.program.procedures x.variable x.rank
      → depth ps ds 0 + (sub.collected_piece e x.variable x.rank).size ≤ sizes ps ds → Turns (numbers (sizes ps ds) (sizes ps ds + 1)) root → Turns (numbers (sizes ps ds + 1) (sizes ps ds + 2)) comes_here
      → Turns (with_arrays (sizes ps ds) (sizes ps ds + 1) (held x.variable) 0) (sub.combined e x op ps ds root comes_here)
  combined_turns x op ps ds h at hr hc =
      let n = sizes ps ds in
      let z = (sub.collected_piece e x.variable x.rank).size in
      let value_place : Turns (numbers n (n + z)) (sub.place_in e x ps ds 0) = closes (part (fetched_more ps ds 0 0 z at)) (omega arith) in
      let put_place : Turns (numbers (n + 1) (n + 1 + z)) (sub.place_in e x ps ds 1) = fetched_more ps ds 0 1 z at in
      closes (part (collected_read x.variable x.rank n h value_place) ⨾ part hr ⨾ acts (acts ended) ⨾ part tested_0
      ⨾ chosen {z = with_arrays (n + 1) (n + 1) 1 0}
      (closes (part hc ⨾ chosen {z = with_arrays (n + 1) (n + 1) 1 0} (collected_put x.variable x.kind x.rank (n + 1) h put_place) (closes (acts ended) (omega arith))) (omega arith))
      (closes (acts ended) (omega arith))) (omega arith)

  rooted_turns : (x : s.Collected) (ps : List Piece) (ds : List ℕ) {p : Parts Act} → depth ps ds 1 + 1 ≤ sizes ps ds → Turns (with_arrays (sizes ps ds) (sizes ps ds + 1) (held x.variable) 0) p
      → Turns (with_arrays (sizes ps ds) (sizes ps ds + 1) (held x.variable) 0) (sub.rooted e x ps ds p)
  rooted_turns x ps ds at h =
      closes (part (fetched_more ps ds 1 0 1 at) ⨾ acts ended ⨾ chosen h (closes (part (collected_dropped x.variable) ⨾ part (pushed bad_argument)) (omega arith))) (omega arith)

  settled_turns : (ps : List Piece) (ds : List ℕ) (stat : t.OptionalResult) → depth ps ds 2 + view.optional_size stat ≤ sizes ps ds → Turns (numbers (sizes ps ds + 1) 0) (sub.settled e ps ds stat)
  settled_turns ps ds stat h = closes (part (settled stat (depth ps ds 2 + 1) (depth ps ds 2 + view.optional_size stat) [] (omega arith) (omega arith)) ⨾ part (dropped (sizes ps ds))) (omega arith)

  root_turns : (ps : List Piece) (ds : List ℕ) → depth ps ds 1 + 1 ≤ sizes ps ds → Turns (numbers (sizes ps ds + 1) (sizes ps ds + 2)) (sub.root_test e ps ds)
  root_turns ps ds h = closes (part (fetched_more ps ds 1 1 1 h) ⨾ acts ended) (omega arith)

  -- the arguments with their array, where the first is written once
  all_held : (d : t.Designator) (ds : List ℕ) → times 0 ds ≡ 1 → arrays_of (held d) ds ≡ held d
  all_held (t.part (objects.Local v) ss sel) ds h = one_array ds ∙ h
  all_held (t.part (objects.Coarray c) ss sel) ds h = no_arrays ds
  all_held (t.part (objects.Constant n) ss sel) ds h = no_arrays ds

  all_three : {p q w : Parts Act} (n m : ℕ) → Turns (with_arrays 0 n 0 m) p → Turns (with_arrays n (n + 1) m 0) q → Turns (numbers (n + 1) 0) w → Turns none (p ▸ q ▸ w)
  all_three n m f g h = closes (part f ⨾ part g ⨾ part h) (omega arith)

  collected_pieces : (x : s.Collected) (p q : Piece) (ds : List ℕ) → ranks.IsCollected e.program.procedures x.variable x.rank → times 0 ds ≡ 1 → Turns (numbers 0 p.size) p.parts → Turns (numbers 0 q.size) q.parts
      → Turns (with_arrays 0 (sizes (sub.collected_piece e x.variable x.rank ∷ p ∷ q ∷ []) ds) 0 (held x.variable)) (evaluating (sub.collected_piece e x.variable x.rank ∷ p ∷ q ∷ []) ds)
  collected_pieces x p q ds h o f g =
      let z = all_held x.variable ds o in
      closes (part (evaluated (held x.variable) (sub.collected_piece e x.variable x.rank) (p ∷ q ∷ []) (collected x.variable x.rank h) (f, (g, tt)) ds)) (omega arith)

  combine_turns : (x : s.Collected) (op : GatherOp) (root : t.OptionalExpression) (stat : t.OptionalResult) (ds : List ℕ) → ranks.IsCollected e.program.procedures x.variable x.rank → times 0 ds ≡ 1
      → ranks.IsOnceIfGiven e.program.procedures ds root 1 → ranks.IsStat e.program.procedures ds stat 2
      → Turns none (sub.combine e (sub.collected_piece e x.variable x.rank ∷ sub.optional_piece e root ∷ sub.stat_piece e stat ∷ []) ds x op root stat)
  combine_turns x op t.missing stat ds h o g k =
      let ps = sub.collected_piece e x.variable x.rank ∷ sub.optional_piece e t.missing ∷ sub.stat_piece e stat ∷ [] in
      all_three (sizes ps ds) (held x.variable) (collected_pieces x (sub.optional_piece e t.missing) (sub.stat_piece e stat) ds h o idle (stat_place ds stat 2 k))
      (combined_turns x op ps ds h (within ps ds 0 o) (closes (part (pushed (pos 0))) (omega arith)) (closes (part (pushed (pos 1))) (omega arith)))
      (settled_turns ps ds stat (stat_within ps ds stat 2 refl k))
  combine_turns x op (t.given r) stat ds h o g k =
      let ps = sub.collected_piece e x.variable x.rank ∷ sub.optional_piece e (t.given r) ∷ sub.stat_piece e stat ∷ [] in
      let at = within ps ds 1 g.1 in
      all_three (sizes ps ds) (held x.variable) (collected_pieces x (sub.optional_piece e (t.given r)) (sub.stat_piece e stat) ds h o (scalar_turns e r g.0) (stat_place ds stat 2 k))
      (rooted_turns x ps ds at (combined_turns x op ps ds h (within ps ds 0 o) (closes (part (fetched_more ps ds 1 0 1 at)) (omega arith)) (root_turns ps ds at)))
      (settled_turns ps ds stat (stat_within ps ds stat 2 refl k))

  broadcast_turns : (x : s.Collected) (root : t.Expression) (stat : t.OptionalResult) (ds : List ℕ) → ranks.IsCollected e.program.procedures x.variable x.rank → times 0 ds ≡ 1
      → ranks.IsOfRank e.program.procedures root 0 → times 1 ds ≡ 1 → ranks.IsStat e.program.procedures ds stat 2
      → Turns none (sub.broadcast e (sub.collected_piece e x.variable x.rank ∷ sub.value_piece e root ∷ sub.stat_piece e stat ∷ []) ds x stat)
  broadcast_turns x root stat ds h o g i k =
      let ps = sub.collected_piece e x.variable x.rank ∷ sub.value_piece e root ∷ sub.stat_piece e stat ∷ [] in
      let at = within ps ds 1 i in
      all_three (sizes ps ds) (held x.variable) (collected_pieces x (sub.value_piece e root) (sub.stat_piece e stat) ds h o (scalar_turns e root g) (stat_place ds stat 2 k))
      (rooted_turns x ps ds at (combined_turns x gathers.Broadcast ps ds h (within ps ds 0 o) (closes (part (fetched_more ps ds 1 0 1 at)) (omega arith)) (closes (part (pushed (pos 1))) (omega arith))))
      (settled_turns ps ds stat (stat_within ps ds stat 2 refl k))

  -- a value that stands among the arguments, once more
  value_more : (ps : List Piece) (ds : List ℕ) (d above : ℕ) → (piece_of ps d).size ≡ 1 → times d ds ≡ 1 → Turns (numbers (sizes ps ds + above) (sizes ps ds + above + 1)) (fetching ps ds d above 1)
  value_more ps ds d above z o = fetched_more ps ds d above 1 (let w = within ps ds d o in omega arith)

  pub subroutine_turns : (i : s.IntrinsicSubroutine) (ds : List ℕ) → ranks.IsSubroutine e.program.procedures i ds → Turns none (sub.subroutine e i (sub.pieces_of e i) ds)
  subroutine_turns (s.atomic_define d k x stat) ds h =
      let ps = sub.cell_piece e d ∷ sub.value_piece e x ∷ sub.stat_piece e stat ∷ [] in
      atomic_turns ps ds 0 d atomics.Define k (fetching ps ds 1 2 1) (sub.no_operand e) t.no_result 0 stat 2
      (number_pieces (sub.cell_piece e d) (sub.value_piece e x ∷ sub.stat_piece e stat ∷ []) (cell_turns e d h.0) (scalar_turns e x h.2, (stat_place ds stat 2 h.4, tt)) ds)
      (within ps ds 0 h.1) (value_more ps ds 1 2 refl h.3) (no_operand (sizes ps ds + 3)) (let w = no_deeper ps ds 0 in omega arith) (stat_within ps ds stat 2 refl h.4)
  subroutine_turns (s.atomic_ref r d k stat) ds h =
      let ps = sub.result_piece e r ∷ sub.cell_piece e d ∷ sub.stat_piece e stat ∷ [] in
      atomic_turns ps ds 1 d atomics.Ref k (sub.no_operand e) (sub.no_operand e) (t.result r) 0 stat 2
      (number_pieces (sub.result_piece e r) (sub.cell_piece e d ∷ sub.stat_piece e stat ∷ []) (result_turns e r h.0) (cell_turns e d h.2, (stat_place ds stat 2 h.4, tt)) ds)
      (within ps ds 1 h.3) (no_operand (sizes ps ds + 2)) (no_operand (sizes ps ds + 3)) (within ps ds 0 h.1) (stat_within ps ds stat 2 refl h.4)
  subroutine_turns (s.atomic_change c d x stat) ds h =
      let ps = sub.cell_piece e d ∷ sub.value_piece e x ∷ sub.stat_piece e stat ∷ [] in
      atomic_turns ps ds 0 d (sub.change_of c) kinds.I4 (fetching ps ds 1 2 1) (sub.no_operand e) t.no_result 0 stat 2
      (number_pieces (sub.cell_piece e d) (sub.value_piece e x ∷ sub.stat_piece e stat ∷ []) (cell_turns e d h.0) (scalar_turns e x h.2, (stat_place ds stat 2 h.4, tt)) ds)
      (within ps ds 0 h.1) (value_more ps ds 1 2 refl h.3) (no_operand (sizes ps ds + 3)) (let w = no_deeper ps ds 0 in omega arith) (stat_within ps ds stat 2 refl h.4)
  subroutine_turns (s.atomic_fetch c d x old stat) ds h =
      let ps = sub.cell_piece e d ∷ sub.value_piece e x ∷ sub.result_piece e old ∷ sub.stat_piece e stat ∷ [] in
      atomic_turns ps ds 0 d (sub.change_of c) kinds.I4 (fetching ps ds 1 2 1) (sub.no_operand e) (t.result old) 2 stat 3
      (number_pieces (sub.cell_piece e d) (sub.value_piece e x ∷ sub.result_piece e old ∷ sub.stat_piece e stat ∷ []) (cell_turns e d h.0) (scalar_turns e x h.2, (result_turns e old h.4, (stat_place ds stat 3 h.6, tt))) ds)
      (within ps ds 0 h.1) (value_more ps ds 1 2 refl h.3) (no_operand (sizes ps ds + 3)) (within ps ds 2 h.5) (stat_within ps ds stat 3 refl h.6)
  subroutine_turns (s.atomic_cas d k old x y stat) ds h =
      let ps = sub.cell_piece e d ∷ sub.result_piece e old ∷ sub.value_piece e x ∷ sub.value_piece e y ∷ sub.stat_piece e stat ∷ [] in
      atomic_turns ps ds 0 d atomics.Cas k (fetching ps ds 2 2 1) (fetching ps ds 3 3 1) (t.result old) 1 stat 4
      (number_pieces (sub.cell_piece e d) (sub.result_piece e old ∷ sub.value_piece e x ∷ sub.value_piece e y ∷ sub.stat_piece e stat ∷ []) (cell_turns e d h.0)
      (result_turns e old h.2, (scalar_turns e x h.4, (scalar_turns e y h.6, (stat_place ds stat 4 h.8, tt)))) ds)
      (within ps ds 0 h.1) (value_more ps ds 2 2 refl h.5) (value_more ps ds 3 3 refl h.7) (within ps ds 1 h.3) (stat_within ps ds stat 4 refl h.8)
  subroutine_turns (s.event_query d count stat) ds h =
      let ps = sub.cell_piece e d ∷ sub.result_piece e count ∷ sub.stat_piece e stat ∷ [] in
      query_turns ps ds d count stat
      (number_pieces (sub.cell_piece e d) (sub.result_piece e count ∷ sub.stat_piece e stat ∷ []) (cell_turns e d h.0) (result_turns e count h.2, (stat_place ds stat 2 h.4, tt)) ds)
      (within ps ds 0 h.1) (within ps ds 1 h.3) (stat_within ps ds stat 2 refl h.4)
  subroutine_turns (s.combine c x root stat) ds h = combine_turns x (sub.combination_of c) root stat ds h.0 h.1 h.2 h.3
  subroutine_turns (s.broadcast x root stat) ds h = broadcast_turns x root stat ds h.0 h.1 h.2 h.3 h.4
