-- A call of an atomic subroutine (ISO/IEC 1539-1:2018, 16.5): its atom is found again among its arguments, and its
-- operands are of the atom's type.
use Rattle.std.proofs.Common.{◌≡◌, ◌∙◌, ℕ, zero, suc, ◌+◌, ◌<◌, ◌≤◌, true, List, [], ◌∷◌, ◌++◌, length, refl, ap, sym, subst, append_assoc, arith, Bool}
use Rattle.std.specs.Prelude.{ℤ, pos, drop, slice_get, Option, None, Some}
use Rattle.caf_base.specs.declared.value.AtomicOp.{AtomicOp}
use Rattle.caf_base.specs.declared.value.AtomicOp.TheVariants as atomics
use Rattle.caf_base.specs.declared.value.Kind.{Kind}
use Rattle.caf_base.specs.declared.value.Kind.TheVariants as kinds
use Rattle.walk_theory.specs.Language as language
use Rattle.walk_theory.specs.Syntax.{Parts}
use Rattle.checked_tree.specs.declared.action.AtomicChange.{AtomicChange}
use Rattle.checked_tree.specs.declared.data.Object.TheVariants as objects
use Rattle.checked_tree.specs.Expressions as t
use Rattle.checked_tree.specs.Statements as s
use Rattle.object_rules.specs.Cells.{Content, of_kind, locks, events, Declared}
use Rattle.object_rules.specs.MemoryRules.{holds, is_logical_op, suits_atomic}
use Rattle.core_runs.specs.Beginnings.{IsOneOf}
use Rattle.image_acts.specs.Statuses.{most_cells}
use Rattle.image_acts.specs.Words.{word}
use Rattle.image_acts.specs.Acts as a
use Rattle.image_acts.specs.Acts.{Act, stack, ask}
use Rattle.image_acts.specs.Core.{Core, with_values}
use Rattle.image_acts.specs.Replies.{status_of, old_in, atomic_reply}
use Rattle.image_acts.specs.Taking.{given, taken, put_down}
use Rattle.image_acts.specs.Operate.Asking.{first_operand, second_operand}
use Rattle.image_acts.specs.Meaning.{settled, effect_of}
use Rattle.image_code.specs.Sizes.{numbers}
use Rattle.tree_meaning.specs.Environment.{Environment}
use Rattle.tree_meaning.specs.Sequences.{◌▸◌, doing, dropping}
use Rattle.tree_meaning.specs.Settling.{settling, settling_selector}
use Rattle.tree_meaning.specs.Pieces.{Piece, piece_of, sizes, depth, fetching}
use Rattle.tree_meaning.specs.Expressions as view
use Rattle.tree_meaning.specs.ImageControl as control
use Rattle.tree_meaning.specs.Subroutines as sub
use Rattle.made_code.specs.Ranks as ranks
use Rattle.made_code.specs.Ranks.{times}
use Rattle.made_code.proofs.Turns.{Turns, closes, ended, acts, ◌⨾◌, part, chosen}
use Rattle.made_code.proofs.Forms.{dropped, copied, stored}
use Rattle.made_code.proofs.Expressions.{scalar_turns, result_turns}
use Rattle.made_code.proofs.Assignments.{settled as status_settled, selector_settled}
use Rattle.made_code.proofs.ImageControl.{cell_turns, there_turns}
use Rattle.stack_laws.proofs.Standing.{stand_of}
use Rattle.cell_walks.specs.Fitting.{Sizes, IsSound, EffectFits, PartsFit, Leave}
use Rattle.cell_walks.proofs.Images.{word_image}
use Rattle.cell_walks.proofs.Quieting.{Safe, one, both}
use Rattle.cell_statements.specs.Typed.{is_of, IsAtomic, IsTypedCall}
use Rattle.cell_statements.proofs.Points.{cell_fits, two_copied}
use Rattle.cell_statements.specs.Reading.{PlaceReads, SubroutineReads}
use Rattle.cell_statements.proofs.Quiet.{quiet_ranked, quiet_result, quiet_dropping}
use Rattle.cell_statements.proofs.QuietStatements.{quiet_settling, quiet_selector_status, quiet_cell, quiet_there, quiet_stat, QuietPieces, quiet_piece, quiet_fetched}
use Rattle.cell_statements.proofs.Cells.{Done, no_numbers, passed, ending}
use Rattle.cell_statements.proofs.Arguments.{within, no_deeper, AllTurn, each_turns, stat_placed, stat_below, IsFound, found}

-- ---- operands of the atom's type
-- an action on an atom of this kind: each one on integers, some on logicals
abbrev Takes : AtomicOp → Kind → Type 0
Takes op kinds.I4 = Unit {0}
Takes op kinds.L4 = is_logical_op op ≡ true
Takes op kinds.I8 = ⊥

suits : (op : AtomicOp) (k : Kind) → Takes op k → (x y : ℤ) (c : Content) → is_of k c ≡ true → suits_atomic op (first_operand op k x) (second_operand op k y) c ≡ true
suits op k t x y locks e = absurd (cc)
suits op k t x y events e = absurd (cc)
suits op kinds.I8 t x y (of_kind j) e = absurd t
suits op kinds.I4 t x y (of_kind kinds.I8) e = absurd (cc)
suits op kinds.I4 t x y (of_kind kinds.L4) e = absurd (cc)
suits op kinds.L4 t x y (of_kind kinds.I4) e = absurd (cc)
suits op kinds.L4 t x y (of_kind kinds.I8) e = absurd (cc)
suits atomics.Define kinds.I4 t x y (of_kind kinds.I4) e = refl
suits atomics.Ref kinds.I4 t x y (of_kind kinds.I4) e = refl
suits atomics.Add kinds.I4 t x y (of_kind kinds.I4) e = refl
suits atomics.And kinds.I4 t x y (of_kind kinds.I4) e = refl
suits atomics.Or kinds.I4 t x y (of_kind kinds.I4) e = refl
suits atomics.Xor kinds.I4 t x y (of_kind kinds.I4) e = refl
suits atomics.Cas kinds.I4 t x y (of_kind kinds.I4) e = refl
suits atomics.Define kinds.L4 t x y (of_kind kinds.L4) e = refl
suits atomics.Ref kinds.L4 t x y (of_kind kinds.L4) e = refl
suits atomics.Cas kinds.L4 t x y (of_kind kinds.L4) e = refl
suits atomics.Add kinds.L4 t x y (of_kind kinds.L4) e = absurd (cc)
suits atomics.And kinds.L4 t x y (of_kind kinds.L4) e = absurd (cc)
suits atomics.Or kinds.L4 t x y (of_kind kinds.L4) e = absurd (cc)
suits atomics.Xor kinds.L4 t x y (of_kind kinds.L4) e = absurd (cc)

holds_suits : (op : AtomicOp) (k : Kind) → Takes op k → (x y : ℤ) (o : Option Declared) → holds (is_of k) o ≡ true → holds (suits_atomic op (first_operand op k x) (second_operand op k y)) o ≡ true
holds_suits op k t x y None e = absurd (cc)
holds_suits op k t x y (Some d) e = suits op k t x y d.content e

logical_takes : (op : AtomicOp) → is_logical_op op ≡ true → (k : Kind) → IsAtomic k → Takes op k
logical_takes op h kinds.I4 f = tt
logical_takes op h kinds.L4 f = h
logical_takes op h kinds.I8 f = absurd f

-- a number that stands among others
deep : (o : ℕ) (zs vs : List ℤ) → o < length zs → (v : ℤ) × (rest : List ℤ) × (drop o (zs ++ vs) ≡ v ∷ rest)
deep o [] vs h = absurd (let z : o < 0 = h in omega arith)
deep zero (z ∷ zs) vs h = (z, zs ++ vs, refl)
deep (suc o) (z ∷ zs) vs h = deep o zs vs (let w : suc o < suc (length zs) = h in omega arith)

tested_0 : Turns (numbers 1 2) (sub.succeeded 0)
tested_0 = closes (part (copied 0 1) ⨾ acts (acts ended)) (omega arith)

module _ (n me : ℕ) (coarrays : List Declared) (readable : ℕ → Bool) (there : IsOneOf n me) (e : Environment) where
  abbrev On : Parts Act → (Sizes → Core → Type 0) → Sizes → Core → Type 0
  On p After y c = PartsFit n me coarrays readable p After y c

  -- ---- an operand is put down over the place and the owner of the atom, which stand over all arguments
  abbrev pub IsOperand : List Piece → List ℕ → ℕ → Parts Act → Type 1
  IsOperand ps ds m p = (zs vs : List ℤ) (After : Sizes → Core → Type 0) (y : Sizes) (c : Core) → length zs ≡ m + sizes ps ds → ((v : ℤ) → After y (with_values c (v ∷ (zs ++ vs)))) → On p After y (with_values c (zs ++ vs))

  no_operand : (ps : List Piece) (ds : List ℕ) (m : ℕ) → IsOperand ps ds m (sub.no_operand e)
  no_operand ps ds m zs vs After y c l more = more (pos 0)

  pub an_operand : (ps : List Piece) (ds : List ℕ) (d m : ℕ) → (piece_of ps d).size ≡ 1 → times d ds ≡ 1 → IsOperand ps ds m (fetching ps ds d m 1)
  an_operand ps ds d m z once zs vs After y c l more =
      let o = depth ps ds d + m in
      let r = deep o zs vs (let w = within ps ds d once in omega arith) in
      subst (λ w. EffectFits n me coarrays readable (settled (stack (a.copy o 1)) (given (taken 1 w []) (λ p. language.goes_to (with_values c (put_down p.0 (zs ++ vs)))))) After y) (sym r.2) (more r.0)

  -- the old value goes into the result variable
  old_stored : (old : t.OptionalResult) (o m : ℕ) → o + view.optional_size old ≤ m → Turns (numbers (m + 2) (m + 2)) (sub.fetched e old (o + 3))
  old_stored t.no_result o m h = closes ended (omega arith)
  old_stored (t.result r) o m h =
      closes (part tested_0 ⨾ chosen {z = numbers (m + 2) (m + 2)} (closes (part (copied 1 1) ⨾ part (stored (o + 3) (o + 2 + view.result_size r) r (omega arith) (omega arith))) (omega arith)) (closes ended (omega arith))) (omega arith)

  -- ---- the action on the atom of dummy `at`
  module _ (k : ℕ) (ss : t.Subscripts) (sel : t.Selector) (h : ranks.IsPart e.program.procedures (t.part (objects.Coarray k) ss sel) 0) (reads : PlaceReads readable (t.part (objects.Coarray k) ss sel)) (ps : List Piece) (at : ℕ)
      (is_cell : piece_of ps at ≡ sub.cell_piece e (t.part (objects.Coarray k) ss sel)) (turns : AllTurn ps) (quiet : QuietPieces readable e ps) (op : AtomicOp) (kind : Kind) (takes : Takes op kind)
      (typed : holds (is_of kind) (slice_get coarrays k) ≡ true) (ds : List ℕ) (once : times at ds ≡ 1) (x y : Parts Act) (first : IsOperand ps ds 2 x) (second : IsOperand ps ds 3 y)
      (old : t.OptionalResult) (rd : ℕ) (below_old : depth ps ds rd + view.optional_size old ≤ sizes ps ds) (stat : t.OptionalResult) (sd : ℕ) (below_stat : depth ps ds sd + view.optional_size stat ≤ sizes ps ds) where
    abbrev atom : t.Designator
    atom = t.part (objects.Coarray k) ss sel

    abbrev behind_ask : Parts Act
    behind_ask = settling_selector (view.stat_of sel) (depth ps ds at + 5) ▸ sub.fetched e old (depth ps ds rd + 3) ▸ settling stat (depth ps ds sd + 2) [] ▸ dropping (sizes ps ds + 1)

    abbrev rest : Parts Act
    rest = doing (stack a.accessed ∷ []) ▸ behind_ask

    rest_turns : Turns (numbers (2 + sizes ps ds) 0) rest
    rest_turns =
        let z : (piece_of ps at).size ≡ control.cell_size e atom = ap (λ (q : Piece). q.size) is_cell in
        let w = within ps ds at once in
        closes (acts ended ⨾ part (selector_settled (view.stat_of sel) (depth ps ds at + 5) (depth ps ds at + 4) (omega arith) (omega arith)) ⨾ part (old_stored old (depth ps ds rd) (sizes ps ds) below_old)
        ⨾ part (status_settled stat (depth ps ds sd + 2) (depth ps ds sd + 1 + view.optional_size stat) [] (omega arith) (omega arith)) ⨾ part (dropped (sizes ps ds + 1))) (omega arith)

    rest_quiet : Safe readable rest
    rest_quiet =
        both (one tt) (both (quiet_selector_status (view.stat_of sel) (depth ps ds at + 5)) (both (quiet_fetched readable e old (depth ps ds rd + 3))
        (both (quiet_settling stat (depth ps ds sd + 2) []) (quiet_dropping (sizes ps ds + 1)))))

    abbrev asking : Parts Act
    asking = doing (ask (a.atomic op k kind) ∷ stack a.accessed ∷ []) ▸ behind_ask

    asked : (vs : List ℤ) (u : Sizes) (c : Core) (o j : ℕ) (v w : ℤ) (zs : List ℤ) → IsSound n me u c → IsOneOf n o → j < most_cells → length zs ≡ sizes ps ds
        → On asking (Done n me coarrays readable vs) u (with_values c (w ∷ v ∷ pos o ∷ pos j ∷ (zs ++ vs)))
    asked vs u c o j v w zs i image small l = (
      (word_image n o image, cell_fits coarrays (word (pos o)) (suits_atomic op (first_operand op kind v) (second_operand op kind w)) k j small (holds_suits op kind takes v w (slice_get coarrays k) typed)),
      λ r told.
          ending n me coarrays readable rest_turns rest_quiet vs u (atomic_reply (with_values c (zs ++ vs)) r) i
          (stand_of (2 + sizes ps ds) (status_of r ∷ old_in r ∷ zs) vs (let m : length (status_of r ∷ old_in r ∷ zs) ≡ suc (suc (length zs)) = refl in omega arith)),
    )

    operands : (vs : List ℤ) (u : Sizes) (c : Core) (o j : ℕ) (zs : List ℤ) → IsSound n me u c → IsOneOf n o → j < most_cells → length zs ≡ sizes ps ds
        → On (x ▸ y ▸ asking) (Done n me coarrays readable vs) u (with_values c (pos o ∷ pos j ∷ (zs ++ vs)))
    operands vs u c o j zs i image small l =
        first (pos o ∷ pos j ∷ zs) vs (On (y ▸ asking) (Done n me coarrays readable vs)) u c (let m : length (pos o ∷ pos j ∷ zs) ≡ suc (suc (length zs)) = refl in omega arith)
        (λ v. second (v ∷ pos o ∷ pos j ∷ zs) vs (On asking (Done n me coarrays readable vs)) u c (let m : length (v ∷ pos o ∷ pos j ∷ zs) ≡ suc (suc (suc (length zs))) = refl in omega arith)
        (λ w. asked vs u c o j v w zs i image small l))

    fetched : (vs : List ℤ) (u : Sizes) (c : Core) (above behind : List ℤ) (o j : ℕ) → IsSound n me u c → IsOneOf n o → j < most_cells → length above ≡ depth ps ds at → length (above ++ (pos o ∷ pos j ∷ behind)) ≡ sizes ps ds
        → c.values ≡ (above ++ (pos o ∷ pos j ∷ behind)) ++ vs → On (fetching ps ds at 0 2 ▸ x ▸ y ▸ asking) (Done n me coarrays readable vs) u c
    fetched vs u c above behind o j i image small deep' many w =
        let m = depth ps ds at + 0 in
        let v : c.values ≡ above ++ (pos o ∷ pos j ∷ (behind ++ vs)) = w ∙ append_assoc above (pos o ∷ pos j ∷ behind) vs in
        subst (λ z. EffectFits n me coarrays readable (effect_of (stack (a.copy m 2)) (with_values c z)) (On (x ▸ y ▸ asking) (Done n me coarrays readable vs)) u) (sym v)
        (two_copied n me coarrays readable m u c above (pos o) (pos j) (behind ++ vs) (deep' ∙ omega arith) (On (x ▸ y ▸ asking) (Done n me coarrays readable vs))
        (subst (λ z. On (x ▸ y ▸ asking) (Done n me coarrays readable vs) u (with_values c (pos o ∷ pos j ∷ z))) (append_assoc above (pos o ∷ pos j ∷ behind) vs)
        (operands vs u c o j (above ++ (pos o ∷ pos j ∷ behind)) i image small many)))

    found_and_asked : (vs : List ℤ) (u : Sizes) (c : Core) → IsSound n me u c → (f : IsFound n ps at ds vs c) → On (control.cell_there e atom ▸ fetching ps ds at 0 2 ▸ x ▸ y ▸ asking) (Done n me coarrays readable vs) u c
    found_and_asked vs u c i f =
        let us = (f.above ++ (pos f.owner ∷ pos f.start ∷ f.behind)) ++ vs in
        passed n me coarrays readable (there_turns e atom) (quiet_there readable e atom) us (On (fetching ps ds at 0 2 ▸ x ▸ y ▸ asking) (Done n me coarrays readable vs)) u c i f.values
        (λ u2 d qs j l w. fetched vs u2 d f.above f.behind f.owner f.start j f.image f.small f.deep f.many (w ∙ ap (λ z. z ++ us) (no_numbers qs l)))

    action_fits : Leave n me coarrays readable 0 (sub.atomic e ps ds at atom op kind x y old rd stat sd)
    action_fits vs u c i v =
        found n me coarrays readable there e k ss sel h reads ps at is_cell (each_turns ps turns) (λ d. quiet_piece readable e ps d quiet) ds once vs _ u c i v
        (λ u2 d j f. found_and_asked vs u2 d j f)

  -- ---- the subroutines
  abbrev pub IsAtomicCall : s.IntrinsicSubroutine → Type 0
  IsAtomicCall (s.event_query d count stat) = ⊥
  IsAtomicCall (s.combine c x root stat) = ⊥
  IsAtomicCall (s.broadcast x root stat) = ⊥
  IsAtomicCall i = Unit {0}

  change_takes : (c : AtomicChange) → Takes (sub.change_of c) kinds.I4
  change_takes c = tt

  pub atomic_fits : (i : s.IntrinsicSubroutine) (ds : List ℕ) → IsAtomicCall i → ranks.IsSubroutine e.program.procedures i ds → IsTypedCall coarrays i → SubroutineReads readable i → Leave n me coarrays readable 0 (sub.subroutine e i (sub.pieces_of e i) ds)
  atomic_fits (s.atomic_define (t.part (objects.Coarray k) ss sel) kind x stat) ds f h y w =
      let d = t.part (objects.Coarray k) ss sel in
      let ps = sub.pieces_of e (s.atomic_define d kind x stat) in
      action_fits k ss sel h.0 w.0 ps 0 refl (cell_turns e d h.0, (scalar_turns e x h.2, (stat_placed e ds stat 2 h.4, tt))) (quiet_cell readable e d h.0 w.0, (quiet_ranked readable e x 0 h.2 w.1, (quiet_stat readable e stat ds 2 h.4 w.2, tt)))
      atomics.Define kind (logical_takes atomics.Define refl kind y.0) y.1 ds h.1 (fetching ps ds 1 2 1) (sub.no_operand e) (an_operand ps ds 1 2 refl h.3) (no_operand ps ds 3)
      t.no_result 0 (let w = no_deeper ps ds 0 in omega arith) stat 2 (stat_below e ds stat 2 ps refl h.4)
  atomic_fits (s.atomic_ref r (t.part (objects.Coarray k) ss sel) kind stat) ds f h y w =
      let d = t.part (objects.Coarray k) ss sel in
      let ps = sub.pieces_of e (s.atomic_ref r d kind stat) in
      action_fits k ss sel h.2 w.1 ps 1 refl (result_turns e r h.0, (cell_turns e d h.2, (stat_placed e ds stat 2 h.4, tt))) (quiet_result readable e r h.0 w.0, (quiet_cell readable e d h.2 w.1, (quiet_stat readable e stat ds 2 h.4 w.2, tt)))
      atomics.Ref kind (logical_takes atomics.Ref refl kind y.0) y.1 ds h.3 (sub.no_operand e) (sub.no_operand e) (no_operand ps ds 2) (no_operand ps ds 3)
      (t.result r) 0 (within ps ds 0 h.1) stat 2 (stat_below e ds stat 2 ps refl h.4)
  atomic_fits (s.atomic_change c (t.part (objects.Coarray k) ss sel) x stat) ds f h y w =
      let d = t.part (objects.Coarray k) ss sel in
      let ps = sub.pieces_of e (s.atomic_change c d x stat) in
      action_fits k ss sel h.0 w.0 ps 0 refl (cell_turns e d h.0, (scalar_turns e x h.2, (stat_placed e ds stat 2 h.4, tt))) (quiet_cell readable e d h.0 w.0, (quiet_ranked readable e x 0 h.2 w.1, (quiet_stat readable e stat ds 2 h.4 w.2, tt)))
      (sub.change_of c) kinds.I4 (change_takes c) y.1 ds h.1 (fetching ps ds 1 2 1) (sub.no_operand e) (an_operand ps ds 1 2 refl h.3) (no_operand ps ds 3)
      t.no_result 0 (let w = no_deeper ps ds 0 in omega arith) stat 2 (stat_below e ds stat 2 ps refl h.4)
  atomic_fits (s.atomic_fetch c (t.part (objects.Coarray k) ss sel) x old stat) ds f h y w =
      let d = t.part (objects.Coarray k) ss sel in
      let ps = sub.pieces_of e (s.atomic_fetch c d x old stat) in
      action_fits k ss sel h.0 w.0 ps 0 refl (cell_turns e d h.0, (scalar_turns e x h.2, (result_turns e old h.4, (stat_placed e ds stat 3 h.6, tt))))
      (quiet_cell readable e d h.0 w.0, (quiet_ranked readable e x 0 h.2 w.1, (quiet_result readable e old h.4 w.2, (quiet_stat readable e stat ds 3 h.6 w.3, tt))))
      (sub.change_of c) kinds.I4 (change_takes c) y.1 ds h.1 (fetching ps ds 1 2 1) (sub.no_operand e) (an_operand ps ds 1 2 refl h.3) (no_operand ps ds 3)
      (t.result old) 2 (within ps ds 2 h.5) stat 3 (stat_below e ds stat 3 ps refl h.6)
  atomic_fits (s.atomic_cas (t.part (objects.Coarray k) ss sel) kind old x z stat) ds f h y w =
      let d = t.part (objects.Coarray k) ss sel in
      let ps = sub.pieces_of e (s.atomic_cas d kind old x z stat) in
      action_fits k ss sel h.0 w.0 ps 0 refl (cell_turns e d h.0, (result_turns e old h.2, (scalar_turns e x h.4, (scalar_turns e z h.6, (stat_placed e ds stat 4 h.8, tt)))))
      (quiet_cell readable e d h.0 w.0, (quiet_result readable e old h.2 w.1, (quiet_ranked readable e x 0 h.4 w.2, (quiet_ranked readable e z 0 h.6 w.3, (quiet_stat readable e stat ds 4 h.8 w.4, tt)))))
      atomics.Cas kind (logical_takes atomics.Cas refl kind y.0) y.1 ds h.1 (fetching ps ds 2 2 1) (fetching ps ds 3 3 1) (an_operand ps ds 2 2 refl h.5) (an_operand ps ds 3 3 refl h.7)
      (t.result old) 1 (within ps ds 1 h.3) stat 4 (stat_below e ds stat 4 ps refl h.8)
  atomic_fits (s.atomic_define (t.part (objects.Local v) ss sel) kind x stat) ds f h y w = absurd y.1
  atomic_fits (s.atomic_define (t.part (objects.Constant v) ss sel) kind x stat) ds f h y w = absurd y.1
  atomic_fits (s.atomic_ref r (t.part (objects.Local v) ss sel) kind stat) ds f h y w = absurd y.1
  atomic_fits (s.atomic_ref r (t.part (objects.Constant v) ss sel) kind stat) ds f h y w = absurd y.1
  atomic_fits (s.atomic_change c (t.part (objects.Local v) ss sel) x stat) ds f h y w = absurd y.1
  atomic_fits (s.atomic_change c (t.part (objects.Constant v) ss sel) x stat) ds f h y w = absurd y.1
  atomic_fits (s.atomic_fetch c (t.part (objects.Local v) ss sel) x old stat) ds f h y w = absurd y.1
  atomic_fits (s.atomic_fetch c (t.part (objects.Constant v) ss sel) x old stat) ds f h y w = absurd y.1
  atomic_fits (s.atomic_cas (t.part (objects.Local v) ss sel) kind old x z stat) ds f h y w = absurd y.1
  atomic_fits (s.atomic_cas (t.part (objects.Constant v) ss sel) kind old x z stat) ds f h y w = absurd y.1
  atomic_fits (s.event_query d count stat) ds f h y w = absurd f
  atomic_fits (s.combine c x root stat) ds f h y w = absurd f
  atomic_fits (s.broadcast x root stat) ds f h y w = absurd f
