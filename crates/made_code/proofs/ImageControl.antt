-- Image control statements leave nothing.
use Rattle.std.proofs.Common.{◌≡◌, ℕ, zero, suc, ◌+◌, List, [], ◌∷◌, refl, ap, arith}
use Rattle.std.specs.Prelude.{pos}
use Rattle.walk_theory.specs.Syntax.{Parts}
use Rattle.checked_tree.specs.declared.data.Local.{Local}
use Rattle.checked_tree.specs.declared.data.Object.TheVariants as objects
use Rattle.checked_tree.specs.declared.expr.WrittenOrder.{WrittenOrder}
use Rattle.checked_tree.specs.declared.expr.WrittenOrder.TheVariants as orders
use Rattle.checked_tree.specs.Expressions as t
use Rattle.checked_tree.specs.Statements as s
use Rattle.image_acts.specs.Acts as a
use Rattle.image_acts.specs.Acts.{Act, Scope}
use Rattle.image_acts.specs.Statuses.{bad_argument, unlocked_failed_image, failed_image}
use Rattle.image_code.specs.Sizes.{numbers, with_arrays, ask_size}
use Rattle.tree_meaning.specs.Environment.{Environment}
use Rattle.tree_meaning.specs.Sequences.{doing}
use Rattle.tree_meaning.specs.Expressions as view
use Rattle.tree_meaning.specs.Assignments as assignments
use Rattle.tree_meaning.specs.ImageControl as control
use Rattle.made_code.specs.Ranks as ranks
use Rattle.made_code.proofs.Turns.{Turns, closes, ended, acts, ◌⨾◌, part, chosen, either_way}
use Rattle.made_code.proofs.Forms.{none, idle, one_act, dropped, copied, brought, pushed, co_sectioned, stored, own_needed}
use Rattle.made_code.proofs.Expressions.{scalar_turns, subscripts_turns, owner_turns, form_turns, place_turns, result_turns}
use Rattle.made_code.proofs.Assignments.{settled, selector_settled}

-- a round: what arrives takes the team on top
pub rounded : {p : Parts Act} {n : ℕ} → Turns (numbers (n + 1) n) p → Turns (numbers n (n + 1)) (control.round p)
rounded h = closes (acts ended ⨾ part h ⨾ acts (acts ended)) (omega arith)

pub put_down_two : {p q : Parts Act} (o : WrittenOrder) (m n : ℕ) → Turns (numbers 0 m) p → Turns (numbers 0 n) q → Turns (numbers 0 (m + n)) (control.put_down_as_written o p m q n)
put_down_two orders.Same m n h k = closes (part h ⨾ part k) (omega arith)
put_down_two orders.Reversed m n h k = closes (part k ⨾ part h ⨾ part (brought m n)) (omega arith)

module _ (e : Environment) where
  pub or_number : (x : t.OptionalExpression) {p : Parts Act} → ranks.IsOptionalScalar e.program.procedures x → Turns (numbers 0 1) p → Turns (numbers 0 1) (control.or_number e x p)
  or_number t.missing h k = k
  or_number (t.given x) h k = scalar_turns e x h

  pub sync_all_turns : (stat : t.OptionalResult) → ranks.IsOptionalResult e.program.procedures stat → Turns none (control.sync_all e stat)
  sync_all_turns stat h =
      let o = view.optional_size stat in
      closes (part (place_turns e stat h) ⨾ part (rounded {n = 0} one_act) ⨾ part (settled stat 1 o [] (omega arith) (omega arith)) ⨾ part (dropped o)) (omega arith)

  pub sync_memory_turns : (stat : t.OptionalResult) → ranks.IsOptionalResult e.program.procedures stat → Turns none (control.sync_memory e stat)
  sync_memory_turns stat h =
      let o = view.optional_size stat in
      closes (part (place_turns e stat h) ⨾ acts ended ⨾ part (pushed (pos 0)) ⨾ part (settled stat 1 o [] (omega arith) (omega arith)) ⨾ part (dropped o)) (omega arith)

  index_set : (x : t.Expression) → ranks.IsRanked e.program.procedures x → Turns (with_arrays 0 0 0 1) (control.index_set e (assignments.rank_in x) x)
  index_set (t.typed f type zero) h = closes (acts ended ⨾ part (form_turns e f _ 0 h) ⨾ acts ended) (omega arith)
  index_set (t.typed f type (suc r)) h = form_turns e f _ (suc r) h

  image_set : (is : s.ImageSet) → ranks.AreImages e.program.procedures is → Turns (with_arrays 0 0 0 1) (control.image_set e is)
  image_set s.all_images h = one_act
  image_set (s.images x) h = index_set x h

  pub sync_images_turns : (is : s.ImageSet) (stat : t.OptionalResult) → ranks.AreImages e.program.procedures is → ranks.IsOptionalResult e.program.procedures stat → Turns none (control.sync_images e is stat)
  sync_images_turns is stat g h =
      let o = view.optional_size stat in
      closes (part (image_set is g) ⨾ part (place_turns e stat h) ⨾ acts ended
      ⨾ chosen {z = with_arrays 0 1 1 0} (closes (acts (acts ended)) (omega arith)) (closes (acts ended ⨾ part (pushed bad_argument)) (omega arith))
      ⨾ part (settled stat 1 o [] (omega arith) (omega arith)) ⨾ part (dropped o)) (omega arith)

  pub sync_team_turns : (x : t.Expression) (stat : t.OptionalResult) → ranks.IsOfRank e.program.procedures x 0 → ranks.IsOptionalResult e.program.procedures stat → Turns none (control.sync_team e x stat)
  sync_team_turns x stat g h =
      let o = view.optional_size stat in
      closes (part (scalar_turns e x g) ⨾ acts ended ⨾ part (place_turns e stat h) ⨾ part (copied o 1) ⨾ acts (acts ended) ⨾ part (copied o 1) ⨾ acts ended
      ⨾ part (settled stat 1 o [] (omega arith) (omega arith)) ⨾ part (dropped (o + 1))) (omega arith)

  pub form_team_turns : (x : t.Expression) (v : Local) (index : t.OptionalExpression) (stat : t.OptionalResult) (order : WrittenOrder) → ranks.IsOfRank e.program.procedures x 0
      → ranks.IsOptionalScalar e.program.procedures index → ranks.IsOptionalResult e.program.procedures stat → Turns none (control.form_team e x v index stat order)
  form_team_turns x v index stat order f g h =
      let o = view.optional_size stat in
      closes (part (scalar_turns e x f) ⨾ part (put_down_two order 1 o (or_number index g (pushed (pos 0))) (place_turns e stat h))
      ⨾ part (rounded {n = o + 2} (closes (part (copied (o + 1) 2) ⨾ acts ended) (omega arith)))
      ⨾ acts ended ⨾ part (settled stat 1 o [] (omega arith) (omega arith)) ⨾ part (dropped (o + 2))) (omega arith)

  -- ---- locks and events
  pub cell_turns : (d : t.Designator) → ranks.IsCell e.program.procedures d → Turns (numbers 0 (control.cell_size e d)) (control.cell e d)
  cell_turns (t.part (objects.Coarray c) ss sel) h = closes (part (subscripts_turns e ss h.0) ⨾ part (co_sectioned ss 0 h.1 c) ⨾ part (owner_turns e c 0 sel h.2)) (omega arith)
  cell_turns (t.part (objects.Local v) ss sel) h = absurd h
  cell_turns (t.part (objects.Constant n) ss sel) h = absurd h

  pub there_turns : (d : t.Designator) → Turns none (control.cell_there e d)
  there_turns (t.part (objects.Coarray c) ss sel) = own_needed c (view.is_scalar ss 0) sel
  there_turns (t.part (objects.Local v) ss sel) = idle
  there_turns (t.part (objects.Constant n) ss sel) = idle

  plain_lock_turns : (d : t.Designator) (stat : t.OptionalResult) → ranks.IsOptionalResult e.program.procedures stat → Turns (numbers (control.cell_size e d) 0) (control.plain_lock e d stat)
  plain_lock_turns d stat h =
      let o = view.optional_size stat in
      closes (part (place_turns e stat h) ⨾ part (there_turns d) ⨾ part (copied o 2) ⨾ acts (acts ended)
      ⨾ part (selector_settled (control.cell_stat e d) (o + 4) (o + 3) (omega arith) (omega arith)) ⨾ part (settled stat 1 o (unlocked_failed_image ∷ []) (omega arith) (omega arith))
      ⨾ part (dropped (o + control.cell_size e d))) (omega arith)

  tried_lock_turns : (d : t.Designator) (r : t.ResultVariable) (stat : t.OptionalResult) (order : WrittenOrder) → ranks.IsResult e.program.procedures r → ranks.IsOptionalResult e.program.procedures stat
      → Turns (numbers (control.cell_size e d) 0) (control.tried_lock e d r stat order (view.optional_size (t.result r)))
  tried_lock_turns d r stat order g h =
      let o = view.optional_size stat in
      let n = view.result_size r in
      closes (part (put_down_two order n o (result_turns e r g) (place_turns e stat h)) ⨾ part (there_turns d) ⨾ part (copied (n + o) 2) ⨾ acts (acts ended)
      ⨾ part (selector_settled (control.cell_stat e d) (n + (o + 5)) (n + (o + 4)) (omega arith) (omega arith)) ⨾ part (copied 1 1)
      ⨾ part (stored (o + 3) (o + 2 + n) r (omega arith) (omega arith)) ⨾ part (settled stat 2 (o + 1) (unlocked_failed_image ∷ []) (omega arith) (omega arith))
      ⨾ part (dropped (1 + (n + (o + control.cell_size e d))))) (omega arith)

  pub lock_turns : (d : t.Designator) (acquired stat : t.OptionalResult) (order : WrittenOrder) → ranks.IsCell e.program.procedures d → ranks.IsOptionalResult e.program.procedures acquired
      → ranks.IsOptionalResult e.program.procedures stat → Turns none (control.lock e d acquired stat order)
  lock_turns d t.no_result stat order f g h = closes (part (cell_turns d f) ⨾ part (plain_lock_turns d stat h)) (omega arith)
  lock_turns d (t.result r) stat order f g h = closes (part (cell_turns d f) ⨾ part (tried_lock_turns d r stat order g h)) (omega arith)

  on_cell_turns : (d : t.Designator) (stat : t.OptionalResult) (x : a.AskAct) → ask_size x ≡ numbers 2 1 → ranks.IsCell e.program.procedures d → ranks.IsOptionalResult e.program.procedures stat
      → Turns none (control.on_cell e d stat x)
  on_cell_turns d stat x z g h =
      let o = view.optional_size stat in
      let asked : Turns (numbers 2 1) (doing (a.ask x ∷ a.stack a.accessed ∷ [])) = accessed_after x z in
      closes (part (cell_turns d g) ⨾ part (place_turns e stat h) ⨾ part (there_turns d) ⨾ part (copied o 2) ⨾ part asked
      ⨾ part (selector_settled (control.cell_stat e d) (o + 4) (o + 3) (omega arith) (omega arith)) ⨾ part (settled stat 1 o [] (omega arith) (omega arith))
      ⨾ part (dropped (o + control.cell_size e d))) (omega arith)
    where
      accessed_after : (y : a.AskAct) → ask_size y ≡ numbers 2 1 → Turns (numbers 2 1) (doing (a.ask y ∷ a.stack a.accessed ∷ []))
      accessed_after y w =
          let n : (ask_size y).takes.numbers ≡ 2 = ap (λ q. q.takes.numbers) w in
          let m : (ask_size y).leaves.numbers ≡ 1 = ap (λ q. q.leaves.numbers) w in
          let p : (ask_size y).takes.arrays ≡ 0 = ap (λ q. q.takes.arrays) w in
          let q : (ask_size y).leaves.arrays ≡ 0 = ap (λ q. q.leaves.arrays) w in
          let i : (ask_size y).takes.texts ≡ 0 = ap (λ q. q.takes.texts) w in
          let j : (ask_size y).leaves.texts ≡ 0 = ap (λ q. q.leaves.texts) w in
          closes (acts (acts ended)) (omega arith)

  pub unlock_turns : (d : t.Designator) (stat : t.OptionalResult) → ranks.IsCell e.program.procedures d → ranks.IsOptionalResult e.program.procedures stat → Turns none (control.unlock e d stat)
  unlock_turns d stat g h = on_cell_turns d stat (a.unlock (control.cell_coarray e d)) refl g h

  pub post_turns : (d : t.Designator) (stat : t.OptionalResult) → ranks.IsCell e.program.procedures d → ranks.IsOptionalResult e.program.procedures stat → Turns none (control.event_post e d stat)
  post_turns d stat g h = on_cell_turns d stat (a.post (control.cell_coarray e d)) refl g h

  own_cell : (d : t.Designator) → ranks.IsOwnCell e.program.procedures d → Turns (numbers 0 2) (control.cell e d)
  own_cell (t.part (objects.Coarray c) ss t.no_selector) h = cell_turns (t.part (objects.Coarray c) ss t.no_selector) h
  own_cell (t.part (objects.Coarray c) ss (t.selector cs which stat)) h = absurd h
  own_cell (t.part (objects.Local v) ss sel) h = absurd h
  own_cell (t.part (objects.Constant n) ss sel) h = absurd h

  pub wait_turns : (d : t.Designator) (until : t.OptionalExpression) (stat : t.OptionalResult) (order : WrittenOrder) → ranks.IsOwnCell e.program.procedures d
      → ranks.IsOptionalScalar e.program.procedures until → ranks.IsOptionalResult e.program.procedures stat → Turns none (control.event_wait e d until stat order)
  wait_turns d until stat order f g h =
      let o = view.optional_size stat in
      closes (part (own_cell d f) ⨾ part (dropped 1) ⨾ part (put_down_two order 1 o (or_number until g (pushed (pos 1))) (place_turns e stat h))
      ⨾ part (copied o 2) ⨾ acts ended ⨾ part (settled stat 1 o [] (omega arith) (omega arith)) ⨾ part (dropped (o + 2))) (omega arith)

  -- ---- constructs
  pub critical_turns : (n : ℕ) (stat : t.OptionalResult) → ranks.IsOptionalResult e.program.procedures stat → Turns none (control.critical e n stat)
  critical_turns n stat h =
      let o = view.optional_size stat in
      closes (part (place_turns e stat h) ⨾ acts ended ⨾ part (settled stat 1 o (failed_image ∷ []) (omega arith) (omega arith)) ⨾ part (dropped o)) (omega arith)

  pub end_critical_turns : (n : ℕ) → Turns none (control.end_critical e n)
  end_critical_turns n = one_act

  pub change_team_turns : (x : t.Expression) (stat : t.OptionalResult) → ranks.IsOfRank e.program.procedures x 0 → ranks.IsOptionalResult e.program.procedures stat → Turns none (control.change_team e x stat)
  change_team_turns x stat g h =
      let o = view.optional_size stat in
      closes (part (scalar_turns e x g) ⨾ acts ended ⨾ part (place_turns e stat h) ⨾ part (copied o 1) ⨾ acts (acts ended) ⨾ part (copied o 1) ⨾ acts ended
      ⨾ part (copied (o + 1) 1) ⨾ acts ended ⨾ part (settled stat 1 o [] (omega arith) (omega arith)) ⨾ part (dropped (o + 1))) (omega arith)

  deleted_one : (c : ℕ) → Turns none (control.deleting_one e c)
  deleted_one c = closes (acts ended ⨾ chosen {z = none} (closes (acts (acts ended)) (omega arith)) idle) (omega arith)

  deleted : (ns : List ℕ) (c : ℕ) → Turns none (control.deleting e ns c)
  deleted [] c = idle
  deleted (n ∷ ns) c = closes (part (either_way (control.is_allocatable_in e e.program.main.variables n) (deleted_one c) idle) ⨾ part (deleted ns (suc c))) (omega arith)

  pub end_team_turns : (stat : t.OptionalResult) → ranks.IsOptionalResult e.program.procedures stat → Turns none (control.end_team e stat)
  end_team_turns stat h =
      let o = view.optional_size stat in
      closes (part (place_turns e stat h) ⨾ part (rounded {n = 0} one_act) ⨾ part (deleted e.program.coarrays 0) ⨾ acts ended ⨾ part (settled stat 1 o [] (omega arith) (omega arith)) ⨾ part (dropped o)) (omega arith)
