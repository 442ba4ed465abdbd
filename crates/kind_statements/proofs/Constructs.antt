-- Heads of constructs, calls and END TEAM: each leaves nothing behind, a test its truth value.
use Rattle.std.proofs.Common.{◌≡◌, ◌∙◌, ℕ, zero, suc, ◌+◌, ◌*◌, ◌≤◌, List, [], ◌∷◌, ◌++◌, length, slice_get, refl, sym, subst, arith}
use Rattle.std.specs.Prelude.{ℤ, pos, Option, None, Some}
use Rattle.caf_base.specs.declared.value.Kind.{Kind}
use Rattle.caf_base.specs.declared.value.Kind.TheVariants as kinds
use Rattle.checked_tree.specs.declared.data.Local.{Local}
use Rattle.checked_tree.specs.declared.statement.CaseRange.{CaseRange}
use Rattle.checked_tree.specs.declared.statement.CaseRange.TheVariants as ranges
use Rattle.checked_tree.specs.Expressions as t
use Rattle.checked_tree.specs.Statements.{Unit'}
use Rattle.walk_theory.specs.Syntax.{Parts}
use Rattle.image_acts.specs.Acts as a
use Rattle.image_acts.specs.Acts.{Act, here, constant, variable, bounded, operator, allocation, ask}
use Rattle.tree_meaning.specs.Environment.{Environment, scope_of, hidden_cell, procedure_in}
use Rattle.tree_meaning.specs.Sequences.{◌▸◌, doing, pushing, released}
use Rattle.tree_meaning.specs.Expressions as view
use Rattle.tree_meaning.specs.ImageControl.{or_number, is_allocatable_in, deleting_one, deleting, end_team}
use Rattle.tree_meaning.specs.Forms.{compared, in_range, in_more_ranges, in_ranges, called, parameter, do_start}
use Rattle.made_code.specs.Ranks as ranks
use Rattle.kind_walks.specs.Kinds.{Layout, Typing, with_number}
use Rattle.kind_walks.proofs.Effects.{with_numbers}
use Rattle.kind_walks.proofs.Frames.{layout_of}
use Rattle.kind_walks.proofs.StackActs as acts
use Rattle.kind_walks.proofs.StackActs.{Acts}
use Rattle.kind_expressions.specs.Kinded as kinded
use Rattle.kind_expressions.specs.Kinded.{unit_layout}
use Rattle.kind_expressions.proofs.VariableActs.{acts_cell_unknown, acts_begin, acts_next, acts_more}
use Rattle.kind_expressions.proofs.PlaceActs as places
use Rattle.kind_expressions.proofs.Calls.{given_on, goes_calling}
use Rattle.kind_expressions.proofs.Operators.{itself}
use Rattle.kind_expressions.proofs.Goes.{Setting, Goes, idle, ◌⨾◌, by_test, act_then, one_act, fork}
use Rattle.kind_expressions.proofs.References.{goes_store}
use Rattle.kind_expressions.proofs.Expressions.{IsThere, goes_scalar, goes_place, goes_arguments, all_back, scalar_there, fits}
use Rattle.kind_statements.proofs.ControlActs as control
use Rattle.kind_statements.proofs.AllocationActs as allocations
use Rattle.kind_statements.proofs.Settled.{goes_released, goes_settled, goes_round, goes_pushing}
use Rattle.kind_statements.proofs.Plain.{kind_at}

-- behind the last one there is none
past : (xs : List (Option Kind)) (i : ℕ) → length xs ≤ i → slice_get xs i ≡ None
past [] i l = refl
past (x ∷ xs) zero l = absurd (let z : suc (length xs) ≤ 0 = l in omega arith)
past (x ∷ xs) (suc i) l = past xs i (let z : suc (length xs) ≤ suc i = l in omega arith)

module _ (w : Setting) where
  abbrev told : Typing → Typing
  told z = with_number (Some kinds.L4) z

  -- ---- case values, compared with that of a hidden cell
  goes_compared : (x : ℕ) (v : ℤ) (o : a.OperatorAct) (z : Typing) → Acts w.coarrays w.images (with_number None (with_number None z)) (operator o) (told z) → (rest : List Act) {t : Typing} → Goes w (told z) (doing rest) t → Goes w z (doing (compared x v o ++ rest)) t
  goes_compared x v o z h rest g =
      act_then w z (variable (a.cell here x)) (with_number None z) (acts_cell_unknown w.coarrays w.images here x z)
      (act_then w (with_number None z) (constant v) (with_number None (with_number None z)) (acts.acts_constant w.coarrays w.images v None tt (with_number None z)) (act_then w (with_number None (with_number None z)) (operator o) (told z) h g))

  goes_range : (x : ℕ) (r : CaseRange) (z : Typing) (rest : List Act) {t : Typing} → Goes w (told z) (doing rest) t → Goes w z (doing (in_range x r ++ rest)) t
  goes_range x (ranges.Value v) z rest g = goes_compared x v a.equal z (acts.acts_equal w.coarrays w.images None None z) rest g
  goes_range x (ranges.AtLeast v) z rest g = goes_compared x v a.at_least z (acts.acts_at_least w.coarrays w.images None None z) rest g
  goes_range x (ranges.AtMost v) z rest g = goes_compared x v a.at_most z (acts.acts_at_most w.coarrays w.images None None z) rest g
  goes_range x (ranges.Between u v) z rest g =
      goes_compared x u a.at_least z (acts.acts_at_least w.coarrays w.images None None z) (compared x v a.at_most ++ (operator a.both ∷ rest))
      (goes_compared x v a.at_most (told z) (acts.acts_at_most w.coarrays w.images None None (told z)) (operator a.both ∷ rest) (act_then w (told (told z)) (operator a.both) (told z) (acts.acts_both w.coarrays w.images (Some kinds.L4) (Some kinds.L4) z) g))

  goes_more_ranges : (x : ℕ) (rs : List CaseRange) (z : Typing) → Goes w (told z) (doing (in_more_ranges x rs)) (told z)
  goes_more_ranges x [] z = idle
  goes_more_ranges x (r ∷ rs) z = goes_range x r (told z) (operator a.any_of ∷ in_more_ranges x rs) (act_then w (told (told z)) (operator a.any_of) (told z) (acts.acts_any w.coarrays w.images (Some kinds.L4) (Some kinds.L4) z) (goes_more_ranges x rs z))

  pub goes_ranges : (x : ℕ) (rs : List CaseRange) (z : Typing) → Goes w z (doing (in_ranges x rs)) (told z)
  goes_ranges x [] z = one_act w z (constant (pos 0)) (told z) (acts.acts_constant w.coarrays w.images (pos 0) (Some kinds.L4) refl z)
  goes_ranges x (r ∷ rs) z = goes_range x r z (in_more_ranges x rs) (goes_more_ranges x rs z)

  module _ (few : 2 * w.images ≤ 2147483647) (e : Environment) (own main : Layout) (main_is : main ≡ w.layouts 0) (units : (n : ℕ) → w.layouts (suc n) ≡ unit_layout (procedure_in e n).unit) where
    abbrev Here : Typing → Type 0
    Here z = IsThere w few e own main main_is units z

    scalar : (x : t.Expression) (z : Typing) → Here z → ranks.IsOfRank e.program.procedures x 0 → kinded.IsKinded e.program w.coarrays own main x → Goes w z (view.expression e x) (with_number (kind_at x) z)
    scalar (t.typed f y r) z i h k = goes_scalar w few e own main main_is units (t.typed f y r) z i h k

    -- ---- DO with a variable
    fitted : (k : Kind) (j : Option Kind) (z : Typing) {p : Parts Act} → Goes w z p (with_number j z) → Goes w z (parameter e k p) (with_number (Some k) z)
    fitted k j z h = h ⨾ one_act w (with_number j z) (operator (a.fits k 0)) (with_number (Some k) z) (acts.acts_fits w.coarrays w.images k j z)

    step_fitted : (k : Kind) (x : t.OptionalExpression) (z : Typing) → Here z → ranks.IsOptionalScalar e.program.procedures x → kinded.IsOptional e.program w.coarrays own main x → Goes w z (parameter e k (or_number e x (pushing (pos 1)))) (with_number (Some k) z)
    step_fitted k t.missing z i h d = fitted k None z (goes_pushing w (pos 1) z)
    step_fitted k (t.given x) z i h d = fitted k (kind_at x) z (scalar x z i h d)

    -- hidden cells stand behind the variables
    module _ (hidden : length own.scalars ≤ e.hidden) where
      no_variable : (z : Typing) → Here z → (i : ℕ) → e.hidden ≤ i → slice_get z.running.scalars i ≡ None
      no_variable z x i l = subst (λ (y : Layout). slice_get y.scalars i ≡ None) (sym x.running) (past own.scalars i (let h = hidden in omega arith))

      pub goes_do_start : (v : Local) (k : Kind) (first last : t.Expression) (step : t.OptionalExpression) (n : ℕ) (z : Typing) → Here z → kinded.HasKind e.program w.coarrays own main v (Some k) → ranks.IsOfRank e.program.procedures first 0
          → ranks.IsOfRank e.program.procedures last 0 → ranks.IsOptionalScalar e.program.procedures step → kinded.IsKinded e.program w.coarrays own main first → kinded.IsKinded e.program w.coarrays own main last
          → kinded.IsOptional e.program w.coarrays own main step → Goes w z (released (do_start e v k first last step (hidden_cell e n))) z
      goes_do_start v k first last step n z i d h1 h2 h3 k1 k2 k3 =
          let j = Some k in
          let x = hidden_cell e n in
          goes_released w (fitted k (kind_at first) z (scalar first z i h1 k1) ⨾ fitted k (kind_at last) (with_number j z) (scalar last (with_number j z) i h2 k2) ⨾ step_fitted k step (with_number j (with_number j z)) i h3 k3
          ⨾ one_act w (with_number j (with_number j (with_number j z))) (variable (a.begin_iterations (scope_of v.home) v.variable x)) z
          (acts_begin w.coarrays w.images (scope_of v.home) v.variable x j j j z
          (λ m q. fits w few e own main main_is units j j (itself k) (slice_get (layout_of (scope_of v.home) z).scalars v.variable) (scalar_there w few e own main main_is units v j z i d) m q)
          (no_variable z i x (omega arith)) (no_variable z i (x + 1) (omega arith))))

      pub goes_do_next : (v : Local) (k : Kind) (n : ℕ) (z : Typing) → Here z → kinded.HasKind e.program w.coarrays own main v (Some k) → Goes w z (doing (variable (a.next_iteration (scope_of v.home) v.variable (hidden_cell e n) k) ∷ [])) z
      goes_do_next v k n z i d =
          let x = hidden_cell e n in
          one_act w z (variable (a.next_iteration (scope_of v.home) v.variable x k)) z
          (acts_next w.coarrays w.images (scope_of v.home) v.variable x k z
          (λ m q. fits w few e own main main_is units (Some k) (Some k) (itself k) (slice_get (layout_of (scope_of v.home) z).scalars v.variable) (scalar_there w few e own main main_is units v (Some k) z i d) m q) (no_variable z i x (omega arith)))

      -- SELECT CASE
      pub goes_selected_value : (x : t.Expression) (n : ℕ) (z : Typing) → Here z → ranks.IsOfRank e.program.procedures x 0 → kinded.IsKinded e.program w.coarrays own main x
          → Goes w z (released (view.expression e x) ▸ doing (variable (a.store here (hidden_cell e n)) ∷ [])) z
      goes_selected_value x n z i h k =
          goes_released w (scalar x z i h k) ⨾ goes_store w here (hidden_cell e n) (kind_at x) z (λ m q. absurd (let y = no_variable z i (hidden_cell e n) (omega arith) in cc))

    pub goes_do_test : (n : ℕ) (z : Typing) → Goes w z (doing (variable (a.more_iterations (hidden_cell e n)) ∷ [])) (told z)
    goes_do_test n z = one_act w z (variable (a.more_iterations (hidden_cell e n))) (told z) (acts_more w.coarrays w.images (hidden_cell e n) z)

    -- ---- CALL
    nothing_given : (u : Unit') (o : Option ℕ) → ranks.GivesNothing o → (z : Typing) {y : Typing} {p : Parts Act} → Goes w y p (given_on w u o z) → Goes w y p z
    nothing_given u None h z g = g
    nothing_given u (Some x) h z g = absurd h

    pub goes_call : (n : ℕ) (es : t.Arguments) (z : Typing) → Here z → ranks.GivesNothing (procedure_in e n).answer → ranks.ArePassed e.program.procedures (procedure_in e n).unit.variables (procedure_in e n).dummies es
        → kinded.ArePassed e.program w.coarrays own main (procedure_in e n).unit.variables (procedure_in e n).dummies es → Goes w z (called e n (procedure_in e n) es) z
    goes_call n es z i g h k =
        let q = procedure_in e n in
        let ps = view.passed q.unit.variables q.dummies es in
        goes_arguments w few e own main main_is units q.unit.variables q.dummies es z i h k
        ⨾ nothing_given q.unit q.answer g z (goes_calling w n q ps z (units n) (i.last ∙ main_is) (all_back w few e own main main_is units q.unit q.dummies es z i h k))

    -- ---- END TEAM: coarrays that were allocated in the team are deallocated
    goes_deleting_one : (c : ℕ) (z : Typing) → Goes w z (deleting_one e c) z
    goes_deleting_one c z =
        one_act w z (bounded (a.made_in_team c)) (told z) (places.acts_made_in_team w.coarrays w.images c z)
        ⨾ fork w (Some kinds.L4) z z (act_then w z (ask (a.delete c)) z (control.acts_delete w.coarrays w.images c z) (one_act w z (allocation (a.note_freed c)) z (allocations.acts_note_freed w.coarrays w.images c z))) idle idle

    goes_deleting : (ns : List ℕ) (c : ℕ) (z : Typing) → Goes w z (deleting e ns c) z
    goes_deleting [] c z = idle
    goes_deleting (n ∷ ns) c z = by_test (is_allocatable_in e e.program.main.variables n) (λ f. goes_deleting_one c z) (λ f. idle) ⨾ goes_deleting ns (suc c) z

    pub goes_end_team : (r : t.OptionalResult) (z : Typing) → Here z → ranks.IsOptionalResult e.program.procedures r → kinded.IsOptionalResult e.program w.coarrays own main r (Some kinds.I4) → Goes w z (end_team e r) z
    goes_end_team r z i h k =
        let p = goes_place w few e own main main_is units r (Some kinds.I4) z i h k in
        let y = with_numbers p.kinds z in
        let x = with_number (Some kinds.I4) y in
        p.goes ⨾ goes_round w few e own main main_is units (one_act w (with_number None y) (ask a.arrive_end) y (control.acts_arrive_end w.coarrays w.images None y)) ⨾ goes_deleting e.program.coarrays 0 x
        ⨾ one_act w x (Act.team a.leave_team) x (control.acts_leave_team w.coarrays w.images x) ⨾ goes_settled w few e own main main_is units r k p.kinds p.long [] z i
