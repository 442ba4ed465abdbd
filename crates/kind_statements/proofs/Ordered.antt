-- FORM TEAM, EVENT WAIT, and LOCK with ACQUIRED_LOCK=: specifiers that are evaluated as they are written.
use Rattle.std.proofs.Common.{◌≡◌, ◌∙◌, ℕ, suc, ◌+◌, ◌*◌, ◌≤◌, List, [], ◌∷◌, ◌++◌, length, slice_get, refl, ap, subst, append_assoc, arith}
use Rattle.std.specs.Prelude.{ℤ, pos, Option, None, Some}
use Rattle.std.proofs.lemmas.List.{length-append}
use Rattle.caf_base.specs.declared.value.Kind.{Kind}
use Rattle.caf_base.specs.declared.value.Kind.TheVariants as kinds
use Rattle.checked_tree.specs.declared.data.Local.{Local}
use Rattle.checked_tree.specs.declared.data.Object.TheVariants as objects
use Rattle.checked_tree.specs.declared.expr.WrittenOrder.{WrittenOrder}
use Rattle.checked_tree.specs.Expressions as t
use Rattle.image_acts.specs.Statuses.{unlocked_failed_image}
use Rattle.image_acts.specs.Acts as a
use Rattle.image_acts.specs.Acts.{Act, stack, ask}
use Rattle.tree_meaning.specs.Environment.{Environment, scope_of, procedure_in}
use Rattle.tree_meaning.specs.Sequences.{◌▸◌, doing, pushing, dropping, copying}
use Rattle.tree_meaning.specs.Settling.{settling, settling_selector}
use Rattle.tree_meaning.specs.Expressions as view
use Rattle.tree_meaning.specs.ImageControl.{or_number, round, form_team, cell, cell_stat, cell_size, cell_coarray, tried_lock, event_wait}
use Rattle.made_code.specs.Ranks as ranks
use Rattle.kind_walks.specs.Kinds.{Widens, Layout, Typing, with_number}
use Rattle.kind_walks.proofs.Effects.{with_numbers}
use Rattle.kind_walks.proofs.Frames.{layout_of}
use Rattle.kind_walks.proofs.StackActs as acts
use Rattle.kind_expressions.specs.Kinded as kinded
use Rattle.kind_expressions.specs.Kinded.{unit_layout}
use Rattle.kind_expressions.proofs.Goes.{Setting, Goes, ◌⨾◌, act_then, one_act, Leaves, leaves_one, goes_dropping, goes_copying}
use Rattle.kind_expressions.proofs.Expressions.{IsThere, goes_scalar, goes_place, goes_storing, scalar_there, fits}
use Rattle.kind_statements.specs.Kinded as statements
use Rattle.kind_statements.proofs.ControlActs as control
use Rattle.kind_statements.proofs.Settled.{goes_settling, goes_settling_selector, goes_settled_on, goes_round, goes_pushing, goes_put_down}
use Rattle.kind_statements.proofs.Plain.{kind_at}
use Rattle.kind_statements.proofs.Cells.{goes_cell, goes_there, both, both_long}

team_alone : (k : Option Kind) → Widens None k → k ≡ None
team_alone None x = refl
team_alone (Some kinds.I4) x = absurd x
team_alone (Some kinds.I8) x = absurd x
team_alone (Some kinds.L4) x = absurd x

module _ (w : Setting) (few : 2 * w.images ≤ 2147483647) (e : Environment) (own main : Layout) (main_is : main ≡ w.layouts 0) (units : (n : ℕ) → w.layouts (suc n) ≡ unit_layout (procedure_in e n).unit) where
  abbrev Here : Typing → Type 0
  Here z = IsThere w few e own main main_is units z

  abbrev small : Typing → Typing
  small z = with_number (Some kinds.I4) z

  abbrev Stat : t.OptionalResult → Type 0
  Stat r = kinded.IsOptionalResult e.program w.coarrays own main r (Some kinds.I4)

  scalar : (x : t.Expression) (z : Typing) → Here z → ranks.IsOfRank e.program.procedures x 0 → kinded.IsKinded e.program w.coarrays own main x → Goes w z (view.expression e x) (with_number (kind_at x) z)
  scalar (t.typed f y r) z i h k = goes_scalar w few e own main main_is units (t.typed f y r) z i h k

  or_this : (v : ℤ) (x : t.OptionalExpression) (z : Typing) → Here z → ranks.IsOptionalScalar e.program.procedures x → kinded.IsOptional e.program w.coarrays own main x → Leaves w z 1 (or_number e x (pushing v))
  or_this v t.missing z i h k = leaves_one w z None (goes_pushing w v z)
  or_this v (t.given x) z i h k = leaves_one w z (kind_at x) (scalar x z i h k)

  -- ---- FORM TEAM, from the new index on
  formed : (v : Local) (r : t.OptionalResult) (j : Option Kind) (lower upper : List (Option Kind)) → length lower ≡ 1 → length upper ≡ view.optional_size r → (z : Typing) → Here z → kinded.HasKind e.program w.coarrays own main v None → Stat r
      → Goes w (with_numbers upper (with_numbers lower (with_number j z)))
      (round (copying (view.optional_size r + 1) 2 ▸ doing (ask a.arrive_form ∷ [])) ▸ doing (Act.team (a.note_teams (scope_of v.home) v.variable) ∷ []) ▸ settling r 1 [] ▸ dropping (view.optional_size r + 2)) z
  formed v r j [] upper f g z i h k = absurd (let x : 0 ≡ 1 = f in omega arith)
  formed v r j (l ∷ m ∷ lower) upper f g z i h k = absurd (let x : suc (suc (length lower)) ≡ 1 = f in omega arith)
  formed v r j (l ∷ []) upper f g z i h k =
      let n = view.optional_size r in
      let y = with_numbers upper (with_numbers (l ∷ j ∷ []) z) in
      let u = with_number None y in
      goes_round w few e own main main_is units (goes_copying w z (None ∷ upper) (l ∷ j ∷ []) (n + 1) 2 (let x = g in omega arith) refl
      ⨾ one_act w (with_number l (with_number j u)) (ask a.arrive_form) y (control.acts_arrive_form w.coarrays w.images None j l y))
      ⨾ one_act w (small y) (Act.team (a.note_teams (scope_of v.home) v.variable)) (small y)
      (control.acts_note_teams w.coarrays w.images (scope_of v.home) v.variable (small y)
      (λ c q. team_alone c (fits w few e own main main_is units None None tt (slice_get (layout_of (scope_of v.home) z).scalars v.variable) (scalar_there w few e own main main_is units v None z i h) c q)))
      ⨾ goes_settled_on w few e own main main_is units r k upper (l ∷ j ∷ []) (n + 2) g (length-append upper (l ∷ j ∷ []) ∙ (let x = g in omega arith)) [] z i

  pub goes_form_team : (x : t.Expression) (v : Local) (index : t.OptionalExpression) (r : t.OptionalResult) (order : WrittenOrder) (z : Typing) → Here z → ranks.IsOfRank e.program.procedures x 0 → ranks.IsOptionalScalar e.program.procedures index
      → ranks.IsOptionalResult e.program.procedures r → kinded.IsKinded e.program w.coarrays own main x → kinded.HasKind e.program w.coarrays own main v None → kinded.IsOptional e.program w.coarrays own main index → Stat r → Goes w z (form_team e x v index r order) z
  goes_form_team x v index r order z i h1 h2 h3 k1 k2 k3 k4 =
      let j = kind_at x in
      let u = with_number j z in
      let p = goes_put_down w few e own main main_is units order 1 (view.optional_size r) u (λ y o. or_this (pos 0) index y o h2 k3) (λ y o. goes_place w few e own main main_is units r (Some kinds.I4) y o h3 k4) i in
      scalar x z i h1 k1 ⨾ p.goes ⨾ formed v r j p.lower p.upper p.low p.up z i k2 k4

  -- ---- LOCK with ACQUIRED_LOCK=
  pub goes_tried_lock : (d : t.Designator) (acquired : t.ResultVariable) (r : t.OptionalResult) (order : WrittenOrder) (z : Typing) → Here z → ranks.IsCell e.program.procedures d → ranks.IsResult e.program.procedures acquired
      → ranks.IsOptionalResult e.program.procedures r → statements.IsCell e.program w.coarrays own main d → kinded.IsResult e.program w.coarrays own main acquired (Some kinds.L4) → Stat r
      → Goes w z (cell e d ▸ tried_lock e d acquired r order (view.result_size acquired)) z
  goes_tried_lock d acquired r order z i h1 h2 h3 k1 k2 k3 =
      let c = goes_cell w few e own main main_is units d z i h1 k1 in
      let bs = both in
      let qs = c.kinds in
      let x = with_numbers qs z in
      let u = with_numbers bs x in
      let n = view.result_size acquired in
      let m = view.optional_size r in
      let p = goes_put_down w few e own main main_is units order n m u (λ y o. goes_place w few e own main main_is units (t.result acquired) (Some kinds.L4) y o h2 k2) (λ y o. goes_place w few e own main main_is units r (Some kinds.I4) y o h3 k3) i in
      let lo = p.low in
      let up = p.up in
      let y = with_numbers p.upper (with_numbers p.lower u) in
      let t2 = with_number (Some kinds.L4) y in
      c.goes ⨾ p.goes ⨾ goes_there w few e own main main_is units d y ⨾ copied bs x p.lower p.upper n m lo up both_long
      ⨾ act_then w (with_numbers bs y) (ask (a.try_lock (cell_coarray e d))) (small t2) (control.acts_try_lock w.coarrays w.images None None (cell_coarray e d) y)
      (one_act w (small t2) (stack a.accessed) (small t2) (acts.acts_accessed w.coarrays w.images (small t2)))
      ⨾ selector_settled d bs c.stat p.lower p.upper qs n m lo up c.long both_long z i
      ⨾ goes_copying w y (Some kinds.I4 ∷ []) (Some kinds.L4 ∷ []) 1 1 refl refl
      ⨾ goes_storing w few e own main main_is units acquired (Some kinds.L4) k2 (Some kinds.I4 ∷ Some kinds.L4 ∷ p.upper) p.lower (m + 3) (omega arith) lo u i
      ⨾ goes_settling w few e own main main_is units r k3 (Some kinds.L4 ∷ []) p.upper 2 refl up (unlocked_failed_image ∷ []) (with_numbers p.lower u) i
      ⨾ all_dropped bs p.lower p.upper qs (1 + (n + (m + cell_size e d))) (let y1 = c.long in let y2 = both_long in omega arith) z
    where
      copied : (bs : List (Option Kind)) (x : Typing) (lower upper : List (Option Kind)) (n m : ℕ) → length lower ≡ n → length upper ≡ m → length bs ≡ 2
          → Goes w (with_numbers upper (with_numbers lower (with_numbers bs x))) (copying (n + m) 2) (with_numbers bs (with_numbers upper (with_numbers lower (with_numbers bs x))))
      copied bs x lower upper n m lo up l =
          subst (λ ns. Goes w (record x { numbers = ns }) (copying (n + m) 2) (record x { numbers = bs ++ ns })) (append_assoc upper lower (bs ++ x.numbers))
          (goes_copying w x (upper ++ lower) bs (n + m) 2 (length-append upper lower ∙ (omega arith)) l)

      selector_settled : (d : t.Designator) (bs : List (Option Kind)) → Stat (cell_stat e d) → (lower upper qs : List (Option Kind)) (n m : ℕ) → length lower ≡ n → length upper ≡ m → length qs ≡ view.optional_size (cell_stat e d) → length bs ≡ 2
          → (z : Typing) → Here z
          → Goes w (small (with_number (Some kinds.L4) (with_numbers upper (with_numbers lower (with_numbers bs (with_numbers qs z)))))) (settling_selector (cell_stat e d) (n + (m + 5)))
          (small (with_number (Some kinds.L4) (with_numbers upper (with_numbers lower (with_numbers bs (with_numbers qs z))))))
      selector_settled d bs g lower upper qs n m lo up lq lb z i =
          let us = Some kinds.L4 ∷ (upper ++ (lower ++ bs)) in
          let ll = length-append upper (lower ++ bs) in
          let lm = length-append lower bs in
          subst (λ ns. Goes w (small (record z { numbers = Some kinds.L4 ∷ ns })) (settling_selector (cell_stat e d) (n + (m + 5))) (small (record z { numbers = Some kinds.L4 ∷ ns })))
          (append_assoc upper (lower ++ bs) (qs ++ z.numbers) ∙ ap (λ ns. upper ++ ns) (append_assoc lower bs (qs ++ z.numbers)))
          (goes_settling_selector w few e own main main_is units (cell_stat e d) g us qs (n + (m + 5)) (omega arith) lq z i)

      all_dropped : (bs lower upper qs : List (Option Kind)) (m : ℕ) → 1 + (length upper + (length lower + (length bs + length qs))) ≡ m → (z : Typing)
          → Goes w (with_number (Some kinds.L4) (with_numbers upper (with_numbers lower (with_numbers bs (with_numbers qs z))))) (dropping m) z
      all_dropped bs lower upper qs m l z =
          let us = Some kinds.L4 ∷ (upper ++ (lower ++ (bs ++ qs))) in
          let la = length-append upper (lower ++ (bs ++ qs)) in
          let lb = length-append lower (bs ++ qs) in
          let lc = length-append bs qs in
          subst (λ ns. Goes w (record z { numbers = Some kinds.L4 ∷ ns }) (dropping m) z)
          (append_assoc upper (lower ++ (bs ++ qs)) z.numbers ∙ ap (λ ns. upper ++ ns) (append_assoc lower (bs ++ qs) z.numbers ∙ ap (λ ns. lower ++ ns) (append_assoc bs qs z.numbers)))
          (goes_dropping w z us m (omega arith))

  -- ---- EVENT WAIT, whose event is this image's
  own_cell : (d : t.Designator) → ranks.IsOwnCell e.program.procedures d → ranks.IsCell e.program.procedures d
  own_cell (t.part (objects.Coarray c) ss t.no_selector) h = h
  own_cell (t.part (objects.Coarray c) ss (t.selector cs which stat)) h = absurd h
  own_cell (t.part (objects.Local v) ss sel) h = absurd h
  own_cell (t.part (objects.Constant c) ss sel) h = absurd h

  no_stat : (d : t.Designator) → ranks.IsOwnCell e.program.procedures d → view.optional_size (cell_stat e d) ≡ 0
  no_stat (t.part (objects.Coarray c) ss t.no_selector) h = refl
  no_stat (t.part (objects.Coarray c) ss (t.selector cs which stat)) h = absurd h
  no_stat (t.part (objects.Local v) ss sel) h = absurd h
  no_stat (t.part (objects.Constant c) ss sel) h = absurd h

  waited : (c : ℕ) (r : t.OptionalResult) (lower upper qs : List (Option Kind)) → length lower ≡ 1 → length upper ≡ view.optional_size r → length qs ≡ 0 → (z : Typing) → Here z → Stat r
      → Goes w (with_numbers upper (with_numbers lower (with_number None (with_numbers qs z)))) (copying (view.optional_size r) 2 ▸ doing (ask (a.wait c) ∷ []) ▸ settling r 1 [] ▸ dropping (view.optional_size r + 2)) z
  waited c r [] upper qs f g q z i k = absurd (let x : 0 ≡ 1 = f in omega arith)
  waited c r (l ∷ m ∷ lower) upper qs f g q z i k = absurd (let x : suc (suc (length lower)) ≡ 1 = f in omega arith)
  waited c r (l ∷ []) upper qs f g q z i k =
      let n = view.optional_size r in
      let x = with_numbers qs z in
      let y = with_numbers upper (with_numbers (l ∷ None ∷ []) x) in
      goes_copying w x upper (l ∷ None ∷ []) n 2 g refl ⨾ one_act w (with_number l (with_number None y)) (ask (a.wait c)) (small y) (control.acts_wait w.coarrays w.images None l c y)
      ⨾ goes_settled_on w few e own main main_is units r k upper (l ∷ None ∷ qs) (n + 2) g (length-append upper (l ∷ None ∷ qs) ∙ (let u = g in let v = q in omega arith)) [] z i

  pub goes_event_wait : (d : t.Designator) (until : t.OptionalExpression) (r : t.OptionalResult) (order : WrittenOrder) (z : Typing) → Here z → ranks.IsOwnCell e.program.procedures d → ranks.IsOptionalScalar e.program.procedures until
      → ranks.IsOptionalResult e.program.procedures r → statements.IsCell e.program w.coarrays own main d → kinded.IsOptional e.program w.coarrays own main until → Stat r → Goes w z (event_wait e d until r order) z
  goes_event_wait d until r order z i h1 h2 h3 k1 k2 k3 =
      let c = goes_cell w few e own main main_is units d z i (own_cell d h1) k1 in
      let u = with_number None (with_numbers c.kinds z) in
      let p = goes_put_down w few e own main main_is units order 1 (view.optional_size r) u (λ y o. or_this (pos 1) until y o h2 k2) (λ y o. goes_place w few e own main main_is units r (Some kinds.I4) y o h3 k3) i in
      c.goes ⨾ goes_dropping w u (None ∷ []) 1 refl ⨾ p.goes ⨾ waited (cell_coarray e d) r p.lower p.upper c.kinds p.low p.up (c.long ∙ no_stat d h1) z i k3
