-- Statements on a lock or an event: its cell stands beneath the place of a STAT= variable.
use Rattle.std.proofs.Common.{◌≡◌, ℕ, suc, ◌+◌, ◌*◌, ◌≤◌, List, [], ◌∷◌, ◌++◌, length, refl, ap, subst, append_assoc, arith}
use Rattle.std.specs.Prelude.{ℤ, Option, None, Some}
use Rattle.std.proofs.lemmas.List.{length-append}
use Rattle.caf_base.specs.declared.value.Kind.{Kind}
use Rattle.caf_base.specs.declared.value.Kind.TheVariants as kinds
use Rattle.checked_tree.specs.declared.data.Object.TheVariants as objects
use Rattle.checked_tree.specs.Expressions as t
use Rattle.image_acts.specs.Statuses.{unlocked_failed_image}
use Rattle.image_acts.specs.Places.{place_size}
use Rattle.image_acts.specs.Acts as a
use Rattle.image_acts.specs.Acts.{Act, stack, ask}
use Rattle.tree_meaning.specs.Environment.{Environment, procedure_in}
use Rattle.tree_meaning.specs.Sequences.{◌▸◌, doing, dropping, copying}
use Rattle.tree_meaning.specs.Settling.{settling, settling_selector}
use Rattle.tree_meaning.specs.Expressions as view
use Rattle.tree_meaning.specs.ImageControl.{cell, cell_stat, cell_size, cell_coarray, cell_there, plain_lock, unlock, event_post}
use Rattle.made_code.specs.Ranks as ranks
use Rattle.kind_walks.specs.Kinds.{Layout, Typing, with_number}
use Rattle.kind_walks.proofs.Effects.{with_numbers, unknown_long}
use Rattle.kind_walks.proofs.StackActs as acts
use Rattle.kind_walks.proofs.StackActs.{Acts}
use Rattle.kind_expressions.specs.Kinded as kinded
use Rattle.kind_expressions.specs.Kinded.{unit_layout}
use Rattle.kind_expressions.proofs.Goes.{Setting, Goes, idle, ◌⨾◌, act_then, one_act, from_grouped, goes_dropping, goes_copying}
use Rattle.kind_expressions.proofs.References.{place, goes_co_section, goes_needing_own}
use Rattle.kind_expressions.proofs.Expressions.{IsThere, goes_subscripts, goes_owner, goes_place}
use Rattle.kind_statements.specs.Kinded as statements
use Rattle.kind_statements.proofs.ControlActs as control
use Rattle.kind_statements.proofs.Settled.{goes_settling, goes_settling_selector}

-- the kinds of a cell's two numbers
abbrev pub both : List (Option Kind)
both = None ∷ place 0

pub both_long : length both ≡ 2
both_long = ap suc (unknown_long (place_size 0))

module _ (w : Setting) (few : 2 * w.images ≤ 2147483647) (e : Environment) (own main : Layout) (main_is : main ≡ w.layouts 0) (units : (n : ℕ) → w.layouts (suc n) ≡ unit_layout (procedure_in e n).unit) where
  abbrev Here : Typing → Type 0
  Here z = IsThere w few e own main main_is units z

  abbrev small : Typing → Typing
  small z = with_number (Some kinds.I4) z

  abbrev Stat : t.OptionalResult → Type 0
  Stat r = kinded.IsOptionalResult e.program w.coarrays own main r (Some kinds.I4)

  -- a cell: the owner, the offset, and beneath both the place of its selector's STAT=
  pub record Celled (d : t.Designator) (z : Typing) : Type 0 where
    pub kinds : List (Option Kind)
    pub long : length kinds ≡ view.optional_size (cell_stat e d)
    pub goes : Goes w z (cell e d) (with_numbers (None ∷ place 0) (with_numbers kinds z))
    pub stat : Stat (cell_stat e d)

  pub goes_cell : (d : t.Designator) (z : Typing) → Here z → ranks.IsCell e.program.procedures d → statements.IsCell e.program w.coarrays own main d → Celled d z
  goes_cell (t.part (objects.Local v) ss sel) z i h k = absurd h
  goes_cell (t.part (objects.Constant v) ss sel) z i h k = absurd h
  goes_cell (t.part (objects.Coarray c) ss sel) z i h k = (
      let u = goes_subscripts w few e own main main_is units ss z i h.0 k.0 in
      let o = goes_owner w few e own main main_is units c 0 sel z i h.2 k.1 in
      record { kinds = o.kinds; long = o.long; goes = u.goes ⨾ goes_co_section w c ss 0 h.1 u.kinds u.long z ⨾ o.goes; stat = selector_stat sel k.1 })
    where
      selector_stat : (x : t.Selector) → kinded.IsSelector e.program w.coarrays own main x → Stat (view.stat_of x)
      selector_stat t.no_selector y = tt
      selector_stat (t.selector cs which stat) y = y.2

  pub goes_there : (d : t.Designator) (z : Typing) → Goes w z (cell_there e d) z
  goes_there (t.part (objects.Local v) ss sel) z = idle
  goes_there (t.part (objects.Constant v) ss sel) z = idle
  goes_there (t.part (objects.Coarray c) ss sel) z = goes_needing_own w c (view.is_scalar ss 0) sel z

  -- ---- an action on the cell, whose status stands on the places
  abbrev Acting : Act → Type 0
  Acting x = (z : Typing) → Acts w.coarrays w.images (with_numbers both z) x (small z)

  -- the selector's status, with the places and the cell above its own place
  settled_selector : (d : t.Designator) (r : t.OptionalResult) → Stat (cell_stat e d) → (ps qs : List (Option Kind)) → length ps ≡ view.optional_size r → length qs ≡ view.optional_size (cell_stat e d) → (z : Typing) → Here z
      → Goes w (small (with_numbers ps (with_numbers both (with_numbers qs z)))) (settling_selector (cell_stat e d) (view.optional_size r + 4)) (small (with_numbers ps (with_numbers both (with_numbers qs z))))
  settled_selector d r g ps qs l m z i =
      subst (λ ns. Goes w (small (record z { numbers = ns })) (settling_selector (cell_stat e d) (view.optional_size r + 4)) (small (record z { numbers = ns }))) (append_assoc ps both (qs ++ z.numbers))
      (goes_settling_selector w few e own main main_is units (cell_stat e d) g (ps ++ both) qs (view.optional_size r + 4) (let x = length-append ps both in let y = l in omega arith) m z i)

  -- all places and the cell are dropped
  all_dropped : (ps qs : List (Option Kind)) (m : ℕ) → length ps + (2 + length qs) ≡ m → (z : Typing) → Goes w (with_numbers ps (with_numbers both (with_numbers qs z))) (dropping m) z
  all_dropped ps qs m l z =
      from_grouped w (with_numbers qs z) both ps (from_grouped w z qs (ps ++ both) (goes_dropping w z ((ps ++ both) ++ qs) m (let x = length-append ps both in let y = length-append (ps ++ both) qs in omega arith)))

  -- from the cell on: the place of STAT=, the action, and both statuses
  acted : (d : t.Designator) (r : t.OptionalResult) (x : Act) (as' : List ℤ) (z : Typing) → Here z → (c : Celled d z) → Acting x → ranks.IsOptionalResult e.program.procedures r → Stat r
      → Goes w (with_numbers both (with_numbers c.kinds z))
      (view.optional_place e r ▸ cell_there e d ▸ copying (view.optional_size r) 2 ▸ doing (x ∷ stack a.accessed ∷ []) ▸ settling_selector (cell_stat e d) (view.optional_size r + 4) ▸ settling r 1 as' ▸ dropping (view.optional_size r + cell_size e d)) z
  acted d r x as' z i c f h k =
      let qs = c.kinds in
      let u = with_numbers both (with_numbers qs z) in
      let p = goes_place w few e own main main_is units r (Some kinds.I4) u i h k in
      let m = view.optional_size r in
      let y = with_numbers p.kinds u in
      let lp = p.long in
      p.goes ⨾ goes_there d y ⨾ goes_copying w (with_numbers qs z) p.kinds both m 2 lp both_long ⨾ act_then w (with_numbers both y) x (small y) (f y) (one_act w (small y) (stack a.accessed) (small y) (acts.acts_accessed w.coarrays w.images (small y)))
      ⨾ settled_selector d r c.stat p.kinds qs lp c.long z i
      ⨾ goes_settling w few e own main main_is units r k [] p.kinds 1 refl lp as' u i
      ⨾ all_dropped p.kinds qs (m + cell_size e d) (let y1 = lp in let y2 = c.long in omega arith) z

  pub goes_plain_lock : (d : t.Designator) (r : t.OptionalResult) (z : Typing) → Here z → ranks.IsCell e.program.procedures d → ranks.IsOptionalResult e.program.procedures r → statements.IsCell e.program w.coarrays own main d → Stat r
      → Goes w z (cell e d ▸ plain_lock e d r) z
  goes_plain_lock d r z i h g k l =
      let c = goes_cell d z i h k in
      c.goes ⨾ acted d r (ask (a.lock (cell_coarray e d))) (unlocked_failed_image ∷ []) z i c (λ y. control.acts_lock w.coarrays w.images None None (cell_coarray e d) y) g l

  pub goes_unlock : (d : t.Designator) (r : t.OptionalResult) (z : Typing) → Here z → ranks.IsCell e.program.procedures d → ranks.IsOptionalResult e.program.procedures r → statements.IsCell e.program w.coarrays own main d → Stat r → Goes w z (unlock e d r) z
  goes_unlock d r z i h g k l =
      let c = goes_cell d z i h k in
      c.goes ⨾ acted d r (ask (a.unlock (cell_coarray e d))) [] z i c (λ y. control.acts_unlock w.coarrays w.images None None (cell_coarray e d) y) g l

  pub goes_event_post : (d : t.Designator) (r : t.OptionalResult) (z : Typing) → Here z → ranks.IsCell e.program.procedures d → ranks.IsOptionalResult e.program.procedures r → statements.IsCell e.program w.coarrays own main d → Stat r → Goes w z (event_post e d r) z
  goes_event_post d r z i h g k l =
      let c = goes_cell d z i h k in
      c.goes ⨾ acted d r (ask (a.post (cell_coarray e d))) [] z i c (λ y. control.acts_post w.coarrays w.images None None (cell_coarray e d) y) g l
