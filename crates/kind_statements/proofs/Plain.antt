-- Conditions, output, termination, lists of images and image control without a cell: each leaves nothing behind, a
-- condition its truth value.
use Rattle.std.proofs.Common.{◌≡◌, ℕ, zero, suc, ◌+◌, ◌*◌, ◌≤◌, List, [], ◌∷◌, ◌++◌, length, slice_get, refl, arith}
use Rattle.std.specs.Prelude.{ℤ, pos, Option, None, Some}
use Rattle.std.proofs.lemmas.List.{length-append}
use Rattle.caf_base.specs.declared.value.Kind.{Kind}
use Rattle.caf_base.specs.declared.value.Kind.TheVariants as kinds
use Rattle.checked_tree.specs.declared.data.Local.{Local}
use Rattle.checked_tree.specs.declared.statement.ListedImages.{ListedImages}
use Rattle.checked_tree.specs.declared.statement.ListedImages.TheVariants as lists
use Rattle.checked_tree.specs.Expressions as t
use Rattle.checked_tree.specs.Statements as s
use Rattle.image_acts.specs.Statuses.{bad_argument, failed_image}
use Rattle.image_acts.specs.Acts as a
use Rattle.image_acts.specs.Acts.{Act, constant, stack, variable, bounded, selector, print, ask}
use Rattle.tree_meaning.specs.Environment.{Environment, scope_of, literal_text, procedure_in}
use Rattle.tree_meaning.specs.Sequences.{◌▸◌, doing, pushing, released}
use Rattle.tree_meaning.specs.Expressions as view
use Rattle.tree_meaning.specs.Assignments.{images_assignment, listing, listed_team, printed, item, items, beginning, output, kind_in}
use Rattle.tree_meaning.specs.ImageControl.{or_number, sync_all, sync_memory, sync_images, image_set, sync_team, critical, end_critical, change_team}
use Rattle.made_code.specs.Ranks as ranks
use Rattle.kind_walks.specs.Kinds.{Widens, Are, IsOf, Layout, Typing, with_number, with_array}
use Rattle.kind_walks.proofs.Effects.{with_numbers}
use Rattle.kind_walks.proofs.Frames.{layout_of}
use Rattle.kind_walks.proofs.StackActs as acts
use Rattle.kind_expressions.specs.Kinded as kinded
use Rattle.kind_expressions.specs.Kinded.{kind_of, unit_layout}
use Rattle.kind_expressions.specs.Laws.{result}
use Rattle.kind_expressions.proofs.VariableActs.{acts_put_images}
use Rattle.kind_expressions.proofs.PlaceActs as places
use Rattle.kind_expressions.proofs.ImageActs as images
use Rattle.kind_expressions.proofs.AskActs.{acts_failed, acts_stopped}
use Rattle.kind_expressions.proofs.Goes.{Setting, Goes, idle, ◌⨾◌, act_then, one_act, fork, known_as, goes_copying}
use Rattle.kind_expressions.proofs.Expressions.{IsThere, goes_scalar, goes_expression, goes_place, array_there, fits}
use Rattle.kind_statements.specs.Kinded as statements
use Rattle.kind_statements.proofs.ControlActs as control
use Rattle.kind_statements.proofs.Settled.{goes_released, goes_settled, goes_settled_on, goes_round, goes_pushing}

-- the kind of an expression
abbrev pub kind_at : t.Expression → Option Kind
kind_at (t.typed f y r) = kind_of y

as_truth : (j : Option Kind) (ks : List (Option Kind)) (vs : List ℤ) → Are IsOf (j ∷ ks) vs → Are IsOf (Some kinds.L4 ∷ ks) vs
as_truth j ks [] h = absurd h
as_truth j ks (v ∷ vs) h = (refl, h.1)

module _ (w : Setting) (few : 2 * w.images ≤ 2147483647) (e : Environment) (own main : Layout) (main_is : main ≡ w.layouts 0) (units : (n : ℕ) → w.layouts (suc n) ≡ unit_layout (procedure_in e n).unit) where
  abbrev Here : Typing → Type 0
  Here z = IsThere w few e own main main_is units z

  abbrev small : Typing → Typing
  small z = with_number (Some kinds.I4) z

  abbrev Stat : t.OptionalResult → Type 0
  Stat r = kinded.IsOptionalResult e.program w.coarrays own main r (Some kinds.I4)

  scalar : (x : t.Expression) (z : Typing) → Here z → ranks.IsOfRank e.program.procedures x 0 → kinded.IsKinded e.program w.coarrays own main x → Goes w z (view.expression e x) (with_number (kind_at x) z)
  scalar (t.typed f y r) z i h k = goes_scalar w few e own main main_is units (t.typed f y r) z i h k

  -- ---- a condition
  pub goes_condition : (x : t.Expression) (z : Typing) → Here z → ranks.IsOfRank e.program.procedures x 0 → kinded.IsKinded e.program w.coarrays own main x → Goes w z (released (view.expression e x)) (with_number (Some kinds.L4) z)
  goes_condition x z i h k =
      goes_released w (known_as w z (with_number (kind_at x) z) (with_number (Some kinds.L4) z)
      (λ c y. record { numbers = as_truth (kind_at x) z.numbers c.values y.numbers; arrays = y.arrays; running = y.running; callers = y.callers; images = y.images; known = y.known; formed = y.formed }) (scalar x z i h k))

  -- ---- output
  goes_printed : (k : Kind) (l : Option Kind) (r : ℕ) (z : Typing) → Goes w (result l r z) (printed e k r) z
  goes_printed kinds.I4 l zero z = one_act w (with_number l z) (print a.print_number) z (control.acts_print_number w.coarrays w.images l z)
  goes_printed kinds.I8 l zero z = one_act w (with_number l z) (print a.print_number) z (control.acts_print_number w.coarrays w.images l z)
  goes_printed kinds.L4 l zero z = one_act w (with_number l z) (print a.print_truth) z (control.acts_print_truth w.coarrays w.images l z)
  goes_printed kinds.I4 l (suc r) z = one_act w (with_array l z) (print (a.print_array kinds.I4)) z (control.acts_print_array w.coarrays w.images kinds.I4 l z)
  goes_printed kinds.I8 l (suc r) z = one_act w (with_array l z) (print (a.print_array kinds.I8)) z (control.acts_print_array w.coarrays w.images kinds.I8 l z)
  goes_printed kinds.L4 l (suc r) z = one_act w (with_array l z) (print (a.print_array kinds.L4)) z (control.acts_print_array w.coarrays w.images kinds.L4 l z)

  goes_item : (x : s.Item) (z : Typing) → Here z → ranks.IsItem e.program.procedures x → statements.IsItem e.program w.coarrays own main x → Goes w z (item e x) z
  goes_item (s.literal n) z i h k = one_act w z (print (a.print_literal n (literal_text e n))) z (control.acts_print_literal w.coarrays w.images n (literal_text e n) z)
  goes_item (s.value (t.typed f y r)) z i h k =
      goes_expression w few e own main main_is units (t.typed f y r) z i h k ⨾ goes_printed (kind_in (t.typed f y r)) (kind_of y) r z

  goes_items : (xs : List s.Item) (z : Typing) → Here z → ranks.AreItems e.program.procedures xs → statements.AreItems e.program w.coarrays own main xs → Goes w z (items e xs) z
  goes_items [] z i h k = idle
  goes_items (x ∷ xs) z i h k = goes_item x z i h.0 k.0 ⨾ goes_items xs z i h.1 k.1

  goes_beginning : (f : s.Format) (z : Typing) → Goes w z (beginning e f) z
  goes_beginning s.free z = one_act w z (print a.begin_free) z (control.acts_begin_free w.coarrays w.images z)
  goes_beginning (s.written n ds) z = one_act w z (print (a.begin_format (literal_text e n))) z (control.acts_begin_format w.coarrays w.images (literal_text e n) z)

  pub goes_output : (f : s.Format) (xs : List s.Item) (z : Typing) → Here z → ranks.AreItems e.program.procedures xs → statements.AreItems e.program w.coarrays own main xs → Goes w z (output e f xs) z
  goes_output f xs z i h k = goes_beginning f z ⨾ goes_items xs z i h k ⨾ one_act w z (ask a.say) z (control.acts_say w.coarrays w.images z)

  -- ---- termination
  pub goes_stop : (x : t.OptionalExpression) (z : Typing) → Here z → ranks.IsOptionalScalar e.program.procedures x → kinded.IsOptional e.program w.coarrays own main x → Goes w z (or_number e x (pushing (pos 0)) ▸ doing (ask a.stop ∷ [])) z
  goes_stop t.missing z i h k = goes_pushing w (pos 0) z ⨾ one_act w (with_number None z) (ask a.stop) z (control.acts_stop w.coarrays w.images None z z)
  goes_stop (t.given x) z i h k = scalar x z i h k ⨾ one_act w (with_number (kind_at x) z) (ask a.stop) z (control.acts_stop w.coarrays w.images (kind_at x) z z)

  pub goes_error_stop : (x : t.OptionalExpression) (z : Typing) → Here z → ranks.IsOptionalScalar e.program.procedures x → kinded.IsOptional e.program w.coarrays own main x → Goes w z (or_number e x (pushing (pos 0)) ▸ doing (ask a.error_stop ∷ [])) z
  goes_error_stop t.missing z i h k = goes_pushing w (pos 0) z ⨾ one_act w (with_number None z) (ask a.error_stop) z (control.acts_error_stop w.coarrays w.images None z z)
  goes_error_stop (t.given x) z i h k = scalar x z i h k ⨾ one_act w (with_number (kind_at x) z) (ask a.error_stop) z (control.acts_error_stop w.coarrays w.images (kind_at x) z z)

  pub goes_fail : (z : Typing) → Goes w z (doing (ask a.fail ∷ [])) z
  goes_fail z = one_act w z (ask a.fail) z (control.acts_fail w.coarrays w.images z z)

  -- ---- FAILED_IMAGES or STOPPED_IMAGES into a whole allocatable array
  listed_team_there : (x : t.OptionalExpression) (z : Typing) → Here z → ranks.IsOptionalScalar e.program.procedures x → kinded.IsOptional e.program w.coarrays own main x → Goes w z (listed_team e x) (with_number None z)
  listed_team_there t.missing z i h k = one_act w z (selector a.this_team) (with_number None z) (images.acts_this_team w.coarrays w.images few z)
  listed_team_there (t.given x) z i h k = scalar x z i h k ⨾ one_act w (with_number (kind_at x) z) (selector a.team_value) (with_number None z) (images.acts_team_value w.coarrays w.images few (kind_at x) z)

  images_listed : (l : ListedImages) (z : Typing) → Goes w (with_number None z) (listing e l) (with_array (Some kinds.I4) z)
  images_listed lists.Failed z =
      act_then w (with_number None z) (ask a.failed) (with_array (Some kinds.I4) z) (acts_failed w.coarrays w.images None z)
      (one_act w (with_array (Some kinds.I4) z) (stack a.take_cells) (with_array (Some kinds.I4) z) (acts.acts_take_cells w.coarrays w.images (with_array (Some kinds.I4) z)))
  images_listed lists.Stopped z =
      act_then w (with_number None z) (ask a.stopped) (with_array (Some kinds.I4) z) (acts_stopped w.coarrays w.images None z)
      (one_act w (with_array (Some kinds.I4) z) (stack a.take_cells) (with_array (Some kinds.I4) z) (acts.acts_take_cells w.coarrays w.images (with_array (Some kinds.I4) z)))

  pub goes_images : (v : Local) (j : Kind) (l : ListedImages) (x : t.OptionalExpression) (z : Typing) → Here z → ranks.IsOptionalScalar e.program.procedures x → kinded.HasKind e.program w.coarrays own main v (Some j) → Widens (Some kinds.I4) (Some j)
      → kinded.IsOptional e.program w.coarrays own main x → Goes w z (images_assignment e v l x) z
  goes_images v j l x z i h d g k =
      listed_team_there x z i h k ⨾ images_listed l z
      ⨾ one_act w (with_array (Some kinds.I4) z) (variable (a.put_images (scope_of v.home) v.variable)) z
      (acts_put_images w.coarrays w.images (scope_of v.home) v.variable (Some kinds.I4) z
      (λ m q. fits w few e own main main_is units (Some kinds.I4) (Some j) g (slice_get (layout_of (scope_of v.home) z).arrays v.variable) (array_there w few e own main main_is units v (Some j) z i d) m q))

  -- ---- image control
  pub goes_sync_all : (r : t.OptionalResult) (z : Typing) → Here z → ranks.IsOptionalResult e.program.procedures r → Stat r → Goes w z (sync_all e r) z
  goes_sync_all r z i h k =
      let p = goes_place w few e own main main_is units r (Some kinds.I4) z i h k in
      let y = with_numbers p.kinds z in
      p.goes ⨾ goes_round w few e own main main_is units (one_act w (with_number None y) (ask a.arrive_sync) y (control.acts_arrive_sync w.coarrays w.images None y)) ⨾ goes_settled w few e own main main_is units r k p.kinds p.long [] z i

  pub goes_sync_memory : (r : t.OptionalResult) (z : Typing) → Here z → ranks.IsOptionalResult e.program.procedures r → Stat r → Goes w z (sync_memory e r) z
  goes_sync_memory r z i h k =
      let p = goes_place w few e own main main_is units r (Some kinds.I4) z i h k in
      let y = with_numbers p.kinds z in
      p.goes ⨾ one_act w y (ask a.memory) y (control.acts_memory w.coarrays w.images y) ⨾ one_act w y (constant (pos 0)) (small y) (acts.acts_constant w.coarrays w.images (pos 0) (Some kinds.I4) refl y)
      ⨾ goes_settled w few e own main main_is units r k p.kinds p.long [] z i

  pub goes_critical : (n : ℕ) (r : t.OptionalResult) (z : Typing) → Here z → ranks.IsOptionalResult e.program.procedures r → Stat r → Goes w z (critical e n r) z
  goes_critical n r z i h k =
      let p = goes_place w few e own main main_is units r (Some kinds.I4) z i h k in
      let y = with_numbers p.kinds z in
      p.goes ⨾ one_act w y (ask (a.enter_critical n)) (small y) (control.acts_enter_critical w.coarrays w.images n y) ⨾ goes_settled w few e own main main_is units r k p.kinds p.long (failed_image ∷ []) z i

  pub goes_end_critical : (n : ℕ) (z : Typing) → Goes w z (end_critical e n) z
  goes_end_critical n z = one_act w z (ask (a.exit_critical n)) z (control.acts_exit_critical w.coarrays w.images n z)

  -- an image set as an array, of which nothing more is known
  record Listed (x : s.ImageSet) (z : Typing) : Type 0 where
    pub kind : Option Kind
    pub goes : Goes w z (image_set e x) (with_array kind z)

  listed : (x : s.ImageSet) (z : Typing) → Here z → ranks.AreImages e.program.procedures x → statements.AreImages e.program w.coarrays own main x → Listed x z
  listed s.all_images z i h k = record { kind = None; goes = one_act w z (bounded a.every_index) (with_array None z) (places.acts_every_index w.coarrays w.images z) }
  listed (s.images (t.typed f y zero)) z i h k = record {
    kind = None;
    goes = one_act w z (stack a.empty_array) (with_array None z) (acts.acts_empty w.coarrays w.images None z) ⨾ goes_expression w few e own main main_is units (t.typed f y 0) (with_array None z) i h k
        ⨾ one_act w (with_number (kind_of y) (with_array None z)) (stack a.append) (with_array None z) (acts.acts_append w.coarrays w.images (kind_of y) None tt z);
  }
  listed (s.images (t.typed f y (suc r))) z i h k = record { kind = kind_of y; goes = goes_expression w few e own main main_is units (t.typed f y (suc r)) z i h k }

  pub goes_sync_images : (x : s.ImageSet) (r : t.OptionalResult) (z : Typing) → Here z → ranks.AreImages e.program.procedures x → ranks.IsOptionalResult e.program.procedures r → statements.AreImages e.program w.coarrays own main x → Stat r
      → Goes w z (sync_images e x r) z
  goes_sync_images x r z i h g d k =
      let l = listed x z i h d in
      let p = goes_place w few e own main main_is units r (Some kinds.I4) (with_array l.kind z) i g k in
      let y = with_numbers p.kinds z in
      let u = with_array l.kind y in
      l.goes ⨾ p.goes ⨾ one_act w u (bounded a.are_indices) (with_number (Some kinds.L4) u) (places.acts_are_indices w.coarrays w.images u)
      ⨾ fork w (Some kinds.L4) u (small y)
      (act_then w u (ask a.pair) y (control.acts_pair w.coarrays w.images l.kind y) (one_act w y (ask a.unpair) (small y) (control.acts_unpair w.coarrays w.images y)))
      (one_act w u (stack a.drop_array) y (acts.acts_drop_array w.coarrays w.images l.kind y) ⨾ one_act w y (constant bad_argument) (small y) (acts.acts_constant w.coarrays w.images bad_argument (Some kinds.I4) refl y)) idle
      ⨾ goes_settled w few e own main main_is units r k p.kinds p.long [] z i

  one_more : (qs : List (Option Kind)) (j : Option Kind) (m : ℕ) → length qs ≡ m → length (qs ++ (j ∷ [])) ≡ m + 1
  one_more qs j m e2 = (let x = length-append qs (j ∷ []) in omega arith)

  pub goes_sync_team : (x : t.Expression) (r : t.OptionalResult) (z : Typing) → Here z → ranks.IsOfRank e.program.procedures x 0 → ranks.IsOptionalResult e.program.procedures r → kinded.IsKinded e.program w.coarrays own main x → Stat r
      → Goes w z (sync_team e x r) z
  goes_sync_team x r z i h g d k =
      let j = kind_at x in
      let u = with_number j z in
      let m = view.optional_size r in
      let p = goes_place w few e own main main_is units r (Some kinds.I4) u i g k in
      let y = with_numbers p.kinds u in
      scalar x z i h d ⨾ one_act w u (Act.team a.near_team) u (control.acts_near_team w.coarrays w.images u) ⨾ p.goes ⨾ goes_copying w z p.kinds (j ∷ []) m 1 p.long refl
      ⨾ act_then w (with_number j y) (Act.team a.near_team) (with_number j y) (control.acts_near_team w.coarrays w.images (with_number j y)) (one_act w (with_number j y) (ask a.arrive_sync) y (control.acts_arrive_sync w.coarrays w.images j y))
      ⨾ goes_copying w z p.kinds (j ∷ []) m 1 p.long refl ⨾ one_act w (with_number j y) (ask a.leave) (small y) (control.acts_leave w.coarrays w.images j y)
      ⨾ goes_settled_on w few e own main main_is units r k p.kinds (j ∷ []) (m + 1) p.long (one_more p.kinds j m p.long) [] z i

  pub goes_change_team : (x : t.Expression) (r : t.OptionalResult) (z : Typing) → Here z → ranks.IsOfRank e.program.procedures x 0 → ranks.IsOptionalResult e.program.procedures r → kinded.IsKinded e.program w.coarrays own main x → Stat r
      → Goes w z (change_team e x r) z
  goes_change_team x r z i h g d k =
      let j = kind_at x in
      let u = with_number j z in
      let m = view.optional_size r in
      let p = goes_place w few e own main main_is units r (Some kinds.I4) u i g k in
      let y = with_numbers p.kinds u in
      scalar x z i h d ⨾ one_act w u (Act.team a.child_team) u (control.acts_child_team w.coarrays w.images u) ⨾ p.goes ⨾ goes_copying w z p.kinds (j ∷ []) m 1 p.long refl
      ⨾ act_then w (with_number j y) (Act.team a.child_team) (with_number j y) (control.acts_child_team w.coarrays w.images (with_number j y)) (one_act w (with_number j y) (ask a.arrive_change) y (control.acts_arrive_change w.coarrays w.images j y))
      ⨾ goes_copying w z p.kinds (j ∷ []) m 1 p.long refl ⨾ one_act w (with_number j y) (ask a.leave) (small y) (control.acts_leave w.coarrays w.images j y)
      ⨾ goes_copying w z (Some kinds.I4 ∷ p.kinds) (j ∷ []) (m + 1) 1 (let q = p.long in omega arith) refl ⨾ one_act w (with_number j (small y)) (Act.team a.make_current) (small y) (control.acts_make_current w.coarrays w.images j (small y))
      ⨾ goes_settled_on w few e own main main_is units r k p.kinds (j ∷ []) (m + 1) p.long (one_more p.kinds j m p.long) [] z i
