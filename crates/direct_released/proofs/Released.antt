-- Statements: behind assignments and PRINT their evaluation cells are free again, and STOP, ERROR STOP and FAIL IMAGE
-- end the image.
use Rattle.std.proofs.Common.{◌≡◌, refl, ap, sym, ◌∙◌, ℕ, zero, suc, ◌+◌, ◌==◌, ◌||◌, ℤ, Bool, true, false, true≢false, cond, List, [], ◌∷◌, ◌++◌, map, replicate, Option, None, Some, pos}
use Rattle.std.specs.List.{list_all}
use Rattle.caf_base.specs.declared.value.Kind.{Kind}
use Rattle.caf_base.specs.declared.value.Kind.TheVariants as kinds
use Rattle.caf_base.specs.Arithmetic.{fits_kind, value_of}
use Rattle.caf_events.specs.declared.ask.Ask.TheVariants as asked
use Rattle.caf_events.specs.declared.reply.Reply.{Reply}
use Rattle.caf_events.specs.declared.reply.Reply.TheVariants as replies
use Rattle.walk_theory.specs.Syntax.{Parts}
use Rattle.checked_tree.specs.declared.data.DataType.{DataType}
use Rattle.checked_tree.specs.declared.data.Object.TheVariants as objects
use Rattle.checked_tree.specs.Expressions as t
use Rattle.checked_tree.specs.Statements as s
use Rattle.image_acts.specs.Faults.{overflow, shape_fault}
use Rattle.image_acts.specs.Formats.{formatted}
use Rattle.image_acts.specs.Acts as a
use Rattle.image_acts.specs.Acts.{Act, Scope, stack, bounded, ask}
use Rattle.image_acts.specs.Core.{Core, Local, Item, literal}
use Rattle.image_acts.specs.Operate.Asking.{span_of}
use Rattle.image_acts.specs.Operate.Bounds.{same_extents}
use Rattle.image_acts.specs.Places.{Place, Subscript, extents_of, cells_of, place_size}
use Rattle.tree_meaning.specs.Environment.{Environment, scope_of, kind_of, literal_text}
use Rattle.tree_meaning.specs.Sequences.{◌▸◌, doing, takes, dropping, pushing, released}
use Rattle.tree_meaning.specs.Expressions as parts
use Rattle.tree_meaning.specs.Expressions.{expression, is_scalar, has_selector, form_of, stat_of, optional_size, storing_status, needing_own}
use Rattle.tree_meaning.specs.Assignments as acts
use Rattle.tree_meaning.specs.ImageControl as control
use Rattle.tree_meaning.specs.Assignments.{narrows, kind_in, rank_in, fitting, fitting_section, agreeing, putting, lifting, writing, left_over}
use Rattle.direct_meaning.specs.States.{State, state_of, with_state, array_in}
use Rattle.direct_meaning.specs.Outcomes.{Outcome, done, faults, asks, over, unsaid, and_then, Does, giving, ◌▹◌, asking, unless}
use Rattle.direct_meaning.specs.Told.{told}
use Rattle.direct_meaning.specs.Values.{Value, number, array, as_number, set_scalar, set_elements, part_of, coarray_part, need_own}
use Rattle.direct_meaning.specs.Images.{this_image, image}
use Rattle.direct_meaning.specs.Expressions.{Passed, Target, nowhere, set_target, value, all_of, subscripts, scalars, selected, selected_team, optional_target}
use Rattle.direct_meaning.specs.Synchronizing.{ending}
use Rattle.direct_meaning.specs.Statements.{of_rank, ranked, converted, elements_of, spread, place_of_array, place_there, defined, written, write_part, item_of, items_of, items, text_of, output, assigned, assignment, Control, onward, form, or_number}
use Rattle.direct_agreement.specs.Agreeing.{Agrees, HasSpare, HasRoom}
use Rattle.direct_agreement.proofs.Agreement.{Comes, comes_agrees, comes_number, said_apart}
use Rattle.direct_laws.proofs.Values.{value_comes}
use Rattle.direct_laws.specs.Laws.{OptionWithin, IsCovered}
use Rattle.direct_statements.specs.Laws.{put_nothing, IsAssigned}
use Rattle.direct_statements.proofs.Assignments.{assignment_law}
use Rattle.direct_output.specs.Laws.{AreItems, HasLines}
use Rattle.direct_output.proofs.Printing.{print_law}
use Rattle.direct_released.specs.Laws.{put_control, IsFree, StatementLaw}
use Rattle.direct_released.proofs.Quiet.{Leaves, leaves_then, said_leaves, IsQuiet, q_then, q_giving, q_cond, q_unless, q_found, q_asking, q_number, neither}
use Rattle.direct_released.proofs.QuietSteps.{q_part_of, q_coarray_part, q_need_own, q_this_image, q_set_elements, q_set_scalar, q_set_target, first_of, last_of}
use Rattle.direct_released.proofs.QuietTrees.{all_quiet, selected_quiet, selector_of, quiet_value, quiet_subscripts, quiet_scalars, quiet_selected, quiet_target}

-- an assignment's own steps take no cell
q_rank : (r : ℕ) (v : Value) → IsQuiet (of_rank r v)
q_rank zero (number v) = λ l z. (refl, refl)
q_rank zero (array w) = λ l z. tt
q_rank (suc r) (number v) = λ l z. tt
q_rank (suc r) (array w) = λ l z. (refl, refl)

q_converted : (from k : Kind) (v : Value) → IsQuiet (converted from k v)
q_converted from k v =
    let G : Does (Unit {0}) = giving tt in
    q_cond (narrows from k) (unless overflow (list_all (fits_kind k) (elements_of v)) G) G
    (q_unless overflow (list_all (fits_kind k) (elements_of v)) G (λ l z. (refl, refl))) (λ l z. (refl, refl))

q_spread : (p : Place) (v : Value) → IsQuiet (spread p v)
q_spread p (number v) = q_giving (replicate (cells_of p) v)
q_spread p (array w) = q_unless shape_fault (same_extents w.extents (extents_of p)) (giving w.elements) (q_giving w.elements)

q_place_of : (o : Option Local) (xs : List Subscript) → IsQuiet (place_of_array o xs)
q_place_of None xs = λ l z. (refl, refl)
q_place_of (Some w) xs = q_then (part_of w.bounds xs) (λ p. giving (Some p)) (q_part_of w.bounds xs) (λ p. q_giving (Some p))

q_place_there : (s : Scope) (x : ℕ) (xs : List Subscript) → IsQuiet (place_there s x xs)
q_place_there s x xs = λ l z. q_place_of (array_in s x z) xs l z

q_defined : (s : Scope) (x : ℕ) (o : Option Place) (v : Value) → IsQuiet (defined s x o v)
q_defined s x None v = λ l z. tt
q_defined s x (Some p) v = q_then (spread p v) (λ vs. set_elements s x p vs) (q_spread p v) (λ vs. q_set_elements s x p vs)

q_written : (r : Reply) → IsQuiet (written r)
q_written replies.Done = λ l z. (refl, refl)
q_written replies.Dead = λ l z. (refl, refl)
q_written replies.Absent = λ l z. tt
q_written r = λ l z. tt

q_write_part : (k i : ℕ) (p : Place) (kind : Kind) (vs : List ℤ) → IsQuiet (write_part k i p kind vs)
q_write_part k i p kind vs =
    q_cond (cells_of p == 0) (giving (pos 0)) (asking (asked.Write (image i) (span_of k p) (map (value_of kind) vs)) ▹ written)
    (q_giving (pos 0))
    (q_then (asking (asked.Write (image i) (span_of k p) (map (value_of kind) vs))) written
    (q_asking (asked.Write (image i) (span_of k p) (map (value_of kind) vs))) (λ r. q_written r))

-- what is behind the image of the left side
abbrev tail : ℕ → Bool → Kind → Kind → Value → Place → ℕ → Target → Does (Unit {0})
tail i needs_none from k x p m g = converted from k x ▹
    (λ u. need_own needs_none i ▹ (λ u. spread p x ▹ (λ vs. write_part i m p k vs ▹ (λ status. set_target g status))))

q_tail : (i : ℕ) (b : Bool) (from k : Kind) (x : Value) (p : Place) (m : ℕ) (g : Target) → IsQuiet (tail i b from k x p m g)
q_tail i b from k x p m g =
    let W : List ℤ → Does (Unit {0}) = λ vs. write_part i m p k vs ▹ (λ status. set_target g status) in
    let S : Does (Unit {0}) = spread p x ▹ W in
    let N : Does (Unit {0}) = need_own b i ▹ (λ u. S) in
    q_then (converted from k x) (λ u. N) (q_converted from k x) (λ u. q_then (need_own b i) (λ t. S) (q_need_own b i)
    (λ t. q_then (spread p x) W (q_spread p x)
    (λ vs. q_then (write_part i m p k vs) (λ status. set_target g status) (q_write_part i m p k vs) (λ status. q_set_target g status))))

module _ (limit : ℕ) (e : Environment) (calls : ℕ → List Passed → Does Value) where
  local_quiet : (s : Scope) (i : ℕ) (ss : t.Subscripts) (rank : ℕ) (from k : Kind) (x : Value) → IsQuiet (subscripts e calls ss)
      → IsQuiet (all_of e calls ss rank ▹ (λ xs. place_there s i xs ▹ (λ p. converted from k x ▹ (λ u. defined s i p x))))
  local_quiet s i ss rank from k x h =
      q_then (all_of e calls ss rank) (λ xs. place_there s i xs ▹ (λ p. converted from k x ▹ (λ u. defined s i p x)))
      (all_quiet e calls ss rank h)
      (λ xs. q_then (place_there s i xs) (λ p. converted from k x ▹ (λ u. defined s i p x)) (q_place_there s i xs)
      (λ p. q_then (converted from k x) (λ u. defined s i p x) (q_converted from k x) (λ u. q_defined s i p x)))

  -- the parts of a left side
  abbrev behind_owner : ℕ → t.Subscripts → t.Selector → Kind → ℕ → Kind → ℕ → Parts Act
  behind_owner i ss sel k rank from r =
      lifting r (optional_size (stat_of sel)) (place_size rank + 1) ▸ fitting from k r (place_size rank + 1) ▸ needing_own i
      (is_scalar ss rank) sel ▸ agreeing r 1 rank ▸ writing r i rank k
      ▸ doing (stack a.accessed ∷ []) ▸ storing_status 1 (stat_of sel) ▸ dropping (left_over r (optional_size (stat_of sel)))

  quiet_assigned : (d : t.Designator) (k : Kind) (rank : ℕ) (from : Kind) (r : ℕ) (x : Value) → IsAssigned d rank
      → takes (acts.assigned e d k rank from r) ≡ false → IsQuiet (assigned limit e calls d k rank from x)
  quiet_assigned (t.part (objects.Constant i) ss sel) k rank from r x h q = λ l z. tt
  quiet_assigned (t.part (objects.Local v) t.no_subscripts sel) k zero from r x h q =
      q_then (as_number x) (λ z. converted from k x ▹ (λ u. set_scalar (scope_of v.home) v.variable z)) (q_number x)
      (λ z. q_then (converted from k x) (λ u. set_scalar (scope_of v.home) v.variable z) (q_converted from k x)
      (λ u. q_set_scalar (scope_of v.home) v.variable z))
  quiet_assigned (t.part (objects.Local v) t.no_subscripts sel) k (suc m) from r x h q = local_quiet (scope_of v.home) v.variable
      t.no_subscripts (suc m) from k x (λ l z. (refl, refl))
  quiet_assigned (t.part (objects.Local v) (t.more_subscripts s ss) sel) k rank from r x h q =
      local_quiet (scope_of v.home) v.variable (t.more_subscripts s ss) rank from k x
      (quiet_subscripts e calls 64 (t.more_subscripts s ss) h.1
      (neither (takes (parts.subscripts e (t.more_subscripts s ss)))
      (takes (fitting_section from k r (scope_of v.home) v.variable (form_of (t.more_subscripts s ss) rank) rank ▸ agreeing r 0 rank ▸
      putting r (scope_of v.home) v.variable rank)) q).0)
  quiet_assigned (t.part (objects.Coarray i) ss t.no_selector) k rank from r x h q =
      let A : Parts Act = doing (bounded (a.co_section i (form_of ss rank)) ∷ []) in
      let R : Parts Act = parts.owner e i rank t.no_selector ▸ behind_owner i ss t.no_selector k rank from r in
      let F : Place → Does (Unit {0}) = λ p. this_image p ▹ (λ m. tail i (is_scalar ss rank || false) from k x p m nowhere) in
      q_then (all_of e calls ss rank) (λ xs. coarray_part i rank xs ▹ F)
      (all_quiet e calls ss rank (quiet_subscripts e calls 64 ss h.1 (first_of (parts.subscripts e ss) (A ∷ []) R q)))
      (λ xs. q_then (coarray_part i rank xs) F (q_coarray_part i rank xs)
      (λ p. q_then (this_image p) (λ m. tail i (is_scalar ss rank || false) from k x p m nowhere) (q_this_image p)
      (λ m. q_tail i (is_scalar ss rank || false) from k x p m nowhere)))
  quiet_assigned (t.part (objects.Coarray i) ss (t.selector cs which stat)) k rank from r x h q =
      let A : Parts Act = doing (bounded (a.co_section i (form_of ss rank)) ∷ []) in
      let O : Parts Act = parts.owner e i rank (t.selector cs which stat) in
      let B : Parts Act = behind_owner i ss (t.selector cs which stat) k rank from r in
      let F : Place → Does (Unit {0}) = λ p. selected (scalars e calls cs) (selected_team e calls which) (optional_target e calls stat) i p
      (λ m g. tail i (is_scalar ss rank || true) from k x p m g) in
      let j = selector_of e calls i rank cs which stat (neither (takes O) (takes B) (last_of (parts.subscripts e ss ∷ A ∷ []) (O ▸ B) q)).0
      in
      q_then (all_of e calls ss rank) (λ xs. coarray_part i rank xs ▹ F)
      (all_quiet e calls ss rank (quiet_subscripts e calls 64 ss h.1 (first_of (parts.subscripts e ss) (A ∷ []) (O ▸ B) q)))
      (λ xs. q_then (coarray_part i rank xs) F (q_coarray_part i rank xs)
      (λ p. selected_quiet e calls i cs which stat p (λ m g. tail i (is_scalar ss rank || true) from k x p m g)
      (quiet_scalars e calls 64 cs h.2.0 j.0) (quiet_selected e calls 64 which h.2.1 j.1) (quiet_target e calls 64 stat h.2.2 j.2)
      (λ m g. q_tail i (is_scalar ss rank || true) from k x p m g)))

  quiet_assignment : (d : t.Designator) (type : DataType) (rank : ℕ) (x : t.Expression) → IsCovered x → IsAssigned d rank
      → takes (acts.assignment e d type rank x) ≡ false → IsQuiet (assignment limit e calls d type rank x)
  quiet_assignment d type rank x h w q =
      let i = neither (takes (expression e x)) (takes (acts.assigned e d (kind_of type) rank (kind_in x) (rank_in x))) q in
      q_then (ranked limit e calls x) (assigned limit e calls d (kind_of type) rank (kind_in x))
      (q_then (value e calls x) (of_rank (rank_in x)) (quiet_value e calls 64 x h i.0) (λ v. q_rank (rank_in x) v))
      (λ v. quiet_assigned d (kind_of type) rank (kind_in x) (rank_in x) v w i.1)

  -- the items of a text of which none takes a cell: a number would
  quiet_item : (k : Kind) (r : ℕ) (v : Value) (xs : List s.Item) → takes (acts.printed e k r) ≡ false → IsQuiet (items limit e calls xs)
      → (l : ℕ) (z : State) → Leaves z (and_then (of_rank r v l z)
      (λ p. (items_of k p.0 ▹ (λ i. items limit e calls xs ▹ (λ is. giving (i ++ is)))) l p.1))
  quiet_item k zero (array w) xs q h = λ l z. tt
  quiet_item k (suc m) (number v) xs q h = λ l z. tt
  quiet_item k (suc m) (array w) xs q h = λ l z. q_then (items limit e calls xs) (λ is. giving (map (item_of k) w.elements ++ is)) h
      (λ is. q_giving (map (item_of k) w.elements ++ is)) l z
  quiet_item kinds.L4 zero (number v) xs q h = λ l z. absurd (true≢false q)
  quiet_item kinds.I4 zero (number v) xs q h = λ l z. absurd (true≢false q)
  quiet_item kinds.I8 zero (number v) xs q h = λ l z. absurd (true≢false q)

  quiet_items : (xs : List s.Item) → AreItems xs → takes (acts.items e xs) ≡ false → IsQuiet (items limit e calls xs)
  quiet_items [] h q = λ l z. (refl, refl)
  quiet_items (s.literal n ∷ xs) h q = q_then (items limit e calls xs) (λ is. giving (literal (literal_text e n) ∷ is)) (quiet_items xs h q)
      (λ is. q_giving (literal (literal_text e n) ∷ is))
  quiet_items (s.value x ∷ xs) h q =
      let P : Parts Act = acts.printed e (kind_in x) (rank_in x) in
      let i = neither (takes (expression e x) || takes P) (takes (acts.items e xs)) q in
      let j = neither (takes (expression e x)) (takes P) i.0 in
      let G : Value → Does (List Item) = λ v. items_of (kind_in x) v ▹ (λ o. items limit e calls xs ▹ (λ is. giving (o ++ is))) in
      λ l z. said_leaves z (value e calls x l z) (λ p. of_rank (rank_in x) p.0 l p.1) (λ p. G p.0 l p.1)
      (leaves_then z (value e calls x l z) (λ p. and_then (of_rank (rank_in x) p.0 l p.1) (λ w. G w.0 l w.1))
      (quiet_value e calls 64 x h.0 j.0 l z) (λ v y. quiet_item (kind_in x) (rank_in x) v xs j.1 (quiet_items xs h.1 i.1) l y))

  quiet_output : (f : s.Format) (xs : List s.Item) → AreItems xs → takes (acts.output e f xs) ≡ false → IsQuiet (output limit e calls f xs)
  quiet_output s.free xs h q =
      q_then (items limit e calls xs) (λ is. text_of limit e calls s.free is ▹ (λ text. asking (asked.Print text) ▹ (λ r. giving tt)))
      (quiet_items xs h (neither (takes (acts.items e xs)) false q).0) (λ is l z r. (refl, refl))
  quiet_output (s.written n ds) xs h q =
      let A : List ℕ → Does (Unit {0}) = λ text. asking (asked.Print text) ▹ (λ r. giving tt) in
      q_then (items limit e calls xs) (λ is. text_of limit e calls (s.written n ds) is ▹ A)
      (quiet_items xs h (neither (takes (acts.items e xs)) false q).0)
      (λ is. q_then (text_of limit e calls (s.written n ds) is) A (q_found (formatted (literal_text e n) is)) (λ text l z r. (refl, refl)))

-- the cells are free behind the statement: where they were taken its acts free them, and else there is none
abbrev freed : Unit {0} × State → Outcome (Unit {0} × State)
freed p = done (p.0, record p.1 { used = p.1.frame.base })

abbrev onwards : ℕ → Unit {0} × State → Outcome ((Control × ℕ) × State)
onwards n p = done ((onward, n), p.1)

abbrev whole : ℕ → Outcome (Unit {0} × State) → Outcome ((Control × ℕ) × State)
whole n m = and_then (and_then m freed) (onwards n)

free_by_act : (l n : ℕ) (c : Core) (m : Outcome (Unit {0} × State)) (o : Outcome Core) → Agrees (put_nothing c) m o
    → Agrees (put_control c) (whole n m) (and_then o (told (doing (stack a.release ∷ [])) l))
free_by_act l n c (done p) o h = ap (λ u. and_then u (told (doing (stack a.release ∷ [])) l)) h
free_by_act l n c (faults k j z) o h = ap (λ u. and_then u (told (doing (stack a.release ∷ [])) l)) h
free_by_act l n c (asks q j z f) o (g, i, h) = (
  (λ r. and_then (g r) (told (doing (stack a.release ∷ [])) l)),
  ap (λ u. and_then u (told (doing (stack a.release ∷ [])) l))
      i,
  λ r. free_by_act l n c (f r) (g r) (h r),
)
free_by_act l n c (over z) o h = ap (λ u. and_then u (told (doing (stack a.release ∷ [])) l)) h
free_by_act l n c unsaid o h = tt

free_already : (n : ℕ) (c : Core) (m : Outcome (Unit {0} × State)) (o : Outcome Core) → c.used ≡ c.frame.base → Agrees (put_nothing c) m o
    → Leaves (state_of c) m → Agrees (put_control c) (whole n m) o
free_already n c (done p) o b h k = h ∙ ap (λ u. done (with_state (record p.1 { used = u }) c)) (k.0 ∙ b ∙ sym k.1)
free_already n c (faults j l z) o b h k = h
free_already n c (asks q l z f) o b (g, i, h) k = (g, i, λ r. free_already n c (f r) (g r) b (h r) (k r))
free_already n c (over z) o b h k = h
free_already n c unsaid o b h k = tt

freed_by : (l n : ℕ) (c : Core) (p : Parts Act) (t : Bool) (m : Outcome (Unit {0} × State)) → takes p ≡ t → c.used ≡ c.frame.base
    → Agrees (put_nothing c) m (told p l c) → (t ≡ false → Leaves (state_of c) m)
    → Agrees (put_control c) (whole n m) (told (cond t (p ▸ doing (stack a.release ∷ [])) p) l c)
freed_by l n c p true m e b h k = free_by_act l n c m (told p l c) h
freed_by l n c p false m e b h k = free_already n c m (told p l c) b h (k refl)

assignment_statement : (limit : ℕ) (e : Environment) (calls : ℕ → List Passed → Does Value) (d : t.Designator) (type : DataType) (rank : ℕ)
    (x : t.Expression) (l n : ℕ) (c : Core) → HasSpare c → IsFree c → IsCovered x → IsAssigned d rank
    → Agrees (put_control c) (form limit e calls l (s.assign d type rank x) n l (state_of c))
    (told (released (acts.assignment e d type rank x)) l c)
assignment_statement limit e calls d type rank x l n c r b h w =
    let P : Parts Act = acts.assignment e d type rank x in
    freed_by l n c P (takes P) (assignment limit e calls d type rank x l (state_of c)) refl b
    (assignment_law limit e calls d type rank x l c r h w)
    (λ q. quiet_assignment limit e calls d type rank x h w q l (state_of c))

print_statement : (limit : ℕ) (e : Environment) (calls : ℕ → List Passed → Does Value) (f : s.Format) (xs : List s.Item) (l n : ℕ)
    (c : Core)
    → HasSpare c → IsFree c → AreItems xs → HasLines c xs
    → Agrees (put_control c) (form limit e calls l (s.print f xs) n l (state_of c)) (told (released (acts.output e f xs)) l c)
print_statement limit e calls f xs l n c r b h w =
    let P : Parts Act = acts.output e f xs in
    freed_by l n c P (takes P) (output limit e calls f xs l (state_of c)) refl b (print_law limit e calls f xs l c r h w)
    (λ q. quiet_output limit e calls f xs h q l (state_of c))

-- the last ask of an image
abbrev AnyControl : Control × ℕ → State → Type 0
AnyControl q z = Unit {0}

abbrev ended : Core → Outcome ((Control × ℕ) × State) → Outcome Core → Type 0
ended c m o = Comes (put_control c) AnyControl m o

module _ (limit : ℕ) (e : Environment) (calls : ℕ → List Passed → Does Value) where
  code_stops : (x : t.OptionalExpression) (l : ℕ) (c : Core) → HasRoom 64 c → OptionWithin 64 x
      → ended c ((or_number limit e calls x (pos 0) ▹ (λ v. ending (asked.Stop v))) l (state_of c))
      (told (control.or_number e x (pushing (pos 0)) ▸ doing (ask a.stop ∷ [])) l c)
  code_stops t.missing l c r h = ((λ q. over (state_of c)), refl, λ q. refl)
  code_stops (t.given x) l c r h =
      said_apart (put_control c) AnyControl (value e calls x l (state_of c)) (λ p. as_number p.0 l p.1) (λ p. ending (asked.Stop p.0) l p.1)
      (told (expression e x ▸ doing (ask a.stop ∷ [])) l c)
      (comes_number (put_control c) AnyControl c.used (value e calls x) (λ v. ending (asked.Stop v)) l (state_of c) c
      (told (expression e x) l c) (told (doing (ask a.stop ∷ [])) l) (value_comes e calls 64 x l c r h)
      (λ v z k. ((λ q. over z), refl, λ q. refl)))

  code_stops_with_error : (x : t.OptionalExpression) (l : ℕ) (c : Core) → HasRoom 64 c → OptionWithin 64 x
      → ended c ((or_number limit e calls x (pos 0) ▹ (λ v. ending (asked.ErrorStop v))) l (state_of c))
      (told (control.or_number e x (pushing (pos 0)) ▸ doing (ask a.error_stop ∷ [])) l c)
  code_stops_with_error t.missing l c r h = ((λ q. over (state_of c)), refl, λ q. refl)
  code_stops_with_error (t.given x) l c r h =
      said_apart (put_control c) AnyControl (value e calls x l (state_of c)) (λ p. as_number p.0 l p.1)
      (λ p. ending (asked.ErrorStop p.0) l p.1) (told (expression e x ▸ doing (ask a.error_stop ∷ [])) l c)
      (comes_number (put_control c) AnyControl c.used (value e calls x) (λ v. ending (asked.ErrorStop v)) l (state_of c) c
      (told (expression e x) l c) (told (doing (ask a.error_stop ∷ [])) l) (value_comes e calls 64 x l c r h)
      (λ v z k. ((λ q. over z), refl, λ q. refl)))

pub statement_law : StatementLaw
statement_law limit e calls (s.assign d type rank x) l n c r b h = assignment_statement limit e calls d type rank x l n c r b h.0 h.1
statement_law limit e calls (s.print f xs) l n c r b h = print_statement limit e calls f xs l n c r b h.0 h.1
statement_law limit e calls (s.stop code) l n c r b h =
    comes_agrees (put_control c) AnyControl (form limit e calls l (s.stop code) n l (state_of c))
    (told (control.or_number e code (pushing (pos 0)) ▸ doing (ask a.stop ∷ [])) l c) (code_stops limit e calls code l c r h)
statement_law limit e calls (s.error_stop code) l n c r b h =
    comes_agrees (put_control c) AnyControl (form limit e calls l (s.error_stop code) n l (state_of c))
    (told (control.or_number e code (pushing (pos 0)) ▸ doing (ask a.error_stop ∷ [])) l c)
    (code_stops_with_error limit e calls code l c r h)
statement_law limit e calls s.fail_image l n c r b h = ((λ q. over (state_of c)), refl, λ q. refl)
statement_law limit e calls f l n c r b h = elim h [ ]
