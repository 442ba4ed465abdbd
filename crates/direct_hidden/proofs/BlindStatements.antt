-- What statements do, whatever stands in hidden cells.
use Rattle.std.proofs.Common.{refl, sym, subst, ℕ, zero, suc, ◌+◌, ◌==◌, ◌||◌, ℤ, pos, not, Bool, true, false, cond, min, map, replicate, List, [], ◌∷◌, ◌++◌, Option, None, Some}
use Rattle.std.specs.List.{list_all}
use Rattle.std.specs.Ordering.{int_eq}
use Rattle.caf_base.specs.declared.value.Kind.{Kind}
use Rattle.caf_base.specs.declared.value.Kind.TheVariants as kinds
use Rattle.caf_base.specs.Arithmetic.{fits_kind, value_of, iterations}
use Rattle.caf_events.specs.declared.ask.Ask.{Ask}
use Rattle.caf_events.specs.declared.ask.Ask.TheVariants as asked
use Rattle.caf_events.specs.declared.reply.Reply.{Reply}
use Rattle.caf_events.specs.declared.reply.Reply.TheVariants as replies
use Rattle.checked_tree.specs.declared.data.DataType.{DataType}
use Rattle.checked_tree.specs.declared.data.Local.{Local}
use Rattle.checked_tree.specs.declared.data.Object.TheVariants as objects
use Rattle.checked_tree.specs.Expressions as t
use Rattle.checked_tree.specs.Statements as s
use Rattle.image_acts.specs.Statuses.{failed_image, most_iterations}
use Rattle.image_acts.specs.Faults.{overflow, shape_fault, zero_step}
use Rattle.image_acts.specs.Formats.{formatted, listed}
use Rattle.image_acts.specs.Acts.{Scope}
use Rattle.image_acts.specs.Core.{Item, literal}
use Rattle.image_acts.specs.Core as l
use Rattle.image_acts.specs.Operate.Asking.{span_of}
use Rattle.image_acts.specs.Operate.Bounds.{same_extents}
use Rattle.image_acts.specs.Places.{Place, Subscript, extents_of, cells_of}
use Rattle.tree_meaning.specs.Environment.{Environment, scope_of, kind_of, literal_text}
use Rattle.tree_meaning.specs.Expressions.{has_selector}
use Rattle.tree_meaning.specs.Assignments.{narrows, kind_in, rank_in}
use Rattle.direct_meaning.specs.States.{array_in}
use Rattle.direct_meaning.specs.Outcomes.{over, Does, giving, ◌▹◌, asking, unless, changing}
use Rattle.direct_meaning.specs.Values.{Value, number, array, as_number, ◌▹ℤ◌, using, set_scalar, set_elements, part_of, coarray_part, need_own}
use Rattle.direct_meaning.specs.Images.{this_image, image}
use Rattle.direct_meaning.specs.Expressions.{Passed, Target, nowhere, set_target, is_scalar, value, all_of, scalars, selected_team, selected, optional_target}
use Rattle.direct_meaning.specs.Synchronizing.{ending}
use Rattle.direct_meaning.specs.Statements.{of_rank, elements_of, converted, spread, place_of_array, place_there, defined, written, write_part, item_of, items_of, released, num, or_number, image_of, assigned, ranked, assignment, items, text_of, output, parameter, do_parameters}
use Rattle.direct_hidden.specs.Hiding.{Alike, IsBlind, with_hidden}
use Rattle.direct_hidden.specs.Laws.{AreBlind, HiddenLaw}
use Rattle.direct_hidden.proofs.Blind.{b_then, b_giving, b_cond, b_unless, b_found, b_asking, b_number, b_scalar_then, b_set_scalar, b_changing, same_array}
use Rattle.direct_hidden.proofs.BlindSteps.{b_using, b_part_of, b_coarray_part, b_need_own, b_this_image, b_set_elements, b_set_target}
use Rattle.direct_hidden.proofs.BlindTrees.{blind_value, blind_all, blind_scalars, blind_selected, blind_target, selected_blind}

pub b_ending : {X : Type 0} (a : Ask) → IsBlind (ending {X = X} a)
b_ending a hs l z = ((λ r. over (with_hidden hs z)), refl, λ r. refl)

-- behind an evaluation its cells are free again
pub b_released : {X : Type 0} (m : Does X) → IsBlind m → IsBlind (released m)
b_released m h =
    b_then m (λ x. changing (λ z. record z { used = z.frame.base }) ▹ (λ u. giving x)) h
    (λ x. b_then (changing (λ z. record z { used = z.frame.base })) (λ u. giving x)
    (b_changing (λ z. record z { used = z.frame.base }) (λ hs z. refl) (λ z. (refl, refl))) (λ u. b_giving x))

b_rank : (r : ℕ) (v : Value) → IsBlind (of_rank r v)
b_rank zero (number v) = b_giving (number v)
b_rank zero (array w) = λ hs l z. tt
b_rank (suc r) (number v) = λ hs l z. tt
b_rank (suc r) (array w) = b_giving (array w)

b_converted : (from k : Kind) (v : Value) → IsBlind (converted from k v)
b_converted from k v =
    let G : Does (Unit {0}) = giving tt in
    b_cond (narrows from k) (unless overflow (list_all (fits_kind k) (elements_of v)) G) G
    (b_unless overflow (list_all (fits_kind k) (elements_of v)) G (b_giving tt)) (b_giving tt)

b_spread : (p : Place) (v : Value) → IsBlind (spread p v)
b_spread p (number v) = b_giving (replicate (cells_of p) v)
b_spread p (array w) = b_unless shape_fault (same_extents w.extents (extents_of p)) (giving w.elements) (b_giving w.elements)

b_place_of : (o : Option l.Local) (xs : List Subscript) → IsBlind (place_of_array o xs)
b_place_of None xs = b_giving None
b_place_of (Some w) xs = b_then (part_of w.bounds xs) (λ p. giving (Some p)) (b_part_of w.bounds xs) (λ p. b_giving (Some p))

b_place_there : (c : Scope) (x : ℕ) (xs : List Subscript) → IsBlind (place_there c x xs)
b_place_there c x xs hs l z =
    subst (λ o. Alike hs z (place_of_array (array_in c x z) xs l z) (place_of_array o xs l (with_hidden hs z))) (sym (same_array c x hs z))
    (b_place_of (array_in c x z) xs hs l z)

b_defined : (c : Scope) (x : ℕ) (o : Option Place) (v : Value) → IsBlind (defined c x o v)
b_defined c x None v = λ hs l z. refl
b_defined c x (Some p) v = b_then (spread p v) (λ vs. set_elements c x p vs) (b_spread p v) (λ vs. b_set_elements c x p vs)

b_written : (r : Reply) → IsBlind (written r)
b_written replies.Done = b_giving (pos 0)
b_written replies.Dead = b_giving failed_image
b_written replies.Absent = λ hs l z. refl
b_written r = λ hs l z. tt

b_write_part : (k i : ℕ) (p : Place) (kind : Kind) (vs : List ℤ) → IsBlind (write_part k i p kind vs)
b_write_part k i p kind vs =
    b_cond (cells_of p == 0) (giving (pos 0)) (asking (asked.Write (image i) (span_of k p) (map (value_of kind) vs)) ▹ written)
    (b_giving (pos 0))
    (b_then (asking (asked.Write (image i) (span_of k p) (map (value_of kind) vs))) written
    (b_asking (asked.Write (image i) (span_of k p) (map (value_of kind) vs))) (λ r. b_written r))

b_items_of : (k : Kind) (v : Value) → IsBlind (items_of k v)
b_items_of k (number v) = b_then (using 1) (λ u. giving (item_of k v ∷ [])) (b_using 1) (λ u. b_giving (item_of k v ∷ []))
b_items_of k (array w) = b_giving (map (item_of k) w.elements)

-- what is behind the image of the left side
abbrev tail : ℕ → Bool → Kind → Kind → Value → Place → ℕ → Target → Does (Unit {0})
tail i needs_none from k x p m g = converted from k x ▹
    (λ u. need_own needs_none i ▹ (λ u. spread p x ▹ (λ vs. write_part i m p k vs ▹ (λ status. set_target g status))))

b_tail : (i : ℕ) (b : Bool) (from k : Kind) (x : Value) (p : Place) (m : ℕ) (g : Target) → IsBlind (tail i b from k x p m g)
b_tail i b from k x p m g =
    let W : List ℤ → Does (Unit {0}) = λ vs. write_part i m p k vs ▹ (λ status. set_target g status) in
    let S : Does (Unit {0}) = spread p x ▹ W in
    let N : Does (Unit {0}) = need_own b i ▹ (λ u. S) in
    b_then (converted from k x) (λ u. N) (b_converted from k x) (λ u. b_then (need_own b i) (λ t. S) (b_need_own b i)
    (λ t. b_then (spread p x) W (b_spread p x)
    (λ vs. b_then (write_part i m p k vs) (λ status. set_target g status) (b_write_part i m p k vs) (λ status. b_set_target g status))))

module _ (limit : ℕ) (e : Environment) (calls : ℕ → List Passed → Does Value) (blind : AreBlind calls) where
  pub b_num : (x : t.Expression) → IsBlind (num limit e calls x)
  b_num x = b_then (value e calls x) as_number (blind_value e calls blind x) b_number

  pub b_or_number : (x : t.OptionalExpression) (z : ℤ) → IsBlind (or_number limit e calls x z)
  b_or_number t.missing z = b_giving z
  b_or_number (t.given x) z = b_num x

  b_local : (c : Scope) (i : ℕ) (ss : t.Subscripts) (rank : ℕ) (from k : Kind) (x : Value)
      → IsBlind (all_of e calls ss rank ▹ (λ xs. place_there c i xs ▹ (λ p. converted from k x ▹ (λ u. defined c i p x))))
  b_local c i ss rank from k x =
      b_then (all_of e calls ss rank) (λ xs. place_there c i xs ▹ (λ p. converted from k x ▹ (λ u. defined c i p x)))
      (blind_all e calls blind ss rank)
      (λ xs. b_then (place_there c i xs) (λ p. converted from k x ▹ (λ u. defined c i p x)) (b_place_there c i xs)
      (λ p. b_then (converted from k x) (λ u. defined c i p x) (b_converted from k x) (λ u. b_defined c i p x)))

  b_image_of : {X : Type 0} (i : ℕ) (p : Place) (sel : t.Selector) (f : ℕ → Target → Does X) → ((m : ℕ) (g : Target) → IsBlind (f m g))
      → IsBlind (image_of limit e calls i p sel f)
  b_image_of i p t.no_selector f more = b_then (this_image p) (λ m. f m nowhere) (b_this_image p) (λ m. more m nowhere)
  b_image_of i p (t.selector cs which stat) f more =
      selected_blind e calls blind i cs which stat p f (blind_scalars e calls blind cs) (blind_selected e calls blind which)
      (blind_target e calls blind stat) more

  b_assigned : (d : t.Designator) (k : Kind) (rank : ℕ) (from : Kind) (x : Value) → IsBlind (assigned limit e calls d k rank from x)
  b_assigned (t.part (objects.Constant i) ss sel) k rank from x = λ hs l z. tt
  b_assigned (t.part (objects.Local v) t.no_subscripts sel) k zero from x =
      b_then (as_number x) (λ z. converted from k x ▹ (λ u. set_scalar (scope_of v.home) v.variable z)) (b_number x)
      (λ z. b_then (converted from k x) (λ u. set_scalar (scope_of v.home) v.variable z) (b_converted from k x)
      (λ u. b_set_scalar (scope_of v.home) v.variable z))
  b_assigned (t.part (objects.Local v) t.no_subscripts sel) k (suc m) from x = b_local (scope_of v.home) v.variable t.no_subscripts (suc m)
      from k x
  b_assigned (t.part (objects.Local v) (t.more_subscripts y ss) sel) k rank from x = b_local (scope_of v.home) v.variable
      (t.more_subscripts y ss) rank from k x
  b_assigned (t.part (objects.Coarray i) ss sel) k rank from x =
      let T : Place → ℕ → Target → Does (Unit {0}) = λ p m g. tail i (is_scalar ss rank || has_selector sel) from k x p m g in
      b_then (all_of e calls ss rank) (λ xs. coarray_part i rank xs ▹ (λ p. image_of limit e calls i p sel (T p)))
      (blind_all e calls blind ss rank)
      (λ xs. b_then (coarray_part i rank xs) (λ p. image_of limit e calls i p sel (T p)) (b_coarray_part i rank xs)
      (λ p. b_image_of i p sel (T p) (λ m g. b_tail i (is_scalar ss rank || has_selector sel) from k x p m g)))

  b_ranked : (x : t.Expression) → IsBlind (ranked limit e calls x)
  b_ranked x = b_then (value e calls x) (of_rank (rank_in x)) (blind_value e calls blind x) (b_rank (rank_in x))

  pub b_assignment : (d : t.Designator) (type : DataType) (rank : ℕ) (x : t.Expression) → IsBlind (assignment limit e calls d type rank x)
  b_assignment d type rank x = b_then (ranked limit e calls x) (assigned limit e calls d (kind_of type) rank (kind_in x)) (b_ranked x)
      (λ v. b_assigned d (kind_of type) rank (kind_in x) v)

  b_items : (xs : List s.Item) → IsBlind (items limit e calls xs)
  b_items [] = b_giving []
  b_items (s.literal n ∷ xs) = b_then (items limit e calls xs) (λ is. giving (literal (literal_text e n) ∷ is)) (b_items xs)
      (λ is. b_giving (literal (literal_text e n) ∷ is))
  b_items (s.value x ∷ xs) =
      b_then (ranked limit e calls x) (λ v. items_of (kind_in x) v ▹ (λ i. items limit e calls xs ▹ (λ is. giving (i ++ is)))) (b_ranked x)
      (λ v. b_then (items_of (kind_in x) v) (λ i. items limit e calls xs ▹ (λ is. giving (i ++ is))) (b_items_of (kind_in x) v)
      (λ i. b_then (items limit e calls xs) (λ is. giving (i ++ is)) (b_items xs) (λ is. b_giving (i ++ is))))

  b_text : (f : s.Format) (is : List Item) → IsBlind (text_of limit e calls f is)
  b_text s.free is = b_giving (listed is)
  b_text (s.written n ds) is = b_found (formatted (literal_text e n) is)

  pub b_output : (f : s.Format) (xs : List s.Item) → IsBlind (output limit e calls f xs)
  b_output f xs =
      let A : List ℕ → Does (Unit {0}) = λ text. asking (asked.Print text) ▹ (λ r. giving tt) in
      b_then (items limit e calls xs) (λ is. text_of limit e calls f is ▹ A) (b_items xs)
      (λ is. b_then (text_of limit e calls f is) A (b_text f is)
      (λ text. b_then (asking (asked.Print text)) (λ r. giving tt) (b_asking (asked.Print text)) (λ r. b_giving tt)))

  -- DO with a variable
  b_parameter : (k : Kind) (m : Does ℤ) → IsBlind m → IsBlind (parameter limit e calls k m)
  b_parameter k m h = b_then m (λ v. unless overflow (fits_kind k v) (giving v)) h
      (λ v. b_unless overflow (fits_kind k v) (giving v) (b_giving v))

  pub b_do_parameters : (v : Local) (k : Kind) (first last : t.Expression) (step : t.OptionalExpression)
      → IsBlind (do_parameters limit e calls v k first last step)
  b_do_parameters v k first last step =
      let P : Does ℤ → Does ℤ = parameter limit e calls k in
      let S : ℤ → Does (Unit {0}) = λ f. set_scalar (scope_of v.home) v.variable f in
      let B : ℤ → ℤ → ℤ → Does (ℕ × ℤ) = λ f u i. S f ▹ (λ w. giving (min (iterations f u i) most_iterations, i)) in
      let C : ℤ → ℤ → ℤ → Does (ℕ × ℤ) = λ f u i. unless zero_step (not (int_eq i (pos 0))) (B f u i) in
      b_then (P (num limit e calls first)) (λ f. P (num limit e calls last) ▹ (λ u. P (or_number limit e calls step (pos 1)) ▹ C f u))
      (b_parameter k (num limit e calls first) (b_num first))
      (λ f. b_then (P (num limit e calls last)) (λ u. P (or_number limit e calls step (pos 1)) ▹ C f u)
      (b_parameter k (num limit e calls last) (b_num last))
      (λ u. b_then (P (or_number limit e calls step (pos 1))) (C f u)
      (b_parameter k (or_number limit e calls step (pos 1)) (b_or_number step (pos 1)))
      (λ i. b_unless zero_step (not (int_eq i (pos 0))) (B f u i)
      (b_then (S f) (λ w. giving (min (iterations f u i) most_iterations, i)) (b_set_scalar (scope_of v.home) v.variable f)
      (λ w. b_giving (min (iterations f u i) most_iterations, i))))))

pub hidden_law : HiddenLaw
hidden_law limit e calls blind = (blind_value e calls blind, b_assignment limit e calls blind, b_output limit e calls blind)
