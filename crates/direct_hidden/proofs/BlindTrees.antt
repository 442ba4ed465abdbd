-- Expressions, whatever stands in hidden cells.
use Rattle.std.proofs.Common.{refl, ap, ℕ, zero, suc, ◌==◌, ℤ, pos, ◌-ℤ◌, not, List, [], ◌∷◌, ◌++◌, length, Option, None, Some, int_rem, is_some}
use Rattle.caf_base.specs.declared.value.Kind.{Kind}
use Rattle.caf_base.specs.Arithmetic.{huge_of, truth, is_true, fits_kind, magnitude, lesser, greater_of, with_sign_of}
use Rattle.caf_events.specs.declared.ask.Ask.TheVariants as asked
use Rattle.coarray_types.specs.Places.{extent_of, size_of}
use Rattle.walk_theory.specs.Terms.{found}
use Rattle.checked_tree.specs.declared.data.Object.TheVariants as objects
use Rattle.checked_tree.specs.declared.data.Variable.{Variable}
use Rattle.checked_tree.specs.declared.program.Dummy.{Dummy}
use Rattle.checked_tree.specs.Expressions as t
use Rattle.image_acts.specs.Faults.{overflow, shape_fault}
use Rattle.image_acts.specs.Acts.{Scope}
use Rattle.image_acts.specs.Core.{Array, Local}
use Rattle.image_acts.specs.Operate.Operators.{in_kind, divided}
use Rattle.image_acts.specs.Places.{Place, Subscript, single, triplet, extents_of}
use Rattle.image_acts.specs.Teams.{index_of}
use Rattle.tree_meaning.specs.Environment.{Environment, scope_of, kind_of, constant_place, procedure_in, rank_in, corank}
use Rattle.tree_meaning.specs.Values.{arithmetic_value, relation_value, logic_value}
use Rattle.direct_meaning.specs.States.{array_in, own_in}
use Rattle.direct_meaning.specs.Outcomes.{Does, giving, ◌▹◌, asking, unless}
use Rattle.direct_meaning.specs.Values.{Value, number, as_number, as_array, ◌▹ℤ◌, ◌▹A◌, using, scalar, allocated, part_of, local_part, coarray_part, owned, need_own, from_one, whole_bounds, default_kind, dimension, lower_bound, upper_bound}
use Rattle.direct_meaning.specs.Images.{the, own_index, members, current_team, own_team, known_team, numbered_team, selected_image, this_image, images_of_number, team_of_level, cosubscript, team, indices}
use Rattle.direct_meaning.specs.Expressions.{Passed, Target, nowhere, variable as to_variable, element, number_found, of_truth, array_of, whole, is_scalar, singles, read_from, selected, status_of_image, value, form, scalars, chosen, chosen_among, elements, subscripts, subscript, optional, all_of, designator, selected_team, optional_target, arguments, argument, team_of, bounds, bounds_of_part, intrinsic}
use Rattle.direct_hidden.specs.Hiding.{IsBlind}
use Rattle.direct_hidden.specs.Laws.{AreBlind}
use Rattle.direct_hidden.proofs.Blind.{b_then, b_giving, b_unless, b_number_found, b_array, b_scalar_then, b_array_then, b_the, b_scalar_of, same_array, b_allocated}
use Rattle.direct_hidden.proofs.BlindSteps.{b_using, b_part_of, b_local_part, b_coarray_part, b_owned, b_need_own, b_this_image, b_selected_image, b_read_from, b_own_team, b_known_team, b_numbered_team, b_current_team, b_team_of_level, b_images_of_number, b_cosubscript, b_status_of_image, b_failed, b_stopped, b_whole_bounds, b_default_kind, b_inquired, b_written, b_scalars_written, b_scalar_written}

module _ (e : Environment) (calls : ℕ → List Passed → Does Value) (blind : AreBlind calls) where
  abbrev V : t.Expression → Does Value
  V x = value e calls x

  -- a part that comes behind its subscripts
  local_blind : (c : Scope) (x rank : ℕ) (ss : t.Subscripts) → IsBlind (all_of e calls ss rank)
      → IsBlind (all_of e calls ss rank ▹ (λ xs. local_part c x rank xs))
  local_blind c x rank ss h = b_then (all_of e calls ss rank) (λ xs. local_part c x rank xs) h (λ xs. b_local_part c x rank xs)

  own_blind : (k rank : ℕ) (ss : t.Subscripts) → IsBlind (all_of e calls ss rank)
      → IsBlind (designator e calls (t.part (objects.Coarray k) ss t.no_selector) rank)
  own_blind k rank ss h =
      let A : Place → ℕ → Does Value = λ p i. need_own (is_scalar ss rank) k ▹ (λ u. read_from k p rank i nowhere) in
      let B : Place → Does Value = λ p. this_image p ▹ A p in
      b_then (all_of e calls ss rank) (λ xs. coarray_part k rank xs ▹ B) h
      (λ xs. b_then (coarray_part k rank xs) B (b_coarray_part k rank xs)
      (λ p. b_then (this_image p) (A p) (b_this_image p)
      (λ i. b_then (need_own (is_scalar ss rank) k) (λ u. read_from k p rank i nowhere) (b_need_own (is_scalar ss rank) k)
      (λ u. b_read_from k p rank i nowhere))))

  pub selected_blind : {X : Type 0} (k : ℕ) (cs : t.Expressions) (which : t.SelectedTeam) (stat : t.OptionalResult) (p : Place)
      (f : ℕ → Target → Does X) → IsBlind (scalars e calls cs) → IsBlind (selected_team e calls which)
      → IsBlind (optional_target e calls stat) → ((i : ℕ) (g : Target) → IsBlind (f i g))
      → IsBlind (selected (scalars e calls cs) (selected_team e calls which) (optional_target e calls stat) k p f)
  selected_blind {X} k cs which stat p f h i j more =
      b_then (scalars e calls cs) (λ xs. selected_team e calls which ▹
      (λ n. optional_target e calls stat ▹ (λ g. selected_image k xs n p ▹ (λ m. f m g)))) h
      (λ xs. b_then (selected_team e calls which) (λ n. optional_target e calls stat ▹ (λ g. selected_image k xs n p ▹ (λ m. f m g))) i
      (λ n. b_then (optional_target e calls stat) (λ g. selected_image k xs n p ▹ (λ m. f m g)) j
      (λ g. b_then (selected_image k xs n p) (λ m. f m g) (b_selected_image k xs n p) (λ m. more m g))))

  selector_blind : {X : Type 0} (k rank : ℕ) (ss : t.Subscripts) (cs : t.Expressions) (which : t.SelectedTeam) (stat : t.OptionalResult)
      (f : Place → ℕ → Target → Does X) → IsBlind (all_of e calls ss rank) → IsBlind (scalars e calls cs) → IsBlind (selected_team e calls which)
      → IsBlind (optional_target e calls stat) → ((p : Place) (i : ℕ) (g : Target) → IsBlind (f p i g))
      → IsBlind (all_of e calls ss rank ▹ (λ xs. coarray_part k rank xs ▹
      (λ p. selected (scalars e calls cs) (selected_team e calls which) (optional_target e calls stat) k p (f p))))
  selector_blind {X} k rank ss cs which stat f h i j m more =
      let F : Place → Does X = λ p. selected (scalars e calls cs) (selected_team e calls which) (optional_target e calls stat) k p (f p) in
      b_then (all_of e calls ss rank) (λ xs. coarray_part k rank xs ▹ F) h
      (λ xs. b_then (coarray_part k rank xs) F (b_coarray_part k rank xs)
      (λ p. selected_blind k cs which stat p (f p) i j m (more p)))

  part_blind : (c : Scope) (x rank : ℕ) (ss : t.Subscripts) → IsBlind (all_of e calls ss rank)
      → IsBlind (all_of e calls ss rank ▹ (λ xs. allocated c x ▹ (λ w. part_of w.bounds xs ▹ (λ p. giving (from_one (extents_of p))))))
  part_blind c x rank ss h =
      b_then (all_of e calls ss rank) (λ xs. allocated c x ▹ (λ w. part_of w.bounds xs ▹ (λ p. giving (from_one (extents_of p))))) h
      (λ xs. b_then (allocated c x) (λ w. part_of w.bounds xs ▹ (λ p. giving (from_one (extents_of p)))) (b_allocated c x)
      (λ w. b_then (part_of w.bounds xs) (λ p. giving (from_one (extents_of p))) (b_part_of w.bounds xs)
      (λ p. b_giving (from_one (extents_of p)))))

  there_blind : (c : Scope) (x : ℕ) → IsBlind (allocated c x ▹ (λ w. whole_bounds w.bounds))
  there_blind c x = b_then (allocated c x) (λ w. whole_bounds w.bounds) (b_allocated c x) (λ w. b_whole_bounds w.bounds)

  extents_blind : (m : Does Value) → IsBlind m → IsBlind (m ▹A (λ w. giving (from_one w.extents)))
  extents_blind m h = b_array_then m (λ w. giving (from_one w.extents)) h (λ w. b_giving (from_one w.extents))

  -- an array that goes back
  abbrev handed : Scope → ℕ → ℕ → List Subscript → Does Passed
  handed c x rank xs = allocated c x ▹ (λ w. part_of w.bounds xs ▹
      (λ p. local_part c x rank xs ▹ (λ z. giving (record { passed = z; back = Some (c, x, Some p) }))))

  handed_blind : (c : Scope) (x rank : ℕ) (xs : List Subscript) → IsBlind (handed c x rank xs)
  handed_blind c x rank xs =
      let G : Place → Value → Does Passed = λ p z. giving (record { passed = z; back = Some (c, x, Some p) }) in
      b_then (allocated c x) (λ w. part_of w.bounds xs ▹ (λ p. local_part c x rank xs ▹ G p)) (b_allocated c x)
      (λ w. b_then (part_of w.bounds xs) (λ p. local_part c x rank xs ▹ G p) (b_part_of w.bounds xs)
      (λ p. b_then (local_part c x rank xs) (G p) (b_local_part c x rank xs)
      (λ z. b_giving (record { passed = z; back = Some (c, x, Some p) }))))

  mutual
    pub blind_value : (x : t.Expression) → IsBlind (V x)
    blind_value (t.typed f type rank) = blind_form f (kind_of type) rank

    blind_form : (f : t.Form) (k : Kind) (rank : ℕ) → IsBlind (form e calls f k rank)
    blind_form (t.number z) k rank = b_giving (number z)
    blind_form (t.logical b) k rank = b_giving (number (truth b))
    blind_form (t.designator d) k rank = blind_designator d rank
    blind_form (t.call n es) k rank =
        b_then (arguments e calls (procedure_in e n).unit.variables (procedure_in e n).dummies es) (λ xs. calls n xs)
        (blind_arguments (procedure_in e n).unit.variables (procedure_in e n).dummies es) (λ xs. blind n xs)
    blind_form (t.intrinsic i) k rank = blind_intrinsic i k
    blind_form (t.parenthesized x) k rank = blind_value x
    blind_form (t.array_constructor es) k rank = b_then (elements e calls es) (λ vs. giving (array_of vs)) (blind_elements es)
        (λ vs. b_giving (array_of vs))
    blind_form (t.plus x) k rank = blind_value x
    blind_form (t.minus x) k rank = b_scalar_then (V x) (λ v. number_found (in_kind k (pos 0 -ℤ v))) (blind_value x)
        (λ v. b_number_found (in_kind k (pos 0 -ℤ v)))
    blind_form (t.not x) k rank = b_scalar_then (V x) (λ v. of_truth (not (is_true v))) (blind_value x)
        (λ v. b_giving (number (truth (not (is_true v)))))
    blind_form (t.arithmetic o x y) k rank =
        b_scalar_then (V x) (λ v. V y ▹ℤ (λ w. number_found (arithmetic_value o k v w))) (blind_value x)
        (λ v. b_scalar_then (V y) (λ w. number_found (arithmetic_value o k v w)) (blind_value y)
        (λ w. b_number_found (arithmetic_value o k v w)))
    blind_form (t.relation o x y) k rank =
        b_scalar_then (V x) (λ v. V y ▹ℤ (λ w. of_truth (relation_value o v w))) (blind_value x)
        (λ v. b_scalar_then (V y) (λ w. of_truth (relation_value o v w)) (blind_value y)
        (λ w. b_giving (number (truth (relation_value o v w)))))
    blind_form (t.logic o x y) k rank =
        b_scalar_then (V x) (λ v. V y ▹ℤ (λ w. of_truth (logic_value o v w))) (blind_value x)
        (λ v. b_scalar_then (V y) (λ w. of_truth (logic_value o v w)) (blind_value y)
        (λ w. b_giving (number (truth (logic_value o v w)))))

    pub blind_scalars : (es : t.Expressions) → IsBlind (scalars e calls es)
    blind_scalars t.no_expressions = λ hs l s. (refl, (refl, refl))
    blind_scalars (t.more_expressions x es) =
        b_scalar_then (V x) (λ v. scalars e calls es ▹ (λ vs. giving (v ∷ vs))) (blind_value x)
        (λ v. b_then (scalars e calls es) (λ vs. giving (v ∷ vs)) (blind_scalars es) (λ vs. b_giving (v ∷ vs)))

    blind_among : (f : ℤ → ℤ → ℤ) (es : t.Expressions) (v : ℤ) → IsBlind (chosen_among e calls f v es)
    blind_among f t.no_expressions v = b_giving (number v)
    blind_among f (t.more_expressions x es) v = b_scalar_then (V x) (λ w. chosen_among e calls f (f v w) es) (blind_value x)
        (λ w. blind_among f es (f v w))

    blind_chosen : (f : ℤ → ℤ → ℤ) (es : t.Expressions) → IsBlind (chosen e calls f es)
    blind_chosen f t.no_expressions = λ hs l s. tt
    blind_chosen f (t.more_expressions x es) = b_scalar_then (V x) (λ v. chosen_among e calls f v es) (blind_value x)
        (λ v. blind_among f es v)

    blind_elements : (es : t.Expressions) → IsBlind (elements e calls es)
    blind_elements t.no_expressions = λ hs l s. (refl, (refl, refl))
    blind_elements (t.more_expressions (t.typed f type zero) es) =
        b_scalar_then (form e calls f (kind_of type) 0) (λ v. using 1 ▹ (λ u. elements e calls es ▹ (λ vs. giving (v ∷ vs))))
        (blind_form f (kind_of type) 0)
        (λ v. b_then (using 1) (λ u. elements e calls es ▹ (λ vs. giving (v ∷ vs))) (b_using 1)
        (λ u. b_then (elements e calls es) (λ vs. giving (v ∷ vs)) (blind_elements es) (λ vs. b_giving (v ∷ vs))))
    blind_elements (t.more_expressions (t.typed f type (suc r)) es) =
        b_array_then (form e calls f (kind_of type) (suc r))
        (λ w. using (length w.elements) ▹ (λ u. elements e calls es ▹ (λ vs. giving (w.elements ++ vs)))) (blind_form f (kind_of type) (suc r))
        (λ w. b_then (using (length w.elements)) (λ u. elements e calls es ▹ (λ vs. giving (w.elements ++ vs))) (b_using (length w.elements))
        (λ u. b_then (elements e calls es) (λ vs. giving (w.elements ++ vs)) (blind_elements es) (λ vs. b_giving (w.elements ++ vs))))

    blind_subscripts : (ss : t.Subscripts) → IsBlind (subscripts e calls ss)
    blind_subscripts t.no_subscripts = λ hs l s. (refl, (refl, refl))
    blind_subscripts (t.more_subscripts x ss) =
        b_then (subscript e calls x) (λ y. subscripts e calls ss ▹ (λ ys. giving (y ∷ ys))) (blind_subscript x)
        (λ y. b_then (subscripts e calls ss) (λ ys. giving (y ∷ ys)) (blind_subscripts ss) (λ ys. b_giving (y ∷ ys)))

    blind_subscript : (x : t.Subscript) → IsBlind (subscript e calls x)
    blind_subscript (t.element x) = b_scalar_then (V x) (λ v. giving (single v)) (blind_value x) (λ v. b_giving (single v))
    blind_subscript (t.triplet o p r) =
        b_then (optional e calls o) (λ f. optional e calls p ▹ (λ g. optional e calls r ▹ (λ i. giving (triplet f g i)))) (blind_option o)
        (λ f. b_then (optional e calls p) (λ g. optional e calls r ▹ (λ i. giving (triplet f g i))) (blind_option p)
        (λ g. b_then (optional e calls r) (λ i. giving (triplet f g i)) (blind_option r) (λ i. b_giving (triplet f g i))))

    blind_option : (o : t.OptionalExpression) → IsBlind (optional e calls o)
    blind_option t.missing = λ hs l s. (refl, (refl, refl))
    blind_option (t.given x) = b_scalar_then (V x) (λ v. giving (Some v)) (blind_value x) (λ v. b_giving (Some v))

    pub blind_all : (ss : t.Subscripts) (rank : ℕ) → IsBlind (all_of e calls ss rank)
    blind_all t.no_subscripts rank = b_giving (whole rank)
    blind_all (t.more_subscripts x ss) rank =
        b_then (subscript e calls x) (λ y. subscripts e calls ss ▹ (λ ys. giving (y ∷ ys))) (blind_subscript x)
        (λ y. b_then (subscripts e calls ss) (λ ys. giving (y ∷ ys)) (blind_subscripts ss) (λ ys. b_giving (y ∷ ys)))

    blind_designator : (d : t.Designator) (rank : ℕ) → IsBlind (designator e calls d rank)
    blind_designator (t.part (objects.Local v) t.no_subscripts sel) zero = b_scalar_of (scope_of v.home) v.variable (λ z. giving (number z))
        (λ z. b_giving (number z))
    blind_designator (t.part (objects.Local v) t.no_subscripts sel) (suc m) = local_blind (scope_of v.home) v.variable (suc m)
        t.no_subscripts (b_giving (whole (suc m)))
    blind_designator (t.part (objects.Local v) (t.more_subscripts x ss) sel) rank = local_blind (scope_of v.home) v.variable rank
        (t.more_subscripts x ss) (blind_all (t.more_subscripts x ss) rank)
    blind_designator (t.part (objects.Constant i) ss sel) rank = local_blind e.main (constant_place e i) rank ss (blind_all ss rank)
    blind_designator (t.part (objects.Coarray k) ss t.no_selector) rank = own_blind k rank ss (blind_all ss rank)
    blind_designator (t.part (objects.Coarray k) ss (t.selector cs which stat)) rank =
        selector_blind k rank ss cs which stat (λ p i g. read_from k p rank i g) (blind_all ss rank) (blind_scalars cs) (blind_selected which)
        (blind_target stat) (λ p i g. b_read_from k p rank i g)

    pub blind_selected : (which : t.SelectedTeam) → IsBlind (selected_team e calls which)
    blind_selected t.current = b_current_team
    blind_selected (t.team x) = b_scalar_then (V x) own_team (blind_value x) (λ v. b_own_team v)
    blind_selected (t.team_number x) = b_scalar_then (V x) (λ v. numbered_team v ▹ (λ k. giving k.team)) (blind_value x)
        (λ v. b_then (numbered_team v) (λ k. giving k.team) (b_numbered_team v) (λ k. b_giving k.team))

    pub blind_target : (stat : t.OptionalResult) → IsBlind (optional_target e calls stat)
    blind_target t.no_result = b_giving nowhere
    blind_target (t.result (t.result_variable v t.no_expressions k)) = b_giving (to_variable (scope_of v.home) v.variable)
    blind_target (t.result (t.result_variable v (t.more_expressions x es) k)) =
        let A : List ℤ → Local → Does Target = λ vs w. part_of w.bounds (singles vs) ▹
        (λ p. giving (element (scope_of v.home) v.variable p)) in
        b_scalar_then (V x) (λ j. scalars e calls es ▹ (λ is. allocated (scope_of v.home) v.variable ▹ A (j ∷ is))) (blind_value x)
        (λ j. b_then (scalars e calls es) (λ is. allocated (scope_of v.home) v.variable ▹ A (j ∷ is)) (blind_scalars es)
        (λ is. b_then (allocated (scope_of v.home) v.variable) (A (j ∷ is)) (b_allocated (scope_of v.home) v.variable)
        (λ w. b_then (part_of w.bounds (singles (j ∷ is))) (λ p. giving (element (scope_of v.home) v.variable p))
        (b_part_of w.bounds (singles (j ∷ is))) (λ p. b_giving (element (scope_of v.home) v.variable p)))))

    blind_arguments : (vs : List Variable) (ds : List Dummy) (es : t.Arguments) → IsBlind (arguments e calls vs ds es)
    blind_arguments vs ds t.no_arguments = λ hs l s. (refl, (refl, refl))
    blind_arguments vs [] (t.more_arguments x es) = λ hs l s. (refl, (refl, refl))
    blind_arguments vs (d ∷ ds) (t.more_arguments x es) =
        b_then (argument e calls x (rank_in vs d.variable)) (λ p. arguments e calls vs ds es ▹ (λ ps. giving (p ∷ ps)))
        (blind_argument x (rank_in vs d.variable))
        (λ p. b_then (arguments e calls vs ds es) (λ ps. giving (p ∷ ps)) (blind_arguments vs ds es) (λ ps. b_giving (p ∷ ps)))

    blind_argument : (x : t.Argument) (rank : ℕ) → IsBlind (argument e calls x rank)
    blind_argument (t.value x) rank = b_then (V x) (λ v. giving (record { passed = v; back = None })) (blind_value x)
        (λ v. b_giving (record { passed = v; back = None }))
    blind_argument (t.variable (t.part (objects.Local v) t.no_subscripts sel)) zero =
        b_scalar_of (scope_of v.home) v.variable (λ z. giving (record { passed = number z; back = Some (scope_of v.home, v.variable, None) }))
        (λ z. b_giving (record { passed = number z; back = Some (scope_of v.home, v.variable, None) }))
    blind_argument (t.variable (t.part (objects.Local v) t.no_subscripts sel)) (suc m) =
        b_then (all_of e calls t.no_subscripts (suc m)) (λ xs. handed (scope_of v.home) v.variable (suc m) xs) (b_giving (whole (suc m)))
        (λ xs. handed_blind (scope_of v.home) v.variable (suc m) xs)
    blind_argument (t.variable (t.part (objects.Local v) (t.more_subscripts x ss) sel)) rank =
        b_then (all_of e calls (t.more_subscripts x ss) rank) (λ xs. handed (scope_of v.home) v.variable rank xs)
        (blind_all (t.more_subscripts x ss) rank) (λ xs. handed_blind (scope_of v.home) v.variable rank xs)
    blind_argument (t.variable (t.part (objects.Constant i) ss sel)) rank = λ hs l s. tt
    blind_argument (t.variable (t.part (objects.Coarray k) ss sel)) rank = λ hs l s. tt

    blind_team : (which : t.OptionalExpression) → IsBlind (team_of e calls which)
    blind_team t.missing = b_current_team
    blind_team (t.given x) = b_scalar_then (V x) own_team (blind_value x) (λ v. b_own_team v)

    blind_bounds : (x : t.Expression) → IsBlind (bounds e calls x)
    blind_bounds (t.typed (t.designator d) type rank) = blind_part_bounds d rank
    blind_bounds (t.typed (t.number i) type rank) = extents_blind (form e calls (t.number i) (kind_of type) rank) (b_giving (number i))
    blind_bounds (t.typed (t.logical b) type rank) = extents_blind (form e calls (t.logical b) (kind_of type) rank)
        (b_giving (number (truth b)))
    blind_bounds (t.typed (t.call n es) type rank) = extents_blind (form e calls (t.call n es) (kind_of type) rank)
        (blind_form (t.call n es) (kind_of type) rank)
    blind_bounds (t.typed (t.intrinsic i) type rank) = extents_blind (intrinsic e calls i (kind_of type)) (blind_intrinsic i (kind_of type))
    blind_bounds (t.typed (t.parenthesized x) type rank) = extents_blind (V x) (blind_value x)
    blind_bounds (t.typed (t.array_constructor es) type rank) =
        extents_blind (form e calls (t.array_constructor es) (kind_of type) rank) (blind_form (t.array_constructor es) (kind_of type) rank)
    blind_bounds (t.typed (t.plus x) type rank) = extents_blind (V x) (blind_value x)
    blind_bounds (t.typed (t.minus x) type rank) = extents_blind (form e calls (t.minus x) (kind_of type) rank)
        (blind_form (t.minus x) (kind_of type) rank)
    blind_bounds (t.typed (t.not x) type rank) = extents_blind (form e calls (t.not x) (kind_of type) rank)
        (blind_form (t.not x) (kind_of type) rank)
    blind_bounds (t.typed (t.arithmetic o x y) type rank) = extents_blind (form e calls (t.arithmetic o x y) (kind_of type) rank)
        (blind_form (t.arithmetic o x y) (kind_of type) rank)
    blind_bounds (t.typed (t.relation o x y) type rank) = extents_blind (form e calls (t.relation o x y) (kind_of type) rank)
        (blind_form (t.relation o x y) (kind_of type) rank)
    blind_bounds (t.typed (t.logic o x y) type rank) = extents_blind (form e calls (t.logic o x y) (kind_of type) rank)
        (blind_form (t.logic o x y) (kind_of type) rank)

    blind_part_bounds : (d : t.Designator) (rank : ℕ) → IsBlind (bounds_of_part e calls d rank)
    blind_part_bounds (t.part (objects.Local v) t.no_subscripts sel) rank = there_blind (scope_of v.home) v.variable
    blind_part_bounds (t.part (objects.Local v) (t.more_subscripts x ss) sel) rank = part_blind (scope_of v.home) v.variable rank
        (t.more_subscripts x ss) (blind_all (t.more_subscripts x ss) rank)
    blind_part_bounds (t.part (objects.Constant k) t.no_subscripts sel) rank = there_blind e.main (constant_place e k)
    blind_part_bounds (t.part (objects.Constant k) (t.more_subscripts x ss) sel) rank = part_blind e.main (constant_place e k) rank
        (t.more_subscripts x ss) (blind_all (t.more_subscripts x ss) rank)
    blind_part_bounds (t.part (objects.Coarray k) t.no_subscripts sel) rank = b_then (owned k) (λ w. whole_bounds w.bounds) (b_owned k)
        (λ w. b_whole_bounds w.bounds)
    blind_part_bounds (t.part (objects.Coarray k) (t.more_subscripts x ss) t.no_selector) rank =
        let F : Place → Does (List (ℤ × ℤ)) = λ p. owned k ▹ (λ w. giving (from_one (extents_of p))) in
        b_then (all_of e calls (t.more_subscripts x ss) rank) (λ xs. coarray_part k rank xs ▹ F) (blind_all (t.more_subscripts x ss) rank)
        (λ xs. b_then (coarray_part k rank xs) F (b_coarray_part k rank xs)
        (λ p. b_then (owned k) (λ w. giving (from_one (extents_of p))) (b_owned k) (λ w. b_giving (from_one (extents_of p)))))
    blind_part_bounds (t.part (objects.Coarray k) (t.more_subscripts x ss) (t.selector cs which stat)) rank =
        selector_blind k rank (t.more_subscripts x ss) cs which stat (λ p i g. giving (from_one (extents_of p)))
        (blind_all (t.more_subscripts x ss) rank) (blind_scalars cs) (blind_selected which) (blind_target stat)
        (λ p i g. b_giving (from_one (extents_of p)))

    blind_intrinsic : (i : t.Intrinsic) (k : Kind) → IsBlind (intrinsic e calls i k)
    blind_intrinsic (t.abs x) k = b_scalar_then (V x) (λ v. number_found (in_kind k (magnitude v))) (blind_value x)
        (λ v. b_number_found (in_kind k (magnitude v)))
    blind_intrinsic (t.remainder x y o) k =
        b_scalars_written o (V x) (V y) (λ v w. number_found (divided w (found (int_rem v w)))) (blind_value x) (blind_value y)
        (λ v w. b_number_found (divided w (found (int_rem v w))))
    blind_intrinsic (t.modulo x y o) k =
        b_scalars_written o (V x) (V y) (λ v w. number_found (divided w (found (with_sign_of w (int_rem v w))))) (blind_value x)
        (blind_value y) (λ v w. b_number_found (divided w (found (with_sign_of w (int_rem v w)))))
    blind_intrinsic (t.min es) k = blind_chosen lesser es
    blind_intrinsic (t.max es) k = blind_chosen greater_of es
    blind_intrinsic t.huge k = b_giving (number (huge_of k))
    blind_intrinsic (t.int x) k = b_scalar_then (V x) (λ v. unless overflow (fits_kind k v) (giving (number v))) (blind_value x)
        (λ v. b_unless overflow (fits_kind k v) (giving (number v)) (b_giving (number v)))
    blind_intrinsic (t.size x t.missing o) k = b_then (bounds e calls x) (λ bs. default_kind (pos (size_of bs))) (blind_bounds x)
        (λ bs. b_default_kind (pos (size_of bs)))
    blind_intrinsic (t.size x (t.given d) o) k =
        b_written o (bounds e calls x) (V d) (λ bs y. as_number y ▹ (λ m. dimension m bs ▹ (λ b. default_kind (pos (extent_of b)))))
        (blind_bounds x) (blind_value d) (λ bs y. b_inquired (λ b. pos (extent_of b)) bs y)
    blind_intrinsic (t.lbound x d o) k =
        b_written o (bounds e calls x) (V d) (λ bs y. as_number y ▹ (λ m. dimension m bs ▹ (λ b. default_kind (lower_bound b))))
        (blind_bounds x) (blind_value d) (λ bs y. b_inquired lower_bound bs y)
    blind_intrinsic (t.ubound x d o) k =
        b_written o (bounds e calls x) (V d) (λ bs y. as_number y ▹ (λ m. dimension m bs ▹ (λ b. default_kind (upper_bound b))))
        (blind_bounds x) (blind_value d) (λ bs y. b_inquired upper_bound bs y)
    blind_intrinsic (t.allocated (objects.Local v)) k =
        b_the (λ s. number (truth (is_some (array_in (scope_of v.home) v.variable s))))
        (λ hs s. ap (λ o. number (truth (is_some o))) (same_array (scope_of v.home) v.variable hs s))
    blind_intrinsic (t.allocated (objects.Coarray i)) k = b_the (λ s. number (truth (is_some (own_in i s)))) (λ hs s. refl)
    blind_intrinsic (t.allocated (objects.Constant i)) k = λ hs l s. tt
    blind_intrinsic (t.this_image which) k = b_then (team_of e calls which) (λ m. the (λ s. number (pos (own_index m s)))) (blind_team which)
        (λ m. b_the (λ s. number (pos (own_index m s))) (λ hs s. refl))
    blind_intrinsic (t.this_cosubscript i d which o) k =
        b_scalar_written o (V d) (team_of e calls which) (λ v m. owned i ▹ (λ w. cosubscript w v m)) (blind_value d) (blind_team which)
        (λ v m. b_cosubscript i v m)
    blind_intrinsic (t.num_images which) k =
        b_then (team_of e calls which) (λ m. the (λ s. number (pos (length (members m s))))) (blind_team which)
        (λ m. b_the (λ s. number (pos (length (members m s)))) (λ hs s. refl))
    blind_intrinsic (t.num_images_of_number x) k =
        b_scalar_then (V x) (λ v. images_of_number v ▹ (λ m. giving (number (pos m)))) (blind_value x)
        (λ v. b_then (images_of_number v) (λ m. giving (number (pos m))) (b_images_of_number v) (λ m. b_giving (number (pos m))))
    blind_intrinsic (t.image_index i x which o) k =
        let F : Array → ℕ → Does Value = λ w m. unless shape_fault (length w.elements == corank e i)
        (owned i ▹ (λ o. the (λ s. number (pos (index_of o w.elements (length (members m s))))))) in
        b_written o (V x) (team_of e calls which) (λ y m. as_array y ▹ (λ w. F w m)) (blind_value x) (blind_team which)
        (λ y m. b_then (as_array y) (λ w. F w m) (b_array y)
        (λ w. b_unless shape_fault (length w.elements == corank e i)
        (owned i ▹ (λ o. the (λ s. number (pos (index_of o w.elements (length (members m s)))))))
        (b_then (owned i) (λ o. the (λ s. number (pos (index_of o w.elements (length (members m s)))))) (b_owned i)
        (λ o. b_the (λ s. number (pos (index_of o w.elements (length (members m s))))) (λ hs s. refl)))))
    blind_intrinsic (t.image_status i which o) k =
        b_scalar_written o (V i) (team_of e calls which) (λ v m. own_team (pos m) ▹ (λ r. status_of_image r v)) (blind_value i)
        (blind_team which) (λ v m. b_status_of_image v m)
    blind_intrinsic (t.failed_images which) k =
        b_then (team_of e calls which) (λ m. asking (asked.Failed (team m)) ▹ (λ r. indices r ▹ (λ vs. using (length vs) ▹ (λ u. giving (array_of vs))))) (blind_team which) b_failed
    blind_intrinsic (t.stopped_images which) k =
        b_then (team_of e calls which) (λ m. asking (asked.Stopped (team m)) ▹ (λ r. indices r ▹ (λ vs. using (length vs) ▹ (λ u. giving (array_of vs))))) (blind_team which) b_stopped
    blind_intrinsic (t.number_of_team which) k =
        b_then (team_of e calls which) (λ m. known_team m ▹ (λ r. unless overflow (fits_kind k r.number) (giving (number r.number))))
        (blind_team which)
        (λ m. b_then (known_team m) (λ r. unless overflow (fits_kind k r.number) (giving (number r.number))) (b_known_team m)
        (λ r. b_unless overflow (fits_kind k r.number) (giving (number r.number)) (b_giving (number r.number))))
    blind_intrinsic (t.get_team t.missing) k = b_then (the current_team) (λ n. giving (number (pos n))) b_current_team
        (λ n. b_giving (number (pos n)))
    blind_intrinsic (t.get_team (t.given x)) k =
        b_scalar_then (V x) (λ v. team_of_level v ▹ (λ m. giving (number (pos m)))) (blind_value x)
        (λ v. b_then (team_of_level v) (λ m. giving (number (pos m))) (b_team_of_level v) (λ m. b_giving (number (pos m))))
