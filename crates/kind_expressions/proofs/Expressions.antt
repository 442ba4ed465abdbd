-- Each expression leaves a number, or an array, of its kind.
use Rattle.std.proofs.Common.{◌≡◌, ◌∙◌, ℕ, zero, suc, ◌+◌, ◌*◌, ◌≤◌, ◌⊎◌, inl, inr, Bool, true, false, cond, List, [], ◌∷◌, length, slice_get, refl, ap, sym, subst, arith}
use Rattle.std.specs.Prelude.{Option, None, Some}
use Rattle.caf_base.specs.declared.value.Kind.{Kind}
use Rattle.caf_base.specs.declared.value.Kind.TheVariants as kinds
use Rattle.caf_base.specs.Arithmetic.{truth, huge_of}
use Rattle.checked_tree.specs.declared.data.DataType.{DataType}
use Rattle.checked_tree.specs.declared.data.Home.{Home}
use Rattle.checked_tree.specs.declared.data.Home.TheVariants as homes
use Rattle.checked_tree.specs.declared.data.Local.{Local}
use Rattle.checked_tree.specs.declared.data.Object.TheVariants as objects
use Rattle.checked_tree.specs.declared.data.Variable.{Variable}
use Rattle.checked_tree.specs.declared.program.Dummy.{Dummy}
use Rattle.checked_tree.specs.Expressions as t
use Rattle.checked_tree.specs.Statements.{Unit'}
use Rattle.walk_theory.specs.Syntax.{Parts}
use Rattle.image_acts.specs.Places.{place_size}
use Rattle.image_acts.specs.Acts as a
use Rattle.image_acts.specs.Acts.{Act, constant, stack, variable, operator, bounded, selector, ask}
use Rattle.tree_meaning.specs.Environment as meaning
use Rattle.tree_meaning.specs.Environment.{Environment, scope_of, constant_place, procedure_in, rank_in, corank}
use Rattle.tree_meaning.specs.Sequences.{◌▸◌, doing}
use Rattle.tree_meaning.specs.Expressions as view
use Rattle.made_code.specs.Ranks as ranks
use Rattle.made_code.proofs.Digits.{element_digits, subscripts_size, subscript_size, one_given}
use Rattle.made_code.proofs.Forms.{scalar_rank}
use Rattle.kind_walks.specs.Kinds.{Widens, Layout, last_layout, Typing, with_number, with_array}
use Rattle.kind_walks.proofs.Numbers.{huge_fits}
use Rattle.kind_walks.proofs.Effects.{with_numbers}
use Rattle.kind_walks.proofs.Frames.{layout_in, layout_of}
use Rattle.kind_walks.proofs.StackActs as acts
use Rattle.kind_expressions.specs.Kinded as kinded
use Rattle.kind_expressions.specs.Kinded.{kind_of, unit_layout}
use Rattle.kind_expressions.proofs.VariableActs.{result, acts_cell}
use Rattle.kind_expressions.proofs.PlaceActs as places
use Rattle.kind_expressions.proofs.ImageActs as images
use Rattle.kind_expressions.proofs.AskActs.{acts_status, acts_failed, acts_stopped}
use Rattle.kind_expressions.proofs.Goes.{Setting, Goes, idle, ◌⨾◌, by_test, act_then, one_act, Leaves, leaves_none, leaves_one, leaves_two, leaves_more, goes_dropping}
use Rattle.kind_expressions.proofs.References.{on_place, goes_part, goes_store, goes_put, element_placed, subscripted, part_bounds, own_bounds, coindexed_bounds, Owned, owned_here, owned_there, goes_reference}
use Rattle.kind_expressions.proofs.Calls.{Back, AllBack, given_on, dummy_kind, goes_calling}
use Rattle.kind_expressions.proofs.Passing.{result_as, one_on, passed_on, passed_more, passed_dummy, value_on, scalar_on, part_on}
use Rattle.kind_expressions.proofs.Operators.{always, of_type, of_rank_0, as_rank_0, of_kind, value_of_kind, of_truth, goes_operating, goes_arithmetic, goes_relation, goes_logic, goes_written, goes_beside}

module _ (w : Setting) (few : 2 * w.images ≤ 2147483647) (e : Environment) (own main : Layout) (main_is : main ≡ w.layouts 0) (units : (n : ℕ) → w.layouts (suc n) ≡ unit_layout (procedure_in e n).unit) where
  -- in the unit whose body it is: the running frame has its variables, and the last one those of the main program
  pub record There (y : Layout) (ys : List Layout) : Type 0 where
    pub running : y ≡ own
    pub last : last_layout y ys ≡ main
    pub constants : layout_in e.main y ys ≡ main

  abbrev pub IsThere : Typing → Type 0
  IsThere s = There s.running s.callers

  -- ---- variables
  abbrev Kind' : Local → Option Kind → Type 0
  Kind' v k = kinded.HasKind e.program w.coarrays own main v k

  at_home : (h : Home) (s : Typing) → IsThere s → layout_of (scope_of h) s ≡ kinded.layout_at e.program w.coarrays own main h
  at_home homes.Own s x = x.running
  at_home homes.Host s x = x.last

  pub scalar_there : (v : Local) (k : Option Kind) (s : Typing) → IsThere s → Kind' v k → slice_get (layout_of (scope_of v.home) s).scalars v.variable ≡ Some k
  scalar_there v k s x h = subst (λ (y : Layout). slice_get y.scalars v.variable ≡ Some k) (sym (at_home v.home s x)) h.0

  pub array_there : (v : Local) (k : Option Kind) (s : Typing) → IsThere s → Kind' v k → slice_get (layout_of (scope_of v.home) s).arrays v.variable ≡ Some k
  array_there v k s x h = subst (λ (y : Layout). slice_get y.arrays v.variable ≡ Some k) (sym (at_home v.home s x)) h.1

  pub fits : (l k : Option Kind) → Widens l k → (o : Option (Option Kind)) → o ≡ Some k → (j : Option Kind) → o ≡ Some j → Widens l j
  fits l k x o e j f = (let g : k ≡ j = cc in subst (Widens l) g x)

  -- the kind of an expression
  abbrev kind_at : t.Expression → Option Kind
  kind_at (t.typed f y r) = kind_of y

  abbrev rank_at : t.Expression → ℕ
  rank_at (t.typed f y r) = r

  abbrev Ranked : t.Expression → Type 0
  Ranked x = ranks.IsRanked e.program.procedures x

  abbrev OfRank : t.Expression → ℕ → Type 0
  OfRank x r = ranks.IsOfRank e.program.procedures x r

  abbrev Kinded : t.Expression → Type 0
  Kinded x = kinded.IsKinded e.program w.coarrays own main x

  abbrev OfKind : t.Expression → Option Kind → Type 0
  OfKind x k = kinded.IsOfKind e.program w.coarrays own main x k

  -- a result variable gets the number on top, whose place is beneath others
  pub goes_storing : (r : t.ResultVariable) (l : Option Kind) → kinded.IsResult e.program w.coarrays own main r l → (us qs : List (Option Kind)) (depth : ℕ) → suc (length us) ≡ depth → length qs ≡ view.result_size r → (s : Typing) → IsThere s
      → Goes w (with_number l (with_numbers us (with_numbers qs s))) (view.storing depth r) (with_numbers us (with_numbers qs s))
  goes_storing (t.result_variable v t.no_expressions j) l h us qs depth f g s x =
      let z = with_numbers us (with_numbers qs s) in
      goes_store w (scope_of v.home) v.variable l z
      (λ k q. fits l (Some j) h.1 (slice_get (layout_of (scope_of v.home) z).scalars v.variable) (scalar_there v (Some j) z x h.0) k q)
  goes_storing (t.result_variable v (t.more_expressions y es) j) l h us qs depth f g s x =
      goes_put w (scope_of v.home) v.variable l us qs depth f g s
      (λ k q. fits l (Some j) h.1 (slice_get (layout_of (scope_of v.home) s).arrays v.variable) (array_there v (Some j) s x h.0) k q)

  pub goes_status : (r : t.OptionalResult) → kinded.IsOptionalResult e.program w.coarrays own main r (Some kinds.I4) → (qs : List (Option Kind)) → length qs ≡ view.optional_size r → (s z : Typing) → z ≡ with_numbers qs s → IsThere s
      → Goes w (with_number (Some kinds.I4) z) (view.storing_status 1 r) z
  goes_status t.no_result h qs g s z q x = goes_dropping w z (Some kinds.I4 ∷ []) 1 refl
  goes_status (t.result r) h qs g s z q x =
      subst (λ (y : Typing). Goes w (with_number (Some kinds.I4) y) (view.storing 1 r) y) (sym q) (goes_storing r (Some kinds.I4) h [] qs 1 refl g s x)

  no_array : {r : ℕ} → 1 ≤ r → r ≡ 0 → ⊥
  no_array l e = absurd (omega arith)

  as_array : (k : Option Kind) (r : ℕ) (s : Typing) → 1 ≤ r → {p : Parts Act} → Goes w s p (result k r s) → Goes w s p (with_array k s)
  as_array k zero s l h = absurd (let z = l in omega arith)
  as_array k (suc r) s l h = h

  value_bounds : (k : Option Kind) (r : ℕ) (s : Typing) → 1 ≤ r → {p : Parts Act} → Goes w s p (result k r s) → Goes w s (p ▸ doing (bounded a.value_bounds ∷ [])) (with_array None s)
  value_bounds k r s l h = as_array k r s l h ⨾ one_act w (with_array k s) (bounded a.value_bounds) (with_array None s) (places.acts_value_bounds w.coarrays w.images k s)

  -- a number of the kind of its type, one of default kind, and a list of such
  typed : (y : DataType) (s : Typing) (r : ℕ) → r ≡ 0 → {p : Parts Act} → Goes w s p (with_number (Some (meaning.kind_of y)) s) → Goes w s p (result (kind_of y) r s)
  typed y s r e h = of_rank_0 w (kind_of y) s r e (of_kind w (Some (meaning.kind_of y)) (kind_of y) (of_type y) s h)

  default : (y : DataType) (s : Typing) (r : ℕ) → r ≡ 0 → Widens (Some kinds.I4) (kind_of y) → {p : Parts Act} → Goes w s p (with_number (Some kinds.I4) s) → Goes w s p (result (kind_of y) r s)
  default y s r e x h = of_rank_0 w (kind_of y) s r e (of_kind w (Some kinds.I4) (kind_of y) x s h)

  listed : (y : DataType) (s : Typing) (r : ℕ) → 1 ≤ r → Widens (Some kinds.I4) (kind_of y) → {p : Parts Act} → Goes w s p (with_array (Some kinds.I4) s) → Goes w s p (result (kind_of y) r s)
  listed y s zero l x h = absurd (let z = l in omega arith)
  listed y s (suc r) l x h = value_of_kind w (Some kinds.I4) (kind_of y) x 1 s h

  -- ---- calls
  one_back : (u : Unit') (x : t.Argument) (d r : ℕ) (s : Typing) → IsThere s → ranks.IsPassed e.program.procedures x r → kinded.IsPassed e.program w.coarrays own main x (kinded.kind_in u.variables d) → (view.passed_as x d r).goes_back ≡ true
      → Back w u (layout_of (view.passed_as x d r).scope s) (view.passed_as x d r)
  one_back u (t.value x) d r s i h k f = absurd (cc)
  one_back u (t.variable (t.part (objects.Local v) ss sel)) d r s i h k f =
      record { placed = placed (view.is_scalar ss r) refl; scalar = scalar_there v (kinded.kind_in u.variables d) s i k.0; array = array_there v (kinded.kind_in u.variables d) s i k.0 }
    where
      placed : (b : Bool) → view.is_scalar ss r ≡ b → ((view.place_size_of ss r ≡ 0) × (r ≡ 0)) ⊎ (view.place_size_of ss r ≡ place_size r)
      placed true g = inl (ap (λ c. cond c 0 (place_size r)) g, scalar_rank ss r g)
      placed false g = inr (ap (λ c. cond c 0 (place_size r)) g)
  one_back u (t.variable (t.part (objects.Coarray c) ss sel)) d r s i h k f = absurd h
  one_back u (t.variable (t.part (objects.Constant c) ss sel)) d r s i h k f = absurd h

  pub all_back : (u : Unit') (ds : List Dummy) (es : t.Arguments) (s : Typing) → IsThere s → ranks.ArePassed e.program.procedures u.variables ds es → kinded.ArePassed e.program w.coarrays own main u.variables ds es
      → AllBack w u s (view.passed u.variables ds es)
  all_back u [] es s i h k = tt
  all_back u (d ∷ ds) t.no_arguments s i h k = tt
  all_back u (d ∷ ds) (t.more_arguments x es) s i h k =
      let r = rank_in u.variables d.variable in
      (λ f. one_back u x d.variable r s i h.0 k.0 f, all_back u ds es s i h.1 k.1)

  as_given : (u : Unit') (o : Option ℕ) (k : Option Kind) (r : ℕ) (s : Typing) → ranks.GivesRank u.variables o r → kinded.GivesKind u.variables o k → {z : Typing} {p : Parts Act} → Goes w z p (given_on w u o s) → Goes w z p (result k r s)
  as_given u None k r s g l h = absurd g
  as_given u (Some x) k r s g l {z} {p} h =
      subst (λ m. Goes w z p (result k m s)) g (subst (λ j. Goes w z p (result j (rank_in u.variables x) s)) (dummy_kind u.variables x k l)
      (subst (λ y. Goes w z p y) (sym (result_as (kinded.kind_in u.variables x) (rank_in u.variables x) s)) h))

  pub calls : (n : ℕ) (es : t.Arguments) (k : Option Kind) (r : ℕ) (s : Typing) → IsThere s → ranks.GivesRank (procedure_in e n).unit.variables (procedure_in e n).answer r → kinded.GivesKind (procedure_in e n).unit.variables (procedure_in e n).answer k
      → ranks.ArePassed e.program.procedures (procedure_in e n).unit.variables (procedure_in e n).dummies es → kinded.ArePassed e.program w.coarrays own main (procedure_in e n).unit.variables (procedure_in e n).dummies es
      → Goes w (passed_on (procedure_in e n).unit.variables (view.passed (procedure_in e n).unit.variables (procedure_in e n).dummies es) s)
      (view.calling n (procedure_in e n) (view.passed (procedure_in e n).unit.variables (procedure_in e n).dummies es)) (result k r s)
  calls n es k r s i g l h d =
      let q = procedure_in e n in
      as_given q.unit q.answer k r s g l (goes_calling w n q (view.passed q.unit.variables q.dummies es) s (units n) (i.last ∙ main_is) (all_back q.unit q.dummies es s i h d))

  mutual
    pub goes_expression : (x : t.Expression) (s : Typing) → IsThere s → Ranked x → Kinded x → Goes w s (view.expression e x) (result (kind_at x) (rank_at x) s)
    goes_expression (t.typed f y r) s i h k = goes_form f y r s i h k

    pub goes_scalar : (x : t.Expression) (s : Typing) → IsThere s → OfRank x 0 → Kinded x → Goes w s (view.expression e x) (with_number (kind_at x) s)
    goes_scalar (t.typed f y r) s i h k = as_rank_0 w (kind_of y) s r h.0 (goes_form f y r s i h.1 k)

    pub goes_of_kind : (x : t.Expression) (k : Option Kind) (r : ℕ) (s : Typing) → IsThere s → OfRank x r → OfKind x k → Goes w s (view.expression e x) (result k r s)
    goes_of_kind (t.typed f y q) k r s i h d = subst (λ m. Goes w s (view.form e f (meaning.kind_of y) q) (result k m s)) h.0 (value_of_kind w (kind_of y) k d.0 q s (goes_form f y q s i h.1 d.1))

    pub goes_form : (f : t.Form) (y : DataType) (r : ℕ) (s : Typing) → IsThere s → ranks.HasRank e.program.procedures f r → kinded.IsForm e.program w.coarrays own main f y → Goes w s (view.form e f (meaning.kind_of y) r) (result (kind_of y) r s)
    goes_form (t.number z) y r s i h k = of_rank_0 w (kind_of y) s r h (one_act w s (constant z) (with_number (kind_of y) s) (acts.acts_constant w.coarrays w.images z (kind_of y) k s))
    goes_form (t.logical b) y r s i h k =
        of_rank_0 w (kind_of y) s r h (one_act w s (constant (truth b)) (with_number (kind_of y) s) (acts.acts_constant w.coarrays w.images (truth b) (kind_of y) (of_truth w (kind_of y) k b) s))
    goes_form (t.designator d) y r s i h k = goes_designator d (kind_of y) r s i h k
    goes_form (t.call n es) y r s i h k = goes_arguments (procedure_in e n).unit.variables (procedure_in e n).dummies es s i h.1 k.1 ⨾ calls n es (kind_of y) r s i h.0 k.0 h.1 k.1
    goes_form (t.intrinsic f) y r s i h k = goes_intrinsic f y r s i h k
    goes_form (t.parenthesized x) y r s i h k = goes_of_kind x (kind_of y) r s i h k
    goes_form (t.array_constructor es) y zero s i h k = absurd (let z = h.0 in omega arith)
    goes_form (t.array_constructor es) y (suc r) s i h k =
        one_act w s (stack a.empty_array) (with_array (kind_of y) s) (acts.acts_empty w.coarrays w.images (kind_of y) s) ⨾ goes_items es (kind_of y) s i h.1 k
    goes_form (t.plus x) y r s i h k = of_rank_0 w (kind_of y) s r h.0 (goes_of_kind x (kind_of y) 0 s i h.1 k)
    goes_form (t.minus x) y r s i h k =
        let j = Some (meaning.kind_of y) in
        of_rank_0 w (kind_of y) s r h.0 (of_kind w j (kind_of y) (of_type y) s (goes_scalar x s i h.1 k
        ⨾ goes_operating w (a.negate (meaning.kind_of y)) (with_number (kind_at x) s) (with_number j s) (acts.acts_negate w.coarrays w.images (kind_at x) (kind_at x) s (meaning.kind_of y))))
    goes_form (t.not x) y r s i h k =
        of_rank_0 w (kind_of y) s r h.0 (of_kind w (Some kinds.L4) (kind_of y) k.1 s (goes_scalar x s i h.1 k.0
        ⨾ goes_operating w a.negation (with_number (kind_at x) s) (with_number (Some kinds.L4) s) (acts.acts_negation w.coarrays w.images (kind_at x) (kind_at x) s)))
    goes_form (t.arithmetic o x z) y r s i h k =
        of_rank_0 w (kind_of y) s r h.0 (of_kind w (Some (meaning.kind_of y)) (kind_of y) (of_type y) s (goes_scalar x s i h.1 k.0 ⨾ goes_scalar z (with_number (kind_at x) s) i h.2 k.1
        ⨾ goes_arithmetic w (kind_at x) (kind_at z) s o (meaning.kind_of y)))
    goes_form (t.relation o x z) y r s i h k =
        of_rank_0 w (kind_of y) s r h.0 (of_kind w (Some kinds.L4) (kind_of y) k.2 s (goes_scalar x s i h.1 k.0 ⨾ goes_scalar z (with_number (kind_at x) s) i h.2 k.1 ⨾ goes_relation w (kind_at x) (kind_at z) s o))
    goes_form (t.logic o x z) y r s i h k =
        of_rank_0 w (kind_of y) s r h.0 (of_kind w (Some kinds.L4) (kind_of y) k.2 s (goes_scalar x s i h.1 k.0 ⨾ goes_scalar z (with_number (kind_at x) s) i h.2 k.1 ⨾ goes_logic w (kind_at x) (kind_at z) s o))

    goes_expressions : (es : t.Expressions) (s : Typing) → IsThere s → ranks.AreScalars e.program.procedures es → kinded.AreKinded e.program w.coarrays own main es → Leaves w s (view.count_of es) (view.expressions e es)
    goes_expressions t.no_expressions s i h k = leaves_none w s
    goes_expressions (t.more_expressions x es) s i h k =
        leaves_more w s (view.count_of es) (leaves_one w s (kind_at x) (goes_scalar x s i h.0 k.0)) (λ us l. goes_expressions es (with_numbers us s) i h.1 k.1)

    -- the values of a constructor
    goes_items : (es : t.Expressions) (k : Option Kind) (s : Typing) → IsThere s → ranks.AreRanked e.program.procedures es → kinded.AreOfKind e.program w.coarrays own main es k → Goes w (with_array k s) (view.items e es) (with_array k s)
    goes_items t.no_expressions k s i h d = idle
    goes_items (t.more_expressions (t.typed f y zero) es) k s i h d =
        let z = with_array k s in
        goes_form f y 0 z i h.0 d.0.1
        ⨾ act_then w (with_number (kind_of y) z) (stack a.take_cell) (with_number (kind_of y) z) (acts.acts_take_cell w.coarrays w.images (with_number (kind_of y) z))
        (one_act w (with_number (kind_of y) z) (stack a.append) z (acts.acts_append w.coarrays w.images (kind_of y) k d.0.0 s)) ⨾ goes_items es k s i h.1 d.1
    goes_items (t.more_expressions (t.typed f y (suc r)) es) k s i h d =
        let z = with_array k s in
        goes_form f y (suc r) z i h.0 d.0.1
        ⨾ act_then w (with_array (kind_of y) z) (stack a.take_cells) (with_array (kind_of y) z) (acts.acts_take_cells w.coarrays w.images (with_array (kind_of y) z))
        (one_act w (with_array (kind_of y) z) (stack a.append_array) z (acts.acts_append_array w.coarrays w.images (kind_of y) k d.0.0 s)) ⨾ goes_items es k s i h.1 d.1

    -- MIN and MAX, by what their operator leaves
    goes_folded : (o : a.OperatorAct) (k : Option Kind) → ((z : Typing) → acts.Acts w.coarrays w.images (with_number k (with_number k z)) (operator o) (with_number k z)) → (es : t.Expressions) (s : Typing) → IsThere s → ranks.AreScalars e.program.procedures es
        → kinded.AreOfKind e.program w.coarrays own main es k → Goes w (with_number k s) (view.folded e o es) (with_number k s)
    goes_folded o k f t.no_expressions s i h d = idle
    goes_folded o k f (t.more_expressions x es) s i h d =
        goes_of_kind x k 0 (with_number k s) i h.0 d.0 ⨾ goes_operating w o (with_number k (with_number k s)) (with_number k s) (f s) ⨾ goes_folded o k f es s i h.1 d.1

    goes_first : (o : a.OperatorAct) (k : Option Kind) → ((z : Typing) → acts.Acts w.coarrays w.images (with_number k (with_number k z)) (operator o) (with_number k z)) → (es : t.Expressions) (s : Typing) → IsThere s → ranks.AreSomeScalars e.program.procedures es
        → kinded.AreOfKind e.program w.coarrays own main es k → Goes w s (view.first_and_folded e o es) (with_number k s)
    goes_first o k f t.no_expressions s i h d = absurd h
    goes_first o k f (t.more_expressions x es) s i h d = goes_of_kind x k 0 s i h.0 d.0 ⨾ goes_folded o k f es s i h.1 d.1

    pub goes_optional : (x : t.OptionalExpression) (s : Typing) → IsThere s → ranks.IsOptionalScalar e.program.procedures x → kinded.IsOptional e.program w.coarrays own main x → Leaves w s (one_given x) (view.optional e x)
    goes_optional t.missing s i h k = leaves_none w s
    goes_optional (t.given x) s i h k = leaves_one w s (kind_at x) (goes_scalar x s i h k)

    pub goes_subscripts : (ss : t.Subscripts) (s : Typing) → IsThere s → ranks.AreSubscripts e.program.procedures ss → kinded.AreSubscripts e.program w.coarrays own main ss → Leaves w s (subscripts_size ss) (view.subscripts e ss)
    goes_subscripts t.no_subscripts s i h k = leaves_none w s
    goes_subscripts (t.more_subscripts x ss) s i h k = leaves_two w s (subscript_size x) (subscripts_size ss) (goes_subscript x s i h.0 k.0) (λ us l. goes_subscripts ss (with_numbers us s) i h.1 k.1)

    goes_subscript : (x : t.Subscript) (s : Typing) → IsThere s → ranks.IsSubscript e.program.procedures x → kinded.IsSubscript e.program w.coarrays own main x → Leaves w s (subscript_size x) (view.subscript e x)
    goes_subscript (t.element x) s i h k = leaves_one w s (kind_at x) (goes_scalar x s i h k)
    goes_subscript (t.triplet l u x) s i h k =
        leaves_two w s (one_given l) (one_given u + one_given x) (goes_optional l s i h.0 k.0)
        (λ us m. leaves_two w (with_numbers us s) (one_given u) (one_given x) (goes_optional u (with_numbers us s) i h.1 k.1) (λ vs n. goes_optional x (with_numbers vs (with_numbers us s)) i h.2 k.2))

    -- the place of a result variable
    pub goes_result : (r : t.ResultVariable) (l : Option Kind) (s : Typing) → IsThere s → ranks.IsResult e.program.procedures r → kinded.IsResult e.program w.coarrays own main r l → Leaves w s (view.result_size r) (view.result_place e r)
    goes_result (t.result_variable v t.no_expressions j) l s i h k = leaves_none w s
    goes_result (t.result_variable v (t.more_expressions x es) j) l s i h k =
        let f = goes_scalar x s i h.0.0 k.2.0 in
        let g = goes_expressions es (with_number (kind_at x) s) i h.0.1 k.2.1 in
        let d = element_digits (t.more_expressions x es) h.1 in
        element_placed w (scope_of v.home) v.variable (view.element_form (t.more_expressions x es)) (view.count_of es) s (kind_at x) d.0 d.1 f g

    pub goes_place : (r : t.OptionalResult) (l : Option Kind) (s : Typing) → IsThere s → ranks.IsOptionalResult e.program.procedures r → kinded.IsOptionalResult e.program w.coarrays own main r l → Leaves w s (view.optional_size r) (view.optional_place e r)
    goes_place t.no_result l s i h k = leaves_none w s
    goes_place (t.result r) l s i h k = goes_result r l s i h k

    goes_selected : (x : t.SelectedTeam) (s : Typing) → IsThere s → ranks.IsTeam e.program.procedures x → kinded.IsTeam e.program w.coarrays own main x → Goes w s (view.selected_team e x) (with_number None s)
    goes_selected t.current s i h k = one_act w s (selector a.this_team) (with_number None s) (images.acts_this_team w.coarrays w.images few s)
    goes_selected (t.team x) s i h k = goes_scalar x s i h k ⨾ one_act w (with_number (kind_at x) s) (selector a.team_value) (with_number None s) (images.acts_team_value w.coarrays w.images few (kind_at x) s)
    goes_selected (t.team_number x) s i h k = goes_scalar x s i h k ⨾ one_act w (with_number (kind_at x) s) (selector a.sibling_team) (with_number None s) (images.acts_sibling_team w.coarrays w.images few (kind_at x) s)

    pub goes_owner : (c r : ℕ) (sel : t.Selector) (s : Typing) → IsThere s → ranks.IsSelector e.program.procedures sel → kinded.IsSelector e.program w.coarrays own main sel → Owned w s r (view.optional_size (view.stat_of sel)) (view.owner e c r sel)
    goes_owner c r t.no_selector s i h k = owned_here w r s few
    goes_owner c r (t.selector cs which stat) s i h k =
        owned_there w c r (view.count_of cs) (view.optional_size stat) s few (goes_expressions cs (on_place r s) i h.0 k.0) (λ us. goes_selected which (with_numbers us (on_place r s)) i h.1 k.1)
        (λ us. goes_place stat (Some kinds.I4) (with_number None (with_numbers us (on_place r s))) i h.2 k.2)

    pub goes_stat : (sel : t.Selector) → kinded.IsSelector e.program w.coarrays own main sel → (qs : List (Option Kind)) → length qs ≡ view.optional_size (view.stat_of sel) → (s z : Typing) → z ≡ with_numbers qs s → IsThere s
        → Goes w (with_number (Some kinds.I4) z) (view.storing_status 1 (view.stat_of sel)) z
    goes_stat t.no_selector k qs g s z q i = goes_status t.no_result tt qs g s z q i
    goes_stat (t.selector cs which stat) k qs g s z q i = goes_status stat k.2 qs g s z q i

    goes_designator : (d : t.Designator) (k : Option Kind) (r : ℕ) (s : Typing) → IsThere s → ranks.IsPart e.program.procedures d r → kinded.IsPart e.program w.coarrays own main d k → Goes w s (view.designator e d r) (result k r s)
    goes_designator (t.part (objects.Local v) ss sel) k r s i h d =
        by_test (view.is_scalar ss r)
        (λ g. of_rank_0 w k s r (scalar_rank ss r g) (one_act w s (variable (a.cell (scope_of v.home) v.variable)) (with_number k s) (acts_cell w.coarrays w.images (scope_of v.home) v.variable k s (scalar_there v k s i d.0))))
        (λ g. goes_part w (scope_of v.home) v.variable k ss r h.1 s (array_there v k s i d.0) (goes_subscripts ss s i h.0 d.1))
    goes_designator (t.part (objects.Constant c) ss sel) k r s i h d =
        goes_part w e.main (constant_place e c) k ss r h.1 s (subst (λ (y : Layout). slice_get y.arrays (constant_place e c) ≡ Some k) (sym i.constants) d.0) (goes_subscripts ss s i h.0 d.1)
    goes_designator (t.part (objects.Coarray c) ss sel) None r s i h d = absurd d.0
    goes_designator (t.part (objects.Coarray c) ss sel) (Some k) r s i h d =
        let x = goes_owner c r sel s i h.2 d.2 in
        goes_reference w c ss r sel k h.1 d.0 s (goes_subscripts ss s i h.0 d.1) x (λ z q. goes_stat sel d.2 x.kinds x.long (with_array (Some k) s) z q i)

    pub goes_team : (x : t.OptionalExpression) (s : Typing) → IsThere s → ranks.IsOptionalScalar e.program.procedures x → kinded.IsOptional e.program w.coarrays own main x → Goes w s (view.team_of e x) (with_number None s)
    goes_team t.missing s i h k = one_act w s (selector a.this_team) (with_number None s) (images.acts_this_team w.coarrays w.images few s)
    goes_team (t.given x) s i h k = goes_scalar x s i h k ⨾ one_act w (with_number (kind_at x) s) (selector a.team_value) (with_number None s) (images.acts_team_value w.coarrays w.images few (kind_at x) s)

    -- bounds as an array, of which nothing is read where it is a variable
    goes_bounds : (x : t.Expression) (s : Typing) → IsThere s → ranks.IsArray e.program.procedures x → kinded.IsInquired e.program w.coarrays own main x → Goes w s (view.bounds_of e x) (with_array None s)
    goes_bounds (t.typed (t.designator d) y r) s i h k = goes_part_bounds d r s i h.1 k
    goes_bounds (t.typed (t.number z) y r) s i h k = absurd (no_array h.0 h.1)
    goes_bounds (t.typed (t.logical b) y r) s i h k = absurd (no_array h.0 h.1)
    goes_bounds (t.typed (t.call n es) y r) s i h k = value_bounds (kind_of y) r s h.0 (goes_form (t.call n es) y r s i h.1 k)
    goes_bounds (t.typed (t.intrinsic f) y r) s i h k = value_bounds (kind_of y) r s h.0 (goes_intrinsic f y r s i h.1 k)
    goes_bounds (t.typed (t.parenthesized x) y r) s i h k = value_bounds (kind_of y) r s h.0 (goes_of_kind x (kind_of y) r s i h.1 k)
    goes_bounds (t.typed (t.array_constructor es) y r) s i h k =
        one_act w s (stack a.empty_array) (with_array (kind_of y) s) (acts.acts_empty w.coarrays w.images (kind_of y) s) ⨾ goes_items es (kind_of y) s i h.1.1 k
        ⨾ one_act w (with_array (kind_of y) s) (bounded a.value_bounds) (with_array None s) (places.acts_value_bounds w.coarrays w.images (kind_of y) s)
    goes_bounds (t.typed (t.plus x) y r) s i h k = absurd (no_array h.0 h.1.0)
    goes_bounds (t.typed (t.minus x) y r) s i h k = absurd (no_array h.0 h.1.0)
    goes_bounds (t.typed (t.not x) y r) s i h k = absurd (no_array h.0 h.1.0)
    goes_bounds (t.typed (t.arithmetic o x z) y r) s i h k = absurd (no_array h.0 h.1.0)
    goes_bounds (t.typed (t.relation o x z) y r) s i h k = absurd (no_array h.0 h.1.0)
    goes_bounds (t.typed (t.logic o x z) y r) s i h k = absurd (no_array h.0 h.1.0)

    goes_part_bounds : (d : t.Designator) (r : ℕ) (s : Typing) → IsThere s → ranks.IsPart e.program.procedures d r → kinded.IsBounded e.program w.coarrays own main d → Goes w s (view.bounds_of_part e d r) (with_array None s)
    goes_part_bounds (t.part (objects.Local v) t.no_subscripts sel) r s i h k = one_act w s (bounded (a.bounds (scope_of v.home) v.variable)) (with_array None s) (places.acts_bounds w.coarrays w.images (scope_of v.home) v.variable s)
    goes_part_bounds (t.part (objects.Local v) (t.more_subscripts x ss) sel) r s i h k =
        part_bounds w (scope_of v.home) v.variable x ss r h.1 s (subscripted w x ss s (goes_subscript x s i h.0.0 k.0.0) (λ us. goes_subscripts ss (with_numbers us s) i h.0.1 k.0.1))
    goes_part_bounds (t.part (objects.Constant c) t.no_subscripts sel) r s i h k = one_act w s (bounded (a.bounds e.main (constant_place e c))) (with_array None s) (places.acts_bounds w.coarrays w.images e.main (constant_place e c) s)
    goes_part_bounds (t.part (objects.Constant c) (t.more_subscripts x ss) sel) r s i h k =
        part_bounds w e.main (constant_place e c) x ss r h.1 s (subscripted w x ss s (goes_subscript x s i h.0.0 k.0.0) (λ us. goes_subscripts ss (with_numbers us s) i h.0.1 k.0.1))
    goes_part_bounds (t.part (objects.Coarray c) t.no_subscripts sel) r s i h k = one_act w s (bounded (a.co_bounds c)) (with_array None s) (places.acts_co_bounds w.coarrays w.images c s)
    goes_part_bounds (t.part (objects.Coarray c) (t.more_subscripts x ss) t.no_selector) r s i h k =
        own_bounds w c x ss r h.1 s (subscripted w x ss s (goes_subscript x s i h.0.0 k.0.0) (λ us. goes_subscripts ss (with_numbers us s) i h.0.1 k.0.1))
    goes_part_bounds (t.part (objects.Coarray c) (t.more_subscripts x ss) (t.selector cs which stat)) r s i h k =
        coindexed_bounds w c (view.optional_size stat) x ss r h.1 s (subscripted w x ss s (goes_subscript x s i h.0.0 k.0.0) (λ us. goes_subscripts ss (with_numbers us s) i h.0.1 k.0.1)) (goes_owner c r (t.selector cs which stat) s i h.2 k.1)

    -- ---- intrinsic functions
    goes_intrinsic : (f : t.Intrinsic) (y : DataType) (r : ℕ) (s : Typing) → IsThere s → ranks.HasIntrinsicRank e.program.procedures f r → kinded.IsFunction e.program w.coarrays own main f y → Goes w s (view.intrinsic e f (meaning.kind_of y)) (result (kind_of y) r s)
    goes_intrinsic (t.abs x) y r s i h k =
        typed y s r h.0 (goes_scalar x s i h.1 k ⨾ goes_operating w (a.absolute (meaning.kind_of y)) (with_number (kind_at x) s) (with_number (Some (meaning.kind_of y)) s) (acts.acts_absolute w.coarrays w.images (kind_at x) (kind_at x) s (meaning.kind_of y)))
    goes_intrinsic (t.remainder x z o) y r s i h k =
        let j = Some (meaning.kind_of y) in
        typed y s r h.0 (goes_written w o j j s (goes_of_kind x j 0 s i h.1 k.0) (goes_of_kind z j 0 (with_number j s) i h.2 k.1) (goes_of_kind z j 0 s i h.2 k.1) (goes_of_kind x j 0 (with_number j s) i h.1 k.0)
        ⨾ goes_operating w a.remainder (with_number j (with_number j s)) (with_number j s) (acts.acts_remainder w.coarrays w.images j j s (meaning.kind_of y) (always j) (always j)))
    goes_intrinsic (t.modulo x z o) y r s i h k =
        let j = Some (meaning.kind_of y) in
        typed y s r h.0 (goes_written w o j j s (goes_of_kind x j 0 s i h.1 k.0) (goes_of_kind z j 0 (with_number j s) i h.2 k.1) (goes_of_kind z j 0 s i h.2 k.1) (goes_of_kind x j 0 (with_number j s) i h.1 k.0)
        ⨾ goes_operating w a.modulo (with_number j (with_number j s)) (with_number j s) (acts.acts_modulo w.coarrays w.images j j s (meaning.kind_of y) (always j) (always j)))
    goes_intrinsic (t.min es) y r s i h k =
        let j = Some (meaning.kind_of y) in
        typed y s r h.0 (goes_first a.least j (λ z. acts.acts_least w.coarrays w.images j j z (meaning.kind_of y) (always j) (always j)) es s i h.1 k)
    goes_intrinsic (t.max es) y r s i h k =
        let j = Some (meaning.kind_of y) in
        typed y s r h.0 (goes_first a.greatest j (λ z. acts.acts_greatest w.coarrays w.images j j z (meaning.kind_of y) (always j) (always j)) es s i h.1 k)
    goes_intrinsic t.huge y r s i h k =
        typed y s r h (one_act w s (constant (huge_of (meaning.kind_of y))) (with_number (Some (meaning.kind_of y)) s) (acts.acts_constant w.coarrays w.images (huge_of (meaning.kind_of y)) (Some (meaning.kind_of y)) (huge_fits (meaning.kind_of y)) s))
    goes_intrinsic (t.int x) y r s i h k =
        typed y s r h.0 (goes_scalar x s i h.1 k ⨾ goes_operating w (a.fits (meaning.kind_of y) 0) (with_number (kind_at x) s) (with_number (Some (meaning.kind_of y)) s) (acts.acts_fits w.coarrays w.images (meaning.kind_of y) (kind_at x) s))
    goes_intrinsic (t.size x t.missing o) y r s i h k =
        default y s r h.0 k.2 (goes_bounds x s i h.1 k.0 ⨾ one_act w (with_array None s) (bounded a.size) (with_number (Some kinds.I4) s) (places.acts_size w.coarrays w.images None s))
    goes_intrinsic (t.size x (t.given d) o) y r s i h k =
        default y s r h.0 k.2 (goes_beside w o None (kind_at d) s (goes_bounds x s i h.1 k.0) (goes_scalar d (with_array None s) i h.2 k.1) (goes_scalar d s i h.2 k.1) (goes_bounds x (with_number (kind_at d) s) i h.1 k.0) ⨾ one_act w (with_number (kind_at d) (with_array None s)) (bounded a.extent) (with_number (Some kinds.I4) s) (places.acts_extent w.coarrays w.images (kind_at d) None s))
    goes_intrinsic (t.lbound x d o) y r s i h k =
        default y s r h.0 k.2 (goes_beside w o None (kind_at d) s (goes_bounds x s i h.1 k.0) (goes_scalar d (with_array None s) i h.2 k.1) (goes_scalar d s i h.2 k.1) (goes_bounds x (with_number (kind_at d) s) i h.1 k.0) ⨾ one_act w (with_number (kind_at d) (with_array None s)) (bounded a.lower_bound) (with_number (Some kinds.I4) s) (places.acts_lower w.coarrays w.images (kind_at d) None s))
    goes_intrinsic (t.ubound x d o) y r s i h k =
        default y s r h.0 k.2 (goes_beside w o None (kind_at d) s (goes_bounds x s i h.1 k.0) (goes_scalar d (with_array None s) i h.2 k.1) (goes_scalar d s i h.2 k.1) (goes_bounds x (with_number (kind_at d) s) i h.1 k.0) ⨾ one_act w (with_number (kind_at d) (with_array None s)) (bounded a.upper_bound) (with_number (Some kinds.I4) s) (places.acts_upper w.coarrays w.images (kind_at d) None s))
    goes_intrinsic (t.allocated (objects.Local v)) y r s i h k =
        of_rank_0 w (kind_of y) s r h.0 (of_kind w (Some kinds.L4) (kind_of y) k s (one_act w s (bounded (a.is_there (scope_of v.home) v.variable)) (with_number (Some kinds.L4) s) (places.acts_is_there w.coarrays w.images (scope_of v.home) v.variable s)))
    goes_intrinsic (t.allocated (objects.Coarray c)) y r s i h k =
        of_rank_0 w (kind_of y) s r h.0 (of_kind w (Some kinds.L4) (kind_of y) k s (one_act w s (bounded (a.co_is_there c)) (with_number (Some kinds.L4) s) (places.acts_co_is_there w.coarrays w.images c s)))
    goes_intrinsic (t.allocated (objects.Constant c)) y r s i h k = absurd h.1
    goes_intrinsic (t.this_image which) y r s i h k =
        default y s r h.0 k.1 (goes_team which s i h.1 k.0 ⨾ one_act w (with_number None s) (selector a.own_index) (with_number (Some kinds.I4) s) (images.acts_own_index w.coarrays w.images few None s))
    goes_intrinsic (t.this_cosubscript c d which o) y r s i h k =
        default y s r h.0 k.2 (goes_written w o (kind_at d) None s (goes_scalar d s i h.1 k.0) (goes_team which (with_number (kind_at d) s) i h.2 k.1) (goes_team which s i h.2 k.1) (goes_scalar d (with_number None s) i h.1 k.0) ⨾ one_act w (with_number None (with_number (kind_at d) s)) (selector (a.cosubscript c)) (with_number (Some kinds.I4) s) (images.acts_cosubscript w.coarrays w.images few (kind_at d) None c s))
    goes_intrinsic (t.num_images which) y r s i h k =
        default y s r h.0 k.1 (goes_team which s i h.1 k.0 ⨾ one_act w (with_number None s) (selector a.image_count) (with_number (Some kinds.I4) s) (images.acts_image_count w.coarrays w.images few None s))
    goes_intrinsic (t.num_images_of_number x) y r s i h k =
        default y s r h.0 k.1 (goes_scalar x s i h.1 k.0 ⨾ one_act w (with_number (kind_at x) s) (selector a.image_count_of_number) (with_number (Some kinds.I4) s) (images.acts_count_of_number w.coarrays w.images few (kind_at x) s))
    goes_intrinsic (t.image_index c sub which o) y r s i h k =
        let z = with_array (kind_at sub) s in
        default y s r h.0 k.2 (goes_beside w o (kind_at sub) None s (goes_array sub s i h.1 k.0) (goes_team which z i h.2 k.1) (goes_team which s i h.2 k.1) (goes_array sub (with_number None s) i h.1 k.0)
        ⨾ one_act w (with_number None z) (selector (a.image_index c (corank e c))) (with_number (Some kinds.I4) s) (images.acts_image_index w.coarrays w.images few None (kind_at sub) c (corank e c) s))
    goes_intrinsic (t.image_status x which o) y r s i h k =
        let z = with_number None (with_number (kind_at x) s) in
        default y s r h.0 k.2 (goes_written w o (kind_at x) None s (goes_scalar x s i h.1 k.0) (goes_team which (with_number (kind_at x) s) i h.2 k.1) (goes_team which s i h.2 k.1) (goes_scalar x (with_number None s) i h.1 k.0) ⨾ act_then w z (selector a.team_value) z (images.acts_team_value w.coarrays w.images few None (with_number (kind_at x) s))
        (one_act w z (ask a.status) (with_number (Some kinds.I4) s) (acts_status w.coarrays w.images (kind_at x) None s)))
    goes_intrinsic (t.failed_images which) y r s i h k =
        listed y s r h.0 k.1 (goes_team which s i h.1 k.0 ⨾ act_then w (with_number None s) (ask a.failed) (with_array (Some kinds.I4) s) (acts_failed w.coarrays w.images None s)
        (one_act w (with_array (Some kinds.I4) s) (stack a.take_cells) (with_array (Some kinds.I4) s) (acts.acts_take_cells w.coarrays w.images (with_array (Some kinds.I4) s))))
    goes_intrinsic (t.stopped_images which) y r s i h k =
        listed y s r h.0 k.1 (goes_team which s i h.1 k.0 ⨾ act_then w (with_number None s) (ask a.stopped) (with_array (Some kinds.I4) s) (acts_stopped w.coarrays w.images None s)
        (one_act w (with_array (Some kinds.I4) s) (stack a.take_cells) (with_array (Some kinds.I4) s) (acts.acts_take_cells w.coarrays w.images (with_array (Some kinds.I4) s))))
    goes_intrinsic (t.number_of_team which) y r s i h k =
        typed y s r h.0 (goes_team which s i h.1 k ⨾ act_then w (with_number None s) (selector a.team_number) (with_number None s) (images.acts_team_number w.coarrays w.images few None s)
        (one_act w (with_number None s) (operator (a.fits (meaning.kind_of y) 0)) (with_number (Some (meaning.kind_of y)) s) (acts.acts_fits w.coarrays w.images (meaning.kind_of y) None s)))
    goes_intrinsic (t.get_team t.missing) y r s i h k = of_rank_0 w (kind_of y) s r h.0 (of_kind w None (kind_of y) k.1 s (one_act w s (selector a.this_team) (with_number None s) (images.acts_this_team w.coarrays w.images few s)))
    goes_intrinsic (t.get_team (t.given x)) y r s i h k =
        of_rank_0 w (kind_of y) s r h.0 (of_kind w None (kind_of y) k.1 s (goes_scalar x s i h.1 k.0 ⨾ one_act w (with_number (kind_at x) s) (selector a.get_team) (with_number None s) (images.acts_get_team w.coarrays w.images few (kind_at x) s)))

    -- an array, whose rank is above 0
    goes_array : (x : t.Expression) (s : Typing) → IsThere s → ranks.IsArray e.program.procedures x → Kinded x → Goes w s (view.expression e x) (with_array (kind_at x) s)
    goes_array (t.typed f y r) s i h k = as_array (kind_of y) r s h.0 (goes_form f y r s i h.1 k)

    -- ---- actual arguments
    pub goes_arguments : (vs : List Variable) (ds : List Dummy) (es : t.Arguments) (s : Typing) → IsThere s → ranks.ArePassed e.program.procedures vs ds es → kinded.ArePassed e.program w.coarrays own main vs ds es
        → Goes w s (view.arguments e vs ds es) (passed_on vs (view.passed vs ds es) s)
    goes_arguments vs [] t.no_arguments s i h k = idle
    goes_arguments vs (d ∷ ds) t.no_arguments s i h k = idle
    goes_arguments vs [] (t.more_arguments x es) s i h k = idle
    goes_arguments vs (d ∷ ds) (t.more_arguments x es) s i h k =
        let p = view.passed_as x d.variable (rank_in vs d.variable) in
        let k2 = kinded.kind_in vs d.variable in
        let z = one_on k2 p s in
        passed_more w vs k2 p (view.passed vs ds es) s (ap (kinded.kind_in vs) (passed_dummy x d.variable (rank_in vs d.variable))) (goes_argument x d.variable (rank_in vs d.variable) (kinded.kind_in vs d.variable) s i h.0 k.0 ⨾ goes_arguments vs ds es z i h.1 k.1)

    goes_argument : (x : t.Argument) (d r : ℕ) (k : Option Kind) (s : Typing) → IsThere s → ranks.IsPassed e.program.procedures x r → kinded.IsPassed e.program w.coarrays own main x k → Goes w s (view.argument e x r) (one_on k (view.passed_as x d r) s)
    goes_argument (t.value x) d r k s i h l = value_on w k x d r s (goes_of_kind x k r s i h l)
    goes_argument (t.variable v) d r k s i h l = goes_actual v d r k s i h l

    goes_actual : (v : t.Designator) (d r : ℕ) (k : Option Kind) (s : Typing) → IsThere s → ranks.IsVariable e.program.procedures v r → kinded.IsVariable e.program w.coarrays own main v k → Goes w s (view.actual e v r) (one_on k (view.passed_part v d r) s)
    goes_actual (t.part (objects.Local v) ss sel) d r k s i h l =
        by_test (view.is_scalar ss r)
        (λ g. scalar_on w k r (view.place_size_of ss r) s (ap (λ b. cond b 0 (place_size r)) g) (scalar_rank ss r g)
        (one_act w s (variable (a.cell (scope_of v.home) v.variable)) (with_number k s) (acts_cell w.coarrays w.images (scope_of v.home) v.variable k s (scalar_there v k s i l.0))))
        (λ g. part_on w (scope_of v.home) v.variable k ss r (view.place_size_of ss r) s (ap (λ b. cond b 0 (place_size r)) g) h.1 (array_there v k s i l.0) (goes_subscripts ss s i h.0 l.1))
    goes_actual (t.part (objects.Constant n) ss sel) d r k s i h l = absurd h
    goes_actual (t.part (objects.Coarray c) ss sel) d r k s i h l = absurd h
