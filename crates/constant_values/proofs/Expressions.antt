-- What is known of the forms of expressions is said by the integers and logicals of their parts.
use Rattle.std.proofs.Common.{◌≡◌, ℕ, ◌+◌, ◌<◌, List, [], ◌∷◌, length, drop, slice_index_or, arith, refl, sym, ap, ◌∙◌, append_assoc}
use Rattle.std.specs.Prelude.{ℤ, Bool, map, Option, Some, None, is_some}
use Rattle.caf_base.specs.declared.value.Kind.TheVariants.{L4}
use Rattle.caf_base.specs.declared.value.Value.{Value}
use Rattle.caf_base.specs.declared.value.Value.TheVariants.{Int, Bool as Truth}
use Rattle.checked_tree.specs.Expressions as t
use Rattle.checked_tree.specs.ExpressionViews.{expression, expressions, subscripts, designator, designator_is, maybe_selector, arithmetic_chain, logic_chain, typed_forms}
use Rattle.checked_tree.specs.declared.data.DataType.{DataType}
use Rattle.checked_tree.specs.declared.data.DataType.TheVariants.{Intrinsic}
use Rattle.checked_tree.specs.declared.expr.ArithmeticOperator.{ArithmeticOperator}
use Rattle.checked_tree.specs.declared.expr.LogicalOperator.{LogicalOperator}
use Rattle.checked_tree.specs.declared.expr.ArithmeticLink.{ArithmeticLink}
use Rattle.checked_tree.specs.declared.expr.LogicLink.{LogicLink}
use Rattle.checked_tree.specs.declared.expr.TypedExpr.{TypedExpr}
use Rattle.rule_definitions.specs.Names.{Scope}
use Rattle.constant_values.proofs.Lists.{item_drop}
use Rattle.constant_values.proofs.Designators.{part_is, is_some_selector}
use Rattle.constant_values.specs.declared.part.Section.{Section}
use Rattle.checked_tree.specs.declared.expr.Designator.{Designator as DesignatorType, out-Designator}
use Rattle.rule_definitions.specs.Constants as k
use Rattle.constant_values.specs.Chains.{arithmetic_value, logic_value}
use Rattle.constant_values.specs.Views.{integer_of, truth_of, as_truth, of_number, of_numbers, of_truths, subscript, plain_subscript, some_selector}

pub of_integer_is : (f : ℤ → k.Constancy) (c : k.Constancy) → k.of_integer f c ≡ of_number f (integer_of c)
of_integer_is f (k.value (Int n)) = refl
of_integer_is f (k.value (Truth b)) = refl
of_integer_is f (k.values es vs) = refl
of_integer_is f k.no_constant = refl

no_left : (f : ℤ → ℤ → k.Constancy) (o : Option ℤ) → k.no_constant ≡ of_numbers f None o
no_left f None = refl
no_left f (Some n) = refl

pub of_integers_is : (f : ℤ → ℤ → k.Constancy) (a b : k.Constancy) → k.of_integers f a b ≡ of_numbers f (integer_of a) (integer_of b)
of_integers_is f (k.value (Int m)) (k.value (Int n)) = refl
of_integers_is f (k.value (Int m)) (k.value (Truth b)) = refl
of_integers_is f (k.value (Int m)) (k.values es vs) = refl
of_integers_is f (k.value (Int m)) k.no_constant = refl
of_integers_is f (k.value (Truth a)) b = no_left f (integer_of b)
of_integers_is f (k.values es vs) b = no_left f (integer_of b)
of_integers_is f k.no_constant b = no_left f (integer_of b)

no_truth : (f : Bool → Bool → Bool) (o : Option Bool) → k.no_constant ≡ of_truths f None o
no_truth f None = refl
no_truth f (Some n) = refl

pub of_logicals_is : (f : Bool → Bool → Bool) (a b : k.Constancy) → k.of_logicals f a b ≡ of_truths f (truth_of a) (truth_of b)
of_logicals_is f (k.value (Truth m)) (k.value (Truth n)) = refl
of_logicals_is f (k.value (Truth m)) (k.value (Int b)) = refl
of_logicals_is f (k.value (Truth m)) (k.values es vs) = refl
of_logicals_is f (k.value (Truth m)) k.no_constant = refl
of_logicals_is f (k.value (Int a)) b = no_truth f (truth_of b)
of_logicals_is f (k.values es vs) b = no_truth f (truth_of b)
of_logicals_is f k.no_constant b = no_truth f (truth_of b)

pub denied_is : (c : k.Constancy) → k.denied c ≡ k.denied (as_truth (truth_of c))
denied_is (k.value (Int n)) = refl
denied_is (k.value (Truth b)) = refl
denied_is (k.values es vs) = refl
denied_is k.no_constant = refl

pub known_sizes_is : (ds : List _) (c : k.Constancy) → k.known_sizes ds (k.written c) ≡ k.known_sizes ds (k.written (k.as_constant (integer_of c)))
known_sizes_is [] c = refl
known_sizes_is (d ∷ ds) (k.value (Int n)) = refl
known_sizes_is (d ∷ ds) (k.value (Truth b)) = refl
known_sizes_is (d ∷ ds) (k.values es vs) = refl
known_sizes_is (d ∷ ds) k.no_constant = refl

-- operators from the left

arithmetic_from : (s : Scope) (xs : List ArithmeticLink) (o : ArithmeticOperator) (a b : t.Expression) (y : DataType) (p q : Option ℤ)
    → p ≡ integer_of (k.known s a).constancy → q ≡ integer_of (k.known s b).constancy
    → k.known_form s (arithmetic_chain xs (t.arithmetic o a b)) y ≡ k.scalar (arithmetic_value s xs o p q y)
arithmetic_from s [] o a b y p q h g =
    ap k.scalar (of_integers_is (k.calculated o y) (k.known s a).constancy (k.known s b).constancy
    ∙ ap (λ v. of_numbers (k.calculated o y) v (integer_of (k.known s b).constancy)) (sym h) ∙ ap (of_numbers (k.calculated o y) p) (sym g))
arithmetic_from s (x ∷ xs) o a b y p q h g =
    arithmetic_from s xs x.operator (t.typed (t.arithmetic o a b) x.left_type 0) (expression x.right) y
    (integer_of (of_numbers (k.calculated o x.left_type) p q)) (integer_of (k.known s (expression x.right)).constancy)
    (ap integer_of (sym (of_integers_is (k.calculated o x.left_type) (k.known s a).constancy (k.known s b).constancy
    ∙ ap (λ v. of_numbers (k.calculated o x.left_type) v (integer_of (k.known s b).constancy)) (sym h) ∙ ap (of_numbers (k.calculated o x.left_type) p) (sym g))))
    refl

pub known_arithmetic : (s : Scope) (xs : List ArithmeticLink) (o : ArithmeticOperator) (a b : t.Expression) (y : DataType)
    → k.known_form s (arithmetic_chain xs (t.arithmetic o a b)) y ≡ k.scalar (arithmetic_value s xs o (integer_of (k.known s a).constancy) (integer_of (k.known s b).constancy) y)
known_arithmetic s xs o a b y = arithmetic_from s xs o a b y (integer_of (k.known s a).constancy) (integer_of (k.known s b).constancy) refl refl

logic_from : (s : Scope) (xs : List LogicLink) (o : LogicalOperator) (a b : t.Expression) (y : DataType) (p q : Option Bool)
    → p ≡ truth_of (k.known s a).constancy → q ≡ truth_of (k.known s b).constancy
    → k.known_form s (logic_chain xs (t.logic o a b)) y ≡ k.scalar (logic_value s xs o p q)
logic_from s [] o a b y p q h g =
    ap k.scalar (of_logicals_is (k.reasoned o) (k.known s a).constancy (k.known s b).constancy
    ∙ ap (λ v. of_truths (k.reasoned o) v (truth_of (k.known s b).constancy)) (sym h) ∙ ap (of_truths (k.reasoned o) p) (sym g))
logic_from s (x ∷ xs) o a b y p q h g =
    logic_from s xs x.operator (t.typed (t.logic o a b) (Intrinsic L4) 0) (expression x.right) y
    (truth_of (of_truths (k.reasoned o) p q)) (truth_of (k.known s (expression x.right)).constancy)
    (ap truth_of (sym (of_logicals_is (k.reasoned o) (k.known s a).constancy (k.known s b).constancy
    ∙ ap (λ v. of_truths (k.reasoned o) v (truth_of (k.known s b).constancy)) (sym h) ∙ ap (of_truths (k.reasoned o) p) (sym g))))
    refl

pub known_logic : (s : Scope) (xs : List LogicLink) (o : LogicalOperator) (a b : t.Expression) (y : DataType)
    → k.known_form s (logic_chain xs (t.logic o a b)) y ≡ k.scalar (logic_value s xs o (truth_of (k.known s a).constancy) (truth_of (k.known s b).constancy))
known_logic s xs o a b y = logic_from s xs o a b y (truth_of (k.known s a).constancy) (truth_of (k.known s b).constancy) refl refl

-- items behind items

no_values : (o : Option (List Value)) → k.joined_values (Some []) o ≡ o
no_values None = refl
no_values (Some vs) = refl

joined_assoc : (a b c : Option (List Value)) → k.joined_values (k.joined_values a b) c ≡ k.joined_values a (k.joined_values b c)
joined_assoc None b c = refl
joined_assoc (Some a) None c = refl
joined_assoc (Some a) (Some b) None = refl
joined_assoc (Some a) (Some b) (Some c) = ap Some (append_assoc a b c)

no_count : (o : Option ℕ) → k.sum_of (Some 0) o ≡ o
no_count None = refl
no_count (Some n) = ap Some (omega arith)

sum_assoc : (a b c : Option ℕ) → k.sum_of (k.sum_of a b) c ≡ k.sum_of a (k.sum_of b c)
sum_assoc None b c = refl
sum_assoc (Some a) None c = refl
sum_assoc (Some a) (Some b) None = refl
sum_assoc (Some a) (Some b) (Some c) = ap Some (omega arith)

abbrev pub ItemsLeft : Scope → Option (List Value) → Option ℕ → List TypedExpr → List TypedExpr → Type 0
ItemsLeft s vs n left all =
    (k.joined_values vs (k.known_items s (expressions left)).items ≡ (k.known_items s (expressions all)).items)
    × (k.sum_of n (k.known_items s (expressions left)).count ≡ (k.known_items s (expressions all)).count)

pub items_begin : (s : Scope) (vs : Option (List Value)) (n : Option ℕ) (xs : List TypedExpr) → vs ≡ Some [] → n ≡ Some 0 → ItemsLeft s vs n xs xs
items_begin s vs n xs e h = (
  ap (λ o. k.joined_values o (k.known_items s (expressions xs)).items) e ∙ no_values (k.known_items s (expressions xs)).items,
  ap (λ o. k.sum_of o (k.known_items s (expressions xs)).count) h ∙ no_count (k.known_items s (expressions xs)).count,
)

pub items_turn : (s : Scope) (vs ws : Option (List Value)) (n m : Option ℕ) (xs : List TypedExpr) (i : ℕ) (x : TypedExpr) (v : k.Known) → x ≡ slice_index_or xs i x → i < length xs
    → v ≡ k.known s (expression x) → ws ≡ k.joined_values vs (k.elements v.constancy) → m ≡ k.sum_of n (k.known_size v.bounds)
    → ItemsLeft s vs n (drop i xs) xs → ItemsLeft s ws m (drop (i + 1) xs) xs
items_turn s vs ws n m xs i x v e h k' p q inv =
    let d = item_drop xs i x e h in
    let r = drop (i + 1) xs in (
      ap (λ o. k.joined_values o (k.known_items s (expressions r)).items) (p ∙ ap (λ w. k.joined_values vs (k.elements w.constancy)) k')
          ∙ joined_assoc vs (k.elements (k.known s (expression x)).constancy) (k.known_items s (expressions r)).items
          ∙ ap (λ l. k.joined_values vs (k.known_items s (expressions l)).items) (sym d) ∙ inv.0,
      ap (λ o. k.sum_of o (k.known_items s (expressions r)).count) (q ∙ ap (λ w. k.sum_of n (k.known_size w.bounds)) k')
          ∙ sum_assoc n (k.known_size (k.known s (expression x)).bounds) (k.known_items s (expressions r)).count
          ∙ ap (λ l. k.sum_of n (k.known_items s (expressions l)).count) (sym d) ∙ inv.1,
    )

-- the forms in memory

pub arithmetic_seen : (s : Scope) (f : t.Form) (xs : List ArithmeticLink) (o : ArithmeticOperator) (a b : t.Expression) (y : DataType) (p q : Option ℤ) (v : k.Constancy) (r : k.Known)
    → f ≡ arithmetic_chain xs (t.arithmetic o a b) → p ≡ integer_of (k.known s a).constancy → q ≡ integer_of (k.known s b).constancy → v ≡ arithmetic_value s xs o p q y → r ≡ k.scalar v
    → r ≡ k.known_form s f y
arithmetic_seen s f xs o a b y p q v r e h g w z =
    z ∙ ap k.scalar w ∙ sym (arithmetic_from s xs o a b y p q h g) ∙ ap (λ d. k.known_form s d y) (sym e)

pub logic_seen : (s : Scope) (f : t.Form) (xs : List LogicLink) (o : LogicalOperator) (a b : t.Expression) (y : DataType) (p q : Option Bool) (v : k.Constancy) (r : k.Known)
    → f ≡ logic_chain xs (t.logic o a b) → p ≡ truth_of (k.known s a).constancy → q ≡ truth_of (k.known s b).constancy → v ≡ logic_value s xs o p q → r ≡ k.scalar v
    → r ≡ k.known_form s f y
logic_seen s f xs o a b y p q v r e h g w z =
    z ∙ ap k.scalar w ∙ sym (logic_from s xs o a b y p q h g) ∙ ap (λ d. k.known_form s d y) (sym e)

pub designator_seen : (s : Scope) (d : DesignatorType) (ls : List Section) (b : Bool) (r : k.Known)
    → map subscript ls ≡ map plain_subscript (k.known_subscripts s (subscripts (out-Designator d).subscripts.items)) → b ≡ is_some (out-Designator d).selector
    → r ≡ k.known_part s (out-Designator d).object (map subscript ls) (some_selector b) → r ≡ k.known_designator s (designator d)
designator_seen s d ls b r e h z =
    let o = out-Designator d in
    z ∙ part_is s o.object ls (k.known_subscripts s (subscripts o.subscripts.items)) (maybe_selector o.selector) b e (is_some_selector o.selector b h)
    ∙ ap (k.known_designator s) (sym (designator_is d))

pub ruleset known_laws = (typed_forms, known_arithmetic, known_logic, of_integer_is, of_integers_is, of_logicals_is, denied_is)

pub ruleset intrinsic_laws = (typed_forms, of_integer_is, of_integers_is, known_sizes_is)
