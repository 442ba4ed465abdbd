-- What the rules say of the two sides of an assignment, by the designator or the reference that a side is.
use Rattle.std.proofs.Common.{◌≡◌, ℕ, ◌≤◌, Bool, true, false, List, [], ◌∷◌, length, refl, ap, sym, ◌∙◌, arith}
use Rattle.std.specs.Prelude.{Option, Some, None, cond}
use Rattle.caf_base.specs.declared.value.Kind.{Kind}
use Rattle.fortran_tree.specs.Expressions as f
use Rattle.fortran_tree.specs.ExpressionViews as tree
use Rattle.fortran_tree.specs.declared.expr.Designator.{Designator as WrittenDesignator, out-Designator}
use Rattle.checked_tree.specs.Expressions as t
use Rattle.checked_tree.specs.ExpressionViews.{expression, form, intrinsic, row_arithmetic_chain, row_logic_chain, subscripts}
use Rattle.checked_tree.specs.Statements as ts
use Rattle.caf_base.specs.declared.value.Kind.TheVariants.{L4}
use Rattle.checked_tree.specs.declared.data.DataType.{DataType}
use Rattle.checked_tree.specs.declared.data.DataType.TheVariants.{Intrinsic, Team, Event, Lock}
use Rattle.checked_tree.specs.declared.data.Home.{Home}
use Rattle.checked_tree.specs.declared.data.Home.TheVariants.{Own, Host}
use Rattle.checked_tree.specs.declared.data.Local.{Local}
use Rattle.checked_tree.specs.declared.data.Object.{Object}
use Rattle.checked_tree.specs.declared.data.Object.TheVariants as objects
use Rattle.checked_tree.specs.declared.expr.ArithmeticOperator.{ArithmeticOperator}
use Rattle.checked_tree.specs.declared.expr.LogicalOperator.{LogicalOperator}
use Rattle.checked_tree.specs.declared.expr.ExprForm.{ExprForm}
use Rattle.checked_tree.specs.declared.expr.ExprForm.TheVariants as forms
use Rattle.checked_tree.specs.declared.expr.Intrinsic.{Intrinsic as Function}
use Rattle.checked_tree.specs.declared.expr.Subscript.{Subscript}
use Rattle.checked_tree.specs.declared.expr.Argument.TheBlock as b
use Rattle.checked_tree.specs.declared.expr.Argument.TheBlock.{Row_of-ArithmeticLink, Row_of-LogicLink}
use Rattle.expr_rules.specs.Brackets.{refused_breaks}
use Rattle.shared_rules.specs.Forms.{is_plain_form}
use Rattle.rule_definitions.specs.Actions.{Site, images_assigned, is_definable, is_list_target, is_plain_array, is_selected, is_whole, left_side, listed_assignment, plain_assignment}
use Rattle.rule_definitions.specs.Expressions.{judged_designator}
use Rattle.rule_definitions.specs.Judgements.{is_there}
use Rattle.rule_definitions.specs.Names.{Scope, Symbol, denotes, is_procedure}
use Rattle.scope_table.specs.Symbols.{seen_from}
use Rattle.specifier_rules.specs.Variables.{designator_in}
use Rattle.assignment_rules.specs.Assignments.{images_by, images_in, intrinsic_in, list_given, value_given}
use Rattle.assignment_rules.specs.Targets.{is_definable_in, local_in, name_of, parts_breaks, procedure_target, takes_list, whole_in, whole_part}

-- left sides by their names

left_by : (s : Scope) (x : f.Designator) → left_side s x ≡ cond (is_procedure (denotes s (name_of x).text)) (procedure_target s x) (judged_designator s x)
left_by s (f.part_ref n ss c) = refl

pub left_side_by : (s : Scope) (d : WrittenDesignator)
    → left_side s (tree.designator d) ≡ cond (is_procedure (denotes s (out-Designator d).name.text)) (procedure_target s (tree.designator d)) (judged_designator s (tree.designator d))
left_side_by s d =
    left_by s (tree.designator d)
    ∙ ap (λ x. cond (is_procedure (denotes s (name_of x).text)) (procedure_target s (tree.designator d)) (judged_designator s (tree.designator d))) (tree.designator_is d)

same : {T : Type 0} (b : Bool) (x : T) → cond b x x ≡ x
same true x = refl
same false x = refl

no_meaning : (s : Scope) (x : f.Designator) → (procedure_target s x).meaning ≡ None
no_meaning s (f.part_ref n ss c) = same _ _

pub procedure_means : (s : Scope) (d : WrittenDesignator) → (procedure_target s (tree.designator d)).meaning ≡ None
procedure_means s d = no_meaning s (tree.designator d)

pub procedure_breaks : (s : Scope) (d : WrittenDesignator)
    → (procedure_target s (tree.designator d)).breaks ≡ refused_breaks (parts_breaks s (tree.designator d)) (cond (is_selected (tree.maybe_image_selector (out-Designator d).selector)) 34 47) (out-Designator d).name.at
procedure_breaks s d =
    ap (λ y. (procedure_target s y).breaks) (tree.designator_is d)
    ∙ ap (λ y. refused_breaks (parts_breaks s y) (cond (is_selected (tree.maybe_image_selector (out-Designator d).selector)) 34 47) (out-Designator d).name.at) (sym (tree.designator_is d))

pub ruleset procedure_laws = (procedure_breaks, procedure_means)

-- variables by their designators

pub definable_by : (x : Site) (e : t.Form) (y : DataType) (r : ℕ) → is_definable x (t.typed e y r) ≡ is_definable_in x (designator_in e) y
definable_by x (t.designator (t.part o ss c)) y r = refl
definable_by x e y r = refl

pub list_target_by : (x : Site) (e : t.Form) (y : DataType) (r : ℕ) → is_list_target x (t.typed e y r) ≡ takes_list x.scope (whole_in (designator_in e)) y r
list_target_by x (t.designator (t.part (objects.Local l) t.no_subscripts t.no_selector)) y r = refl
list_target_by x (t.designator (t.part o t.no_subscripts t.no_selector)) y r = refl
list_target_by x e y r = refl

pub whole_by : (e : t.Form) (y : DataType) (r : ℕ) → is_whole (t.typed e y r) ≡ is_there (whole_in (designator_in e))
whole_by (t.designator (t.part o t.no_subscripts t.no_selector)) y r = refl
whole_by e y r = refl

-- a part with subscripts is no whole object
pub no_whole : (o : Object) (xs : List Subscript) (c : t.Selector) → 1 ≤ length xs → None ≡ whole_part (t.part o (subscripts xs) c)
no_whole o [] c e = absurd (grind (arith))
no_whole o (x ∷ xs) c e = refl

pub allocatable_seen : (h : Home) (x : Symbol) → (seen_from h x).is_allocatable ≡ x.is_allocatable
allocatable_seen Own x = refl
allocatable_seen Host x = refl

pub plain_array_by : (e : t.Form) (y : DataType) (r : ℕ) → is_plain_array (t.typed e y r) ≡ is_plain_form e
plain_array_by (t.designator d) y r = refl
plain_array_by (t.array_constructor es) y r = refl
plain_array_by e y r = refl

pub plain_by : (e : t.Form) (y : DataType) (r : ℕ) (v : t.Expression) → plain_assignment (t.typed e y r) v ≡ value_given (designator_in e) y r v
plain_by (t.designator d) y r v = refl
plain_by e y r v = refl

pub listed_by : (e : t.Form) (y : DataType) (r : ℕ) (v : t.Form) (z : DataType) (q : ℕ) → listed_assignment (t.typed e y r) (t.typed v z q) ≡ list_given (local_in (designator_in e)) y v
listed_by (t.designator (t.part (objects.Local l) ss c)) (Intrinsic k) r v z q = refl
listed_by (t.designator (t.part o ss c)) y r v z q = refl
listed_by e y r v z q = refl

-- lists of images by the functions that give them

pub images_by_function : (l : Local) (k : Kind) (e : t.Form) → images_assigned l k e ≡ images_in l k (intrinsic_in e)
images_by_function l k (t.intrinsic (t.failed_images m)) = refl
images_by_function l k (t.intrinsic (t.stopped_images m)) = refl
images_by_function l k (t.intrinsic i) = refl
images_by_function l k e = refl

row_arithmetic_is_none : (n : _) (k : Row_of-ArithmeticLink n) (o : ArithmeticOperator) (x y : t.Expression) → intrinsic_in (row_arithmetic_chain k (t.arithmetic o x y)) ≡ None
unfolding form
row_arithmetic_is_none n b.end_of-ArithmeticLink o x y = refl
row_arithmetic_is_none n (b.more_of-ArithmeticLink u p e t' r rest) o x y = row_arithmetic_is_none _ rest p (t.typed (t.arithmetic o x y) u 0) (t.typed (form e) t' r)

row_logic_is_none : (n : _) (k : Row_of-LogicLink n) (o : LogicalOperator) (x y : t.Expression) → intrinsic_in (row_logic_chain k (t.logic o x y)) ≡ None
unfolding form
row_logic_is_none n b.end_of-LogicLink o x y = refl
row_logic_is_none n (b.more_of-LogicLink p e t' r rest) o x y = row_logic_is_none _ rest p (t.typed (t.logic o x y) (Intrinsic L4) 0) (t.typed (form e) t' r)

pub other_is_none : (e : ExprForm) → ((i : Function) → e ≡ forms.Intrinsic i → ⊥) → intrinsic_in (form e) ≡ None
unfolding form
other_is_none (forms.Number n) h = refl
other_is_none (forms.Logical x) h = refl
other_is_none (forms.Designator d) h = refl
other_is_none (forms.Call' p m as') h = refl
other_is_none (forms.Intrinsic i) h = absurd (h i refl)
other_is_none (forms.Parenthesized' p e u r) h = refl
other_is_none (forms.ArrayConstructor' m es) h = refl
other_is_none (forms.Plus' p e u r) h = refl
other_is_none (forms.Minus' p e u r) h = refl
other_is_none (forms.Not' p e u r) h = refl
other_is_none (forms.Arithmetic' o p x u r q y v w m ks) h = row_arithmetic_is_none _ ks o (t.typed (form x) u r) (t.typed (form y) v w)
other_is_none (forms.Relation' o p x u r q y v w) h = refl
other_is_none (forms.Logic' o p x u r q y v w m ks) h = row_logic_is_none _ ks o (t.typed (form x) u r) (t.typed (form y) v w)
