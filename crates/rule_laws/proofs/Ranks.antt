-- An expression of rank 0 in a known scope has no array for its constant value.
use Rattle.std.proofs.Common.{◌≡◌, ◌∙◌, ℕ, ℤ, suc, ◌+◌, Bool, true, false, List, [], ◌∷◌, ◌++◌, refl, sym, ap, subst, arith}
use Rattle.std.specs.Prelude.{cond, not, nat_eq, pos, neg_ℤ, Option, Some, None, length, map}
use Rattle.std.proofs.lemmas.Bool.Decides.{nat_tests}
use Rattle.caf_base.specs.declared.place.Pos.{Pos}
use Rattle.caf_base.specs.declared.value.Kind.TheVariants.{I4}
use Rattle.caf_base.specs.declared.value.Value.{Value}
use Rattle.caf_base.specs.declared.value.Value.TheVariants.{Int, Bool as Truth}
use Rattle.fortran_tree.specs.Expressions as f
use Rattle.fortran_tree.specs.declared.expr.Operator.{Operator}
use Rattle.fortran_tree.specs.declared.expr.Operator.TheVariants as operators
use Rattle.fortran_tree.specs.declared.expr.PrefixOperator.{PrefixOperator}
use Rattle.fortran_tree.specs.declared.expr.PrefixOperator.TheVariants as prefixes
use Rattle.checked_tree.specs.Expressions as t
use Rattle.checked_tree.specs.declared.data.DataType.{DataType}
use Rattle.checked_tree.specs.declared.data.DataType.TheVariants.{Intrinsic}
use Rattle.checked_tree.specs.declared.data.Constant.{Constant}
use Rattle.checked_tree.specs.declared.data.Object.{Object}
use Rattle.checked_tree.specs.declared.data.Object.TheVariants as objects
use Rattle.checked_tree.specs.declared.expr.ArithmeticOperator.TheVariants as arithmetics
use Rattle.rule_definitions.specs.declared.broken.Broken.{Broken}
use Rattle.coarray_types.specs.Places.{size_of}
use Rattle.rule_definitions.specs.Judgements.{breaks, unless, is_nothing, Judgement, unknown, ruled, formed, made, made_of, made_of_both, both, is_there, item_at}
use Rattle.rule_definitions.specs.Names
use Rattle.rule_definitions.specs.Names.{Scope, Symbol, ConstantSymbol, ConstantValue, KnownBounds, Meaning, denotes}
use Rattle.rule_definitions.specs.Constants.{Constancy, value, values, no_constant, value_of, known, known_subscripts, Chosen, one, several, no_choice, is_inside, one_chosen, KnownSubscript, Selection, every, selected, selected_before, taken_elements, first_value, element_at, part_of_table, part_constancy, in_type, initial_values, calculated, compared, reasoned}
use Rattle.rule_definitions.specs.Parts.{Placed, plain, rank_of, type_of, integer, is_listed, operand, operand_breaks, taken_by, applied, prefixed, prefix_taken_by, in_brackets, literal, number_form, kind_written, first_type, items, joint, is_taken, fits, truth, place_of}
use Rattle.rule_definitions.specs.declared.taken.Taken.{Taken}
use Rattle.checked_tree.specs.declared.expr.RelationalOperator.TheVariants as relations
use Rattle.checked_tree.specs.declared.expr.LogicalOperator.TheVariants as logics
use Rattle.rule_definitions.specs.Arguments.{Part, expression, triplet, Actual, breaks_in_all}
use Rattle.rule_definitions.specs.Expressions.{WrittenSelector, subscript_of, subscripts_of, triplets_in, rank_behind, typed_as, variable_part, subscript_breaks, selection_breaks, referenced, scalar_value, constant_form, constant_part, unselected, function_named, subroutine_named, designated, judged, judged_brackets, judged_selector, judged_list, judged_arguments, placed}
use Rattle.rule_laws.proofs.Sound.{some_same, none_some, under_meaning, breaks_some}
use Rattle.rule_laws.proofs.Known.{is_placed, is_known_value, AreKnown, IsKnownScope, and_right, no}
use Rattle.rule_laws.proofs.Yields.{Yields, ruled_meaning, fine_yields, nothing_yields, ruled_yields, made_each, made_yields, both_each, both_yields, then_yields, cond_yields}
use Rattle.rule_laws.proofs.References.{is_array, in_type_flat, integer_flat, integers_flat, logicals_flat, denied_flat, calculated_flat, reference_flat, referenced_yields}

abbrev pub IsRanked : Scope → t.Expression → Type 0
IsRanked s x = nat_eq (rank_of x) 0 ≡ true → is_array (value_of s x) ≡ false

-- Parts of constant arrays

abbrev all_elements : t.Subscripts → Bool
all_elements t.no_subscripts = true
all_elements (t.more_subscripts (t.element e) rest) = all_elements rest
all_elements (t.more_subscripts (t.triplet a b c) rest) = false

suc_zero : (n : ℕ) → nat_eq (suc n) 0 ≡ true → false ≡ true
suc_zero n e = grind (arith, nat_tests)

one_more : (n : ℕ) → nat_eq (n + 1) 0 ≡ true → false ≡ true
one_more n e = grind (arith, nat_tests)

abbrev subscript_part : Part → Judgement t.Subscript
subscript_part x = elim x [ expression e ↦ made_of t.element (integer 31 e) | triplet j ↦ j ]

step_elements : (x : Part) (n : ℕ) (ss : Judgement t.Subscripts) (y : t.Subscripts) → (nat_eq n 0 ≡ true → (z : t.Subscripts) → ss.meaning ≡ Some z → all_elements z ≡ true)
    → nat_eq (cond (elim x [ expression e ↦ false | triplet j ↦ true ]) (n + 1) n) 0 ≡ true
    → both t.more_subscripts (subscript_part x).meaning ss.meaning ≡ Some y → all_elements y ≡ true
step_elements (expression e) n ss y h k g = both_each (λ z. all_elements z ≡ true) t.more_subscripts (made t.element (integer 31 e).meaning) ss.meaning y g
    (λ a b u v. made_each (λ z. all_elements (t.more_subscripts z b) ≡ true) t.element (integer 31 e).meaning a u (λ w q. h k b v))
step_elements (triplet j) n ss y h k g = no (one_more n k)

elements_only : (ss : List Actual) (y : t.Subscripts) → nat_eq (triplets_in ss) 0 ≡ true → (subscripts_of ss).meaning ≡ Some y → all_elements y ≡ true
elements_only [] y h e = subst (λ z. all_elements z ≡ true) (some_same t.no_subscripts y e) refl
elements_only (a ∷ rest) y h e = step_elements a.part (triplets_in rest) (subscripts_of rest) y (λ k z g. elements_only rest z k g) h e

abbrev is_several : Chosen → Bool
is_several (several ns) = true
is_several c = false

one_alone : (d : ℤ × ℤ) (c : Constancy) → is_several (one_chosen d c) ≡ false
one_alone d (value (Int n)) = inside (is_inside d n)
  where
    inside : (b : Bool) → is_several (cond b (one n) no_choice) ≡ false
    inside true = refl
    inside false = refl
one_alone d (value (Truth b)) = refl
one_alone d (values es vs) = refl
one_alone d no_constant = refl

before_flat : (c : Chosen) (o : Option Selection) (r : Selection) → is_several c ≡ false → ((q : Selection) → o ≡ Some q → q.extents ≡ []) → selected_before c o ≡ Some r → r.extents ≡ []
before_flat c None r e h g = none_some r g
before_flat (one n) (Some q) r e h g = sym (ap (λ z. z.extents) (some_same _ r g)) ∙ h q refl
before_flat (several ns) (Some q) r e h g = no (sym e)
before_flat no_choice (Some q) r e h g = none_some r g

extents_none : (s : Scope) (ds : List (ℤ × ℤ)) (y : t.Subscripts) → all_elements y ≡ true → (r : Selection) → selected ds (known_subscripts s y) ≡ Some r → r.extents ≡ []
extents_none s [] t.no_subscripts h r e = sym (ap (λ z. z.extents) (some_same every r e))
extents_none s (d ∷ ds) t.no_subscripts h r e = none_some r e
extents_none s [] (t.more_subscripts x rest) h r e = none_some r e
extents_none s (d ∷ ds) (t.more_subscripts (t.element x) rest) h r e = before_flat (one_chosen d (known s x).constancy) (selected ds (known_subscripts s rest)) r (one_alone d (known s x).constancy) (extents_none s ds rest h) e
extents_none s (d ∷ ds) (t.more_subscripts (t.triplet a b c) rest) h r e = no h

first_flat : (vs : List Value) → is_array (first_value vs) ≡ false
first_flat [] = refl
first_flat (v ∷ vs) = refl

some_extent : (k : ℕ) (ks : List ℕ) → k ∷ ks ≡ [] → ⊥
some_extent k ks e = cc

taken_by_extents : (es ns : List ℕ) (vs : List Value) → es ≡ [] → is_array (elim es [ [] ↦ first_value vs | k ∷ ks ↦ values ns vs ]) ≡ false
taken_by_extents [] ns vs e = first_flat vs
taken_by_extents (k ∷ ks) ns vs e = absurd (some_extent k ks e)

taken_flat : (ds : List (ℤ × ℤ)) (vs : List Value) (o : Option Selection) → ((r : Selection) → o ≡ Some r → r.extents ≡ []) → is_array (taken_elements ds vs o) ≡ false
taken_flat ds vs None h = refl
taken_flat ds vs (Some r) h = taken_by_extents r.extents r.extents (map (element_at ds vs) r.lists) (h r refl)

table_flat : (s : Scope) (o : Option Constant) (x : t.Subscript) (rest : t.Subscripts) → all_elements (t.more_subscripts x rest) ≡ true → is_array (part_of_table o (known_subscripts s (t.more_subscripts x rest))) ≡ false
table_flat s None x rest h = refl
table_flat s (Some c) x rest h = taken_flat c.shape.dims (initial_values c.values (size_of c.shape.dims)) (selected c.shape.dims (known_subscripts s (t.more_subscripts x rest))) (extents_none s c.shape.dims (t.more_subscripts x rest) h)

array_flat : (s : Scope) (o : Option Constant) (ds : List KnownBounds) (n : ℕ) (ss : List Actual) (y : t.Subscripts) → is_known_value ds (Names.array_constant n) ≡ true → (subscripts_of ss).meaning ≡ Some y
    → nat_eq (rank_behind (length ds) ss) 0 ≡ true → is_array (part_of_table o (known_subscripts s y)) ≡ false
array_flat s o [] n [] y k e h = no k
array_flat s o (d ∷ ds) n [] y k e h = no (suc_zero (length ds) h)
array_flat s o ds n (a ∷ rest) y k e h =
    both_each (λ z. all_elements z ≡ true → is_array (part_of_table o (known_subscripts s z)) ≡ false) t.more_subscripts (subscript_of a).meaning (subscripts_of rest).meaning y e (λ x ys u v. table_flat s o x ys) (elements_only (a ∷ rest) y h e)

-- Designators

typed_ranked : (s : Scope) (o : Option DataType) (r : ℕ) (d : t.Designator) → ((y : DataType) → IsRanked s (t.typed (t.designator d) y r)) → Yields (IsRanked s) (typed_as o r d)
typed_ranked s None r d h = nothing_yields (IsRanked s) []
typed_ranked s (Some y) r d h = fine_yields (IsRanked s) (t.typed (t.designator d) y r) (h y)

object_flat : (s : Scope) (y : Option DataType) (o : Object) (ks : List KnownSubscript) (c : t.Selector) → is_placed y o ≡ true → is_array (part_constancy s o ks c) ≡ false
object_flat s y (objects.Local l) ks c h = refl
object_flat s y (objects.Coarray n) ks c h = refl
object_flat s y (objects.Constant n) ks c h = no h

variable_ranked : (s : Scope) (x : Symbol) (p : Pos) (ss : List Actual) (c : WrittenSelector) → is_placed x.of_type x.object ≡ true → Yields (IsRanked s) (variable_part x p ss c)
variable_ranked s x p ss c h =
    let r = rank_behind (length x.bounds) ss in
    let inner = made_of_both (t.part x.object) (subscripts_of ss) c.judged in
    let bs = subscript_breaks (length x.bounds) (length ss) p ++ selection_breaks (length x.bounds) x.corank (length ss) c.count p in
    then_yields (IsRanked s) (formed inner bs) (typed_as x.of_type r)
    (λ d e. both_each (λ z. Yields (IsRanked s) (typed_as x.of_type r z)) (t.part x.object) (subscripts_of ss).meaning c.judged.meaning d (ruled_meaning inner (cond (is_nothing inner.breaks) bs []) d e)
    (λ y k u v. typed_ranked s x.of_type r (t.part x.object y k) (λ z g. object_flat s x.of_type x.object (known_subscripts s y) k h)))

scalar_ranked : (s : Scope) (v : Value) (o : Option DataType) → Yields (IsRanked s) (scalar_value v o)
scalar_ranked s (Int n) None = nothing_yields (IsRanked s) []
scalar_ranked s (Truth b) None = nothing_yields (IsRanked s) []
scalar_ranked s (Int n) (Some y) = fine_yields (IsRanked s) (t.typed (t.number n) y 0) (λ h. refl)
scalar_ranked s (Truth b) (Some y) = fine_yields (IsRanked s) (t.typed (t.logical b) y 0) (λ h. refl)

form_ranked : (s : Scope) (v : ConstantValue) (o : Option DataType) (ds : List KnownBounds) (ss : List Actual) (y : t.Subscripts) → is_known_value ds v ≡ true → (subscripts_of ss).meaning ≡ Some y
    → Yields (IsRanked s) (elim v [ Names.unknown_value ↦ unknown {T = t.Expression} | Names.scalar_constant w ↦ scalar_value w o | Names.array_constant n ↦ typed_as o (rank_behind (length ds) ss) (t.part (objects.Constant n) y t.no_selector) ])
form_ranked s Names.unknown_value o ds ss y k e = nothing_yields (IsRanked s) []
form_ranked s (Names.scalar_constant w) o ds ss y k e = scalar_ranked s w o
form_ranked s (Names.array_constant n) o ds ss y k e = typed_ranked s o (rank_behind (length ds) ss) (t.part (objects.Constant n) y t.no_selector) (λ z h. array_flat s (item_at s.constants n) ds n ss y k e h)

constant_ranked : (s : Scope) (x : ConstantSymbol) (p : Pos) (ss : List Actual) (c : WrittenSelector) → is_known_value x.bounds x.value ≡ true → Yields (IsRanked s) (constant_part x p ss c)
constant_ranked s x p ss c h =
    let inner = made_of_both {C = t.Subscripts} (λ y k. y) (subscripts_of ss) c.judged in
    let bs = subscript_breaks (length x.bounds) (length ss) p ++ selection_breaks (length x.bounds) 0 (length ss) c.count p in
    then_yields (IsRanked s) (formed inner bs) (constant_form x ss)
    (λ d e. both_each (λ z. Yields (IsRanked s) (constant_form x ss z)) (λ y k. y) (subscripts_of ss).meaning c.judged.meaning d (ruled_meaning inner (cond (is_nothing inner.breaks) bs []) d e)
    (λ y k u v. form_ranked s x.value x.of_type x.bounds ss y h u))

unselected_ranked : (s : Scope) {j : Judgement t.Expression} (ss : List Actual) (c : WrittenSelector) (p : Pos) → Yields (IsRanked s) j → Yields (IsRanked s) (unselected j ss c p)
unselected_ranked s {j = j} ss c p h =
    let bs = cond (is_nothing (breaks_in_all ss ++ c.judged.breaks)) (unless (not (is_there c.count)) 34 p) [] in
    both_yields (IsRanked s) (λ x k. x) (ruled j bs) c.judged (λ x k e g. h.each x (ruled_meaning j bs x e))

referenced_ranked : (s : Scope) (o : Option Meaning) (p : Pos) (xs : List Actual) → Yields (IsRanked s) (referenced s o p xs)
referenced_ranked s o p xs = record { each = λ x e h. reference_flat s x ((referenced_yields s o p xs).each x e) }

named_ranked : (s : Scope) (m : Meaning) (p : Pos) (ss : List Actual) (c : WrittenSelector) → Yields (IsRanked s) (function_named s m p ss c)
named_ranked s m p [] c = cond_yields (IsRanked s) (is_nothing c.judged.breaks) (nothing_yields (IsRanked s) (breaks 47 p)) (nothing_yields (IsRanked s) [])
named_ranked s m p (a ∷ rest) c = referenced_ranked s (Some m) p (a ∷ rest)

subroutine_ranked : (s : Scope) (p : Pos) (ss : List Actual) (c : WrittenSelector) → Yields (IsRanked s) (subroutine_named p ss c)
subroutine_ranked s p ss c = unselected_ranked s ss c p (nothing_yields (IsRanked s) (cond (is_nothing (breaks_in_all ss ++ c.judged.breaks)) (breaks 47 p) (breaks_in_all ss)))

designated_ranked : (s : Scope) (o : Option Meaning) (p : Pos) (ss : List Actual) (c : WrittenSelector) → AreKnown s.interfaces o → Yields (IsRanked s) (designated s o p ss c)
designated_ranked s None p ss c k = nothing_yields (IsRanked s) (breaks 20 p)
designated_ranked s (Some (Names.variable x)) p ss c k = variable_ranked s x p ss c (and_right (is_there x.of_type) (is_placed x.of_type x.object) (k.known (Names.variable x) refl))
designated_ranked s (Some (Names.constant x)) p ss c k = constant_ranked s x p ss c (and_right (is_there x.of_type) (is_known_value x.bounds x.value) (k.known (Names.constant x) refl))
designated_ranked s (Some (Names.module_constant n)) p ss c k = unselected_ranked s ss c p (ruled_yields (IsRanked s) (cond (is_nothing (breaks_in_all ss)) (unless (nat_eq (length ss) 0) 33 p) (breaks_in_all ss)) (fine_yields (IsRanked s) (t.typed (t.number n) (Intrinsic I4) 0) (λ h. refl)))
designated_ranked s (Some (Names.module_type y)) p ss c k = nothing_yields (IsRanked s) (breaks 20 p)
designated_ranked s (Some (Names.subroutine n)) p ss c k = subroutine_ranked s p ss c
designated_ranked s (Some (Names.intrinsic_subroutine n)) p ss c k = subroutine_ranked s p ss c
designated_ranked s (Some m) p ss c k = unselected_ranked s ss c p (named_ranked s m p ss c)

-- Operators

applied_flat : (s : Scope) (o : Operator) (a b : t.Expression) → is_array (value_of s (applied o a b)) ≡ false
applied_flat s operators.Power a b = integers_flat (calculated arithmetics.Power (joint (type_of a) (type_of b))) (value_of s a) (value_of s b) (calculated_flat arithmetics.Power (joint (type_of a) (type_of b)))
applied_flat s operators.Multiply a b = integers_flat (calculated arithmetics.Multiply (joint (type_of a) (type_of b))) (value_of s a) (value_of s b) (calculated_flat arithmetics.Multiply (joint (type_of a) (type_of b)))
applied_flat s operators.Divide a b = integers_flat (calculated arithmetics.Divide (joint (type_of a) (type_of b))) (value_of s a) (value_of s b) (calculated_flat arithmetics.Divide (joint (type_of a) (type_of b)))
applied_flat s operators.Add a b = integers_flat (calculated arithmetics.Add (joint (type_of a) (type_of b))) (value_of s a) (value_of s b) (calculated_flat arithmetics.Add (joint (type_of a) (type_of b)))
applied_flat s operators.Subtract a b = integers_flat (calculated arithmetics.Subtract (joint (type_of a) (type_of b))) (value_of s a) (value_of s b) (calculated_flat arithmetics.Subtract (joint (type_of a) (type_of b)))
applied_flat s operators.Equal a b = integers_flat (λ m n. value (Truth (compared relations.Equal m n))) (value_of s a) (value_of s b) (λ m n. refl)
applied_flat s operators.NotEqual a b = integers_flat (λ m n. value (Truth (compared relations.NotEqual m n))) (value_of s a) (value_of s b) (λ m n. refl)
applied_flat s operators.Less a b = integers_flat (λ m n. value (Truth (compared relations.Less m n))) (value_of s a) (value_of s b) (λ m n. refl)
applied_flat s operators.LessEqual a b = integers_flat (λ m n. value (Truth (compared relations.LessEqual m n))) (value_of s a) (value_of s b) (λ m n. refl)
applied_flat s operators.Greater a b = integers_flat (λ m n. value (Truth (compared relations.Greater m n))) (value_of s a) (value_of s b) (λ m n. refl)
applied_flat s operators.GreaterEqual a b = integers_flat (λ m n. value (Truth (compared relations.GreaterEqual m n))) (value_of s a) (value_of s b) (λ m n. refl)
applied_flat s operators.And a b = logicals_flat (reasoned logics.And) (value_of s a) (value_of s b)
applied_flat s operators.Or a b = logicals_flat (reasoned logics.Or) (value_of s a) (value_of s b)
applied_flat s operators.Eqv a b = logicals_flat (reasoned logics.Eqv) (value_of s a) (value_of s b)
applied_flat s operators.Neqv a b = logicals_flat (reasoned logics.Neqv) (value_of s a) (value_of s b)

scalar_operand : (b : Bool) (p : Pos) (bs : List Broken) → cond b bs (breaks 37 p) ≡ [] → b ≡ true
scalar_operand true p bs e = refl
scalar_operand false p bs e = absurd (breaks_some 37 p e)

operand_scalar : (w : Taken) (e : Placed) (x : t.Expression) → (operand w e).meaning ≡ Some x → (e.judged.meaning ≡ Some x) × (nat_eq (rank_of x) 0 ≡ true)
operand_scalar w e x h =
    let k = under_meaning (plain e) (operand_breaks w e.at) x h in
    ((under_meaning e.judged (λ y. unless (not (is_listed y)) 56 e.at) x (k.0)).0, scalar_operand (nat_eq (rank_of x) 0) e.at (unless (is_taken w (type_of x)) 31 e.at) (k.1))

prefixed_flat : (s : Scope) (o : PrefixOperator) (a : t.Expression) → is_array (value_of s a) ≡ false → is_array (value_of s (prefixed o a)) ≡ false
prefixed_flat s prefixes.Plus a h = h
prefixed_flat s prefixes.Minus a h = integer_flat (λ n. in_type (type_of a) (neg_ℤ n)) (value_of s a) (λ n. in_type_flat (type_of a) (neg_ℤ n))
prefixed_flat s prefixes.Not a h = denied_flat (value_of s a)

bracket_same : (s : Scope) (x : t.Expression) → value_of s (in_brackets x) ≡ value_of s x
bracket_same s x = refl

pub judged_ranked : (s : Scope) → IsKnownScope s → (e : f.Expression) → Yields (IsRanked s) (judged s e)
judged_ranked s k (f.number n m p) = then_yields (IsRanked s) (kind_written s m p) (literal n p) (λ y e. ruled_yields (IsRanked s) (unless (fits y n) 23 p) (fine_yields (IsRanked s) (number_form (t.number (pos n)) (Intrinsic y)) (λ h. refl)))
judged_ranked s k (f.logical b p) = fine_yields (IsRanked s) (truth (t.logical b)) (λ h. refl)
judged_ranked s k (f.designator (f.part_ref n ss c)) = designated_ranked s (denotes s n.text) n.at (judged_brackets s ss) (judged_selector s c) (k.known n.text)
judged_ranked s k (f.function_reference n xs) = referenced_ranked s (denotes s n.text) n.at (judged_arguments s xs)
judged_ranked s k (f.parenthesized e p) = made_yields (IsRanked s) in_brackets (plain (placed s e)) (λ x g h. (judged_ranked s k e).each x ((under_meaning (judged s e) (λ y. unless (not (is_listed y)) 56 (place_of e)) x g).0) h)
judged_ranked s k (f.array_constructor es p) = made_yields (IsRanked s) (λ xs. t.typed (t.array_constructor xs) (first_type xs) 1) (items None (judged_list s es)) (λ xs g h. no h)
judged_ranked s k (f.prefix o e p) = made_yields (IsRanked s) (prefixed o) (operand (prefix_taken_by o) (placed s e))
    (λ x g h. (let z = operand_scalar (prefix_taken_by o) (placed s e) x g in prefixed_flat s o x ((judged_ranked s k e).each x (z.0) (z.1))))
judged_ranked s k (f.binary o a b p) = both_yields (IsRanked s) (applied o) (operand (taken_by o) (placed s a)) (operand (taken_by o) (placed s b)) (λ x y e g h. applied_flat s o x y)
