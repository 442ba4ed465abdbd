-- Single expressions are judged soundly.
use Rattle.std.proofs.Common.{◌≡◌, ℕ, ℤ, Bool, true, false, List, [], ◌∷◌, ◌++◌, refl}
use Rattle.std.specs.Prelude.{cond, not, nat_eq, pos, Option, Some, None}
use Rattle.caf_base.specs.declared.place.Pos.{Pos}
use Rattle.caf_base.specs.declared.value.Kind.{Kind}
use Rattle.caf_base.specs.declared.value.Kind.TheVariants.{I4, I8}
use Rattle.caf_base.specs.declared.value.Value.TheVariants.{Int, Bool as Truth}
use Rattle.fortran_tree.specs.declared.expr.NumberKind.{NumberKind}
use Rattle.fortran_tree.specs.declared.expr.NumberKind.TheVariants.{Unstated, Four, Eight, Named as NamedKind}
use Rattle.fortran_tree.specs.declared.expr.Operator.{Operator}
use Rattle.fortran_tree.specs.declared.expr.PrefixOperator.{PrefixOperator}
use Rattle.checked_tree.specs.Expressions as t
use Rattle.checked_tree.specs.declared.data.DataType.{DataType}
use Rattle.checked_tree.specs.declared.data.DataType.TheVariants.{Intrinsic, Team, Event, Lock}
use Rattle.rule_definitions.specs.declared.taken.Taken.{Taken}
use Rattle.rule_definitions.specs.Judgements.{unless}
use Rattle.rule_definitions.specs.Names
use Rattle.rule_definitions.specs.Names.{Scope, Meaning, Interface, ConstantSymbol, ConstantValue, KnownBounds, denotes, is_integer, is_team, is_type, is_logical}
use Rattle.rule_definitions.specs.Constants.{Constancy, value, values, no_constant, value_of}
use Rattle.rule_definitions.specs.Parts.{Placed, type_of, rank_of, is_listed, plain, is_taken, scalar_breaks, operand_breaks, operand, wanted, unlike_breaks, integer_breaks, integer, team_of, taken_by, applied, binary, prefixed, prefix_taken_by, prefix, in_brackets, parenthesized, supported, kind_of_value, logical_array_breaks, kind_value, integer_kind, kind_of_constant, kind_denoted, kind_written, fits, number_form, literal, number, item_breaks, type_behind, items, first_type, constructor, result_judged, result_of, result_variable}
use Rattle.rule_laws.proofs.Sound.{is_numbered, AreNumbered, IsSound, none_numbered, breaks_numbered, cond_numbered, unless_numbered, both_numbered, fine_sound, refused_sound, unknown_sound, weaker, ruled_plain, under_sound, made_sound, made_of_both_sound, then_plain, cond_plain}
use Rattle.rule_laws.proofs.Known.{is_known_value, AreKnown, IsKnownScope, and_right, no}

pub plain_sound : {H : Type 0} (e : Placed) → IsSound H e.judged → IsSound H (plain e)
plain_sound e s = under_sound (λ x. unless (not (is_listed x)) 56 e.at) s (λ x k. unless_numbered (not (is_listed x)) 56 e.at refl)

pub scalar_numbered : (r : ℕ) (p : Pos) → AreNumbered (scalar_breaks r p)
scalar_numbered r p = unless_numbered (nat_eq r 0) 37 p refl

numbered_cond : (b : Bool) (r : ℕ) → is_numbered r ≡ true → is_numbered (cond b 51 r) ≡ true
numbered_cond true r e = refl
numbered_cond false r e = e

pub unlike_numbered : (r : ℕ) (y : DataType) (p : Pos) → is_numbered r ≡ true → AreNumbered (unlike_breaks r y p)
unlike_numbered r y p e = breaks_numbered (cond (is_team y) 51 r) p (numbered_cond (is_team y) r e)

operand_numbered : (w : Taken) (p : Pos) (x : t.Expression) → AreNumbered (operand_breaks w p x)
operand_numbered w p x = cond_numbered (nat_eq (rank_of x) 0) (unless_numbered (is_taken w (type_of x)) 31 p refl) (breaks_numbered 37 p refl)

operand_sound : {H : Type 0} (w : Taken) (e : Placed) → IsSound H e.judged → IsSound H (operand w e)
operand_sound w e s = under_sound (operand_breaks w e.at) (plain_sound e s) (λ x k. operand_numbered w e.at x)

pub wanted_sound : {H : Type 0} (w : Taken) (e : Placed) → IsSound H e.judged → IsSound H (wanted w e)
wanted_sound w e s = under_sound (λ x. unless (is_taken w (type_of x)) 39 e.at ++ scalar_breaks (rank_of x) e.at) (plain_sound e s)
    (λ x k. both_numbered (unless_numbered (is_taken w (type_of x)) 39 e.at refl) (scalar_numbered (rank_of x) e.at))

integer_numbered : (r : ℕ) (p : Pos) (x : t.Expression) → is_numbered r ≡ true → AreNumbered (integer_breaks r p x)
integer_numbered r p x e = both_numbered (cond_numbered (is_integer (type_of x)) none_numbered (unlike_numbered r (type_of x) p e)) (scalar_numbered (rank_of x) p)

pub integer_sound : {H : Type 0} (r : ℕ) → is_numbered r ≡ true → (e : Placed) → IsSound H e.judged → IsSound H (integer r e)
integer_sound r n e s = under_sound (integer_breaks r e.at) (plain_sound e s) (λ x k. integer_numbered r e.at x n)

pub team_of_sound : {H : Type 0} (r : ℕ) → is_numbered r ≡ true → (e : Placed) → IsSound H e.judged → IsSound H (team_of r e)
team_of_sound r n e s = under_sound (λ x. unless (is_team (type_of x)) r e.at ++ scalar_breaks (rank_of x) e.at) (plain_sound e s)
    (λ x k. both_numbered (unless_numbered (is_team (type_of x)) r e.at n) (scalar_numbered (rank_of x) e.at))

pub binary_sound : {H : Type 0} (o : Operator) (a b : Placed) → IsSound H a.judged → IsSound H b.judged → IsSound H (binary o a b)
binary_sound o a b s t = made_of_both_sound (applied o) (operand_sound (taken_by o) a s) (operand_sound (taken_by o) b t)

pub prefix_sound : {H : Type 0} (o : PrefixOperator) (a : Placed) → IsSound H a.judged → IsSound H (prefix o a)
prefix_sound o a s = made_sound (prefixed o) (operand_sound (prefix_taken_by o) a s)

pub parenthesized_sound : {H : Type 0} (a : Placed) → IsSound H a.judged → IsSound H (parenthesized a)
parenthesized_sound a s = made_sound in_brackets (plain_sound a s)

-- Kinds

supported_sound : {H : Type 0} (o : Option Kind) (p : Pos) → IsSound H (supported o p)
supported_sound None p = refused_sound 23 p refl
supported_sound (Some k) p = fine_sound k

pub kind_of_value_sound : {H : Type 0} (kinds : ℤ → Option Kind) (c : Constancy) (p : Pos) → IsSound H (kind_of_value kinds c p)
kind_of_value_sound kinds (value (Int n)) p = supported_sound (kinds n) p
kind_of_value_sound kinds (value (Truth b)) p = refused_sound 23 p refl
kind_of_value_sound kinds (values es vs) p = refused_sound 37 p refl
kind_of_value_sound kinds no_constant p = refused_sound 22 p refl

pub logical_array_numbered : (r : ℕ) (y : DataType) (c : Constancy) (p : Pos) → is_numbered r ≡ true → AreNumbered (logical_array_breaks r y c p)
logical_array_numbered r y (value v) p e = none_numbered
logical_array_numbered r y (values es vs) p e = unless_numbered (not (is_logical y)) r p e
logical_array_numbered r y no_constant p e = none_numbered

pub kind_value_sound : {H : Type 0} (s : Scope) (kinds : ℤ → Option Kind) (e : Placed) → IsSound H e.judged → IsSound H (kind_value s kinds e)
kind_value_sound s kinds e j = then_plain _ (plain_sound e j) (λ x. ruled_plain (kind_of_value_sound kinds (value_of s x) e.at) (logical_array_numbered 23 (type_of x) (value_of s x) e.at refl))

kind_of_constant_sound : (ds : List KnownBounds) (v : ConstantValue) (p : Pos) → IsSound (is_known_value ds v ≡ true) (kind_of_constant v p)
kind_of_constant_sound ds Names.unknown_value p = unknown_sound no
kind_of_constant_sound ds (Names.scalar_constant v) p = kind_of_value_sound integer_kind (value v) p
kind_of_constant_sound ds (Names.array_constant n) p = refused_sound 37 p refl

kind_denoted_sound : (is : List Interface) (o : Option Meaning) (p : Pos) → IsSound (AreKnown is o) (kind_denoted o p)
kind_denoted_sound is None p = refused_sound 20 p refl
kind_denoted_sound is (Some (Names.module_constant n)) p = supported_sound (integer_kind n) p
kind_denoted_sound is (Some (Names.module_type y)) p = refused_sound 20 p refl
kind_denoted_sound is (Some (Names.constant c)) p = weaker (λ h. and_right _ _ (h.known (Names.constant c) refl)) (kind_of_constant_sound c.bounds c.value p)
kind_denoted_sound is (Some m) p = refused_sound 22 p refl

kind_written_sound : (s : Scope) (k : NumberKind) (p : Pos) → IsSound (IsKnownScope s) (kind_written s k p)
kind_written_sound s Unstated p = fine_sound I4
kind_written_sound s Four p = fine_sound I4
kind_written_sound s Eight p = fine_sound I8
kind_written_sound s (NamedKind x) p = weaker (λ h. h.known x) (kind_denoted_sound s.interfaces (denotes s x) p)

pub number_sound : (s : Scope) (k : NumberKind) (n : ℕ) (p : Pos) → IsSound (IsKnownScope s) (number s k n p)
number_sound s k n p = then_plain (literal n p) (kind_written_sound s k p) (λ y. ruled_plain (fine_sound (number_form (t.number (pos n)) (Intrinsic y))) (unless_numbered (fits y n) 23 p refl))

-- Constructors

abbrev pub AllSound : Type 0 → List Placed → Type 0
AllSound H [] = Unit {0}
AllSound H (e ∷ es) = IsSound H e.judged × AllSound H es

item_numbered : (o : Option DataType) (y : DataType) (p : Pos) → AreNumbered (item_breaks o y p)
item_numbered o Team p = breaks_numbered 51 p refl
item_numbered o Event p = breaks_numbered 31 p refl
item_numbered o Lock p = breaks_numbered 31 p refl
item_numbered None (Intrinsic k) p = none_numbered
item_numbered (Some y) (Intrinsic k) p = unless_numbered (is_type y (Intrinsic k)) 31 p refl

items_sound : {H : Type 0} (o : Option DataType) (es : List Placed) → AllSound H es → IsSound H (items o es)
items_sound o [] h = fine_sound t.no_expressions
items_sound o (e ∷ es) h = made_of_both_sound t.more_expressions (under_sound (λ x. item_breaks o (type_of x) e.at) (plain_sound e (h.0)) (λ x k. item_numbered o (type_of x) e.at)) (items_sound (type_behind o (plain e).meaning) es (h.1))

pub constructor_sound : {H : Type 0} (es : List Placed) → AllSound H es → IsSound H (constructor es)
constructor_sound es h = made_sound (λ xs. t.typed (t.array_constructor xs) (first_type xs) 1) (items_sound None es h)

-- Result variables

result_judged_sound : {H : Type 0} (o : Option t.ResultVariable) (p : Pos) → IsSound H (result_judged o p)
result_judged_sound None p = refused_sound 36 p refl
result_judged_sound (Some v) p = fine_sound v

pub result_variable_sound : {H : Type 0} (w : Taken) (e : Placed) → IsSound H e.judged → IsSound H (result_variable w e)
result_variable_sound w e s = cond_plain e.is_procedure (refused_sound 36 e.at refl) (then_plain (λ x. result_judged (result_of w x) e.at) (plain_sound e s) (λ x. result_judged_sound (result_of w x) e.at))
