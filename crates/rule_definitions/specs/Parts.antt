-- Rules on single expressions, by their types and ranks: operands, scalars, teams, kinds, result variables.
use Rattle.std.specs.Prelude.{ℕ, ℤ, pos, Bool, true, false, not, cond, nat_eq, nat_le, List, [], ◌∷◌, ◌++◌, ◌||◌, ◌&&◌, Option, Some, None}
use Rattle.std.specs.Ordering.{int_eq}
use Rattle.caf_base.specs.declared.place.Pos.{Pos}
use Rattle.caf_base.specs.declared.value.Kind.{Kind}
use Rattle.caf_base.specs.declared.value.Kind.TheVariants.{I4, I8, L4}
use Rattle.caf_base.specs.declared.value.Value.TheVariants.{Int, Bool as Truth}
use Rattle.fortran_tree.specs.Expressions as f
use Rattle.fortran_tree.specs.declared.expr.NumberKind.{NumberKind}
use Rattle.fortran_tree.specs.declared.expr.NumberKind.TheVariants.{Unstated, Four, Eight, Named as NamedKind}
use Rattle.fortran_tree.specs.declared.expr.PrefixOperator.{PrefixOperator}
use Rattle.fortran_tree.specs.declared.expr.PrefixOperator.TheVariants.{Plus, Minus, Not}
use Rattle.fortran_tree.specs.declared.expr.Operator.{Operator}
use Rattle.fortran_tree.specs.declared.expr.Operator.TheVariants.{Power, Multiply, Divide, Add, Subtract, Equal, NotEqual, Less, LessEqual, Greater, GreaterEqual, And, Or, Eqv, Neqv}
use Rattle.checked_tree.specs.Expressions as t
use Rattle.checked_tree.specs.declared.data.DataType.{DataType}
use Rattle.checked_tree.specs.declared.data.DataType.TheVariants.{Intrinsic, Team, Event, Lock}
use Rattle.checked_tree.specs.declared.data.Object.TheVariants as objects
use Rattle.checked_tree.specs.declared.expr.ArithmeticOperator.TheVariants as arithmetics
use Rattle.checked_tree.specs.declared.expr.RelationalOperator.TheVariants as relations
use Rattle.checked_tree.specs.declared.expr.LogicalOperator.TheVariants as logics
use Rattle.rule_definitions.specs.declared.broken.Broken.{Broken}
use Rattle.rule_definitions.specs.declared.taken.Taken.{Taken}
use Rattle.rule_definitions.specs.declared.taken.Taken.TheVariants.{Integers as integers, Logicals as logicals, IntegersOrLogicals as integers_or_logicals}
use Rattle.rule_definitions.specs.Judgements.{breaks, unless, Judgement, fine, refused, unknown, ruled, under, made_of, made_of_both, then}
use Rattle.rule_definitions.specs.Names
use Rattle.rule_definitions.specs.Names.{Scope, Meaning, ConstantSymbol, ConstantValue, is_integer, is_logical, is_team, is_type}
use Rattle.rule_definitions.specs.Constants.{Constancy, value, values, no_constant, value_of}

-- the place of an expression: that of its first token
abbrev pub place_of : f.Expression → Pos
place_of (f.number n k p) = p
place_of (f.logical b p) = p
place_of (f.designator (f.part_ref n ss c)) = n.at
place_of (f.function_reference n as') = n.at
place_of (f.parenthesized e p) = p
place_of (f.array_constructor es p) = p
place_of (f.prefix o e p) = p
place_of (f.binary o a b p) = p

-- an expression that was judged, its place, and whether it is the bare name of a procedure
pub record Placed : Type 0 where
  pub judged : Judgement t.Expression
  pub at : Pos
  pub is_procedure : Bool

abbrev pub type_of : t.Expression → DataType
type_of (t.typed x y r) = y

abbrev pub rank_of : t.Expression → ℕ
rank_of (t.typed x y r) = r

abbrev pub is_image_list : t.Intrinsic → Bool
is_image_list (t.failed_images m) = true
is_image_list (t.stopped_images m) = true
is_image_list i = false

abbrev pub is_listed_form : t.Form → Bool
is_listed_form (t.intrinsic i) = is_image_list i
is_listed_form x = false

-- FAILED_IMAGES() or STOPPED_IMAGES()
abbrev pub is_listed : t.Expression → Bool
is_listed (t.typed x y r) = is_listed_form x

-- Rule 56 (of this profile): a list of images elsewhere than under SIZE or as the value that is assigned
abbrev pub plain : Placed → Judgement t.Expression
plain e = under e.judged (λ x. unless (not (is_listed x)) 56 e.at)

-- whether a type is what is taken
abbrev pub is_taken : Taken → DataType → Bool
is_taken integers y = is_integer y
is_taken logicals y = is_logical y
is_taken integers_or_logicals y = is_integer y || is_logical y

-- Rule 37: an array where a scalar is needed
abbrev pub scalar_breaks : ℕ → Pos → List Broken
scalar_breaks r p = unless (nat_eq r 0) 37 p

-- Rule 31 (10.1.5, Table 10.2): a scalar operand of a type that the operator doesn't take. Rule 37: an array
abbrev pub operand_breaks : Taken → Pos → t.Expression → List Broken
operand_breaks w p x = cond (nat_eq (rank_of x) 0) (unless (is_taken w (type_of x)) 31 p) (breaks 37 p)

abbrev pub operand : Taken → Placed → Judgement t.Expression
operand w e = under (plain e) (operand_breaks w e.at)

-- Rule 39: another type than is wanted here; rule 37: an array
abbrev pub wanted : Taken → Placed → Judgement t.Expression
wanted w e = under (plain e) (λ x. unless (is_taken w (type_of x)) 39 e.at ++ scalar_breaks (rank_of x) e.at)

-- a condition is a logical scalar (11.1.8.1, 11.1.7.2)
abbrev pub condition : Placed → Judgement t.Expression
condition e = wanted logicals e

-- a DO bound (11.1.7.2) and a STOP code (11.4) are integer scalars
abbrev pub bound_or_code : Placed → Judgement t.Expression
bound_or_code e = wanted integers e

-- Rule 51: a team where none may be; else this rule
abbrev pub unlike_breaks : ℕ → DataType → Pos → List Broken
unlike_breaks r y p = breaks (cond (is_team y) 51 r) p

abbrev pub integer_breaks : ℕ → Pos → t.Expression → List Broken
integer_breaks r p x = cond (is_integer (type_of x)) [] (unlike_breaks r (type_of x) p) ++ scalar_breaks (rank_of x) p

-- where a scalar integer is needed: this rule for another type, rule 51 for a team; rule 37 for an array
abbrev pub integer : ℕ → Placed → Judgement t.Expression
integer r e = under (plain e) (integer_breaks r e.at)

-- a team, else this rule; rule 37 for an array
abbrev pub team_of : ℕ → Placed → Judgement t.Expression
team_of r e = under (plain e) (λ x. unless (is_team (type_of x)) r e.at ++ scalar_breaks (rank_of x) e.at)

-- Rule 51 (9.6, 11.6.6, 16.9): a team that isn't of TEAM_TYPE
abbrev pub team : Placed → Judgement t.Expression
team e = team_of 51 e

-- the greater of two kinds (10.1.9.3)
abbrev pub joint : DataType → DataType → DataType
joint (Intrinsic I8) y = Intrinsic I8
joint x y = y

abbrev pub number_form : t.Form → DataType → t.Expression
number_form x y = t.typed x y 0

abbrev pub truth : t.Form → t.Expression
truth x = t.typed x (Intrinsic L4) 0

-- what an operator takes (Table 10.2)
abbrev pub taken_by : Operator → Taken
taken_by And = logicals
taken_by Or = logicals
taken_by Eqv = logicals
taken_by Neqv = logicals
taken_by o = integers

-- the expression of an operator and its operands
abbrev pub applied : Operator → t.Expression → t.Expression → t.Expression
applied Power a b = number_form (t.arithmetic arithmetics.Power a b) (joint (type_of a) (type_of b))
applied Multiply a b = number_form (t.arithmetic arithmetics.Multiply a b) (joint (type_of a) (type_of b))
applied Divide a b = number_form (t.arithmetic arithmetics.Divide a b) (joint (type_of a) (type_of b))
applied Add a b = number_form (t.arithmetic arithmetics.Add a b) (joint (type_of a) (type_of b))
applied Subtract a b = number_form (t.arithmetic arithmetics.Subtract a b) (joint (type_of a) (type_of b))
applied Equal a b = truth (t.relation relations.Equal a b)
applied NotEqual a b = truth (t.relation relations.NotEqual a b)
applied Less a b = truth (t.relation relations.Less a b)
applied LessEqual a b = truth (t.relation relations.LessEqual a b)
applied Greater a b = truth (t.relation relations.Greater a b)
applied GreaterEqual a b = truth (t.relation relations.GreaterEqual a b)
applied And a b = truth (t.logic logics.And a b)
applied Or a b = truth (t.logic logics.Or a b)
applied Eqv a b = truth (t.logic logics.Eqv a b)
applied Neqv a b = truth (t.logic logics.Neqv a b)

abbrev pub binary : Operator → Placed → Placed → Judgement t.Expression
binary o a b = made_of_both (applied o) (operand (taken_by o) a) (operand (taken_by o) b)

abbrev pub prefixed : PrefixOperator → t.Expression → t.Expression
prefixed Plus a = number_form (t.plus a) (type_of a)
prefixed Minus a = number_form (t.minus a) (type_of a)
prefixed Not a = truth (t.not a)

abbrev pub prefix_taken_by : PrefixOperator → Taken
prefix_taken_by Not = logicals
prefix_taken_by o = integers

abbrev pub prefix : PrefixOperator → Placed → Judgement t.Expression
prefix o a = made_of (prefixed o) (operand (prefix_taken_by o) a)

abbrev pub in_brackets : t.Expression → t.Expression
in_brackets x = t.typed (t.parenthesized x) (type_of x) (rank_of x)

abbrev pub parenthesized : Placed → Judgement t.Expression
parenthesized e = made_of in_brackets (plain e)

-- the kind of a type with this number (7.4.3.1, 7.4.5)
abbrev pub integer_kind : ℤ → Option Kind
integer_kind n = cond (int_eq n (pos 4)) (Some I4) (cond (int_eq n (pos 8)) (Some I8) None)

abbrev pub logical_kind : ℤ → Option Kind
logical_kind n = cond (int_eq n (pos 4)) (Some L4) None

-- Rule 23 (7.4.3.1): a kind other than 4 and 8
abbrev pub supported : Option Kind → Pos → Judgement Kind
supported None p = refused 23 p
supported (Some k) p = fine k

-- Rule 22 (7.4.3.1, 10.1.12): a kind that isn't constant; rule 23: a logical one, or another number; rule 37: an array
abbrev pub kind_of_value : (ℤ → Option Kind) → Constancy → Pos → Judgement Kind
kind_of_value kinds (value (Int n)) p = supported (kinds n) p
kind_of_value kinds (value (Truth b)) p = refused 23 p
kind_of_value kinds (values es vs) p = refused 37 p
kind_of_value kinds no_constant p = refused 22 p

-- a logical array where a kind (rule 23) or a bound (rule 25) is wanted
abbrev pub logical_array_breaks : ℕ → DataType → Constancy → Pos → List Broken
logical_array_breaks r y (values es vs) p = unless (not (is_logical y)) r p
logical_array_breaks r y c p = []

abbrev pub kind_value : Scope → (ℤ → Option Kind) → Placed → Judgement Kind
kind_value s kinds e = then (plain e) (λ x. ruled (kind_of_value kinds (value_of s x) e.at) (logical_array_breaks 23 (type_of x) (value_of s x) e.at))

-- the kind that a name gives to a literal: a scalar constant's (R709)
abbrev pub kind_of_constant : ConstantValue → Pos → Judgement Kind
kind_of_constant Names.unknown_value p = unknown
kind_of_constant (Names.scalar_constant v) p = kind_of_value integer_kind (value v) p
kind_of_constant (Names.array_constant n) p = refused 37 p

abbrev pub kind_denoted : Option Meaning → Pos → Judgement Kind
kind_denoted None p = refused 20 p
kind_denoted (Some (Names.module_constant n)) p = supported (integer_kind n) p
kind_denoted (Some (Names.module_type y)) p = refused 20 p
kind_denoted (Some (Names.constant c)) p = kind_of_constant c.value p
kind_denoted (Some m) p = refused 22 p

abbrev pub kind_written : Scope → NumberKind → Pos → Judgement Kind
kind_written s Unstated p = fine I4
kind_written s Four p = fine I4
kind_written s Eight p = fine I8
kind_written s (NamedKind x) p = kind_denoted (Names.denotes s x) p

-- Rule 23 (7.4.3.1): a literal that its kind can't hold
abbrev pub fits : Kind → ℕ → Bool
fits I4 n = nat_le n 2147483647
fits I8 n = nat_le n 9223372036854775807
fits L4 n = false

abbrev pub literal : ℕ → Pos → Kind → Judgement t.Expression
literal n p k = ruled (fine (number_form (t.number (pos n)) (Intrinsic k))) (unless (fits k n) 23 p)

abbrev pub number : Scope → NumberKind → ℕ → Pos → Judgement t.Expression
number s k n p = then (kind_written s k p) (literal n p)

-- Rule 31 (7.8): items of a constructor are of one type and kind, and no locks or events; rule 51: nor teams
abbrev pub item_breaks : Option DataType → DataType → Pos → List Broken
item_breaks o Team p = breaks 51 p
item_breaks o Event p = breaks 31 p
item_breaks o Lock p = breaks 31 p
item_breaks None (Intrinsic k) p = []
item_breaks (Some y) (Intrinsic k) p = unless (is_type y (Intrinsic k)) 31 p

-- the type that the items have so far
abbrev pub type_so_far : Option DataType → DataType → Option DataType
type_so_far None (Intrinsic k) = Some (Intrinsic k)
type_so_far o y = o

abbrev pub type_behind : Option DataType → Option t.Expression → Option DataType
type_behind o None = o
type_behind o (Some x) = type_so_far o (type_of x)

-- the items from here, of which those before have this type
abbrev pub items : Option DataType → List Placed → Judgement t.Expressions
items o [] = fine t.no_expressions
items o (e ∷ rest) = made_of_both t.more_expressions (under (plain e) (λ x. item_breaks o (type_of x) e.at)) (items (type_behind o (plain e).meaning) rest)

abbrev pub first_type : t.Expressions → DataType
first_type t.no_expressions = Intrinsic I4
first_type (t.more_expressions e rest) = type_of e

abbrev pub constructor : List Placed → Judgement t.Expression
constructor es = made_of (λ xs. t.typed (t.array_constructor xs) (first_type xs) 1) (items None es)

-- subscripts that are single elements
abbrev pub elements_of : t.Subscripts → t.Expressions
elements_of t.no_subscripts = t.no_expressions
elements_of (t.more_subscripts (t.element e) rest) = t.more_expressions e (elements_of rest)
elements_of (t.more_subscripts (t.triplet a b c) rest) = elements_of rest

-- a local variable or a part of it without an image selector
abbrev pub result_form : t.Form → DataType → Option t.ResultVariable
result_form (t.designator (t.part (objects.Local l) ss t.no_selector)) (Intrinsic k) = Some (t.result_variable l (elements_of ss) k)
result_form x y = None

-- Rule 36 (9.7.4, 11.6.11, 16.9): a scalar local variable of a type that is wanted
abbrev pub result_of : Taken → t.Expression → Option t.ResultVariable
result_of w (t.typed x y r) = cond (is_taken w y && nat_eq r 0) (result_form x y) None

abbrev pub result_judged : Option t.ResultVariable → Pos → Judgement t.ResultVariable
result_judged None p = refused 36 p
result_judged (Some v) p = fine v

-- also where the bare name of a procedure stands
abbrev pub result_variable : Taken → Placed → Judgement t.ResultVariable
result_variable w e = cond e.is_procedure (refused 36 e.at) (then (plain e) (λ x. result_judged (result_of w x) e.at))
