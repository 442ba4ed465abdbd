-- Named constants by the ranks of their parts.
use Rattle.std.specs.Prelude.{ℕ, ℤ}
use Rattle.caf_base.specs.declared.value.Kind.TheVariants.{I4}
use Rattle.checked_tree.specs.Expressions as t
use Rattle.checked_tree.specs.declared.data.DataType.TheVariants.{Intrinsic}
use Rattle.checked_tree.specs.declared.data.Object.TheVariants as objects
use Rattle.rule_definitions.specs.Expressions.{scalar_value, typed_as}
use Rattle.rule_definitions.specs.Judgements.{Judgement, fine, unknown}
use Rattle.rule_definitions.specs.Names.{ConstantSymbol, unknown_value, scalar_constant, array_constant}

-- a named constant, or a part of it of this rank
abbrev pub constant_of : ConstantSymbol → ℕ → t.Subscripts → Judgement t.Expression
constant_of c r ss = elim c.value [
  | unknown_value ↦ unknown
  | scalar_constant v ↦ scalar_value v c.of_type
  | array_constant n ↦ typed_as c.of_type r (t.part (objects.Constant n) ss t.no_selector)
]

-- subscripts, and no use of a selector
abbrev pub first_of_both : t.Subscripts → t.Selector → t.Subscripts
first_of_both ss k = ss

-- a constant of ISO_FORTRAN_ENV (16.10.2)
abbrev pub module_number : ℤ → Judgement t.Expression
module_number n = fine (t.typed (t.number n) (Intrinsic I4) 0)
