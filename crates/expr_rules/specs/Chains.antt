-- Chains of operators, triplets, and items of lists, judged.
use Rattle.std.specs.Prelude.{false, List, [], ◌∷◌, Option, None}
use Rattle.caf_base.specs.declared.place.Pos.{Pos}
use Rattle.checked_tree.specs.Expressions as t
use Rattle.fortran_tree.specs.ExpressionViews as tree
use Rattle.fortran_tree.specs.declared.expr.Argument.{Argument}
use Rattle.fortran_tree.specs.declared.expr.Link.{Link}
use Rattle.fortran_tree.specs.declared.name.Name.{Name}
use Rattle.fortran_tree.specs.declared.expr.Specifier.{Specifier}
use Rattle.rule_definitions.specs.Arguments.{Actual, expression, triplet}
use Rattle.rule_definitions.specs.Expressions.{first_token, placed}
use Rattle.rule_definitions.specs.Judgements.{Judgement, made_of_three}
use Rattle.rule_definitions.specs.Names.{Scope}
use Rattle.rule_definitions.specs.Parts.{Placed, binary}
use Rattle.rule_definitions.specs.Specifiers.{Written}

-- an operator with its operands, as an operand that begins at this place
abbrev pub operator_at : Judgement t.Expression → Pos → Placed
operator_at j p = record { judged = j; at = p; is_procedure = false }

-- further operators behind an operator with its operands
abbrev pub chain_judged : Scope → Judgement t.Expression → Pos → List Link → Judgement t.Expression
chain_judged s j p [] = j
chain_judged s j p (k ∷ ks) = chain_judged s (binary k.operator (operator_at j p) (placed s (tree.expression k.operand))) p ks

-- a triplet of judged parts, at its first token
abbrev pub triplet_with : Judgement t.OptionalExpression → Judgement t.OptionalExpression → Judgement t.OptionalExpression → Pos → Actual
triplet_with a b c p = record { keyword = None; at = p; part = triplet (made_of_three t.triplet a b c) }

abbrev pub argument_with : Option Name → Placed → Actual
argument_with k e = record { keyword = k; at = first_token k e.at; part = expression e }

abbrev pub argument_judged : Scope → Argument → Actual
argument_judged s a = argument_with a.keyword (placed s (tree.expression a.value))

abbrev pub specifier_with : Name → Placed → Written
specifier_with n e = record { name = n; value = e }

abbrev pub specifier_judged : Scope → Specifier → Written
specifier_judged s x = specifier_with x.name (placed s (tree.expression x.value))
