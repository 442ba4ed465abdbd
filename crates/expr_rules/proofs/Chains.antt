-- Operators from the left: what stands before each is an operator with its operands.
use Rattle.std.proofs.Common.{◌≡◌, List, [], ◌∷◌, false, refl}
use Rattle.caf_base.specs.declared.place.Pos.{Pos}
use Rattle.fortran_tree.specs.Expressions as f
use Rattle.fortran_tree.specs.ExpressionViews.{expression, chain, expression_forms}
use Rattle.fortran_tree.specs.declared.expr.Link.{Link}
use Rattle.fortran_tree.specs.declared.expr.Operator.{Operator}
use Rattle.rule_definitions.specs.Expressions.{names_procedure}
use Rattle.rule_definitions.specs.Names.{Scope}
use Rattle.rule_definitions.specs.Parts.{place_of}

pub place_of_chain : (ks : List Link) (p : Pos) (o : Operator) (a b : f.Expression) → place_of (chain ks p (f.binary o a b p)) ≡ p
place_of_chain [] p o a b = refl
place_of_chain (k ∷ ks) p o a b = place_of_chain ks p k.operator (f.binary o a b p) (expression k.operand)

pub chain_is_no_name : (s : Scope) (ks : List Link) (p : Pos) (o : Operator) (a b : f.Expression) → names_procedure s (chain ks p (f.binary o a b p)) ≡ false
chain_is_no_name s [] p o a b = refl
chain_is_no_name s (k ∷ ks) p o a b = chain_is_no_name s ks p k.operator (f.binary o a b p) (expression k.operand)

pub ruleset place_laws = (expression_forms, place_of_chain)

pub ruleset name_laws = (expression_forms, chain_is_no_name)
