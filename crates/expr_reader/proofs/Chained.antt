-- Expressions in memory with an operator more.
use Rattle.std.proofs.Common.{◌≡◌, List, [], ◌∷◌, refl}
use Rattle.caf_base.specs.declared.place.Pos.{Pos}
use Rattle.fortran_tree.specs.ExpressionViews.{chain, chain_pushed, designator_is, expression, expression_forms, image_selector_is}
use Rattle.fortran_tree.specs.Expressions.{Expression, binary}
use Rattle.fortran_tree.specs.declared.expr.Designator.{out-roll-Designator}
use Rattle.fortran_tree.specs.declared.expr.Link.{Link}
use Rattle.fortran_tree.specs.declared.expr.Operator.{Operator}
use Rattle.fortran_tree.specs.declared.expr.Selector.{out-roll-Selector}
use Rattle.expr_reader.specs.Reading.{place_of}

-- operators from the left begin where the first of them does
pub chain_place : (ks : List Link) (o : Operator) (a b : Expression) (at : Pos) → place_of (chain ks at (binary o a b at)) ≡ at
chain_place [] o a b at = refl
chain_place (k ∷ ks) o a b at = chain_place ks k.operator (binary o a b at) (expression k.operand) at

pub ruleset tree_laws = (expression_forms, chain_place, chain_pushed)

-- a designator and a selector that are made of their parts
pub ruleset part_laws = (expression_forms, designator_is, image_selector_is, out-roll-Designator, out-roll-Selector)
