-- The names in a chain of operators.
use Rattle.std.proofs.Common.{◌≡◌, List, [], ◌∷◌, ◌++◌, refl, sym, ◌∙◌, append_assoc}
use Rattle.std.proofs.lemmas.List.{append-nil}
use Rattle.caf_base.specs.declared.place.Pos.{Pos}
use Rattle.fortran_tree.specs.Expressions as s
use Rattle.fortran_tree.specs.Expressions.{Expression}
use Rattle.fortran_tree.specs.ExpressionViews.{expression, chain, expression_forms}
use Rattle.fortran_tree.specs.ActionViews.{action_forms}
use Rattle.fortran_tree.specs.declared.expr.Link.{Link}
use Rattle.unit_references.specs.References as names
use Rattle.unit_references.specs.Written.{link_names}

pub chain_names : (ks : List Link) (at : Pos) (a : Expression) → names.expression (chain ks at a) ≡ names.expression a ++ link_names ks
chain_names [] at a = sym (append-nil (names.expression a))
chain_names (k ∷ ks) at a = chain_names ks at (s.binary k.operator a (expression k.operand) at) ∙ append_assoc (names.expression a) (names.expression (expression k.operand)) (link_names ks)

pub ruleset expression_laws = (expression_forms, chain_names, append-nil)

pub ruleset action_laws = (action_forms, append-nil)
