-- Subscripts that are single elements, as expressions.
use Rattle.std.proofs.Common.{◌≡◌, refl, ap, sym, ◌∙◌}
use Rattle.std.specs.Prelude.{List, [], ◌∷◌, ◌++◌, map}
use Rattle.std.specs.List.{flat_map}
use Rattle.std.proofs.lemmas.Grind.{flat_map-append}
use Rattle.std.proofs.lemmas.List.{append-nil, map-append}
use Rattle.std.proofs.lemmas.List.Concat.{flat_map-cons}
use Rattle.checked_tree.specs.Expressions as t
use Rattle.checked_tree.specs.ExpressionViews.{expression, subscript, subscripts}
use Rattle.checked_tree.specs.declared.expr.Subscript.{Subscript}
use Rattle.checked_tree.specs.declared.expr.TypedExpr.{TypedExpr}
use Rattle.rule_definitions.specs.Parts.{elements_of}
use Rattle.part_rules.proofs.Lists.{expression_list, expressions_seen}
use Rattle.specifier_rules.specs.Variables.{single, single_seen}

element_in_front : (s : t.Subscript) (rest : t.Subscripts) (es : List t.Expression) → elements_of rest ≡ expression_list es → elements_of (t.more_subscripts s rest) ≡ expression_list (single s ++ es)
element_in_front (t.element e) rest es h = ap (t.more_expressions e) h
element_in_front (t.triplet a b c) rest es h = h

pub elements_listed : (xs : List Subscript) → elements_of (subscripts xs) ≡ expression_list (flat_map single_seen xs)
elements_listed [] = refl
elements_listed (x ∷ xs) =
    element_in_front (subscript x) (subscripts xs) (flat_map single_seen xs) (elements_listed xs)
    ∙ ap expression_list (sym (flat_map-cons single_seen x xs))

pub ruleset elements_laws = (expressions_seen, elements_listed)

pub listed_behind : (xs : List Subscript) (x : Subscript) → flat_map single_seen (xs ++ x ∷ []) ≡ flat_map single_seen xs ++ single (subscript x)
listed_behind xs x = flat_map-append single_seen xs (x ∷ []) ∙ ap (λ es. flat_map single_seen xs ++ es) (flat_map-cons single_seen x [] ∙ append-nil (single (subscript x)))

pub one_more : (es : List TypedExpr) (e : TypedExpr) → map expression (es ++ e ∷ []) ≡ map expression es ++ expression e ∷ []
one_more es e = map-append expression es (e ∷ [])

pub none_more : (es : List t.Expression) → es ++ [] ≡ es
none_more es = append-nil es
