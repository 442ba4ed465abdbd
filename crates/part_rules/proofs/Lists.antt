-- Lists of parts by their items.
use Rattle.std.proofs.Common.{◌≡◌, refl, ap, sym, ◌∙◌}
use Rattle.std.specs.Prelude.{List, [], ◌∷◌, ◌++◌, Option, map}
use Rattle.std.specs.Option.{option_map}
use Rattle.checked_tree.specs.Expressions as t
use Rattle.checked_tree.specs.ExpressionViews.{expression, expressions}
use Rattle.checked_tree.specs.declared.data.DataType.{DataType}
use Rattle.checked_tree.specs.declared.expr.TypedExpr.{TypedExpr}
use Rattle.rule_definitions.specs.Judgements.{all_made, both}
use Rattle.rule_definitions.specs.Parts.{Placed, items, plain, type_behind}
use Rattle.part_rules.specs.Items.{constructor_item, constructor_items, type_after}
use Rattle.part_rules.proofs.Gathering.{folded, folded_both}

-- expressions

abbrev pub expression_list : List t.Expression → t.Expressions
expression_list xs = folded t.no_expressions t.more_expressions xs

pub expressions_seen : (xs : List TypedExpr) → expressions xs ≡ expression_list (map expression xs)
expressions_seen [] = refl
expressions_seen (x ∷ xs) = ap (t.more_expressions (expression x)) (expressions_seen xs)

-- constructors

pub items_breaks : (o : Option DataType) (es : List Placed) → (items o es).breaks ≡ (all_made (constructor_items o es)).breaks
items_breaks o [] = refl
items_breaks o (e ∷ es) = ap (λ bs. (constructor_item o e).breaks ++ bs) (items_breaks (type_behind o (plain e).meaning) es)

pub items_meaning : (o : Option DataType) (es : List Placed) → (items o es).meaning ≡ option_map expression_list (all_made (constructor_items o es)).meaning
items_meaning o [] = refl
items_meaning o (e ∷ es) =
    ap (both t.more_expressions (constructor_item o e).meaning) (items_meaning (type_behind o (plain e).meaning) es)
    ∙ sym (folded_both t.no_expressions t.more_expressions (constructor_item o e).meaning (all_made (constructor_items (type_behind o (plain e).meaning) es)).meaning)

pub items_behind : (o : Option DataType) (es : List Placed) (e : Placed) → constructor_items o (es ++ e ∷ []) ≡ constructor_items o es ++ constructor_item (type_after o es) e ∷ []
items_behind o [] e = refl
items_behind o (x ∷ es) e = ap (λ js. constructor_item o x ∷ js) (items_behind (type_behind o (plain x).meaning) es e)

pub type_behind_all : (o : Option DataType) (es : List Placed) (e : Placed) → type_after o (es ++ e ∷ []) ≡ type_behind (type_after o es) (plain e).meaning
type_behind_all o [] e = refl
type_behind_all o (x ∷ es) e = type_behind_all (type_behind o (plain x).meaning) es e
