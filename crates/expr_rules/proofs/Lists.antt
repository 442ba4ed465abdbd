-- Lists of parts by their items.
use Rattle.std.proofs.Common.{◌≡◌, refl, ap, sym, ◌∙◌}
use Rattle.std.specs.Prelude.{List, [], ◌∷◌, ◌++◌, Option, Some, None, map}
use Rattle.std.specs.Option.{option_map}
use Rattle.std.specs.declared.alloc.Global.{Global}
use Rattle.std.specs.declared.vec.Vec.{Vec}
use Rattle.checked_tree.specs.Expressions as t
use Rattle.checked_tree.specs.ExpressionViews.{expression, subscript, subscripts}
use Rattle.checked_tree.specs.declared.expr.Subscript.{Subscript}
use Rattle.checked_tree.specs.declared.expr.TypedExpr.{TypedExpr}
use Rattle.rule_definitions.specs.Arguments.{Actual}
use Rattle.rule_definitions.specs.Expressions.{cosubscripts, subscript_of, subscripts_of}
use Rattle.rule_definitions.specs.Judgements.{all_made, both}
use Rattle.rule_definitions.specs.Parts.{Placed, integer}
use Rattle.part_rules.specs.Brackets.{subscripts_in}
use Rattle.part_rules.specs.Views.{expressions_of, list_of}
use Rattle.part_rules.proofs.Gathering.{folded, folded_both}
use Rattle.part_rules.proofs.Lists.{expression_list, expressions_seen}

-- subscripts

abbrev pub subscript_list : List t.Subscript → t.Subscripts
subscript_list xs = folded t.no_subscripts t.more_subscripts xs

pub subscripts_seen : (xs : List Subscript) → subscripts xs ≡ subscript_list (map subscript xs)
subscripts_seen [] = refl
subscripts_seen (x ∷ xs) = ap (t.more_subscripts (subscript x)) (subscripts_seen xs)

pub subscripts_whole : (o : Option (Vec Subscript Global)) → option_map subscripts_in o ≡ option_map subscript_list (option_map (map subscript) (option_map list_of o))
subscripts_whole None = refl
subscripts_whole (Some v) = ap Some (subscripts_seen v.items)

pub subscripts_breaks : (xs : List Actual) → (subscripts_of xs).breaks ≡ (all_made (map subscript_of xs)).breaks
subscripts_breaks [] = refl
subscripts_breaks (x ∷ xs) = ap (λ bs. (subscript_of x).breaks ++ bs) (subscripts_breaks xs)

pub subscripts_meaning : (xs : List Actual) → (subscripts_of xs).meaning ≡ option_map subscript_list (all_made (map subscript_of xs)).meaning
subscripts_meaning [] = refl
subscripts_meaning (x ∷ xs) =
    ap (both t.more_subscripts (subscript_of x).meaning) (subscripts_meaning xs)
    ∙ sym (folded_both t.no_subscripts t.more_subscripts (subscript_of x).meaning (all_made (map subscript_of xs)).meaning)

-- cosubscripts

pub expressions_whole : (o : Option (Vec TypedExpr Global)) → option_map expressions_of o ≡ option_map expression_list (option_map (map expression) (option_map list_of o))
expressions_whole None = refl
expressions_whole (Some v) = ap Some (expressions_seen v.items)

pub cosubscripts_breaks : (es : List Placed) → (cosubscripts es).breaks ≡ (all_made (map (integer 31) es)).breaks
cosubscripts_breaks [] = refl
cosubscripts_breaks (e ∷ es) = ap (λ bs. (integer 31 e).breaks ++ bs) (cosubscripts_breaks es)

pub cosubscripts_meaning : (es : List Placed) → (cosubscripts es).meaning ≡ option_map expression_list (all_made (map (integer 31) es)).meaning
cosubscripts_meaning [] = refl
cosubscripts_meaning (e ∷ es) =
    ap (both t.more_expressions (integer 31 e).meaning) (cosubscripts_meaning es)
    ∙ sym (folded_both t.no_expressions t.more_expressions (integer 31 e).meaning (all_made (map (integer 31) es)).meaning)
