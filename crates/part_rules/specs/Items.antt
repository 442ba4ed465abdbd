-- Lists of parts, item by item.
use Rattle.std.specs.Prelude.{List, [], ◌∷◌, Option}
use Rattle.checked_tree.specs.Expressions as t
use Rattle.checked_tree.specs.declared.data.DataType.{DataType}
use Rattle.rule_definitions.specs.Judgements.{Judgement, under}
use Rattle.rule_definitions.specs.Parts.{Placed, plain, type_of, item_breaks, type_behind}

-- an item of a constructor behind items of this type
abbrev pub constructor_item : Option DataType → Placed → Judgement t.Expression
constructor_item o e = under (plain e) (λ x. item_breaks o (type_of x) e.at)

abbrev pub constructor_items : Option DataType → List Placed → List (Judgement t.Expression)
constructor_items o [] = []
constructor_items o (e ∷ rest) = constructor_item o e ∷ constructor_items (type_behind o (plain e).meaning) rest

-- the type that items have behind these
abbrev pub type_after : Option DataType → List Placed → Option DataType
type_after o [] = o
type_after o (e ∷ rest) = type_after (type_behind o (plain e).meaning) rest
