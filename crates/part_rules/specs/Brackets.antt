-- What stands between brackets behind a name, as the rules see it.
use Rattle.std.specs.Prelude.{List}
use Rattle.std.specs.declared.alloc.Global.{Global}
use Rattle.std.specs.declared.vec.Vec.{Vec}
use Rattle.checked_tree.specs.Expressions as t
use Rattle.checked_tree.specs.ExpressionViews.{subscript, subscripts}
use Rattle.checked_tree.specs.declared.expr.Subscript.{Subscript}
use Rattle.rule_definitions.specs.Arguments as a
use Rattle.part_rules.specs.Views.{judgement, placed}
use Rattle.part_rules.specs.declared.bracket.Item.{Item}
use Rattle.part_rules.specs.declared.bracket.Item.TheVariants as items
use Rattle.part_rules.specs.declared.bracket.Actual.{Actual}

abbrev pub item_seen : Item → a.Part
item_seen (items.Value p) = a.expression (placed p)
item_seen (items.Triplet j) = a.triplet (judgement subscript j)

abbrev pub actual_seen : Actual → a.Actual
actual_seen x = record { keyword = x.keyword; at = x.at; part = item_seen x.item }

-- the subscripts of a vector
abbrev pub subscripts_in : Vec Subscript Global → t.Subscripts
subscripts_in v = subscripts v.items
