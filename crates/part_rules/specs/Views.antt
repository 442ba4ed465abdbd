-- What the checker holds of parts of the source, as the rules see it.
use Rattle.std.specs.Prelude.{List, [], ◌∷◌, ◌++◌}
use Rattle.std.specs.Option.{option_map}
use Rattle.std.specs.declared.alloc.Global.{Global}
use Rattle.std.specs.declared.vec.Vec.{Vec}
use Rattle.checked_tree.specs.Expressions as t
use Rattle.checked_tree.specs.ExpressionViews.{expression, expressions}
use Rattle.checked_tree.specs.declared.expr.TypedExpr.{TypedExpr}
use Rattle.rule_definitions.specs.Judgements.{Judgement}
use Rattle.rule_definitions.specs.Parts.{Placed}
use Rattle.part_rules.specs.declared.judged.Judged.{Judged}
use Rattle.part_rules.specs.declared.part.Part.{Part}

-- what was found of a part, where a view says what its meaning stands for
abbrev pub judgement : {A B : Type 0} → (A → B) → Judged A → Judgement B
judgement see j = record { breaks = j.breaks.items; meaning = option_map see j.meaning }

abbrev pub placed : Part → Placed
placed p = record { judged = judgement expression p.judged; at = p.at; is_procedure = p.is_procedure }

abbrev pub list_of : {T : Type 0} → Vec T Global → List T
list_of v = v.items

abbrev pub one_more : {T : Type 0} → List T → T → List T
one_more xs x = xs ++ x ∷ []

-- the expressions of a vector
abbrev pub expressions_of : Vec TypedExpr Global → t.Expressions
expressions_of v = expressions v.items
