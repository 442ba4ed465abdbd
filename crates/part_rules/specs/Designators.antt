-- Designators by the ranks of their objects.
use Rattle.std.specs.Prelude.{ℕ, List, [], ◌++◌, Option, cond}
use Rattle.caf_base.specs.declared.place.Pos.{Pos}
use Rattle.rule_definitions.specs.declared.broken.Broken.{Broken}
use Rattle.rule_definitions.specs.Expressions.{subscript_breaks, selection_breaks}
use Rattle.rule_definitions.specs.Judgements.{is_nothing}

-- what breaks in the counts of brackets in which these rules are broken
abbrev pub count_breaks : List Broken → ℕ → ℕ → ℕ → Option ℕ → Pos → List Broken
count_breaks bs rank corank k m p = cond (is_nothing bs) (subscript_breaks rank k p ++ selection_breaks rank corank k m p) []
