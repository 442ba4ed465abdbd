-- What breaks around brackets.
use Rattle.std.specs.Prelude.{ℕ, List, [], ◌++◌, cond}
use Rattle.caf_base.specs.declared.place.Pos.{Pos}
use Rattle.rule_definitions.specs.declared.broken.Broken.{Broken}
use Rattle.rule_definitions.specs.Judgements.{breaks, is_nothing}

-- what breaks in a form that breaks this rule, around parts of which these are broken
abbrev pub refused_breaks : List Broken → ℕ → Pos → List Broken
refused_breaks bs r p = bs ++ cond (is_nothing bs) (breaks r p) []
